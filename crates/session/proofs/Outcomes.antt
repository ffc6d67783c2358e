-- What a sink has taken, by whether writing to it failed, and which sinks fail.
use Rattle.std.proofs.Common.{◌≡◌, ◌≤◌, ℕ, zero, suc, List, true, false, Result, Ok, Err, OnOk, OnErr, is_err, subst, lit≤}
use Rattle.std.specs.Io.KnownBytes.{Appends}
use Rattle.telling.specs.Devices.{Device, Takes, FailsIn}
use Rattle.session.specs.WrittenTexts.{AreWrittenUntil, Sinks, Texts}
use Rattle.device.specs.Device.{AppendsPrefix, HasFailed}

pub takes : {A E : Type 0} (r : Result A E) (old new : Device) (given text : List ℕ) → given ≡ text → is_err r ≡ false → OnOk r (Appends old.0 new.0 given) → OnOk r (new.1 ≡ old.1) → Takes old new text
takes (Ok x) old new given text same is written unfailed = let P : List ℕ → Type 0 = λ t. Takes old new t in subst P same (written, unfailed)
takes (Err e) old new given text same is written unfailed = let bad : true ≡ false = is in absurd (cc)

pub fails : {A E : Type 0} (r : Result A E) (old new : Device) (given text : List ℕ) → given ≡ text → is_err r ≡ true → AppendsPrefix old.0 new.0 given → OnErr r (HasFailed old.1 new.1) → FailsIn old new text
fails (Ok x) old new given text same is begun failed = let bad : false ≡ true = is in absurd (cc)
fails (Err e) old new given text same is begun failed = let P : List ℕ → Type 0 = λ t. FailsIn old new t in subst P same (begun, failed)

-- a sink that is told is one of the three
pub within_three : (n : ℕ) (old new : Sinks) (texts : Texts) → AreWrittenUntil n old new texts → (1 ≤ n) × (n ≤ 3)
within_three zero old new texts written = absurd written
within_three (suc zero) old new texts written = (lit≤ tt, lit≤ tt)
within_three (suc (suc zero)) old new texts written = (lit≤ tt, lit≤ tt)
within_three (suc (suc (suc zero))) old new texts written = (lit≤ tt, lit≤ tt)
within_three (suc (suc (suc (suc n)))) old new texts written = absurd written
