-- How many writes had failed.
use Rattle.std.proofs.Common.{◌≡◌, ◌<◌, ℕ, List, inl, inr, arith}
use Rattle.telling.specs.Devices.{Device, FailsIn}
use Rattle.device.specs.Device.{HasFailed}

-- how many writes had failed, before a sink was closed that failed so often and behind that
pub record IsCounted (before behind failures : ℕ) : Type 0 where
  pub unfailed : failures ≡ 0 → behind ≡ before
  pub failed : 0 < failures → HasFailed before behind

more : (old new : ℕ) → old ≡ 0 → HasFailed old new → 0 < new
more old new none (inl rose) = omega (arith, none, rose)
more old new none (inr last) = omega (arith, last)

pub some_failed : (old new : Device) (text : List ℕ) → old.1 ≡ 0 → FailsIn old new text → 0 < new.1
some_failed old new text working fails = more old.1 new.1 working fails.1
