-- The three texts of a classification, and what sinks have taken of them.
use Rattle.std.specs.Prelude.{◌≡◌, ℕ, zero, suc, List, Result, Ok, Err}
use Rattle.classification.specs.declared.classification.Classification.{Classification}
use Rattle.device.specs.declared.device.Sink.{Ghosts}
use Rattle.telling.specs.Devices.{Device, seen, Takes, FailsIn}

-- what takes the three texts
pub record Sinks : Type 0 where
  pub taxonomy : Device
  pub instances : Device
  pub certificate : Device

-- what the words of their traits tell of the three sinks
abbrev pub all_seen : {T I C : Type 0} → Ghosts T → Ghosts I → Ghosts C → T × I × C → Sinks
all_seen T I C three = record { taxonomy = seen T three.0; instances = seen I three.1; certificate = seen C three.2 }

pub record Texts : Type 0 where
  pub taxonomy : List ℕ
  pub instances : List ℕ
  pub certificate : List ℕ

-- the texts of a classification in memory
abbrev pub texts_of : Classification → Texts
texts_of c = record { taxonomy = c.taxonomy.items; instances = c.instances.items; certificate = c.certificate.items }

-- each sink has taken the whole of its text
abbrev pub AreWritten : (old new : Sinks) → Texts → Type 0
AreWritten old new texts =
    Takes old.taxonomy new.taxonomy texts.taxonomy × Takes old.instances new.instances texts.instances × Takes old.certificate new.certificate texts.certificate

-- the sink of that number failed: those before it have taken the whole of their texts, it a prefix of its text, and
-- those behind it nothing
abbrev pub AreWrittenUntil : ℕ → (old new : Sinks) → Texts → Type 0
AreWrittenUntil (suc zero) old new texts =
    FailsIn old.taxonomy new.taxonomy texts.taxonomy × (new.instances ≡ old.instances) × (new.certificate ≡ old.certificate)
AreWrittenUntil (suc (suc zero)) old new texts =
    Takes old.taxonomy new.taxonomy texts.taxonomy × FailsIn old.instances new.instances texts.instances × (new.certificate ≡ old.certificate)
AreWrittenUntil (suc (suc (suc zero))) old new texts =
    Takes old.taxonomy new.taxonomy texts.taxonomy × Takes old.instances new.instances texts.instances × FailsIn old.certificate new.certificate texts.certificate
AreWrittenUntil n old new texts = ⊥

-- the texts are written: all of them, or until the sink of the number that is told
abbrev pub AreWrittenAsFar : {X : Type 0} → Result X ℕ → (old new : Sinks) → Texts → Type 0
AreWrittenAsFar (Ok x) old new texts = AreWritten old new texts
AreWrittenAsFar (Err n) old new texts = AreWrittenUntil n old new texts

-- the texts of a classification are written to three sinks: all of them, or until the sink of the number that is told
abbrev pub WritesTexts : {T I C X : Type 0} → Ghosts T → Ghosts I → Ghosts C → Classification → (old new : T × I × C) → Result X ℕ → Type 0
WritesTexts T I C made old new answer = AreWrittenAsFar answer (all_seen T I C old) (all_seen T I C new) (texts_of made)

-- each sink is that of the path that it was of
abbrev pub KeepPaths : {T I C : Type 0} → Ghosts T → Ghosts I → Ghosts C → (old new : T × I × C) → Type 0
KeepPaths T I C old new = (T.path new.0 ≡ T.path old.0) × (I.path new.1 ≡ I.path old.1) × (C.path new.2 ≡ C.path old.2)
