-- Which file holds which text.
use Rattle.std.specs.Prelude.{◌≡◌, ℕ, zero, suc, List, Bool}
use Rattle.command_line.specs.declared.tasks.Paths.{Paths}
use Rattle.session.specs.WrittenTexts.{Texts}
use Rattle.system_files.specs.Contents.{Content}
use Rattle.receiving.specs.HeldTexts.{Holds, Stays, HoldsPrefix}

-- the three texts have three paths
pub record AreApart (paths : Paths) : Type 0 where
  pub taxonomy_instances : ¬ (paths.taxonomy.now ≡ paths.instances.now)
  pub taxonomy_certificate : ¬ (paths.taxonomy.now ≡ paths.certificate.now)
  pub instances_certificate : ¬ (paths.instances.now ≡ paths.certificate.now)

-- each path holds its text
pub record HoldTexts (known : Bool) (paths : Paths) (texts : Texts) (new : Content) : Type 0 where
  pub taxonomy : Holds known (new paths.taxonomy.now) texts.taxonomy
  pub instances : Holds known (new paths.instances.now) texts.instances
  pub certificate : Holds known (new paths.certificate.now) texts.certificate

-- where the sink of that number failed, the paths before it hold their texts, its own a prefix of its text or what it
-- held, and those behind it what they held
abbrev pub HoldTextsUntil : ℕ → Bool → Paths → Texts → (old new : Content) → Type 0
HoldTextsUntil (suc zero) known paths texts old new =
    HoldsPrefix known (old paths.taxonomy.now) (new paths.taxonomy.now) texts.taxonomy × Stays known (old paths.instances.now) (new paths.instances.now)
    × Stays known (old paths.certificate.now) (new paths.certificate.now)
HoldTextsUntil (suc (suc zero)) known paths texts old new =
    Holds known (new paths.taxonomy.now) texts.taxonomy × HoldsPrefix known (old paths.instances.now) (new paths.instances.now) texts.instances
    × Stays known (old paths.certificate.now) (new paths.certificate.now)
HoldTextsUntil (suc (suc (suc zero))) known paths texts old new =
    Holds known (new paths.taxonomy.now) texts.taxonomy × Holds known (new paths.instances.now) texts.instances
    × HoldsPrefix known (old paths.certificate.now) (new paths.certificate.now) texts.certificate
HoldTextsUntil n known paths texts old new = ⊥

-- files at other paths than the three are as they were
abbrev pub AreOthersKept : Paths → (content content' : Content) → Type 0
AreOthersKept paths content content' =
    (path : List ℕ) → ¬ (path ≡ paths.taxonomy.now) → ¬ (path ≡ paths.instances.now) → ¬ (path ≡ paths.certificate.now) → content' path ≡ content path
