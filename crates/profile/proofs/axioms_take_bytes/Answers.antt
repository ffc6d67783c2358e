use Rattle.profile.proofs.Bounds.{axioms_take_bytes}
use Rattle.profile.proofs.axioms_take_bytes.Goals as goal

pub returns : goal.returns
returns c = axioms_take_bytes
