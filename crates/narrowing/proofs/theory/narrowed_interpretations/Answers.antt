use Rattle.narrowing.proofs.Folding.{is_folded}
use Rattle.narrowing.proofs.Keeping.{is_listed, is_narrow}
use Rattle.narrowing.proofs.theory.narrowed_interpretations.Goals as goal

pub returns : goal.returns
returns c = record { folded = is_folded; listed = is_listed; narrow = is_narrow }
