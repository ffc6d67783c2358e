use Rattle.interpretation_spec.proofs.Agreement.{hold_same, satisfy_same}
use Rattle.interpretation_spec.proofs.Membership.{is_in_decides}
use Rattle.interpretation_spec.proofs.theory.extensions_and_names.Goals as goal

pub returns : goal.returns
returns c = record { decided = is_in_decides; hold = hold_same; satisfy = satisfy_same }
