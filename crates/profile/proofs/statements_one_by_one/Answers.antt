use Rattle.axioms.specs.Numbering.{same_expression}
use Rattle.profile.proofs.Appending.{places_join}
use Rattle.profile.proofs.Stating.{no_number_changes, one_more_statement}
use Rattle.profile.proofs.statements_one_by_one.Goals as goal

pub returns : goal.returns
returns c = record { join = λ xs ys. places_join same_expression xs ys; more = one_more_statement; numbers = no_number_changes }
