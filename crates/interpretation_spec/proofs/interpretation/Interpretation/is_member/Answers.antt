use Rattle.std.proofs.Common.{List, [], Bool, ap}
use Rattle.number_sets.specs.Members.{has}
use Rattle.number_sets.proofs.Absent.{none_at}
use Rattle.interpretation_spec.proofs.interpretation.Interpretation.is_member.Goals as goal

pub returns-in-None : goal.returns-in-None
returns-in-None c = ap (λ (row : List Bool). has row c.args.element) (none_at c.args.self.now.classes c.args.class.0 [] c.in-None.ensures)
