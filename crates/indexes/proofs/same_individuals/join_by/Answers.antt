use Rattle.std.proofs.Common.{subst, sym}
use Rattle.normal_forms.specs.declared.forms.Form.{Form}
use Rattle.indexes.specs.Roots.{JoinsBy}
use Rattle.indexes.proofs.Grouping.{joins_by}
use Rattle.indexes.proofs.same_individuals.join_by.Goals as goal

pub returns-in-N10 : goal.returns-in-N10
returns-in-N10 c = subst (λ (form : Form). JoinsBy c.args.table.now c.join.new.table form) (sym c.in-N10.is) (joins_by c.args.table.now c.join.new.table c.in-N10.a c.in-N10.b c.join.ensures)
