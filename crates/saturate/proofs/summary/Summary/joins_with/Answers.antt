use Rattle.std.proofs.Common.{subst, sym}
use Rattle.inference.specs.Joins.{AreJoins}
use Rattle.inference.specs.Joins.{AreFillers}
use Rattle.inference.specs.declared.joins.Joins.{Joins}
use Rattle.saturate.proofs.Summaries.{fillers_kept, joins_kept}
use Rattle.saturate.proofs.summary.Summary.joins_with.Goals as goal

pub returns-then-leave_joins : goal.returns-then-leave_joins
returns-then-leave_joins c =
    subst (AreJoins c.args.problem.now.forms) (sym c.in_ok-clone.ensures.cases)
    (joins_kept c.args.problem.now.forms c.args.from c.args.self.now.closure.value c.args.self.now.joins.value
    (rw (c.as_ref-before.ensures, c.as_ref.ensures, c.forms.ensures) at (c.leave_joins.ensures.0 c.if-leave_joins.true))
    c.requires.before.closure
    (rw c.as_ref-before.ensures at c.well_formed-2.ensures)
    c.requires.before.joins)

pub with_chains-requires-clause-fillers : goal.with_chains-requires-clause-fillers
with_chains-requires-clause-fillers c =
    let forms = c.args.problem.now.forms in
    subst (λ (joins : Joins). AreFillers forms joins.fillers.value) (sym c.as_ref-then-leave_fillers.ensures)
    (fillers_kept forms c.args.from c.args.self.now.joins.value.fillers.value
    (rw c.forms-2.ensures at (c.leave_fillers.ensures.0 c.if-leave_fillers.true))
    c.requires.before.joins.fillers)
