use Rattle.std.proofs.Common.{subst, sym}
use Rattle.inference.specs.PropertyClosures.{IsClosureOf}
use Rattle.saturate.proofs.Summaries.{closure_kept}
use Rattle.saturate.proofs.summary.Summary.closure_with.Goals as goal

pub returns-then-leave_closure : goal.returns-then-leave_closure
returns-then-leave_closure c =
    subst (IsClosureOf c.args.forms.now) (sym c.in_ok-clone.ensures.cases)
    (closure_kept c.args.forms.now c.args.from c.args.self.now.closure.value (rw c.as_ref-closure.ensures at (c.leave_closure.ensures.0 c.if-leave_closure.true)) c.requires.closure)
