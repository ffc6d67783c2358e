use Rattle.std.proofs.Common.{subst, sym}
use Rattle.inference.specs.Sameness.{AreGroupsOf}
use Rattle.saturate.proofs.Summaries.{groups_kept}
use Rattle.saturate.proofs.summary.Summary.groups_with.Goals as goal

pub returns-then-leave_groups : goal.returns-then-leave_groups
returns-then-leave_groups c =
    subst (AreGroupsOf c.args.forms.now) (sym c.in_ok-clone.ensures.cases)
    (groups_kept c.args.forms.now c.args.from c.args.self.now.groups.value (c.leave_groups.ensures.0 c.if-leave_groups.true) c.requires.groups)
