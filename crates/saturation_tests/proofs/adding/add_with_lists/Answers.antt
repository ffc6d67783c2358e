use Rattle.std.proofs.Common.{length, ap, ◌∙◌}
use Rattle.std.proofs.Math.Seq.{take-append_seam}
use Rattle.normal_forms.specs.Apart.{joined_lists}
use Rattle.saturation_tests.proofs.adding.add_with_lists.Goals as goal

pub extend-requires-clause-forms : goal.extend-requires-clause-forms
extend-requires-clause-forms g c = rw (c.len-from.ensures ∙ ap length c.normal.ensures) (rw c.in_ok-all.ensures (rw c.normal-2.ensures (take-append_seam c.args.state.now.problem.forms _)))

pub extend-requires-clause-lists : goal.extend-requires-clause-lists
extend-requires-clause-lists g c = (c.args.apart.now, c.in_ok-lists.ensures ∙ ap (λ l. joined_lists l c.args.apart.now) c.apart.ensures)
