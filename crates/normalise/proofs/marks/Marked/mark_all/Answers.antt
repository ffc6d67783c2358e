use Rattle.std.proofs.Common.{◌≡◌, arith}
use Rattle.std.proofs.lemmas.List.{length-map}
use Rattle.axioms.specs.View.{expr_numbers}
use Rattle.lemmas.proofs.Mapped.{slice_get_map}
use Rattle.std.proofs.lemmas.Option.{slice_get-get_or}
use Rattle.normalise.proofs.Marking.{each_more, each_member}
use Rattle.normalise.proofs.marks.Marked.mark_all.Goals as goal

pub loop-id-preserved : goal.loop-id-preserved
loop-id-preserved c = each_more (expr_numbers c.args.ids.now) (λ x e. e ≡ x) c.loop-id.id-index _ (slice_get_map (λ e. e.0) c.args.ids.now c.loop-id.id-index _ (slice_get-get_or c.args.ids.now c.loop-id.id-index (record { 0 = 0 }) c.loop-id-test.true)) c.loop-id.invariant c.in_ok-mark.ensures

pub returns : goal.returns
returns c = each_member (expr_numbers c.args.ids.now) c.loop-id.id-index (omega (arith, length-map c.args.ids.now (λ e. e.0))) c.loop-id.invariant
