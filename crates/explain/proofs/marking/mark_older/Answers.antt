use Rattle.std.proofs.Common.{◌≡◌, ◌-◌, refl, ap, sym, ◌∙◌, arith}
use Rattle.number_sets.specs.Members.{has}
use Rattle.explain.proofs.Below.{handed_on_more, handed_on_past}
use Rattle.explain.proofs.MarkBits.{is_marked, not_marked}
use Rattle.explain.proofs.marking.mark_older.Goals as goal

pub loop-end-preserved-then-is_blank : goal.loop-end-preserved-then-is_blank
loop-end-preserved-then-is_blank c =
    handed_on_past c.args.closed.now.saturation c.args.marks.now c.loop-end.marks c.loop-end.end (c.loop-end.end - 64) c.loop-end.invariant
    (λ n low high m. not_marked c.loop-end.marks n (c.if-is_blank.ensures refl n (omega (arith, low, high, c.if-end-eq0.true, c.loop-end-test.true))) m)

pub loop-end-preserved-then-contains : goal.loop-end-preserved-then-contains
loop-end-preserved-then-contains c =
    handed_on_more c.args.closed.now.saturation c.args.marks.now c.loop-end.marks c.mark_below.new.marks c.loop-end.end (c.loop-end.end - 1)
    (omega (arith, c.loop-end-test.true)) c.loop-end.invariant
    (is_marked c.loop-end.marks (c.loop-end.end - 1) (sym c.contains.ensures ∙ c.if-contains.true))
    c.mark_below.ensures.long c.mark_below.ensures.exact c.mark_below.ensures.older

pub loop-end-preserved : goal.loop-end-preserved
loop-end-preserved c =
    handed_on_past c.args.closed.now.saturation c.args.marks.now c.loop-end.marks c.loop-end.end (c.loop-end.end - 1) c.loop-end.invariant
    (λ n low high m. not_marked c.loop-end.marks n ((let e : n ≡ c.loop-end.end - 1 = omega (arith, low, high) in ap (has c.loop-end.marks) e) ∙ sym c.contains.ensures ∙ c.if-contains.false) m)
