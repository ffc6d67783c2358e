use Rattle.std.proofs.Common.{◌-◌, ◌<◌, ◌≤◌, ℕ, suc, ◌↔◌, ◌⊎◌, List, Contains, ap, sym, subst, ◌∙◌, length, Some, false, arith}
use Rattle.std.proofs.lemmas.Option.{slice_get-get_or}
use Rattle.std.specs.Prelude.{slice_index_or}
use Rattle.certificate.specs.View.{line_of, lines_of}
use Rattle.lemmas.proofs.Mapped.{slice_get_map}
use Rattle.explain.specs.Marks.{IsMarked}
use Rattle.explain.proofs.HandedOn.{handed_on_start, handed_on_more, handed_on_not, AreHandedOn, handed_on_all, premises_within}
use Rattle.explain.proofs.resting.mark_premises.Goals as goal

pub loop-place-init : goal.loop-place-init
loop-place-init c = handed_on_start (lines_of c.args.lines.now) c.args.marks.now c.len-place.result (omega (arith, c.len-place.ensures))

pub mark_each-requires : goal.mark_each-requires
mark_each-requires c =
    let line = slice_index_or c.args.lines.now (c.loop-place.place - 1) c.index-lines-place.result in
    subst (λ (ns : List ℕ). (k d : ℕ) → k < length ns → (0 < slice_index_or ns k d) × (slice_index_or ns k d ≤ length c.loop-place.marks)) (sym c.deref.ensures.value)
    (premises_within (lines_of c.args.lines.now) (line_of line) (c.loop-place.place - 1) (length c.loop-place.marks) c.requires.before
    (slice_get_map line_of c.args.lines.now (c.loop-place.place - 1) line (slice_get-get_or c.args.lines.now (c.loop-place.place - 1) c.index-lines-place.result (omega (arith, c.requires.within, c.len-place.ensures, c.loop-place.auto.place, c.loop-place-test.true))))
    (omega (arith, c.loop-place.invariant.long, c.len-place.ensures, c.loop-place.auto.place, c.loop-place-test.true)))

pub loop-place-preserved-then-contains : goal.loop-place-preserved-then-contains
loop-place-preserved-then-contains c =
    let line = slice_index_or c.args.lines.now (c.loop-place.place - 1) c.index-lines-place.result in
    handed_on_more (lines_of c.args.lines.now) c.args.marks.now c.loop-place.marks c.mark_each.new.marks c.loop-place.place (c.loop-place.place - 1) (line_of line)
    (omega (arith, c.loop-place-test.true)) c.requires.before c.loop-place.invariant
    (slice_get-get_or c.loop-place.marks (c.loop-place.place - 1) false (omega (arith, c.loop-place.invariant.long, c.len-place.ensures, c.loop-place.auto.place, c.loop-place-test.true)) ∙ ap Some (sym c.contains.ensures ∙ c.if-contains.true))
    (slice_get_map line_of c.args.lines.now (c.loop-place.place - 1) line (slice_get-get_or c.args.lines.now (c.loop-place.place - 1) c.index-lines-place.result (omega (arith, c.requires.within, c.len-place.ensures, c.loop-place.auto.place, c.loop-place-test.true))))
    c.mark_each.ensures.long
    (subst (λ (ns : List ℕ). (n : ℕ) → IsMarked c.mark_each.new.marks n ↔ (IsMarked c.loop-place.marks n ⊎ Contains ns (suc n))) c.deref.ensures.value c.mark_each.ensures.exact)

pub loop-place-preserved : goal.loop-place-preserved
loop-place-preserved c =
    handed_on_not (lines_of c.args.lines.now) c.args.marks.now c.loop-place.marks c.loop-place.place (c.loop-place.place - 1)
    (omega (arith, c.loop-place-test.true)) c.loop-place.invariant
    (slice_get-get_or c.loop-place.marks (c.loop-place.place - 1) false (omega (arith, c.loop-place.invariant.long, c.len-place.ensures, c.loop-place.auto.place, c.loop-place-test.true)) ∙ ap Some (sym c.contains.ensures ∙ c.if-contains.false))

pub returns-clause-exact : goal.returns-clause-exact
returns-clause-exact c goal first =
    handed_on_all (lines_of c.args.lines.now) goal c.args.marks.now c.loop-place.marks c.requires.before
    (subst (λ k. AreHandedOn (lines_of c.args.lines.now) c.args.marks.now c.loop-place.marks k) (omega (arith, c.loop-place-test.false)) c.loop-place.invariant) first
