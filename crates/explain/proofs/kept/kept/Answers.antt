use Rattle.std.proofs.Common.{◌+◌, ◌<◌, ◌≤◌, ◌∷◌, [], ℕ, suc, List, Some, Contains, length, map, slice_get, ap, refl, sym, subst, ◌∙◌, false, arith}
use Rattle.std.proofs.lemmas.List.{map-append, length-map}
use Rattle.std.proofs.lemmas.Option.{slice_get-get_or}
use Rattle.std.specs.Prelude.{slice_index_or}
use Rattle.certificate.specs.declared.line.Line.{Line}
use Rattle.certificate.specs.View.{line_of, lines_of}
use Rattle.lemmas.proofs.Mapped.{slice_get_map}
use Rattle.explain.proofs.Renumbering.{premises_in_range, kept_line, no_line}
use Rattle.explain.proofs.kept.kept.Goals.{then-contains+in_ok-premises+in_ok-push, else-contains}
use Rattle.explain.proofs.kept.kept.Goals as goal

pub renumbered-requires : goal.renumbered-requires
renumbered-requires c =
    let line = c.index-lines-place.result in
    subst (λ (ns : List ℕ). (k d : ℕ) → k < length ns → (0 < slice_index_or ns k d) × (slice_index_or ns k d ≤ length c.deref.result.now)) (sym c.deref-then-contains.ensures.value)
    (premises_in_range (lines_of c.args.lines.now) c.args.marks.now c.loop-place.place (line_of line) (length c.deref.result.now) c.requires.marked
    (slice_get-get_or c.args.marks.now c.loop-place.place false (omega (arith, c.len-place-end.ensures, c.loop-place-test.true)) ∙ ap Some (sym c.contains.ensures ∙ c.if-contains.true))
    (slice_get_map line_of c.args.lines.now c.loop-place.place line (slice_get-get_or c.args.lines.now c.loop-place.place line (omega (arith, c.requires.within, c.len-place-end.ensures, c.loop-place-test.true)) ∙ ap Some (sym c.index-lines-place.is)))
    (ap length c.deref.ensures.value ∙ c.loop-place.invariant.long))

pub loop-place-preserved : goal.loop-place-preserved
loop-place-preserved c =
    elim c.if-contains.branch [
      | then-contains+in_ok-premises+in_ok-push w ↦ (
          let line = w.index-lines-place.result in
          let new : Line = record { conclusion = line.conclusion; rule = line.rule; «axiom» = line.«axiom»; premises = w.in_ok-premises.premises } in
          kept_line (lines_of c.args.lines.now) c.args.marks.now c.loop-place.place (c.loop-place.place + 1) (lines_of c.loop-place.kept.items) (lines_of c.if-contains.kept.items)
          c.loop-place.places.items c.push-in-loop-place.new.self.items c.len.result (line_of line) (line_of new) w.in_ok-premises.premises.items
          c.loop-place.invariant c.requires.marked
          (slice_get-get_or c.args.marks.now c.loop-place.place false (omega (arith, c.len-place-end.ensures, c.loop-place-test.true)) ∙ ap Some (sym c.contains.ensures ∙ w.if-contains.true))
          (slice_get_map line_of c.args.lines.now c.loop-place.place line (slice_get-get_or c.args.lines.now c.loop-place.place line (omega (arith, c.requires.within, c.len-place-end.ensures, c.loop-place-test.true)) ∙ ap Some (sym w.index-lines-place.is)))
          refl
          (λ f h.
          w.in_ok-premises.ensures f (λ n d. ap (λ (ps : List ℕ). slice_get ps n) w.deref.ensures.value ∙ h n (subst (λ (ns : List ℕ). Contains ns (suc n)) w.deref-then-contains.ensures.value d))
          ∙ ap (map f) w.deref-then-contains.ensures.value)
          (ap lines_of (ap (λ v. v.items) w.kept-is ∙ w.in_ok-push.ensures.items) ∙ map-append line_of c.loop-place.kept.items (new ∷ []))
          (omega (arith, c.len.ensures, c.if-contains.kept.ok, length-map c.if-contains.kept.items line_of)) c.in_ok-push-2.ensures.items refl)
      | else-contains w ↦
          no_line (lines_of c.args.lines.now) c.args.marks.now c.loop-place.place (c.loop-place.place + 1) (lines_of c.loop-place.kept.items) (lines_of c.if-contains.kept.items)
          c.loop-place.places.items c.push-in-loop-place.new.self.items c.len.result c.loop-place.invariant (sym c.contains.ensures ∙ w.if-contains.false)
          (ap lines_of (ap (λ v. v.items) w.kept-is)) (omega (arith, c.len.ensures, c.if-contains.kept.ok, length-map c.if-contains.kept.items line_of)) c.in_ok-push-2.ensures.items refl
    ]
