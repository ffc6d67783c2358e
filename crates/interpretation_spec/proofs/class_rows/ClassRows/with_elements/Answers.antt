use Rattle.std.proofs.Common.{◌≡◌, ◌-◌, ◌<◌, ℕ, inl, inr, Bool, List, [], ◌∷◌, ◌++◌, get_or, length, sym, ap, ◌∙◌, arith}
use Rattle.std.specs.List.{filter, range_with_len}
use Rattle.std.proofs.lemmas.Bool.{cases_lt}
use Rattle.std.proofs.lemmas.List.{get_or_default, length-map}
use Rattle.interpretation_spec.specs.Members.{has_some}
use Rattle.interpretation_spec.proofs.ClassRows.{has_none, has_one, none_found, one_found}
use Rattle.interpretation_spec.proofs.class_rows.ClassRows.with_elements.Goals as goal
use Rattle.interpretation_spec.proofs.class_rows.ClassRows.with_elements.Goals.{then-index-ne0+in_ok-push, else-index-ne0}

pub loop-class-preserved : goal.loop-class-preserved
loop-class-preserved c =
    let rows : List (List Bool) = c.self.inside.rows.items in
    let places : List ℕ = c.self.inside.places.items in
    let view : List (List Bool) = c.args.self.now in
    let k : ℕ = c.loop-class.class in
    let has : ℕ → Bool = λ n. has_some (get_or view n []) in
    let within : k < length places = omega arith in
    let some : 0 < k = c.loop-class.invariant.0 in
    let at : c.index.result.now ≡ get_or places k 0 = c.index.ensures ∙ get_or_default places k c.index.result.now 0 within in
    let seen = ap (λ (all : List (List Bool)). has_some (get_or all k [])) c.self.view_is in
    let long = ap length c.self.view_is in (
      omega arith,
      λ e. absurd (omega (arith, e, within, long, length-map places (λ (p : ℕ). get_or rows p []))),
      elim c.if-index-ne0.branch [
        | then-index-ne0+in_ok-push w ↦ rw w.classes-is (w.in_ok-push.ensures.items ∙ ap (λ (found : List ℕ). found ++ k ∷ []) c.loop-class.invariant.2
            ∙ sym (one_found has k some (sym seen ∙ has_one rows places c.self.invariant k some within (λ zero. absurd (omega (arith, at, zero))))))
        | else-index-ne0 w ↦ rw w.classes-is (c.loop-class.invariant.2 ∙ sym (none_found has k some (sym seen ∙ has_none rows places c.self.invariant k within (omega (arith, at)))))
      ],
    )

pub returns : goal.returns
returns c =
    let rows : List (List Bool) = c.self.inside.rows.items in
    let places : List ℕ = c.self.inside.places.items in
    let long = ap length c.self.view_is in
    let placed = length-map places (λ (p : ℕ). get_or rows p []) in
    let counted : c.loop-class.class - 1 ≡ length c.args.self.now - 1 = elim (cases_lt 0 (length c.args.self.now)) [
      | inl some ↦ let end = c.loop-class.auto.class-end (omega (arith, some, long, placed)) in omega (arith, end, long, placed)
      | inr none ↦ let end = c.loop-class.invariant.1 (omega (arith, none)) in omega (arith, end, none)
    ] in
    c.loop-class.invariant.2 ∙ ap (λ (n : ℕ). filter (λ k. has_some (get_or c.args.self.now k [])) (range_with_len 1 n)) counted
