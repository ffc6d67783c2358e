-- The farther one of each two classes, by lists.
use Rattle.std.proofs.Common.{◌≡◌, ◌↔◌, ◌⊎◌, ◌∙◌, ◌<◌, ℕ, List, Bool, false, Some, None, inl, inr, ⊎_elim, length, replicate, sym, ap, arith, ◌≤◌}
use Rattle.std.proofs.lemmas.Option.{none-some, same_Some, slice_get_within}
use Rattle.lemmas.proofs.Members.{Contains-from_slice_get, slice_get-from_Contains}
use Rattle.number_sets.proofs.Members.{nothing_past}
use Rattle.number_sets.specs.Pieces.{list_at}
use Rattle.taxonomy.specs.Relation.{is_listed}
use Rattle.answers.specs.Names.{IsMarked}
use Rattle.answers.specs.Neighbours.{IsFarther, IsFartherFrom, IsFartherOf, farther}
use Rattle.answers.specs.Selections.{IsOnly}
use Rattle.program.specs.declared.question.Side.{Side}
use Rattle.answers.proofs.Grouping.{listed_is}
use Rattle.answers.proofs.MarkedFacts.{AreMarksAfter, At, given_is}

module _ (lists : List (List ℕ)) (marks : List Bool) (side : Side) where
  -- of two
  module _ (low high : ℕ) where
    pub one_farther : IsMarked marks high → is_listed lists high low ≡ false → (r : ℕ) → r ≡ farther side low high → IsOnly (IsFartherOf lists marks side low high) (Some r)
    one_farther mark not r is n = (λ v. ap (λ x. Some x) (is ∙ sym v.2), λ e. (mark, not, sym (same_Some r n e) ∙ is))

    pub none_farther : (IsMarked marks high → is_listed lists high low ≡ false → ⊥) → IsOnly (IsFartherOf lists marks side low high) None
    none_farther never n = (λ v. absurd (never v.0 v.1), λ e. absurd (none-some n e))

  -- of a class and those in its list
  pub far_from : (low : ℕ) (start : List Bool) (k : ℕ) (far : List Bool) → length (list_at lists low) ≤ k → AreMarksAfter (At (list_at lists low) (IsFartherOf lists marks side low)) start k far
      → (n : ℕ) → n < length start → IsMarked far n ↔ (IsMarked start n ⊎ IsFartherFrom lists marks side low n)
  far_from low start k far end are n there =
      let xs = list_at lists low in
      let is = are.exact n there in (
        λ mark. ⊎_elim (λ s. inl s) (λ (j, less, (high, at, f)). inr (high, (listed_is xs high).1 (Contains-from_slice_get xs j high at), f)) (is.0 mark),
        λ h. is.1 (⊎_elim (λ s. inl s) (λ (high, listed, f).
            let (j, at) = slice_get-from_Contains xs high ((listed_is xs high).0 listed) in
            inr (j, omega (arith, slice_get_within xs j high at, end), (high, at, f))) h),
      )

  -- of all
  pub far_ended : (k : ℕ) (far : List Bool) → length lists ≤ k → AreMarksAfter (IsFartherFrom lists marks side) (replicate (length marks) false) k far
      → (n : ℕ) → n < length marks → IsMarked far n ↔ IsFarther lists marks side n
  far_ended k far end are n there =
      let is = given_is (IsFartherFrom lists marks side) (length marks) k far are n there in (
        λ mark. (let (low, less, f) = is.0 mark in (low, f)),
        λ (low, (high, listed, f)).
            let within = nothing_past lists low high ((listed_is (list_at lists low) high).0 listed) in
            is.1 (low, omega (arith, within, end), (high, listed, f)),
      )
