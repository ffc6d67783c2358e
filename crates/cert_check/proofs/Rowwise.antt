-- Rows to which numbers are added.
use Rattle.std.proofs.Common.{◌≡◌, ◌↔◌, ℕ, zero, suc, ◌<◌, List, [], length, set, replicate, Bool, true, false, ◌⊎◌, inl, inr, refl, sym, ap, ◌∙◌, subst}
use Rattle.std.proofs.lemmas.Bool.{cases_eq}
use Rattle.interpretation_spec.proofs.Shapes.{empty_row}
use Rattle.std.proofs.lemmas.List.{get_or-set_same, get_or-set_other}
use Rattle.number_sets.specs.Members.{has}
use Rattle.taxonomy.specs.Relation.{row_at, lies_below}
use Rattle.cert_check.specs.Rows.{Adds, with_number_at}

-- ---- one more number

module _ (rows : List (List Bool)) (a b : ℕ) (a_in : a < length rows) (b_in : b < length (row_at rows a)) where
  new_row : List Bool
  new_row = set (row_at rows a) b true

  pub it_is_there : lies_below (with_number_at rows a b) a b ≡ true
  unfolding new_row
  it_is_there = ap (λ (row : List Bool). has row b) (get_or-set_same rows a new_row [] a_in) ∙ get_or-set_same (row_at rows a) b true false b_in

  others_stay : (c d : ℕ) → ((c ≡ a) × (d ≡ b) → ⊥) → lies_below (with_number_at rows a b) c d ≡ lies_below rows c d
  unfolding new_row
  others_stay c d apart = elim (cases_eq c a) [
    | inl e ↦ subst (λ k. lies_below (with_number_at rows a b) k d ≡ lies_below rows k d) (sym e)
        (ap (λ (row : List Bool). has row d) (get_or-set_same rows a new_row [] a_in) ∙ get_or-set_other (row_at rows a) b d true false (λ f. apart (e, f)))
    | inr ne ↦ ap (λ (row : List Bool). has row d) (get_or-set_other rows a c new_row [] ne)
  ]

  pub one_more_number : (c d : ℕ) → (lies_below (with_number_at rows a b) c d ≡ true) ↔ ((lies_below rows c d ≡ true) ⊎ ((c ≡ a) × (d ≡ b)))
  one_more_number c d = elim (cases_eq c a) [
    | inr ne ↦ kept (λ w. ne w.0)
    | inl e ↦ elim (cases_eq d b) [
      | inr ne ↦ kept (λ w. ne w.1)
      | inl f ↦ (λ t. inr (e, f), λ h. subst (λ k. lies_below (with_number_at rows a b) k d ≡ true) (sym e) (subst (λ k. lies_below (with_number_at rows a b) a k ≡ true) (sym f) it_is_there))
    ]
  ]
    where
      kept : ((c ≡ a) × (d ≡ b) → ⊥) → (lies_below (with_number_at rows a b) c d ≡ true) ↔ ((lies_below rows c d ≡ true) ⊎ ((c ≡ a) × (d ≡ b)))
      kept apart = (λ t. inl (sym (others_stay c d apart) ∙ t), λ h. elim h [ inl t ↦ others_stay c d apart ∙ t | inr w ↦ absurd (apart w) ])

pub adds_none : (puts : ℕ → ℕ → Type 0) (rows : List (List Bool)) → ((c d : ℕ) → puts c d → ⊥) → Adds puts rows rows
adds_none puts rows none c d = (λ t. inl t, λ s. elim s [ inl u ↦ u | inr p ↦ absurd (none c d p) ])

-- ---- empty rows

pub no_number : (count width c d : ℕ) → lies_below (replicate count (replicate width false)) c d ≡ false
no_number zero width c d = refl
no_number (suc count) width zero d = empty_row width d
no_number (suc count) width (suc c) d = no_number count width c d
