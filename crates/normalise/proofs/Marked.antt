-- Numbers that are noted, in ascending order.
use Rattle.std.proofs.Common.{◌≡◌, ℕ, ◌<◌, ◌⊎◌, inl, inr, Bool, List, ◌++◌, length, slice_get, Some, Contains, AllPairs, sym, subst, subst₂, arith}
use Rattle.std.specs.Ordering.{nat_cmp}
use Rattle.std.specs.declared.cmp.Ordering.TheVariants.{Less}
use Rattle.std.proofs.lemmas.Bool.{cases_order}
use Rattle.std.proofs.lemmas.Cmp.{ranked}
use Rattle.std.proofs.lemmas.List.Elements.{Contains-append_left, Contains-append_right}
use Rattle.std.proofs.lemmas.Option.{get_or_from_slice_get, slice_get_within}
use Rattle.axioms.specs.Ontology.{Node}
use Rattle.axioms.specs.WellFormedness.{AreDistinct}
use Rattle.normalise.specs.declared.made.Made.{Made}
use Rattle.normalise.specs.Growth.{IsFreshAt}
use Rattle.normalise.specs.Steps.{ExpressedTo}
use Rattle.normalise.specs.View.{Adds}

pub ascending_once : (xs : List ℕ) → AllPairs (λ a b. nat_cmp a b ≡ Less) xs → AreDistinct xs
ascending_once xs up m n x h l = elim (cases_order m n) [
  | inl same ↦ same
  | inr (inl less) ↦ absurd (twice m n h l less)
  | inr (inr more) ↦ absurd (twice n m l h more)
]
  where
    twice : (i j : ℕ) → slice_get xs i ≡ Some x → slice_get xs j ≡ Some x → i < j → ⊥
    twice i j at there low =
        let less : nat_cmp x x ≡ Less = subst₂ (λ (a b : ℕ). nat_cmp a b ≡ Less) (get_or_from_slice_get xs i x x at) (get_or_from_slice_get xs j x x there) (up i j x low (slice_get_within xs j x there)) in
        let below : x < x = ranked x x Less (sym less) in
        omega arith

pub of_both : (xs ys zs : List ℕ) → zs ≡ xs ++ ys → (e : ℕ) → Contains xs e ⊎ Contains ys e → Contains zs e
of_both xs ys zs is e h = subst (λ l. Contains l e) (sym is) (elim h [ inl c ↦ Contains-append_left xs ys e c | inr c ↦ Contains-append_right xs ys e c ])

-- the same lists, by other names
pub express_at : {s t : Made} (nodes : List Node) (r b b' l a a' : List Bool) (numbers numbers' : List ℕ) → b ≡ b' → a ≡ a' → numbers ≡ numbers' → Adds s t (ExpressedTo nodes (IsFreshAt r b) (IsFreshAt l a) numbers (length numbers)) → Adds s t (ExpressedTo nodes (IsFreshAt r b') (IsFreshAt l a') numbers' (length numbers'))
express_at {s} {t} nodes r b b' l a a' numbers numbers' eb ea en h =
    subst (λ xs. Adds s t (ExpressedTo nodes (IsFreshAt r b') (IsFreshAt l a') xs (length xs))) en
    (subst (λ xs. Adds s t (ExpressedTo nodes (IsFreshAt r b') (IsFreshAt l xs) numbers (length numbers))) ea
    (subst (λ xs. Adds s t (ExpressedTo nodes (IsFreshAt r xs) (IsFreshAt l a) numbers (length numbers))) eb h))
