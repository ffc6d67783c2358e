-- An entry of a table of prefixes is its two parts.
use Rattle.std.proofs.Common.{◌≡◌, ℕ, Bool, true, ◌&&◌, List, [], ◌∷◌, map, slice_get, Some, refl, sym, ap, ap₂, subst₂, nat_eq}
use Rattle.std.specs.Bool.{Decides}
use Rattle.std.proofs.lemmas.Bool.{true≢false}
use Rattle.std.proofs.lemmas.Bool.Decides.{Decides-eqb, Decides-like, Decides-and}
use Rattle.keyed_hash.specs.Numbering.{insert_key}
use Rattle.axioms.specs.Growth.{Numbers}
use Rattle.axioms.proofs.Insertions.{inserted}
use Rattle.normalise.specs.contracts.start.StartPartialEq.TheImpl.{ghosts}
use Rattle.normalise.specs.declared.start.Start.{Start}
use Rattle.normalise.specs.declared.start.Start.TheVariants.{One, Longer}

same_start : (a b : Start) → Decides (ghosts.eq a b) (a ≡ b)
same_start (One c) (One d) = Decides-like _ (λ e. ap One e) (λ e. cc) (Decides-eqb c d)
same_start (One c) (Longer n) = (λ h. absurd (true≢false (sym h)), λ h. cc)
same_start (Longer n) (One c) = (λ h. absurd (true≢false (sym h)), λ h. cc)
same_start (Longer m) (Longer n) = Decides-like _ (λ e. ap Longer e) (λ e. cc) (Decides-eqb m n)

abbrev pub eq_pair : Start × ℕ → Start × ℕ → Bool
eq_pair a b = ghosts.eq a.0 b.0 && nat_eq a.1 b.1

same_pair : (a b : Start × ℕ) → Decides (eq_pair a b) (a ≡ b)
same_pair (s, m) (t, n) = Decides-like _ (λ h. ap₂ (λ x y. (x, y)) h.0 h.1) (λ e. (ap (λ p. p.0) e, ap (λ p. p.1) e)) (Decides-and _ _ (same_start s t) (Decides-eqb m n))

map_same : {X : Type 0} (xs : List X) → map (λ x. x) xs ≡ xs
map_same [] = refl
map_same (x ∷ xs) = ap (λ ys. x ∷ ys) (map_same xs)

pub pair_inserted : (k : Start × ℕ) (ks new : List (Start × ℕ)) (n : ℕ) → new ≡ insert_key eq_pair ks k → (l : Start × ℕ) × (slice_get new n ≡ Some l) × (eq_pair k l ≡ true) → Numbers ks k new n
pair_inserted k ks new n keys stored = subst₂ (λ xs ys. Numbers xs k ys n) (map_same ks) (map_same new) (inserted eq_pair (λ p. p) same_pair k ks new n keys stored)
