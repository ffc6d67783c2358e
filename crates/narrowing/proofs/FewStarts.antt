-- How many starts there are: no more than points, and twice as many points, at most, as elements stand in the lines.
use Rattle.std.proofs.Common.{◌≡◌, ℕ, suc, ◌*◌, ◌<◌, ◌≤◌, inl, inr, Bool, true, false, if◌then◌else◌, nat_lt, nat_le, List, [], ◌∷◌, ◌++◌, length, map, Contains, refl, arith, length-append}
use Rattle.std.specs.List.{flat_map}
use Rattle.std.proofs.lemmas.Bool.{cases_lt, le-leb, lt-leb}
use Rattle.certificate.specs.Certificate as certificate
use Rattle.certificate.specs.View.{class_row_of, pair_row_of, claim_of, listed_of, targets_in}
use Rattle.certificate.specs.declared.listed.ClassRow.{ClassRow}
use Rattle.certificate.specs.declared.listed.PairRow.{PairRow}
use Rattle.certificate.specs.declared.listed.Claim.{Claim}
use Rattle.certificate.specs.declared.listed.Listed.{Listed}
use Rattle.lemmas.proofs.Members.{Contains-none, Contains-first, Contains-later, Contains-cons_cases}
use Rattle.narrowing.specs.Cut.{single_points, run_points, points_in, points_of, AreStarts}
use Rattle.narrowing.specs.Gathered.{class_elements, pair_elements, claim_elements, elements_of_lines}
use Rattle.narrowing.proofs.Climbing.{Climbs, climbs}

-- ---- ascending numbers that stand in a list

-- how many of these are not below k
abbrev from : ℕ → List ℕ → ℕ
from k [] = 0
from k (x ∷ xs) = if nat_le k x then suc (from k xs) else from k xs

counted : (k x : ℕ) (xs : List ℕ) → k ≤ x → from k (x ∷ xs) ≡ suc (from k xs)
counted k x xs l = rw (le-leb k x l) refl

left_out : (k x : ℕ) (xs : List ℕ) → x < k → from k (x ∷ xs) ≡ from k xs
left_out k x xs l = rw (lt-leb k x l) refl

from_most : (k : ℕ) (xs : List ℕ) → from k xs ≤ length xs
from_most k [] = omega arith
from_most k (x ∷ xs) =
    let g = from_most k xs in
    elim (cases_lt x k) [
      | inl l ↦ (let p = left_out k x xs l in omega arith)
      | inr l ↦ (let p = counted k x xs l in omega arith)
    ]

from_fewer : (k n : ℕ) (xs : List ℕ) → k ≤ n → from n xs ≤ from k xs
from_fewer k n [] h = omega arith
from_fewer k n (x ∷ xs) h =
    let g = from_fewer k n xs h in
    elim (cases_lt x n) [
      | inl l ↦ (let p = left_out n x xs l in
          elim (cases_lt x k) [
            | inl m ↦ (let q = left_out k x xs m in omega arith)
            | inr m ↦ (let q = counted k x xs m in omega arith)
          ])
      | inr l ↦ (let p = counted n x xs l in let q = counted k x xs (omega arith) in omega arith)
    ]

-- one fewer past a number that is there
from_past : (k x : ℕ) (xs : List ℕ) → k ≤ x → Contains xs x → from (suc x) xs < from k xs
from_past k x [] h c = absurd (Contains-none x c)
from_past k x (y ∷ ys) h c =
    elim (Contains-cons_cases y x ys c) [
      | inl e ↦ (let p = left_out (suc x) y ys (omega arith) in
          let q = counted k y ys (omega arith) in
          let g = from_fewer k (suc x) ys (omega arith) in
          omega arith)
      | inr d ↦ (let g = from_past k x ys h d in
          elim (cases_lt y (suc x)) [
            | inl l ↦ (let p = left_out (suc x) y ys l in
                elim (cases_lt y k) [
                  | inl m ↦ (let q = left_out k y ys m in omega arith)
                  | inr m ↦ (let q = counted k y ys m in omega arith)
                ])
            | inr l ↦ (let p = counted (suc x) y ys l in let q = counted k y ys (omega arith) in omega arith)
          ])
    ]

climbing_among : (k : ℕ) (xs ps : List ℕ) → Climbs k xs → ((x : ℕ) → Contains xs x → Contains ps x) → length xs ≤ from k ps
climbing_among k [] ps h there = omega arith
climbing_among k (x ∷ xs) ps h there =
    let rest = climbing_among (suc x) xs ps h.1 (λ y c. there y (Contains-later x y xs c)) in
    let g = from_past k x ps h.0 (there x (Contains-first x xs)) in
    omega arith

pub few_starts : (l : certificate.Listed) (starts : List ℕ) → AreStarts l starts → length starts ≤ length (points_of l)
few_starts l starts are =
    let g = climbing_among 0 starts (points_of l) (climbs starts are.ascend) (λ x c. ((are.exact x).0 c).0) in
    let m = from_most 0 (points_of l) in
    omega arith

-- ---- points of the lines

few_single : (xs : List ℕ) → length (single_points xs) ≤ 2 * length xs
few_single [] = omega arith
few_single (x ∷ xs) = let g = few_single xs in omega arith

few_ends : (xs : List ℕ) → length (run_points xs) ≤ 2 * length xs
few_ends [] = omega arith
few_ends (x ∷ []) = omega arith
few_ends (last ∷ first ∷ ends) = let g = few_ends ends in omega arith

few_in : (xs : List ℕ) → length (points_in xs) ≤ 2 * length xs
few_in [] = omega arith
few_in (x ∷ []) = omega arith
few_in (x ∷ y ∷ xs) = go (nat_lt x y) (few_single (x ∷ y ∷ xs)) (few_ends (x ∷ y ∷ xs))
  where
    go : (b : Bool) → length (single_points (x ∷ y ∷ xs)) ≤ 2 * length (x ∷ y ∷ xs) → length (run_points (x ∷ y ∷ xs)) ≤ 2 * length (x ∷ y ∷ xs)
        → length (if b then single_points (x ∷ y ∷ xs) else run_points (x ∷ y ∷ xs)) ≤ 2 * length (x ∷ y ∷ xs)
    go true single wide = single
    go false single wide = wide

few_of_classes : (rows : List ClassRow) → length (flat_map (λ row. points_in row.1) (map class_row_of rows)) ≤ 2 * length (class_elements rows)
few_of_classes [] = omega arith
few_of_classes (row ∷ rows) =
    let here = few_in row.elements.items in
    let rest = few_of_classes rows in
    let points = length-append (points_in row.elements.items) (flat_map (λ row. points_in row.1) (map class_row_of rows)) in
    let elements = length-append row.elements.items (class_elements rows) in
    omega arith

few_of_pairs : (rows : List PairRow) → length (flat_map (λ row. row.1 ∷ suc row.1 ∷ points_in row.2) (map pair_row_of rows)) ≤ 2 * length (pair_elements rows)
few_of_pairs [] = omega arith
few_of_pairs (row ∷ rows) =
    let here = few_in (targets_in row.targets) in
    let rest = few_of_pairs rows in
    let points = length-append (points_in (targets_in row.targets)) (flat_map (λ row. row.1 ∷ suc row.1 ∷ points_in row.2) (map pair_row_of rows)) in
    let elements = length-append (targets_in row.targets) (pair_elements rows) in
    omega arith

few_of_claims : (claims : List Claim) → length (single_points (map (λ claim. claim.1) (map claim_of claims))) ≤ 2 * length (claim_elements claims)
few_of_claims [] = omega arith
few_of_claims (claim ∷ claims) = let g = few_of_claims claims in omega arith

-- lists that are each at most twice as long
four : (as' bs cs ds es fs gs hs : List ℕ) → length as' ≤ 2 * length es → length bs ≤ 2 * length fs → length cs ≤ 2 * length gs → length ds ≤ 2 * length hs
    → length (as' ++ bs ++ cs ++ ds) ≤ 2 * length (es ++ fs ++ gs ++ hs)
four as' bs cs ds es fs gs hs a b c d =
    omega (arith, length-append (as' ++ bs ++ cs) ds, length-append (as' ++ bs) cs, length-append as' bs, length-append (es ++ fs ++ gs) hs, length-append (es ++ fs) gs, length-append es fs)

pub few_points : (r : Listed) → length (points_of (listed_of r)) ≤ 2 * length (elements_of_lines r)
few_points r =
    four (flat_map (λ row. points_in row.1) (map class_row_of r.classes.items)) (flat_map (λ row. row.1 ∷ suc row.1 ∷ points_in row.2) (map pair_row_of r.pairs.items))
    (single_points r.individuals.items) (single_points (map (λ claim. claim.1) (map claim_of r.claims.items)))
    (class_elements r.classes.items) (pair_elements r.pairs.items) r.individuals.items (claim_elements r.claims.items)
    (few_of_classes r.classes.items) (few_of_pairs r.pairs.items) (few_single r.individuals.items) (few_of_claims r.claims.items)
