-- Points that are gathered, those of one line after another.
use Rattle.std.proofs.Common.{◌≡◌, ℕ, zero, suc, ◌+◌, ◌*◌, ◌<◌, inl, inr, ◌↔◌, Bool, true, false, cond, List, [], ◌∷◌, ◌++◌, ◌&&◌, length, get_or, map, take, max, Contains, nat_lt, refl, sym, ap, ap₂, ◌∙◌, subst, arith, append_assoc}
use Rattle.std.proofs.lemmas.Bool.{and_parts, lt-ltb, ltb-true}
use Rattle.std.proofs.lemmas.List.{take_more}
use Rattle.std.proofs.lemmas.List.Elements.{All-contains, All-contains_itself, All-filter, filter_passes, filter-append}
use Rattle.std.proofs.lemmas.List.Folds.{flat_map-map}
use Rattle.lemmas.proofs.Members.{Contains-none, Contains-first, Contains-later, Contains-cons_cases}
use Rattle.certificate.specs.Writability.{Ascends}
use Rattle.certificate.specs.View.{class_row_of, pair_row_of, claim_of, listed_of}
use Rattle.certificate.specs.declared.listed.ClassRow.{ClassRow}
use Rattle.certificate.specs.declared.listed.PairRow.{PairRow}
use Rattle.certificate.specs.declared.listed.Claim.{Claim}
use Rattle.certificate.specs.declared.listed.Listed.{Listed}
use Rattle.narrowing.specs.Cut.{single_points, run_points, points_in, points_of, AreStarts}
use Rattle.narrowing.specs.Points.{within, class_points, pair_points, claim_points}

pub within_append : (d : ℕ) (xs ys : List ℕ) → within d (xs ++ ys) ≡ within d xs ++ within d ys
within_append d xs ys = filter-append _ xs ys

-- more of what is gathered
pub gathered_more : (d : ℕ) (old now new done more all : List ℕ) → now ≡ old ++ within d done → new ≡ now ++ within d more → all ≡ done ++ more → new ≡ old ++ within d all
gathered_more d old now new done more all e n a =
    n ∙ ap (λ zs. zs ++ within d more) e ∙ append_assoc old (within d done) (within d more)
    ∙ ap (λ zs. old ++ zs) (sym (within_append d done more) ∙ ap (within d) (sym a))

-- ---- single elements

pub singles_append : (xs ys : List ℕ) → single_points (xs ++ ys) ≡ single_points xs ++ single_points ys
singles_append [] ys = refl
singles_append (x ∷ xs) ys = ap (λ zs. x ∷ suc x ∷ zs) (singles_append xs ys)

pub singles_more : (xs : List ℕ) (i d : ℕ) → i < length xs → single_points (take (i + 1) xs) ≡ single_points (take i xs) ++ get_or xs i d ∷ suc (get_or xs i d) ∷ []
singles_more xs i d l = ap single_points (take_more xs i d l) ∙ singles_append (take i xs) (get_or xs i d ∷ [])

-- ---- runs

abbrev twice : ℕ → ℕ
twice zero = 0
twice (suc k) = suc (suc (twice k))

twice_is : (k : ℕ) → twice k ≡ 2 * k
twice_is zero = refl
twice_is (suc k) = let h = twice_is k in omega arith

next_run : (xs : List ℕ) (k : ℕ) → suc (twice k) < length xs
    → run_points (take (suc (suc (twice k))) xs) ≡ run_points (take (twice k) xs) ++ get_or xs (suc (twice k)) 0 ∷ suc (max (get_or xs (twice k) 0) (get_or xs (suc (twice k)) 0)) ∷ []
next_run [] k l = absurd (omega arith)
next_run (a ∷ []) k l = absurd (omega arith)
next_run (a ∷ b ∷ xs) zero l = refl
next_run (a ∷ b ∷ xs) (suc k) l = ap (λ zs. b ∷ suc (max a b) ∷ zs) (next_run xs k (omega arith))

pub runs_more : (xs : List ℕ) (k : ℕ) → 2 * k + 1 < length xs
    → run_points (take (2 * (k + 1)) xs) ≡ run_points (take (2 * k) xs) ++ get_or xs (2 * k + 1) 0 ∷ suc (max (get_or xs (2 * k) 0) (get_or xs (2 * k + 1) 0)) ∷ []
runs_more xs k l =
    let e : 2 * k ≡ twice k = sym (twice_is k) in
    let e1 : 2 * k + 1 ≡ suc (twice k) = omega arith in
    let e2 : 2 * (k + 1) ≡ suc (suc (twice k)) = omega arith in
    rw (e1, e2, e) (next_run xs k (omega arith))

whole_runs : (xs : List ℕ) (k : ℕ) → length xs < suc (suc (twice k)) → run_points (take (twice k) xs) ≡ run_points xs
whole_runs [] zero l = refl
whole_runs [] (suc k) l = refl
whole_runs (a ∷ []) zero l = refl
whole_runs (a ∷ []) (suc k) l = refl
whole_runs (a ∷ b ∷ xs) zero l = absurd (omega arith)
whole_runs (a ∷ b ∷ xs) (suc k) l = ap (λ zs. b ∷ suc (max a b) ∷ zs) (whole_runs xs k (omega arith))

pub runs_whole : (xs : List ℕ) (k : ℕ) → length xs < 2 * k + 2 → run_points (take (2 * k) xs) ≡ run_points xs
runs_whole xs k l =
    let e : 2 * k ≡ twice k = sym (twice_is k) in
    rw e (whole_runs xs k (omega arith))

-- ---- those of all lines

claims_seen : (claims : List Claim) → claim_points claims ≡ single_points (map (λ (claim : ℕ × ℕ). claim.1) (map claim_of claims))
claims_seen [] = refl
claims_seen (claim ∷ claims) = ap (λ zs. claim.element ∷ suc claim.element ∷ zs) (claims_seen claims)

pub points_seen : (l : Listed) → class_points l.classes.items ++ pair_points l.pairs.items ++ single_points l.individuals.items ++ claim_points l.claims.items ≡ points_of (listed_of l)
points_seen l =
    ap₂ (λ ys zs. ys ++ single_points l.individuals.items ++ zs)
    (ap₂ (λ ys zs. ys ++ zs) (sym (flat_map-map (λ (row : ℕ × List ℕ). points_in row.1) class_row_of l.classes.items))
    (sym (flat_map-map (λ (row : ℕ × ℕ × List ℕ). row.1 ∷ suc row.1 ∷ points_in row.2) pair_row_of l.pairs.items)))
    (claims_seen l.claims.items)

pub all_gathered : (l : Listed) (none g1 g2 g3 g4 : List ℕ) (classes : List ClassRow) (pairs : List PairRow) (individuals : List ℕ) (claims : List Claim)
    → none ≡ [] → classes ≡ l.classes.items → pairs ≡ l.pairs.items → individuals ≡ l.individuals.items → claims ≡ l.claims.items
    → g1 ≡ none ++ within l.domain (class_points classes) → g2 ≡ g1 ++ within l.domain (pair_points pairs) → g3 ≡ g2 ++ within l.domain (single_points individuals)
    → g4 ≡ g3 ++ within l.domain (claim_points claims) → g4 ≡ within l.domain (points_of (listed_of l))
all_gathered l none g1 g2 g3 g4 classes pairs individuals claims e c p i m n1 n2 n3 n4 =
    let d = l.domain in
    let of_classes = class_points l.classes.items in
    let of_pairs = pair_points l.pairs.items in
    let of_individuals = single_points l.individuals.items in
    let of_claims = claim_points l.claims.items in
    let s1 = n1 ∙ ap₂ (λ (zs : List ℕ) (rows : List ClassRow). zs ++ within d (class_points rows)) e c in
    let s2 = gathered_more d [] g1 g2 of_classes of_pairs (of_classes ++ of_pairs) s1 (n2 ∙ ap (λ rows. g1 ++ within d (pair_points rows)) p) refl in
    let s3 = gathered_more d [] g2 g3 (of_classes ++ of_pairs) of_individuals (of_classes ++ of_pairs ++ of_individuals) s2 (n3 ∙ ap (λ xs. g2 ++ within d (single_points xs)) i) refl in
    gathered_more d [] g3 g4 (of_classes ++ of_pairs ++ of_individuals) of_claims (points_of (listed_of l)) s3 (n4 ∙ ap (λ rows. g3 ++ within d (claim_points rows)) m) (sym (points_seen l))

module _ (d : ℕ) where
  abbrev lies : ℕ → Bool
  lies x = nat_lt 0 x && nat_lt x d

  to_within : (xs : List ℕ) (x : ℕ) → Contains xs x → 0 < x → x < d → Contains (within d xs) x
  to_within [] x c a b = absurd (Contains-none x c)
  to_within (y ∷ ys) x c a b =
      elim (Contains-cons_cases y x ys c) [
        | inl e ↦ (let low : 0 < y = omega arith in let high : y < d = omega arith in rw (lt-ltb 0 y low, lt-ltb y d high) (subst (λ z. Contains (y ∷ within d ys) z) e (Contains-first y (within d ys))))
        | inr h ↦ added y ys x (nat_lt 0 y) (nat_lt y d) (to_within ys x h a b)
      ]
    where
      added : (y : ℕ) (ys : List ℕ) (x : ℕ) (p q : Bool) → Contains (within d ys) x → Contains (cond (p && q) (y ∷ within d ys) (within d ys)) x
      added y ys x true true c = Contains-later y x (within d ys) c
      added y ys x true false c = c
      added y ys x false q c = c

  from_within : (xs : List ℕ) (x : ℕ) → Contains (within d xs) x → Contains xs x × (0 < x) × (x < d)
  from_within xs x c =
      let there = All-contains (Contains xs) (within d xs) x (All-filter _ (Contains xs) xs (All-contains_itself xs)) c in
      let passes = All-contains (λ y. lies y ≡ true) (within d xs) x (filter_passes lies xs) c in
      let both = and_parts (nat_lt 0 x) (nat_lt x d) passes in
      (there, ltb-true 0 x both.0, ltb-true x d both.1)

pub are_starts : (l : Listed) (starts gathered : List ℕ) → Ascends starts → ((x : ℕ) → Contains starts x ↔ Contains gathered x) → gathered ≡ within l.domain (points_of (listed_of l)) → AreStarts (listed_of l) starts
are_starts l starts gathered up same e =
    let points = points_of (listed_of l) in
    record {
      ascend = up;
      exact = λ x. (
        λ c. from_within l.domain points x (subst (λ (zs : List ℕ). Contains zs x) e ((same x).0 c)),
        λ h. (same x).1 (subst (λ (zs : List ℕ). Contains zs x) (sym e) (to_within l.domain points x h.0 h.1 h.2)),
      );
    }
