-- What is said at first is well formed, and stays so.
use Rattle.std.proofs.Common.{◌≡◌, ℕ, ◌<◌, zero, suc, Bool, true, false, List, [], ◌∷◌, length, get_or, set, replicate, refl, sym, ap, ◌∙◌, subst, arith, inl, inr}
use Rattle.std.proofs.lemmas.Bool.{cases_eq, cases_lt}
use Rattle.std.proofs.lemmas.List.{get_or-replicate, get_or_past, get_or-set_other, get_or-set_same, length-replicate, length-set}
use Rattle.std.proofs.lemmas.List.Elements.{All-replicate}
use Rattle.interpretation_spec.specs.NumberedInterpretation.{NumberedInterpretation, IsNumberedInterpretation, AreElements, with_pair, with_number}
use Rattle.number_sets.specs.Members.{has}
use Rattle.interpretation_spec.proofs.Ascending.{AreElements-with_number}

-- a list at a place, or the lists as they were
get_or-set_cases : {A : Type 0} (P : List A → Type 0) (xs : List (List A)) (k j : ℕ) (ys : List A) → k < length xs → P ys → P (get_or xs j []) → P (get_or (set xs k ys) j [])
get_or-set_cases P xs k j ys within new old =
    elim (cases_eq j k) [
      | inl e ↦ rw e (subst P (sym (get_or-set_same xs k ys [] within)) new)
      | inr ne ↦ subst P (sym (get_or-set_other xs k j ys [] ne)) old
    ]

pub IsNumbered-with_pair : (i : NumberedInterpretation) (r x y : ℕ) → r < length i.pairs → x < i.size → y < i.size → IsNumberedInterpretation i → IsNumberedInterpretation (with_pair i r x y)
IsNumbered-with_pair i r x y lr lx ly h =
    let old = get_or i.pairs r [] in
    let new = set old x (with_number y (get_or old x [])) in
    let long : length old ≡ i.size = h.sources r lr in
    record {
      inhabited = h.inhabited;
      classes = h.classes;
      thing = h.thing;
      nothing = h.nothing;
      sources = λ s ls.
          let within : s < length i.pairs = omega (arith, length-set i.pairs r new) in
          get_or-set_cases (λ (xs : List (List ℕ)). length xs ≡ i.size) i.pairs r s new lr (length-set old x (with_number y (get_or old x [])) ∙ long) (h.sources s within);
      targets = λ s z.
          get_or-set_cases (λ (xs : List (List ℕ)). AreElements i.size (get_or xs z [])) i.pairs r s new lr
          (get_or-set_cases (AreElements i.size) old x z (with_number y (get_or old x [])) (omega arith) (AreElements-with_number i.size y (get_or old x []) ly (h.targets r x)) (h.targets r z))
          (h.targets s z);
      individuals = h.individuals;
    }

-- ---- at first

-- each of so many
at_replicate : {A : Type 0} (P : List A → Type 0) (n k : ℕ) (xs : List A) → P xs → P [] → P (get_or (replicate n xs) k [])
at_replicate {A} P n k xs one none = elim (cases_lt k n) [
  | inl low ↦ subst P (sym (get_or-replicate n k xs [] low)) one
  | inr past ↦ subst P (sym (get_or_past (replicate n xs) k [] (omega (arith, length-replicate n xs)))) none
]

-- none of a set without members
none_has : (n c : ℕ) → has (replicate n false) c ≡ false
none_has n c = elim (cases_lt c n) [
  | inl low ↦ get_or-replicate n c false false low
  | inr past ↦ get_or_past (replicate n false) c false (omega (arith, length-replicate n false))
]

no_targets : (size : ℕ) → AreElements size []
no_targets size = record { ascending = λ k l. absurd (omega arith); within = λ k d l. absurd (omega arith) }

pub IsNumbered-empty : (size classes properties individuals : ℕ) → 0 < size
    → IsNumberedInterpretation record {
      size = size;
      classes = replicate size true ∷ replicate classes (replicate size false);
      pairs = replicate properties (replicate size []);
      individuals = replicate individuals 0;
    }
IsNumbered-empty size classes properties individuals some = record {
  inhabited = some;
  classes = long;
  thing = λ x l. get_or-replicate size x true false l;
  nothing = λ x. at_replicate (λ (row : List Bool). has row x ≡ false) classes 0 (replicate size false) (none_has size x) refl;
  sources = λ r l. ap length (get_or-replicate properties r (replicate {A = List ℕ} size []) [] (omega (arith, length-replicate properties (replicate {A = List ℕ} size [])))) ∙ length-replicate {A = List ℕ} size [];
  targets = λ r x. at_replicate (λ (sources : List (List ℕ)). AreElements size (get_or sources x [])) properties r (replicate size [])
      (at_replicate (AreElements size) size x [] (no_targets size) (no_targets size)) (no_targets size);
  individuals = All-replicate (λ x. x < size) individuals 0 some;
}
  where
    long : (c : ℕ) → c < length (replicate size true ∷ replicate classes (replicate size false)) → length (get_or (replicate size true ∷ replicate classes (replicate size false)) c []) ≡ size
    long zero l = length-replicate size true
    long (suc c) l = ap length (get_or-replicate classes c (replicate size false) [] (omega (arith, l, length-replicate classes (replicate size false)))) ∙ length-replicate size false

pub IsNumbered-at_first : (size n m k : ℕ) (classes : List (List Bool)) (pairs : List (List (List ℕ))) (individuals : List ℕ) → 0 < size
    → classes ≡ replicate size true ∷ replicate n (replicate size false) → pairs ≡ replicate m (replicate size []) → individuals ≡ replicate k 0
    → IsNumberedInterpretation record { size = size; classes = classes; pairs = pairs; individuals = individuals }
IsNumbered-at_first size n m k classes pairs individuals some first none zeros = rw (first, none, zeros) (IsNumbered-empty size n m k some)
