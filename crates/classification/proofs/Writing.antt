-- A certificate of a derivation can be written.
use Rattle.std.proofs.Common.{◌≡◌, ℕ, zero, suc, ◌+◌, ◌<◌, ◌≤◌, ◌^◌, List, [], ◌∷◌, length, map, take, get_or, slice_get, Some, None, Option, All, refl, arith, IfSome, flat_map}
use Rattle.std.proofs.lemmas.List.{length-map, length-take-le}
use Rattle.std.proofs.lemmas.List.Elements.{All-nil, All-cons, All-append}
use Rattle.std.proofs.lemmas.Option.{slice_get-get_or, slice_get_within, none-some}
use Rattle.axioms.specs.Growth.{IsBounded}
use Rattle.axioms.specs.Ontology.{Ontology}
use Rattle.axioms.specs.View.{at_number}
use Rattle.certificate.specs.Certificate.{Subject, Expression, Individual, Conclusion, Sub, Edge, Same, Line, Listed}
use Rattle.certificate.specs.declared.format.Format.{Format}
use Rattle.certificate.specs.declared.format.Format.TheVariants.{One, Two}
use Rattle.certificate.specs.Writability.{IsSubjectOf, IsConclusionOf, IsAxiomNumberOf, IsListedOf, AreEarlier, HasNumbers, HasText, subject_number, conclusion_numbers, axiom_numbers, line_numbers, listed_numbers}
use Rattle.cert_check.specs.Derivation.{IsDerivation, at_numbers}
use Rattle.exactness.proofs.Derivable.{prepended_list_parts}

All-flat : {A B : Type 0} (P : B → Type 0) (f : A → List B) (xs : List A) → ((n : ℕ) (x : A) → slice_get xs n ≡ Some x → All P (f x)) → All P (flat_map f xs)
All-flat P f [] h = All-nil P
All-flat P f (x ∷ xs) h = All-append P (f x) (flat_map f xs) (h 0 x refl) (All-flat P f xs (λ n y g. h (suc n) y g))

All-from_places : {A : Type 0} (P : A → Type 0) (xs : List A) → ((n : ℕ) (x : A) → slice_get xs n ≡ Some x → P x) → All P xs
All-from_places P xs h k d l = h k (get_or xs k d) (slice_get-get_or xs k d l)

abbrev IsSmall : ℕ → Type 0
IsSmall n = n < 2 ^ 32

-- ---- numbers of lines

abbrev IsNumberOf : ℕ → ℕ → Type 0
IsNumberOf long n = (1 ≤ n) × (n ≤ long)

number_within : {A : Type 0} (xs : List A) (n : ℕ) (x : A) → at_number xs n ≡ Some x → IsNumberOf (length xs) n
number_within xs zero x at = absurd (none-some x at)
number_within xs (suc n) x at = let l : n < length xs = slice_get_within xs n x at in (omega arith, omega (arith, l))

numbers_within : {A : Type 0} (xs : List A) (ns : List ℕ) (ys : List A) → at_numbers xs ns ≡ Some ys → All (IsNumberOf (length xs)) ns
numbers_within xs [] ys at = All-nil (IsNumberOf (length xs))
numbers_within xs (n ∷ ns) ys at =
    let (z, zs, first, rest, _) = prepended_list_parts (at_number xs n) (at_numbers xs ns) ys at in
    All-cons (IsNumberOf (length xs)) n ns (number_within xs n z first) (numbers_within xs ns zs rest)

-- lines whose premises stand before them, from number n on
earlier_from_places : (n : ℕ) (lines : List Line) → ((k : ℕ) (line : Line) → slice_get lines k ≡ Some line → All (λ p. p < n + k) line.premises) → AreEarlier n lines
earlier_from_places n [] h = tt
earlier_from_places n (line ∷ lines) h =
    (λ k d l. omega (arith, h 0 line refl k d l), earlier_from_places (n + 1) lines (λ m next at k d l. omega (arith, h (suc m) next at k d l)))

module _ (o : Ontology) (lines : List Line) (derivation : IsDerivation o lines) where
  -- the premises of a line are numbers of lines before it
  premises_before : (n : ℕ) (line : Line) → slice_get lines n ≡ Some line → All (IsNumberOf n) line.premises
  premises_before n line at k d l =
      let there : n < length lines = slice_get_within lines n line at in
      let derived = derivation n line at in
      let before : List Conclusion = map (λ x. x.conclusion) (take n lines) in
      let within : IsNumberOf (length before) (get_or line.premises k d) = numbers_within before line.premises derived.premises derived.premises_at k d l in
      (within.0, omega (arith, within.1, length-map (take n lines) (λ (x : Line). x.conclusion), length-take-le n lines (omega (arith, there))))

  has_numbers : (format : Format) → length lines < 2 ^ 64 → HasNumbers format lines
  has_numbers One long = tt
  has_numbers Two long = (long, earlier_from_places 1 lines (λ n line at k d l. omega (arith, (premises_before n line at k d l).1)))

-- ---- numbers of what the ontology has

module _ (o : Ontology) (few : IsBounded o) where
  subject_small : (x : Subject) → IsSubjectOf o x → IsSmall (subject_number x)
  subject_small (Expression e) l = omega (arith, l, few.expressions)
  subject_small (Individual a) l = omega (arith, l, few.individuals)

  conclusion_small : (c : Conclusion) → IsConclusionOf o c → All IsSmall (conclusion_numbers c)
  conclusion_small (Sub x d) h =
      All-cons IsSmall (subject_number x) (d ∷ []) (subject_small x h.0) (All-cons IsSmall d [] (omega (arith, h.1, few.expressions)) (All-nil IsSmall))
  conclusion_small (Edge x r y) h =
      All-cons IsSmall (subject_number x) (r ∷ subject_number y ∷ []) (subject_small x h.0)
      (All-cons IsSmall r (subject_number y ∷ []) (omega (arith, h.1, few.properties)) (All-cons IsSmall (subject_number y) [] (subject_small y h.2) (All-nil IsSmall)))
  conclusion_small (Same a b) h =
      All-cons IsSmall a (b ∷ []) (omega (arith, h.0, few.individuals)) (All-cons IsSmall b [] (omega (arith, h.1, few.individuals)) (All-nil IsSmall))

  axiom_small : (n : Option ℕ) → IsAxiomNumberOf o n → All IsSmall (axiom_numbers n)
  axiom_small None h = All-nil IsSmall
  axiom_small (Some n) h = All-cons IsSmall n [] (omega (arith, h.1, few.axioms)) (All-nil IsSmall)

  -- a derivation has a text in each format
  pub derivation_has_text : (format : Format) (lines : List Line) (listed : Option Listed) → IsDerivation o lines → length lines < 2 ^ 64
      → IfSome listed (IsListedOf o) → All IsSmall (listed_numbers listed) → HasText o format (record { lines = lines; listed = listed })
  derivation_has_text format lines listed derivation long fits numbers = record {
    lines = All-from_places _ lines (λ n line at. (derivation n line at).within);
    listed = fits;
    premises = All-from_places _ lines premises;
    numbers = All-append IsSmall (flat_map line_numbers lines) (listed_numbers listed) (All-flat IsSmall line_numbers lines small) numbers;
    written = has_numbers o lines derivation format long;
  }
    where
      small : (n : ℕ) (line : Line) → slice_get lines n ≡ Some line → All IsSmall (line_numbers line)
      small n line at =
          let within = (derivation n line at).within in
          All-append IsSmall (conclusion_numbers line.conclusion) (axiom_numbers line.axiom') (conclusion_small line.conclusion within.conclusion) (axiom_small line.axiom' within.axiom')

      premises : (n : ℕ) (line : Line) → slice_get lines n ≡ Some line → All (λ p. (1 ≤ p) × (p < 2 ^ 64)) line.premises
      premises n line at k d l =
          let there : n < length lines = slice_get_within lines n line at in
          let before = premises_before o lines derivation n line at k d l in
          (before.0, omega (arith, before.1, there, long))
