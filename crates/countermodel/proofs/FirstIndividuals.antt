-- The elements of the individuals, one behind the other.
use Rattle.std.proofs.Common.{◌≡◌, ℕ, ◌+◌, ◌<◌, ◌≤◌, inl, inr, List, [], ◌∷◌, ◌++◌, length, slice_get, Some, sym, ◌∙◌, subst₂, arith}
use Rattle.std.proofs.lemmas.List.{length-append}
use Rattle.lemmas.proofs.Places.{slice_get_push_cases}
use Rattle.axioms.specs.Ontology.{Ontology}
use Rattle.closure.specs.Closure.{Context, Individual, IsRoot}
use Rattle.closure.specs.Groups.{least_same}
use Rattle.closure.proofs.Facts as fact
use Rattle.closure.proofs.Groups.{turned, same_as_least, is_least}
use Rattle.exactness.specs.ListedInterpretation.{AreSatisfiableContexts, IsConsistent}

-- the elements of the first individuals
pub record AreFirst (o : Ontology) (elements : List Context) (count : ℕ) (numbers : List ℕ) : Type 0 where
  pub long : length numbers ≡ count
  pub each : (a m : ℕ) → slice_get numbers a ≡ Some m → slice_get elements m ≡ Some (Individual (least_same o a))

pub one_first : (o : Ontology) (elements : List Context) (count m : ℕ) (numbers : List ℕ) → AreFirst o elements count numbers → slice_get elements m ≡ Some (Individual (least_same o count)) → AreFirst o elements (count + 1) (numbers ++ m ∷ [])
one_first o elements count m numbers are at = record {
  long = omega (arith, length-append numbers (m ∷ []), are.long);
  each = λ a n h. elim (slice_get_push_cases numbers m a n h) [
    | inl k ↦ are.each a n k
    | inr k ↦ subst₂ (λ i j. slice_get elements i ≡ Some (Individual (least_same o j))) k.1 (sym (k.0 ∙ are.long)) at
  ];
}

-- in a consistent closure the least of each group has an element
pub least_there : (o : Ontology) (asked : List ℕ) (elements : List Context) → AreSatisfiableContexts o asked elements → IsConsistent o asked → (a : ℕ) → a < length o.names.individuals → (m : ℕ) × (slice_get elements m ≡ Some (Individual (least_same o a)))
least_there o asked elements are consistent a l =
    let b = least_same o a in
    let low : b ≤ a = is_least o asked a a (turned (same_as_least o asked a)) in
    let within : b < length o.names.individuals = omega arith in
    are.listed (Individual b) (record { context = fact.root (IsRoot.individual b within); without_nothing = consistent.individuals b within }) (is_least o asked a)
