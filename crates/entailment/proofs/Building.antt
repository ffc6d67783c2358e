-- The ontology of a test, step by step.
use Rattle.std.proofs.Common.{◌≡◌, ℕ, zero, suc, ◌+◌, ◌<◌, List, [], ◌∷◌, ◌++◌, length, slice_get, Some, All, take, refl, sym, ap, ◌∙◌, subst, append_assoc, arith}
use Rattle.std.proofs.lemmas.List.{length-append, length-map, length-take, map-append}
use Rattle.std.proofs.lemmas.List.Elements.{All-append, All-cons, All-head, All-nil, All-tail}
use Rattle.std.proofs.lemmas.Option.{none-some, same_Some, slice_get_within}
use Rattle.axioms.specs.Expression.{Iri}
use Rattle.axioms.specs.Growth.{with_axiom}
use Rattle.axioms.specs.Ontology.{Ontology, Axiom, PropertyAssertion, NegativePropertyAssertion, ClassAssertion, SameIndividuals, DifferentIndividuals}
use Rattle.axioms.specs.View.{prop_numbers}
use Rattle.axioms.specs.WellFormedness.{AreOperands, IsAxiomOf, IsOntology}
use Rattle.axioms.specs.declared.ids.PropId.{PropId}
use Rattle.entailment.specs.Claims.{IsClaimOf}
use Rattle.entailment.specs.Tests.{IsTestOf, added_individuals, assumed, path_from, tested_class, tested_individual, with_axioms, with_individuals}
use Rattle.entailment.specs.declared.claim.Claim.{Claim}
use Rattle.entailment.specs.declared.claim.Claim.TheVariants.{Below, Apart, Sources, Path, Loops, Member, Joined, Unjoined, One, Two}
use Rattle.lemmas.proofs.Places.{Keeps, take_push}
use Rattle.normalise.specs.Growth.{Grows}
use Rattle.normalise.specs.Roots.{KeepsNames}
use Rattle.profile.proofs.Trees.{keeps_append}

-- ---- a path

-- a step of a path of axioms that are there is there
pub step_there : (o : Ontology) (a : ℕ) (rs : List ℕ) (k r : ℕ) → All (IsAxiomOf o) (path_from a rs) → slice_get rs k ≡ Some r → IsAxiomOf o (PropertyAssertion r (a + k) (a + k + 1))
step_there o a [] k r h at = absurd (none-some r at)
step_there o a (s ∷ rs) zero r h at =
    let P : ℕ → ℕ → Type 0 = λ n r. IsAxiomOf o (PropertyAssertion r n (n + 1)) in
    let zero_on : a ≡ a + 0 = omega arith in
    subst (P (a + 0)) (same_Some s r at) (subst (λ n. P n s) zero_on (All-head (IsAxiomOf o) (PropertyAssertion s a (a + 1)) (path_from (a + 1) rs) h))
step_there o a (s ∷ rs) (suc k) r h at =
    let P : ℕ → Type 0 = λ n. IsAxiomOf o (PropertyAssertion r n (n + 1)) in
    let sum : a + 1 + k ≡ a + suc k = omega arith in
    subst P sum (step_there o (a + 1) rs k r (All-tail (IsAxiomOf o) (PropertyAssertion s a (a + 1)) (path_from (a + 1) rs) h) at)

path_longer : (a : ℕ) (rs : List ℕ) (r : ℕ) → path_from a (rs ++ r ∷ []) ≡ path_from a rs ++ PropertyAssertion r (a + length rs) (a + length rs + 1) ∷ []
path_longer a [] r = let zero_on : a ≡ a + 0 = omega arith in ap (λ n. PropertyAssertion r n (n + 1) ∷ []) zero_on
path_longer a (s ∷ rs) r =
    let sum : a + 1 + length rs ≡ a + length (s ∷ rs) = omega arith in
    ap (λ xs. PropertyAssertion s a (a + 1) ∷ xs) (path_longer (a + 1) rs r ∙ ap (λ n. path_from (a + 1) rs ++ PropertyAssertion r n (n + 1) ∷ []) sum)

-- a step more of the path is an axiom more
pub path_pushed : (first was now : Ontology) (a k n : ℕ) (chain : List PropId) (p : PropId) → slice_get chain k ≡ Some p → n ≡ a + k
    → was ≡ with_axioms first (path_from a (prop_numbers (take k chain))) → now ≡ with_axiom was (PropertyAssertion p.0 n (n + 1))
    → now ≡ with_axioms first (path_from a (prop_numbers (take (k + 1) chain)))
path_pushed first was now a k n chain p at is before grown =
    let front = path_from a (prop_numbers (take k chain)) in
    let long : length (prop_numbers (take k chain)) ≡ k = omega (arith, length-map (take k chain) (λ (q : PropId). q.0), length-take k chain, slice_get_within chain k p at) in
    let here : n ≡ a + length (prop_numbers (take k chain)) = omega (arith, is, long) in
    let last = PropertyAssertion p.0 n (n + 1) in
    let longer : front ++ last ∷ [] ≡ path_from a (prop_numbers (take (k + 1) chain)) =
    ap (λ m. front ++ PropertyAssertion p.0 m (m + 1) ∷ []) here
    ∙ sym (path_longer a (prop_numbers (take k chain)) p.0)
    ∙ ap (path_from a) (sym (ap prop_numbers (take_push chain k p at) ∙ map-append (λ (q : PropId). q.0) (take k chain) (p ∷ []))) in
    grown ∙ ap (λ o. with_axiom o last) before ∙ ap (λ axioms. record first { axioms = axioms }) (append_assoc first.axioms front (last ∷ []) ∙ ap (λ axioms. first.axioms ++ axioms) longer)

-- ---- what is assumed is there

path_there : (o : Ontology) (rs : List ℕ) (a : ℕ) → All (λ r. r < length o.names.properties) rs → a + length rs < length o.names.individuals → All (IsAxiomOf o) (path_from a rs)
path_there o [] a h low = All-nil (IsAxiomOf o)
path_there o (r ∷ rs) a h low =
    let P : ℕ → Type 0 = λ r. r < length o.names.properties in
    All-cons (IsAxiomOf o) (PropertyAssertion r a (a + 1)) (path_from (a + 1) rs) (All-head P r rs h, omega arith, omega arith) (path_there o rs (a + 1) (All-tail P r rs h) (omega arith))

one_there : (o : Ontology) (axiom' : Axiom) → IsAxiomOf o axiom' → All (IsAxiomOf o) (axiom' ∷ [])
one_there o axiom' h = All-cons (IsAxiomOf o) axiom' [] h (All-nil (IsAxiomOf o))

module _ (o : Ontology) (names : List Iri) where
  abbrev wide : Ontology
  wide = with_individuals o names

  abbrev n : ℕ
  n = length o.names.individuals

  many : length wide.names.individuals ≡ n + length names
  many = length-append o.names.individuals names

  operands : (a b : ℕ) → AreOperands n (a ∷ b ∷ []) → AreOperands (length wide.names.individuals) (a ∷ b ∷ [])
  operands a b is = record { many = is.many; distinct = is.distinct; within = λ k d l. (let low = is.within k d l in omega (arith, many, low)) }

  pub assumed_there : (claim : Claim) → IsClaimOf o claim → length names ≡ added_individuals claim → All (IsAxiomOf wide) (assumed n claim)
  assumed_there (Below c d) known count = one_there wide (ClassAssertion c.0 n) (known.0, omega (arith, many, count))
  assumed_there (Apart c d) known count =
      All-cons (IsAxiomOf wide) (ClassAssertion c.0 n) (ClassAssertion d.0 n ∷ []) (known.0, omega (arith, many, count)) (one_there wide (ClassAssertion d.0 n) (known.1, omega (arith, many, count)))
  assumed_there (Sources r c) known count = one_there wide (PropertyAssertion r.0 n (n + 1)) (known.0, omega (arith, many, count), omega (arith, many, count))
  assumed_there (Path rs s) known count =
      let numbers = prop_numbers rs.now in
      let long : length numbers ≡ length rs.now = length-map rs.now _ in
      All-append (IsAxiomOf wide) (path_from n numbers) (NegativePropertyAssertion s.0 n (n + length rs.now) ∷ []) (path_there wide numbers n known.1 (omega (arith, many, count, long)))
      (one_there wide (NegativePropertyAssertion s.0 n (n + length rs.now)) (known.2, omega (arith, many, count), omega (arith, many, count)))
  assumed_there (Loops r) known count = one_there wide (NegativePropertyAssertion r.0 n n) (known, omega (arith, many, count), omega (arith, many, count))
  assumed_there (Member c a) known count = All-nil (IsAxiomOf wide)
  assumed_there (Joined r a b) known count = one_there wide (NegativePropertyAssertion r.0 a.0 b.0) (known.0, omega (arith, many, known.1), omega (arith, many, known.2))
  assumed_there (Unjoined r a b) known count = one_there wide (PropertyAssertion r.0 a.0 b.0) (known.0, omega (arith, many, known.1), omega (arith, many, known.2))
  assumed_there (One a b) known count = one_there wide (DifferentIndividuals (a.0 ∷ b.0 ∷ [])) (operands a.0 b.0 known)
  assumed_there (Two a b) known count = one_there wide (SameIndividuals (a.0 ∷ b.0 ∷ [])) (operands a.0 b.0 known)

  -- ---- what is tested is there

  pub individual_there : (claim : Claim) → IsClaimOf o claim → length names ≡ added_individuals claim → tested_individual n claim < length wide.names.individuals
  individual_there (Member c a) known count = omega (arith, many, known.1)
  individual_there (Joined r a b) known count = omega (arith, many, known.1)
  individual_there (Unjoined r a b) known count = omega (arith, many, known.1)
  individual_there (One a b) known count = let low : a.0 < n = All-head (λ x. x < n) a.0 (b.0 ∷ []) known.within in omega (arith, many, low)
  individual_there (Two a b) known count = let low : a.0 < n = All-head (λ x. x < n) a.0 (b.0 ∷ []) known.within in omega (arith, many, low)
  individual_there _ known count = omega (arith, many, count)

nothing_there : (o : Ontology) → IsOntology o → 1 < length o.nodes
nothing_there o w = slice_get_within o.nodes 1 _ w.nothing_node

pub class_there : (o : Ontology) → IsOntology o → (claim : Claim) → IsClaimOf o claim → tested_class claim < length o.nodes
class_there o w (Below c d) known = known.1
class_there o w (Sources r c) known = known.1
class_there o w (Member c a) known = known.0
class_there o w _ known = nothing_there o w

-- ---- a test goes on from what its claim is about

keeps_both : {A : Type 0} (xs ys zs : List A) → Keeps xs ys → Keeps ys zs → Keeps xs zs
keeps_both xs ys zs h k n x at = k n x (h n x at)

module _ (known o : Ontology) (claim : Claim) (test : Ontology) (is : IsTestOf o claim test) where
  abbrev made : Ontology
  made = with_axioms (with_individuals o is.added) (assumed (length o.names.individuals) claim)

  pub grows_on : Grows known o (length known.axioms) → Grows known test (length known.axioms)
  grows_on h =
      subst (λ t. Grows known t (length known.axioms)) (sym is.is)
      (let more : Grows known made (length known.axioms) =
      record { nodes = h.nodes; axioms = keeps_both known.axioms o.axioms made.axioms h.axioms (keeps_append o.axioms made.axioms (assumed (length o.names.individuals) claim) refl); new_from = h.new_from } in more)

  pub keeps_on : KeepsNames known o → KeepsNames known test
  keeps_on h =
      subst (KeepsNames known) (sym is.is)
      (let more : KeepsNames known made =
      record { classes = h.classes; individuals = keeps_both known.names.individuals o.names.individuals made.names.individuals h.individuals (keeps_append o.names.individuals made.names.individuals is.added refl) } in more)

  pub individual_in_test : IsClaimOf o claim → tested_individual (length o.names.individuals) claim < length test.names.individuals
  individual_in_test about = subst (λ (t : Ontology). tested_individual (length o.names.individuals) claim < length t.names.individuals) (sym is.is) (individual_there o is.added claim about is.count)

  pub class_in_test : IsOntology o → IsClaimOf o claim → tested_class claim < length test.nodes
  class_in_test w about = subst (λ (t : Ontology). tested_class claim < length t.nodes) (sym is.is) (class_there o w claim about)
