-- The elements of a path, each step of which leads from one to the next.
use Rattle.std.proofs.Common.{◌≡◌, ℕ, zero, suc, ◌+◌, ◌<◌, ◌≤◌, List, [], ◌∷◌, length, map, All, refl, sym, ap, ◌∙◌, subst, subst₂, arith}
use Rattle.std.proofs.lemmas.List.Elements.{All-cons, All-head, All-nil, All-tail}
use Rattle.axioms.specs.Expression.{Iri}
use Rattle.axioms.specs.Ontology.{Ontology, PropertyAssertion, axiom_tree, individual_name, property_name}
use Rattle.entailment.specs.Tests.{path_from}
use Rattle.interpretation_spec.specs.Interpretation.{HasPair, HasPath, Interpretation, IsInterpretation, Satisfies}

module _ (i : Interpretation) where
  -- the element before step k of the path, or its last
  abbrev pub element_at : (rs : List Iri) (x y : ℕ) → HasPath i rs x y → ℕ → ℕ
  element_at [] x y p k = x
  element_at (r ∷ rs) x y p zero = x
  element_at (r ∷ rs) x y (z, low, pair, p) (suc k) = element_at rs z y p k

  pub begins : (rs : List Iri) (x y : ℕ) (p : HasPath i rs x y) → element_at rs x y p 0 ≡ x
  begins [] x y p = refl
  begins (r ∷ rs) x y p = refl

  pub ends : (rs : List Iri) (x y : ℕ) (p : HasPath i rs x y) → element_at rs x y p (length rs) ≡ y
  ends [] x y p = p
  ends (r ∷ rs) x y (z, low, pair, p) = ends rs z y p

  pub within : (rs : List Iri) (x y : ℕ) (p : HasPath i rs x y) → x < i.size → (k : ℕ) → element_at rs x y p k < i.size
  within [] x y p low k = low
  within (r ∷ rs) x y p low zero = low
  within (r ∷ rs) x y (z, lz, pair, p) low (suc k) = within rs z y p lz k

-- axioms that say the path of individuals from that number on are satisfied where their elements are those of a path
module _ (i j : Interpretation) (o : Ontology) (same : (r x y : ℕ) → HasPair i (property_name o r) x y → HasPair j (property_name o r) x y) where
  pub says_path : (rs : List ℕ) (x y : ℕ) (p : HasPath i (map (property_name o) rs) x y) (a : ℕ)
      → ((k : ℕ) → k ≤ length rs → j.individual (individual_name o (a + k)) ≡ element_at i (map (property_name o) rs) x y p k)
      → All (Satisfies j) (map (axiom_tree o) (path_from a rs))
  says_path [] x y p a are = All-nil (Satisfies j)
  says_path (r ∷ rs) x y (z, low, pair, p) a are =
      let zero_on : a + 0 ≡ a = omega arith in
      let here : j.individual (individual_name o a) ≡ x = ap (λ n. j.individual (individual_name o n)) (sym zero_on) ∙ are 0 (omega arith) in
      let next : j.individual (individual_name o (a + 1)) ≡ z = are 1 (omega arith) ∙ begins i (map (property_name o) rs) z y p in
      let joined : HasPair j (property_name o r) (j.individual (individual_name o a)) (j.individual (individual_name o (a + 1))) =
      subst₂ (λ (x y : ℕ). HasPair j (property_name o r) x y) (sym here) (sym next) (same r x z pair) in
      All-cons (Satisfies j) (axiom_tree o (PropertyAssertion r a (a + 1))) (map (axiom_tree o) (path_from (a + 1) rs)) joined
      (says_path rs z y p (a + 1) (λ k low'. ap (λ n. j.individual (individual_name o n)) (omega arith) ∙ are (suc k) (omega arith)))

-- and where they are satisfied, there is a path
pub path_said : (j : Interpretation) (o : Ontology) → IsInterpretation j → (rs : List ℕ) (a : ℕ) → All (Satisfies j) (map (axiom_tree o) (path_from a rs))
    → HasPath j (map (property_name o) rs) (j.individual (individual_name o a)) (j.individual (individual_name o (a + length rs)))
path_said j o is [] a h = ap (λ n. j.individual (individual_name o n)) (omega arith)
path_said j o is (r ∷ rs) a h =
    let rest = map (axiom_tree o) (path_from (a + 1) rs) in
    let P : ℕ → Type 0 = λ n. HasPath j (map (property_name o) rs) (j.individual (individual_name o (a + 1))) (j.individual (individual_name o n)) in
    let sum : (a + 1) + length rs ≡ a + length (r ∷ rs) = omega arith in (
      j.individual (individual_name o (a + 1)),
      is.individuals (individual_name o (a + 1)),
      All-head (Satisfies j) (axiom_tree o (PropertyAssertion r a (a + 1))) rest h,
      subst P sum (path_said j o is rs (a + 1) (All-tail (Satisfies j) (axiom_tree o (PropertyAssertion r a (a + 1))) rest h)),
    )
