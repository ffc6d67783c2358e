-- The first axiom that is not satisfied.
use Rattle.std.proofs.Common.{◌≡◌, ◌<◌, ◌+◌, ℕ, zero, suc, List, Some, IfSome, IsSomeAnd, sym, ap, ◌∙◌, subst, length, map, get_or, slice_get, add-one, arith, inl, inr}
use Rattle.std.proofs.lemmas.Bool.{cases_lt}
use Rattle.std.proofs.lemmas.List.Elements.{All-contains, All-map}
use Rattle.std.proofs.lemmas.Option.{slice_get-get_or, same_Some}
use Rattle.lemmas.proofs.Mapped.{slice_get_map}
use Rattle.lemmas.proofs.Members.{Contains-from_slice_get}
use Rattle.axioms.specs.declared.terms.Axiom as code_axiom
use Rattle.axioms.specs.Ontology.{Axiom, Ontology, axiom_tree, axiom_trees}
use Rattle.axioms.specs.View.{axiom_of, at_number}
use Rattle.axioms.specs.WellFormedness.{IsAxiomOf, IsOntology}
use Rattle.interpretation_spec.specs.NamedInterpretation.{IsFirstUnsatisfied}
use Rattle.interpretation_spec.specs.Interpretation.{Interpretation, IsInterpretation, IsModel, Satisfies}
use Rattle.interpretation_spec.proofs.Steps.{if_some}

-- an axiom of the code stands among those of the ontology, at its place
pub axiom_at : (o : Ontology) (items : List code_axiom.Axiom) (at : ℕ) (item : code_axiom.Axiom) → map axiom_of items ≡ o.axioms → at < length items → item ≡ get_or items at item → slice_get o.axioms at ≡ Some (axiom_of item)
axiom_at o items at item e l is =
    subst (λ (xs : List Axiom). slice_get xs at ≡ Some (axiom_of item)) e (slice_get_map axiom_of items at item (slice_get-get_or items at item l ∙ ap Some (sym is)))

-- it is over the ontology's names and expressions
pub axiom_is_of : (o : Ontology) → IsOntology o → (at : ℕ) (axiom' : Axiom) → slice_get o.axioms at ≡ Some axiom' → IsAxiomOf o axiom'
axiom_is_of o w at axiom' h = All-contains (IsAxiomOf o) o.axioms axiom' w.axioms (Contains-from_slice_get o.axioms at axiom' h)

-- each of the first n is satisfied
abbrev pub SatisfiedBefore : Ontology → Interpretation → ℕ → Type 0
SatisfiedBefore o i n = (k : ℕ) → k < n → (a : Axiom) → slice_get o.axioms k ≡ Some a → Satisfies i (axiom_tree o a)

-- and the next one too
pub one_more : (o : Ontology) (i : Interpretation) (at : ℕ) (axiom' : Axiom) → SatisfiedBefore o i at → slice_get o.axioms at ≡ Some axiom' → Satisfies i (axiom_tree o axiom') → SatisfiedBefore o i (at + 1)
one_more o i at axiom' before there holds k l a h =
    elim (cases_lt k at) [
      | inl b ↦ before k b a h
      | inr b ↦
          (let e : k ≡ at = omega arith in
          let same = same_Some axiom' a (sym there ∙ subst (λ (j : ℕ). slice_get o.axioms j ≡ Some a) e h) in
          subst (λ (b : Axiom). Satisfies i (axiom_tree o b)) same holds)
    ]

-- the next one is the first that is not satisfied
pub first_one : (o : Ontology) (i : Interpretation) (at : ℕ) (axiom' : Axiom) → SatisfiedBefore o i at → slice_get o.axioms at ≡ Some axiom' → (Satisfies i (axiom_tree o axiom') → ⊥) → IsFirstUnsatisfied o i (at + 1)
first_one o i at axiom' before there fails = record {
  fails = subst (λ v. IsSomeAnd v (λ (a : Axiom). Satisfies i (axiom_tree o a) → ⊥)) (sym (ap (at_number o.axioms) (add-one at) ∙ there)) fails;
  before = λ k l. numbered k l;
}
  where
    numbered : (k : ℕ) → k < at + 1 → IfSome (at_number o.axioms k) (λ (a : Axiom). Satisfies i (axiom_tree o a))
    numbered zero l = tt
    numbered (suc k) l = if_some (λ (a : Axiom). Satisfies i (axiom_tree o a)) (slice_get o.axioms k) (before k (omega arith))

-- where each is satisfied, the interpretation is a model
pub model_of_all : (o : Ontology) (i : Interpretation) → IsInterpretation i → SatisfiedBefore o i (length o.axioms) → IsModel i (axiom_trees o)
model_of_all o i whole before = record {
  interpretation = whole;
  satisfied = All-map (Satisfies i) (axiom_tree o) o.axioms (λ k d l. before k l (get_or o.axioms k d) (slice_get-get_or o.axioms k d l));
}
