-- The facts of a saturation are as many as those of the closure.
use Rattle.std.proofs.Common.{◌≡◌, ◌↔◌, ℕ, ◌<◌, Bool, true, length, slice_get, Some, Contains, List, sym, ap, ◌∙◌, subst, subst₂}
use Rattle.std.proofs.lemmas.Option.{same_Some, slice_get_within}
use Rattle.lemmas.proofs.Members.{Contains-from_slice_get, slice_get-from_Contains}
use Rattle.lemmas.proofs.Places.{slice_get_there}
use Rattle.axioms.specs.Ontology.{Ontology, axiom_trees}
use Rattle.axioms.specs.WellFormedness.{AreDistinct}
use Rattle.closure.specs.Closure.{Fact, IsFact}
use Rattle.closure.specs.Denotations.{Prefixes, SaysFact, IsProblemOf}
use Rattle.engine.specs.Saturations.{Saturated, IsSaturated, IsUnasked, SayTheClosure}
use Rattle.closure.proofs.Names.{fact_one, fact_same}
use Rattle.engine.proofs.Saying.{AreSaid, all_said}
use Rattle.facts.specs.Closure.{Problem}
use Rattle.facts.specs.declared.contexts.Fact as code_fact
use Rattle.interpretation_spec.specs.Interpretation.{IsContradictory}
use Rattle.normalise.specs.Problem.{prefixes_of}
use Rattle.classification.specs.Classifications.{HasFacts, AreCountsOf}
use Rattle.classification.specs.declared.classification.Summary.{Summary}

module _ (o : Ontology) (asked : List ℕ) (b : Prefixes) (k : Problem) (problem : IsProblemOf o asked b k) (fs : List code_fact.Fact) (distinct : AreDistinct fs) (h : SayTheClosure o asked b fs) where
  -- what is said at one place is one fact
  said_at : (gs : List Fact) → AreSaid o asked b k problem fs gs → (n : ℕ) (f : code_fact.Fact) (g : Fact) → slice_get fs n ≡ Some f → SaysFact b f g → slice_get gs n ≡ Some g
  said_at gs are n f g at says =
      let (g', at') = slice_get_there gs n (subst (λ l. n < l) (sym are.0) (slice_get_within fs n f at)) in
      let (f', there, says', _) = are.1 n g' at' in
      let same : f' ≡ f = same_Some f' f (sym there ∙ at) in
      at' ∙ ap Some (fact_one (subst (λ x. SaysFact b x g') same says') says)

  all_there : (gs : List Fact) → AreSaid o asked b k problem fs gs → (g : Fact) → IsFact o asked g → Contains gs g
  all_there gs are g fact =
      let (f, there, says) = h.all g fact in
      let (n, at) = slice_get-from_Contains fs f there in
      Contains-from_slice_get gs n g (said_at gs are n f g at says)

  apart : (gs : List Fact) → AreSaid o asked b k problem fs gs → AreDistinct gs
  apart gs are m n g at at' =
      let (f, there, says, _) = are.1 m g at in
      let (f', there', says', _) = are.1 n g at' in
      distinct m n f there (there' ∙ ap Some (fact_same problem says' says))

  is_fact : (gs : List Fact) → AreSaid o asked b k problem fs gs → (g : Fact) → Contains gs g → IsFact o asked g
  is_fact gs are g there = let (n, at) = slice_get-from_Contains gs g there in (are.1 n g at).3

  are_facts : (gs : List Fact) → AreSaid o asked b k problem fs gs → HasFacts o asked (length fs)
  are_facts gs are = record { facts = gs; distinct = apart gs are; exact = λ g. (is_fact gs are g, all_there gs are g); many = are.0 }

  all_counted : HasFacts o asked (length fs)
  all_counted =
      let (gs, are) = all_said o asked b k problem fs (λ m f at. h.each f (Contains-from_slice_get fs m f at)) in
      are_facts gs are

-- the facts of a saturation are as many as those of the closure
pub has_facts : (o : Ontology) (s : Saturated) → IsSaturated o s → HasFacts o s.normal.asked (length s.state.facts)
has_facts o s h = all_counted o s.normal.asked (prefixes_of s.normal) s.state.problem h.problem s.state.facts h.born.distinct h.facts

pub counts_of : (o : Ontology) (s : Saturated) (summary : Summary) (consistent : Bool) → IsSaturated o s → IsUnasked s
    → summary.consistent ≡ consistent → summary.classes ≡ length o.names.classes → summary.individuals ≡ length o.names.individuals → summary.facts ≡ length s.state.facts
    → (consistent ≡ true) ↔ (IsContradictory (axiom_trees o) → ⊥) → AreCountsOf o summary
counts_of o s summary consistent h unasked is classes individuals facts where_consistent = record {
  consistent = (λ t. where_consistent.0 (sym is ∙ t), λ k. is ∙ where_consistent.1 k);
  classes = classes;
  individuals = individuals;
  facts = subst₂ (HasFacts o) unasked (sym facts) (has_facts o s h);
}
