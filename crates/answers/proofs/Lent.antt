-- What holds of what is lent holds of what lends it.
use Rattle.std.proofs.Common.{◌≡◌, ◌<◌, ℕ, List, get_or, length, slice_get, Some, ap, refl, sym, ◌∙◌, subst}
use Rattle.std.proofs.lemmas.Option.{slice_get_read}
use Rattle.axioms.specs.Ontology.{Ontology}
use Rattle.axioms.specs.WellFormedness.{IsOntology}
use Rattle.engine.specs.Closed.{Closed}
use Rattle.engine.specs.Saturations.{IsSaturated}
use Rattle.facts.specs.declared.contexts.Fact.{Fact}
use Rattle.saturate.specs.ServedFacts.{AreNumbersOf}

pub whole_ontology : {a b : Closed} → a ≡ b → IsOntology a.ontology → IsOntology b.ontology
whole_ontology is w = subst (λ (k : Closed). IsOntology k.ontology) is w

pub whole_saturation : {a b : Closed} → a ≡ b → IsSaturated a.ontology a.saturation → IsSaturated b.ontology b.saturation
whole_saturation is h = subst (λ (k : Closed). IsSaturated k.ontology k.saturation) is h

pub same_ontology : {a b : Closed} {o : Ontology} → o ≡ a.ontology → a ≡ b → o ≡ b.ontology
same_ontology of is = of ∙ ap (λ (k : Closed). k.ontology) is

pub same_facts : {a b : Closed} {facts : List Fact} → facts ≡ a.saturation.state.facts → a ≡ b → facts ≡ b.saturation.state.facts
same_facts of is = of ∙ ap (λ (k : Closed). k.saturation.state.facts) is

pub same_bound : {a b : Closed} {facts : List Fact} (n : ℕ) → facts ≡ a.saturation.state.facts → a ≡ b → n < length b.saturation.state.facts → n < length facts
same_bound n of is low = subst (λ (fs : List Fact). n < length fs) (sym (same_facts of is)) low

pub same_at : {a b : Closed} {facts : List Fact} (n : ℕ) (f : Fact) → facts ≡ a.saturation.state.facts → a ≡ b → n < length b.saturation.state.facts → f ≡ get_or facts n f → slice_get b.saturation.state.facts n ≡ Some f
same_at {facts = facts} n f of is low found = subst (λ (fs : List Fact). slice_get fs n ≡ Some f) (same_facts of is) (slice_get_read facts (length facts) n f refl (same_bound n of is low) found)

pub same_numbers : {a b : Closed} {facts : List Fact} (P : Fact → Type 0) (numbers : List ℕ) → facts ≡ a.saturation.state.facts → a ≡ b → AreNumbersOf P b.saturation.state.facts numbers → AreNumbersOf P facts numbers
same_numbers P numbers of is are = subst (λ (fs : List Fact). AreNumbersOf P fs numbers) (sym (same_facts of is)) are
