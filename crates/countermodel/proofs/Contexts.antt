-- What a fact speaks of is a context, so that exactly the contexts have owl:Thing.
use Rattle.std.proofs.Common.{ℕ, ◌<◌, ◌↔◌, List, length, Contains}
use Rattle.std.specs.List.{AllByRecursion}
use Rattle.std.proofs.lemmas.List.Elements.{All-contains}
use Rattle.axioms.specs.Ontology.{Ontology, Axiom, ClassAssertion, PropertyAssertion, thing}
use Rattle.axioms.specs.WellFormedness.{IsOntology, IsAxiomOf}
use Rattle.normal_forms.specs.Forms.{Class2, Whole, Property, N8, N9, IsForm, class_assertion, property_assertion}
use Rattle.closure.specs.Closure.{Context, Expression, Individual, Fact, In, Edge, IsRoot, Gives, in_thing, in_itself, asserted, asserted_edge, subsumed, both, successor, chained, loop, IsFact, AreFacts, given, none, more, same_class, same_source, same_target, different, IsContext}
use Rattle.closure.proofs.Facts as fact
use Rattle.exactness.proofs.Facts.{fact_derivable}
use Rattle.countermodel.specs.Sets.{IsWithin}

module _ (o : Ontology) (asked : List ℕ) (h : IsOntology o) where
  -- what the fact speaks of are contexts
  abbrev OfContexts : Fact → Type 0
  OfContexts (In a x) = IsContext o asked x
  OfContexts (Edge x r y) = IsContext o asked x × IsContext o asked y

  individual_root : (a : ℕ) → a < length o.names.individuals → IsContext o asked (Individual a)
  individual_root a l = fact.root (IsRoot.individual a l)

  axiom_of : (a : Axiom) → Contains o.axioms a → IsAxiomOf o a
  axiom_of a m = All-contains (IsAxiomOf o) o.axioms a h.axioms m

  by_n8 : {i : ℕ} {a : Class2} → IsForm o asked (N8 i a) → IsContext o asked (Individual i)
  by_n8 (class_assertion c a m) = individual_root a (axiom_of (ClassAssertion c a) m).1

  by_n9 : {i r j : ℕ} → IsForm o asked (N9 i r j) → IsContext o asked (Individual i) × IsContext o asked (Individual j)
  by_n9 (property_assertion r a b m) =
      let l = axiom_of (PropertyAssertion r a b) m in
      (individual_root a l.1, individual_root b l.2)

  given_by : {older : List Fact} {f : Fact} → Gives o asked older f → AreFacts o asked older → IsFact o asked f → AllByRecursion OfContexts older → OfContexts f
  given_by {older = older} (in_thing c) fs f ps = (older, c, fs)
  given_by {older = older} (in_itself c) fs f ps = (older, c, fs)
  given_by (asserted form) fs f ps = by_n8 form
  given_by (asserted_edge form) fs f ps = by_n9 form
  given_by (subsumed a form) fs f ps = ps.0
  given_by (both a b form) fs f ps = ps.0
  given_by (successor {x = x} {r = r} a form) fs f ps = (ps.0, fact.target x (Property r) f)
  given_by (chained r s p q y form b c) fs f ps = (ps.0.0, ps.1.0.1)
  given_by {older = older} (loop r form c) fs f ps = ((older, c, fs), (older, c, fs))
  given_by (same_class {b = b} a same) fs f ps = individual_root b (fact_derivable o asked h f).0
  given_by (same_source {b = b} a same) fs f ps = (individual_root b (fact_derivable o asked h f).0, ps.0.1)
  given_by (same_target {b = b} a same) fs f ps = (ps.0.0, individual_root b (fact_derivable o asked h f).1)
  given_by (different {a = a} b form same) fs f ps = individual_root a (fact_derivable o asked h f).0
  given_by _ fs f ps = ps.0.0

  mutual
    of_contexts : {f : Fact} → IsFact o asked f → OfContexts f
    of_contexts (given older g fs) = given_by g fs (given older g fs) (all_of_contexts fs)

    all_of_contexts : {fs : List Fact} → AreFacts o asked fs → AllByRecursion OfContexts fs
    all_of_contexts none = tt
    all_of_contexts (more p ps) = (of_contexts p, all_of_contexts ps)

  -- exactly the contexts have owl:Thing
  pub context_has_thing : (x : Context) → IsContext o asked x ↔ IsFact o asked (In (Whole thing) x)
  context_has_thing x = (λ c. fact.in_thing c, λ f. of_contexts f)

  -- what a fact speaks of is there
  pub class_within : (a : Class2) (x : Context) → IsFact o asked (In a x) → IsWithin o x
  class_within a (Expression e) f = (fact_derivable o asked h f).0
  class_within a (Individual i) f = (fact_derivable o asked h f).0
