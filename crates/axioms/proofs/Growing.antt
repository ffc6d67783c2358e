-- An ontology stays well formed where it grows.
use Rattle.std.proofs.Common.{◌≡◌, ℕ, ◌<◌, ◌≤◌, ◌⊎◌, inl, inr, List, [], ◌∷◌, ◌++◌, length, slice_get, Some, All, Contains, sym, ap, ◌∙◌, subst, arith}
use Rattle.std.proofs.lemmas.List.Elements.{All-weaker, All-push}
use Rattle.std.proofs.lemmas.Bool.{cases_eq}
use Rattle.std.proofs.lemmas.List.{length_push}
use Rattle.lemmas.proofs.Members.{Contains-from_slice_get, slice_get-from_Contains}
use Rattle.lemmas.proofs.Places.{slice_get_push, slice_get_push_cases, Keeps, keeps_push}
use Rattle.axioms.specs.Expression.{Iri, owl_thing, owl_nothing}
use Rattle.axioms.specs.Growth.{Numbers, with_axiom, with_class}
use Rattle.axioms.specs.Ontology.{Ontology, Axiom, Node, Class, And, Exists, IsClassAt, SubClass, EquivalentClasses, DisjointClasses, SubProperty, EquivalentProperties, Domain, Transitive, Reflexive, ClassAssertion, PropertyAssertion, SameIndividuals, DifferentIndividuals, NegativePropertyAssertion}
use Rattle.axioms.specs.WellFormedness.{AreDistinct, AreOperands, IsNodeOf, IsAxiomOf, IsOntology}

pub AreDistinct-push : {X : Type 0} (xs : List X) (x : X) → AreDistinct xs → (Contains xs x → ⊥) → AreDistinct (xs ++ x ∷ [])
AreDistinct-push xs x distinct new m n y gm gn =
    elim (slice_get_push_cases xs x m y gm) [
      | inl h ↦ elim (slice_get_push_cases xs x n y gn) [
        | inl k ↦ distinct m n y h k
        | inr k ↦ absurd (new (Contains-from_slice_get xs m x (h ∙ ap Some (sym k.1))))
      ]
      | inr h ↦ elim (slice_get_push_cases xs x n y gn) [
        | inl k ↦ absurd (new (Contains-from_slice_get xs n x (k ∙ ap Some (sym h.1))))
        | inr k ↦ h.0 ∙ sym k.0
      ]
    ]

-- p has at least as many names and expressions as o
pub record HasAtLeast (o p : Ontology) : Type 0 where
  pub classes : length o.names.classes ≤ length p.names.classes
  pub properties : length o.names.properties ≤ length p.names.properties
  pub individuals : length o.names.individuals ≤ length p.names.individuals
  pub nodes : length o.nodes ≤ length p.nodes

All-below : (m n : ℕ) → m ≤ n → (xs : List ℕ) → All (λ x. x < m) xs → All (λ x. x < n) xs
All-below m n le xs h = All-weaker (λ x. x < m) (λ x. x < n) (λ x l. omega arith) xs h

AreOperands-more : (m n : ℕ) → m ≤ n → (xs : List ℕ) → AreOperands m xs → AreOperands n xs
AreOperands-more m n le xs h = record { many = h.many; distinct = h.distinct; within = All-below m n le xs h.within }

pub IsNodeOf-more : (o p : Ontology) → HasAtLeast o p → (e : ℕ) (node : Node) → IsNodeOf o e node → IsNodeOf p e node
IsNodeOf-more o p more e (Class c) h = omega (arith, more.classes)
IsNodeOf-more o p more e (And ds) h = h
IsNodeOf-more o p more e (Exists r c) h = (omega (arith, more.properties, h.0), h.1)

pub IsAxiomOf-more : (o p : Ontology) → HasAtLeast o p → (axiom' : Axiom) → IsAxiomOf o axiom' → IsAxiomOf p axiom'
IsAxiomOf-more o p more (SubClass c d) h = (omega (arith, more.nodes, h.0), omega (arith, more.nodes, h.1))
IsAxiomOf-more o p more (EquivalentClasses cs) h = AreOperands-more _ _ more.nodes cs h
IsAxiomOf-more o p more (DisjointClasses cs) h = AreOperands-more _ _ more.nodes cs h
IsAxiomOf-more o p more (SubProperty chain s) h = (h.0, All-below _ _ more.properties chain h.1, omega (arith, more.properties, h.2))
IsAxiomOf-more o p more (EquivalentProperties rs) h = AreOperands-more _ _ more.properties rs h
IsAxiomOf-more o p more (Domain r c) h = (omega (arith, more.properties, h.0), omega (arith, more.nodes, h.1))
IsAxiomOf-more o p more (Transitive r) h = omega (arith, more.properties)
IsAxiomOf-more o p more (Reflexive r) h = omega (arith, more.properties)
IsAxiomOf-more o p more (ClassAssertion c a) h = (omega (arith, more.nodes, h.0), omega (arith, more.individuals, h.1))
IsAxiomOf-more o p more (PropertyAssertion r a b) h = (omega (arith, more.properties, h.0), omega (arith, more.individuals, h.1), omega (arith, more.individuals, h.2))
IsAxiomOf-more o p more (SameIndividuals xs) h = AreOperands-more _ _ more.individuals xs h
IsAxiomOf-more o p more (DifferentIndividuals xs) h = AreOperands-more _ _ more.individuals xs h
IsAxiomOf-more o p more (NegativePropertyAssertion r a b) h = (omega (arith, more.properties, h.0), omega (arith, more.individuals, h.1), omega (arith, more.individuals, h.2))

module _ (o : Ontology) (whole : IsOntology o) where
  -- a property that is not there
  property_more : (iri : Iri) → HasAtLeast o (record o { names = record o.names { properties = o.names.properties ++ iri ∷ [] } })
  property_more iri = record { classes = omega arith; properties = omega (arith, length_push o.names.properties iri); individuals = omega arith; nodes = omega arith }

  pub with_property : (iri : Iri) → (Contains o.names.properties iri → ⊥) → IsOntology (record o { names = record o.names { properties = o.names.properties ++ iri ∷ [] } })
  with_property iri new =
      let p : Ontology = record o { names = record o.names { properties = o.names.properties ++ iri ∷ [] } } in
      record {
        thing_name = whole.thing_name;
        nothing_name = whole.nothing_name;
        thing_node = whole.thing_node;
        nothing_node = whole.nothing_node;
        class_nodes = whole.class_nodes;
        distinct_classes = whole.distinct_classes;
        distinct_properties = AreDistinct-push o.names.properties iri whole.distinct_properties new;
        distinct_individuals = whole.distinct_individuals;
        distinct_nodes = whole.distinct_nodes;
        nodes = λ e node g. IsNodeOf-more o p (property_more iri) e node (whole.nodes e node g);
        axioms = All-weaker (IsAxiomOf o) (IsAxiomOf p) (IsAxiomOf-more o p (property_more iri)) o.axioms whole.axioms;
      }

  -- an individual that is not there
  individual_more : (iri : Iri) → HasAtLeast o (record o { names = record o.names { individuals = o.names.individuals ++ iri ∷ [] } })
  individual_more iri = record { classes = omega arith; properties = omega arith; individuals = omega (arith, length_push o.names.individuals iri); nodes = omega arith }

  pub with_individual : (iri : Iri) → (Contains o.names.individuals iri → ⊥) → IsOntology (record o { names = record o.names { individuals = o.names.individuals ++ iri ∷ [] } })
  with_individual iri new =
      let p : Ontology = record o { names = record o.names { individuals = o.names.individuals ++ iri ∷ [] } } in
      record {
        thing_name = whole.thing_name;
        nothing_name = whole.nothing_name;
        thing_node = whole.thing_node;
        nothing_node = whole.nothing_node;
        class_nodes = whole.class_nodes;
        distinct_classes = whole.distinct_classes;
        distinct_properties = whole.distinct_properties;
        distinct_individuals = AreDistinct-push o.names.individuals iri whole.distinct_individuals new;
        distinct_nodes = whole.distinct_nodes;
        nodes = λ e node g. IsNodeOf-more o p (individual_more iri) e node (whole.nodes e node g);
        axioms = All-weaker (IsAxiomOf o) (IsAxiomOf p) (IsAxiomOf-more o p (individual_more iri)) o.axioms whole.axioms;
      }

  -- an expression that is not there, and whose parts are
  node_more : (node : Node) → HasAtLeast o (record o { nodes = o.nodes ++ node ∷ [] })
  node_more node = record { classes = omega arith; properties = omega arith; individuals = omega arith; nodes = omega (arith, length_push o.nodes node) }

  pub with_node : (node : Node) → IsNodeOf o (length o.nodes) node → (Contains o.nodes node → ⊥) → IsOntology (record o { nodes = o.nodes ++ node ∷ [] })
  with_node node fits new =
      let p : Ontology = record o { nodes = o.nodes ++ node ∷ [] } in
      record {
        thing_name = whole.thing_name;
        nothing_name = whole.nothing_name;
        thing_node = keeps_push o.nodes node 0 (Class 0) whole.thing_node;
        nothing_node = keeps_push o.nodes node 1 (Class 1) whole.nothing_node;
        class_nodes = λ c l. let (e, at) = whole.class_nodes c l in (e, keeps_push o.nodes node e (Class c) at);
        distinct_classes = whole.distinct_classes;
        distinct_properties = whole.distinct_properties;
        distinct_individuals = whole.distinct_individuals;
        distinct_nodes = AreDistinct-push o.nodes node whole.distinct_nodes new;
        nodes = λ e n g. elim (slice_get_push_cases o.nodes node e n g) [
          | inl h ↦ whole_node p (node_more node) e n h
          | inr h ↦ last_node p (node_more node) e n node fits h.0 h.1
        ];
        axioms = All-weaker (IsAxiomOf o) (IsAxiomOf p) (IsAxiomOf-more o p (node_more node)) o.axioms whole.axioms;
      }
    where
      whole_node : (p : Ontology) → HasAtLeast o p → (e : ℕ) (n : Node) → slice_get o.nodes e ≡ Some n → IsNodeOf p e n
      whole_node p more e n g = IsNodeOf-more o p more e n (whole.nodes e n g)

      last_node : (p : Ontology) → HasAtLeast o p → (e : ℕ) (n node : Node) → IsNodeOf o (length o.nodes) node → e ≡ length o.nodes → node ≡ n → IsNodeOf p e n
      last_node p more e n node fits at is = subst (λ m. IsNodeOf p e m) is (subst (λ k. IsNodeOf p k node) (sym at) (IsNodeOf-more o p more (length o.nodes) node fits))

  -- an axiom over what is there
  pub with_axiom_is : (axiom' : Axiom) → IsAxiomOf o axiom' → IsOntology (with_axiom o axiom')
  with_axiom_is axiom' fits =
      let p : Ontology = with_axiom o axiom' in
      let more : HasAtLeast o p = record { classes = omega arith; properties = omega arith; individuals = omega arith; nodes = omega arith } in
      record {
        thing_name = whole.thing_name;
        nothing_name = whole.nothing_name;
        thing_node = whole.thing_node;
        nothing_node = whole.nothing_node;
        class_nodes = whole.class_nodes;
        distinct_classes = whole.distinct_classes;
        distinct_properties = whole.distinct_properties;
        distinct_individuals = whole.distinct_individuals;
        distinct_nodes = whole.distinct_nodes;
        nodes = λ e node g. IsNodeOf-more o p more e node (whole.nodes e node g);
        axioms = All-push (IsAxiomOf p) o.axioms axiom' (All-weaker (IsAxiomOf o) (IsAxiomOf p) (IsAxiomOf-more o p more) o.axioms whole.axioms) (IsAxiomOf-more o p more axiom' fits);
      }

  -- a class that is not there, whose expression then is not there either
  class_more : (iri : Iri) → HasAtLeast o (with_class o iri)
  class_more iri = record { classes = omega (arith, length_push o.names.classes iri); properties = omega arith; individuals = omega arith; nodes = omega (arith, length_push o.nodes (Class (length o.names.classes))) }

  pub new_class_node : Contains o.nodes (Class (length o.names.classes)) → ⊥
  new_class_node there =
      let (e, at) = slice_get-from_Contains o.nodes (Class (length o.names.classes)) there in
      let within : length o.names.classes < length o.names.classes = whole.nodes e (Class (length o.names.classes)) at in
      omega arith

  pub with_class_is : (iri : Iri) → (Contains o.names.classes iri → ⊥) → IsOntology (with_class o iri)
  with_class_is iri new =
      let p : Ontology = with_class o iri in
      let n : ℕ = length o.names.classes in
      record {
        thing_name = keeps_push o.names.classes iri 0 owl_thing whole.thing_name;
        nothing_name = keeps_push o.names.classes iri 1 owl_nothing whole.nothing_name;
        thing_node = keeps_push o.nodes (Class n) 0 (Class 0) whole.thing_node;
        nothing_node = keeps_push o.nodes (Class n) 1 (Class 1) whole.nothing_node;
        class_nodes = λ c l. class_place c (cases_eq c n) l;
        distinct_classes = AreDistinct-push o.names.classes iri whole.distinct_classes new;
        distinct_properties = whole.distinct_properties;
        distinct_individuals = whole.distinct_individuals;
        distinct_nodes = AreDistinct-push o.nodes (Class n) whole.distinct_nodes new_class_node;
        nodes = λ e node g. elim (slice_get_push_cases o.nodes (Class n) e node g) [
          | inl h ↦ IsNodeOf-more o p (class_more iri) e node (whole.nodes e node h)
          | inr h ↦ last_node e node h.1
        ];
        axioms = All-weaker (IsAxiomOf o) (IsAxiomOf p) (IsAxiomOf-more o p (class_more iri)) o.axioms whole.axioms;
      }
    where
      class_place : (c : ℕ) → (c ≡ length o.names.classes) ⊎ (c ≡ length o.names.classes → ⊥) → c < length (o.names.classes ++ iri ∷ []) → (e : ℕ) × IsClassAt (with_class o iri) c e
      class_place c (inl is) l = (length o.nodes, slice_get_push o.nodes (Class (length o.names.classes)) ∙ ap (λ m. Some (Class m)) (sym is))
      class_place c (inr apart) l =
          let (e, at) = whole.class_nodes c (omega (arith, length_push o.names.classes iri)) in
          (e, keeps_push o.nodes (Class (length o.names.classes)) e (Class c) at)

      last_node : (e : ℕ) (node : Node) → Class (length o.names.classes) ≡ node → IsNodeOf (with_class o iri) e node
      last_node e node is = subst (IsNodeOf (with_class o iri) e) is (omega (arith, length_push o.names.classes iri))

  -- a property, an individual or a node, by what a declaration or an addition says
  pub grown_property : (iri : Iri) (properties : List Iri) (n : ℕ) → Numbers o.names.properties iri properties n → IsOntology (record o { names = record o.names { properties = properties } })
  grown_property iri properties n (inl (at, same)) = subst (λ ps. IsOntology (record o { names = record o.names { properties = ps } })) (sym same) whole
  grown_property iri properties n (inr (new, at, longer)) = subst (λ ps. IsOntology (record o { names = record o.names { properties = ps } })) (sym longer) (with_property iri new)

  pub grown_individual : (iri : Iri) (individuals : List Iri) (n : ℕ) → Numbers o.names.individuals iri individuals n → IsOntology (record o { names = record o.names { individuals = individuals } })
  grown_individual iri individuals n (inl (at, same)) = subst (λ xs. IsOntology (record o { names = record o.names { individuals = xs } })) (sym same) whole
  grown_individual iri individuals n (inr (new, at, longer)) = subst (λ xs. IsOntology (record o { names = record o.names { individuals = xs } })) (sym longer) (with_individual iri new)

  pub grown_node : (node : Node) → IsNodeOf o (length o.nodes) node → (nodes : List Node) (n : ℕ) → Numbers o.nodes node nodes n → IsOntology (record o { nodes = nodes })
  grown_node node fits nodes n (inl (at, same)) = subst (λ ns. IsOntology (record o { nodes = ns })) (sym same) whole
  grown_node node fits nodes n (inr (new, at, longer)) = subst (λ ns. IsOntology (record o { nodes = ns })) (sym longer) (with_node node fits new)

-- what stands at each place still does
pub keeps_numbers : {X : Type 0} (old : List X) (x : X) (new : List X) (n : ℕ) → Numbers old x new n → Keeps old new
keeps_numbers old x new n (inl (at, same)) k y g = subst (λ ys. slice_get ys k ≡ Some y) (sym same) g
keeps_numbers old x new n (inr (apart, at, longer)) k y g = subst (λ ys. slice_get ys k ≡ Some y) (sym longer) (keeps_push old x k y g)
