-- The expressions of an ontology that grows.
use Rattle.std.proofs.Common.{◌≡◌, ℕ, zero, suc, ◌<◌, List, [], ◌∷◌, ◌++◌, length, slice_get, Some, All, map, refl, sym, ap, ap₂, ◌∙◌, subst, arith}
use Rattle.std.specs.Option.{unwrap_or}
use Rattle.std.proofs.lemmas.Option.{none-some, slice_get_within}
use Rattle.std.proofs.lemmas.List.Elements.{All-head, All-tail}
use Rattle.axioms.proofs.Trees.{length_trees}
use Rattle.lemmas.proofs.Places.{slice_get_there, Keeps}
use Rattle.axioms.specs.Axiom as tree
use Rattle.axioms.specs.Expression.{Iri, ClassExpression, Named, SomeValues}
use Rattle.axioms.specs.Ontology.{Ontology, Names, Axiom, Node, Class, And, Exists, SubClass, EquivalentClasses, DisjointClasses, SubProperty, EquivalentProperties, Domain, Transitive, Reflexive, ClassAssertion, PropertyAssertion, SameIndividuals, DifferentIndividuals, NegativePropertyAssertion, name_at, tree_at, tree_of, trees_from, trees, expression, expressions, property_name, individual_name, axiom_tree, axiom_trees}
use Rattle.axioms.specs.WellFormedness.{AreDistinct, IsNodeOf, IsAxiomOf, IsOntology}
use Rattle.axioms.proofs.Unique.{expression_determined}

-- the node speaks of names that are there
abbrev pub HasNames : Names → Node → Type 0
HasNames names (Class c) = c < length names.classes
HasNames names (And ds) = Unit {0}
HasNames names (Exists r c) = r < length names.properties

-- what has a number keeps it
pub record KeepsNames (old new : Names) : Type 0 where
  pub classes : Keeps old.classes new.classes
  pub properties : Keeps old.properties new.properties

same_name : (old new : List Iri) → Keeps old new → (n : ℕ) → n < length old → name_at new n ≡ name_at old n
same_name old new keeps n within =
    let (x, at) = slice_get_there old n within in
    ap (λ o. unwrap_or o []) (keeps n x at) ∙ sym (ap (λ o. unwrap_or o []) at)

same_tree_of : (old new : Names) → KeepsNames old new → (ts : List ClassExpression) (node : Node) → HasNames old node → tree_of new ts node ≡ tree_of old ts node
same_tree_of old new keeps ts (Class c) has = ap Named (same_name old.classes new.classes keeps.classes c has)
same_tree_of old new keeps ts (And ds) has = refl
same_tree_of old new keeps ts (Exists r c) has = ap (λ p. SomeValues p (tree_at ts c)) (same_name old.properties new.properties keeps.properties r has)

same_trees_from : (old new : Names) → KeepsNames old new → (ts : List ClassExpression) (nodes : List Node) → ((e : ℕ) (node : Node) → slice_get nodes e ≡ Some node → HasNames old node) →
    trees_from new ts nodes ≡ trees_from old ts nodes
same_trees_from old new keeps ts [] has = refl
same_trees_from old new keeps ts (node ∷ nodes) has =
    ap (λ t. trees_from new (ts ++ t ∷ []) nodes) (same_tree_of old new keeps ts node (has zero node refl))
    ∙ same_trees_from old new keeps (ts ++ tree_of old ts node ∷ []) nodes (λ e n g. has (suc e) n g)

pub trees_push : (names : Names) (ts : List ClassExpression) (nodes : List Node) (node : Node) →
    trees_from names ts (nodes ++ node ∷ []) ≡ trees_from names ts nodes ++ tree_of names (trees_from names ts nodes) node ∷ []
trees_push names ts [] node = refl
trees_push names ts (m ∷ nodes) node = trees_push names (ts ++ tree_of names ts m ∷ []) nodes node

has_names : (o : Ontology) (e : ℕ) (node : Node) → IsNodeOf o e node → HasNames o.names node
has_names o e (Class c) h = h
has_names o e (And ds) h = tt
has_names o e (Exists r c) h = h.0

module _ (o : Ontology) (whole : IsOntology o) where
  -- more names change no expression
  pub trees_kept : (new : Names) → KeepsNames o.names new → trees_from new [] o.nodes ≡ trees o
  trees_kept new keeps = same_trees_from o.names new keeps [] o.nodes (λ e node g. has_names o e node (whole.nodes e node g))

  -- a node at the end is an expression at the end
  pub trees_pushed : (new : Names) → KeepsNames o.names new → (node : Node) → trees_from new [] (o.nodes ++ node ∷ []) ≡ trees o ++ tree_of new (trees o) node ∷ []
  trees_pushed new keeps node =
      trees_push new [] o.nodes node ∙ ap (λ ts. ts ++ tree_of new ts node ∷ []) (trees_kept new keeps)

  expression_at : (n : ℕ) (x : ClassExpression) → slice_get (trees o) n ≡ Some x → expression o n ≡ x
  expression_at n x g = ap (λ t. unwrap_or t (Named [])) g

  -- no expression stands twice
  pub distinct_trees : AreDistinct (trees o)
  distinct_trees m n x g h =
      expression_determined o whole m n
      (omega (arith, length_trees o, slice_get_within (trees o) m x g))
      (omega (arith, length_trees o, slice_get_within (trees o) n x h))
      (expression_at m x g ∙ sym (expression_at n x h))

  pub tree_there : (e : ℕ) → e < length o.nodes → slice_get (trees o) e ≡ Some (expression o e)
  tree_there e within =
      let (x, at) = slice_get_there (trees o) e (omega (arith, length_trees o)) in
      at ∙ ap Some (sym (expression_at e x at))

-- ---- what was there, in more

pub keeps_append : {A : Type 0} (xs ys rest : List A) → ys ≡ xs ++ rest → Keeps xs ys
keeps_append xs ys rest is n x g = ap (λ zs. slice_get zs n) is ∙ left xs rest n x g
  where
    left : {A : Type 0} (xs rest : List A) (n : ℕ) (x : A) → slice_get xs n ≡ Some x → slice_get (xs ++ rest) n ≡ Some x
    left [] rest n x g = absurd (none-some x g)
    left (y ∷ xs) rest zero x g = g
    left (y ∷ xs) rest (suc n) x g = left xs rest n x g

pub same_at : {A : Type 0} (xs ys : List A) → Keeps xs ys → (d : A) (n : ℕ) → n < length xs → unwrap_or (slice_get ys n) d ≡ unwrap_or (slice_get xs n) d
same_at xs ys keeps d n within =
    let (x, at) = slice_get_there xs n within in
    ap (λ o. unwrap_or o d) (keeps n x at) ∙ sym (ap (λ o. unwrap_or o d) at)

pub same_at_each : {A : Type 0} (xs ys : List A) → Keeps xs ys → (d : A) (ns : List ℕ) → All (λ n. n < length xs) ns → map (λ n. unwrap_or (slice_get ys n) d) ns ≡ map (λ n. unwrap_or (slice_get xs n) d) ns
same_at_each xs ys keeps d [] within = refl
same_at_each xs ys keeps d (n ∷ ns) within =
    let P : ℕ → Type 0 = λ n. n < length xs in
    ap₂ (λ a as'. a ∷ as') (same_at xs ys keeps d n (All-head P n ns within)) (same_at_each xs ys keeps d ns (All-tail P n ns within))

-- o's expressions and names have their numbers in p too
pub record KeepsAll (o p : Ontology) : Type 0 where
  pub kept_trees : Keeps (trees o) (trees p)
  pub kept_properties : Keeps o.names.properties p.names.properties
  pub kept_individuals : Keeps o.names.individuals p.names.individuals

module _ (o p : Ontology) (whole : IsOntology o) (keeps : KeepsAll o p) where
  expression_kept : (e : ℕ) → e < length o.nodes → expression p e ≡ expression o e
  expression_kept e within = same_at (trees o) (trees p) keeps.kept_trees (Named []) e (omega (arith, length_trees o))

  expressions_kept : (es : List ℕ) → All (λ e. e < length o.nodes) es → expressions p es ≡ expressions o es
  expressions_kept es within =
      let P : ℕ → Type 0 = λ n. All (λ e. e < n) es in
      same_at_each (trees o) (trees p) keeps.kept_trees (Named []) es (subst P (sym (length_trees o)) within)

  property_kept : (r : ℕ) → r < length o.names.properties → property_name p r ≡ property_name o r
  property_kept r within = same_at o.names.properties p.names.properties keeps.kept_properties [] r within

  properties_kept : (rs : List ℕ) → All (λ r. r < length o.names.properties) rs → map (property_name p) rs ≡ map (property_name o) rs
  properties_kept rs within = same_at_each o.names.properties p.names.properties keeps.kept_properties [] rs within

  individual_kept : (a : ℕ) → a < length o.names.individuals → individual_name p a ≡ individual_name o a
  individual_kept a within = same_at o.names.individuals p.names.individuals keeps.kept_individuals [] a within

  individuals_kept : (xs : List ℕ) → All (λ a. a < length o.names.individuals) xs → map (individual_name p) xs ≡ map (individual_name o) xs
  individuals_kept xs within = same_at_each o.names.individuals p.names.individuals keeps.kept_individuals [] xs within

  axiom_kept : (axiom' : Axiom) → IsAxiomOf o axiom' → axiom_tree p axiom' ≡ axiom_tree o axiom'
  axiom_kept (SubClass c d) h = ap₂ tree.SubClassOf (expression_kept c h.0) (expression_kept d h.1)
  axiom_kept (EquivalentClasses cs) h = ap tree.EquivalentClasses (expressions_kept cs h.within)
  axiom_kept (DisjointClasses cs) h = ap tree.DisjointClasses (expressions_kept cs h.within)
  axiom_kept (SubProperty chain s) h = ap₂ tree.SubPropertyOf (properties_kept chain h.1) (property_kept s h.2)
  axiom_kept (EquivalentProperties rs) h = ap tree.EquivalentProperties (properties_kept rs h.within)
  axiom_kept (Domain r c) h = ap₂ tree.PropertyDomain (property_kept r h.0) (expression_kept c h.1)
  axiom_kept (Transitive r) h = ap tree.TransitiveProperty (property_kept r h)
  axiom_kept (Reflexive r) h = ap tree.ReflexiveProperty (property_kept r h)
  axiom_kept (ClassAssertion c a) h = ap₂ tree.ClassAssertion (expression_kept c h.0) (individual_kept a h.1)
  axiom_kept (PropertyAssertion r a b) h =
      ap₂ (λ x y. tree.PropertyAssertion x y (individual_name p b)) (property_kept r h.0) (individual_kept a h.1)
      ∙ ap (tree.PropertyAssertion (property_name o r) (individual_name o a)) (individual_kept b h.2)
  axiom_kept (SameIndividuals xs) h = ap tree.SameIndividuals (individuals_kept xs h.within)
  axiom_kept (DifferentIndividuals xs) h = ap tree.DifferentIndividuals (individuals_kept xs h.within)
  axiom_kept (NegativePropertyAssertion r a b) h =
      ap₂ (λ x y. tree.NegativePropertyAssertion x y (individual_name p b)) (property_kept r h.0) (individual_kept a h.1)
      ∙ ap (tree.NegativePropertyAssertion (property_name o r) (individual_name o a)) (individual_kept b h.2)

  axioms_kept_from : (axioms : List Axiom) → All (IsAxiomOf o) axioms → map (axiom_tree p) axioms ≡ map (axiom_tree o) axioms
  axioms_kept_from [] h = refl
  axioms_kept_from (a ∷ axioms) h = ap₂ (λ b bs. b ∷ bs) (axiom_kept a (All-head (IsAxiomOf o) a axioms h)) (axioms_kept_from axioms (All-tail (IsAxiomOf o) a axioms h))

  -- what the axioms say stays the same
  pub axioms_kept : map (axiom_tree p) o.axioms ≡ axiom_trees o
  axioms_kept = axioms_kept_from o.axioms whole.axioms
