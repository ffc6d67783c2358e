-- Statements determine the ontology that is kept for them.
use Rattle.std.proofs.Common.{◌≡◌, ℕ, zero, suc, ◌<◌, ◌≤◌, List, [], ◌∷◌, length, map, slice_get, Some, All, refl, sym, ap, ap₂, ◌∙◌, subst, arith}
use Rattle.std.specs.Option.{unwrap_or}
use Rattle.std.specs.List.{filter_map}
use Rattle.std.proofs.lemmas.Option.{slice_get_within}
use Rattle.std.proofs.lemmas.List.{length-map}
use Rattle.std.proofs.lemmas.List.Elements.{All-head, All-tail, All-weaker}
use Rattle.lemmas.proofs.Places.{slice_get_there}
use Rattle.axioms.specs.Expression.{Iri, ClassExpression, Operands, Named, Intersection, SomeValues, operand_list}
use Rattle.axioms.specs.Ontology.{Ontology, Names, Axiom, Node, Class, And, Exists, SubClass, EquivalentClasses, DisjointClasses, SubProperty, EquivalentProperties, Domain, Transitive, Reflexive, ClassAssertion, PropertyAssertion, SameIndividuals, DifferentIndividuals, NegativePropertyAssertion, name_at, tree_at, tree_of, trees, intersection, operands_of, expression, property_name, individual_name, axiom_tree, axiom_trees}
use Rattle.axioms.specs.Numbering.{class_name}
use Rattle.axioms.specs.Theorems.{StatementsDetermineOntology}
use Rattle.axioms.specs.WellFormedness.{AreDistinct, IsNodeOf, IsAxiomOf, IsOntology}
use Rattle.axioms.proofs.Keeping.{same_ontology}
use Rattle.axioms.proofs.Trees.{node_tree, length_trees}

-- below a bound, a number is determined by what it stands for
abbrev Determined : {X : Type 0} → (ℕ → X) → ℕ → Type 0
Determined f n = (a b : ℕ) → a < n → b < n → f a ≡ f b → a ≡ b

-- where numbers below a bound are determined by what they stand for, so is a list of them
same_numbers : {X : Type 0} (f : ℕ → X) (n : ℕ) → Determined f n → (xs ys : List ℕ) → All (λ x. x < n) xs → All (λ x. x < n) ys → map f xs ≡ map f ys → xs ≡ ys
same_numbers f n one [] [] h k e = refl
same_numbers f n one [] (y ∷ ys) h k e = cc
same_numbers f n one (x ∷ xs) [] h k e = cc
same_numbers f n one (x ∷ xs) (y ∷ ys) h k e =
    let P : ℕ → Type 0 = λ x. x < n in
    let first : f x ≡ f y = cc in
    let rest : map f xs ≡ map f ys = cc in
    ap₂ (λ a as'. a ∷ as') (one x y (All-head P x xs h) (All-head P y ys k) first) (same_numbers f n one xs ys (All-tail P x xs h) (All-tail P y ys k) rest)

name_determined : (names : List Iri) → AreDistinct names → Determined (name_at names) (length names)
name_determined names distinct m n l k e =
    let (x, gx) = slice_get_there names m l in
    let (y, gy) = slice_get_there names n k in
    let same : x ≡ y = sym (ap (λ o. unwrap_or o []) gx) ∙ e ∙ ap (λ o. unwrap_or o []) gy in
    distinct m n x gx (gy ∙ ap Some (sym same))

-- ---- an intersection has the operands that it was made of

operands_are : (c d : ClassExpression) (es : List ClassExpression) → operand_list (operands_of c d es) ≡ c ∷ d ∷ es
operands_are c d [] = refl
operands_are c d (e ∷ es) = ap (λ xs. c ∷ xs) (operands_are d e es)

record IsOf (cs : List ClassExpression) : Type 0 where
  operands : Operands
  whole : intersection cs ≡ Intersection operands
  list : operand_list operands ≡ cs

intersection_of : (cs : List ClassExpression) → 2 ≤ length cs → IsOf cs
intersection_of [] many = absurd (omega arith)
intersection_of (c ∷ []) many = absurd (omega arith)
intersection_of (c ∷ d ∷ ds) many = record { operands = operands_of c d ds; whole = refl; list = operands_are c d ds }

same_operands_from : (as' bs : Operands) → Intersection as' ≡ Intersection bs → as' ≡ bs
same_operands_from as' bs e = cc

-- ---- a node is determined by its tree, where the numbers of its parts are

abbrev Fits : Names → ℕ → Node → Type 0
Fits names n (Class c) = c < length names.classes
Fits names n (And ds) = (2 ≤ length ds) × All (λ d. d < n) ds
Fits names n (Exists r c) = (r < length names.properties) × (c < n)

module _ (names : Names) (classes : AreDistinct names.classes) (properties : AreDistinct names.properties) (ts : List ClassExpression) (n : ℕ) (one : Determined (tree_at ts) n) where
  of_and : (ds : List ℕ) → Fits names n (And ds) → IsOf (map (tree_at ts) ds)
  of_and ds fits = intersection_of (map (tree_at ts) ds) (omega (arith, length-map ds (tree_at ts), fits.0))

  same_node : (a b : Node) → Fits names n a → Fits names n b → tree_of names ts a ≡ tree_of names ts b → a ≡ b
  same_node (Class c) (Class d) f g e =
      let name : name_at names.classes c ≡ name_at names.classes d = cc in
      ap Class (name_determined names.classes classes c d f g name)
  same_node (Class c) (And ds) f g e = let h : Named (name_at names.classes c) ≡ Intersection (of_and ds g).operands = e ∙ (of_and ds g).whole in cc h
  same_node (Class c) (Exists s d) f g e = cc
  same_node (And ds) (Class d) f g e = let h : Intersection (of_and ds f).operands ≡ Named (name_at names.classes d) = sym (of_and ds f).whole ∙ e in cc h
  same_node (And ds) (And es) f g e =
      let h : Intersection (of_and ds f).operands ≡ Intersection (of_and es g).operands = sym (of_and ds f).whole ∙ e ∙ (of_and es g).whole in
      let lists : map (tree_at ts) ds ≡ map (tree_at ts) es = sym (of_and ds f).list ∙ ap operand_list (same_operands_from _ _ h) ∙ (of_and es g).list in
      ap And (same_numbers (tree_at ts) n one ds es f.1 g.1 lists)
  same_node (And ds) (Exists s d) f g e =
      let h : Intersection (of_and ds f).operands ≡ SomeValues (name_at names.properties s) (tree_at ts d) = sym (of_and ds f).whole ∙ e in cc h
  same_node (Exists r c) (Class d) f g e = cc
  same_node (Exists r c) (And ds) f g e =
      let h : SomeValues (name_at names.properties r) (tree_at ts c) ≡ Intersection (of_and ds g).operands = e ∙ (of_and ds g).whole in cc h
  same_node (Exists r c) (Exists s d) f g e =
      let property : name_at names.properties r ≡ name_at names.properties s = cc in
      let filler : tree_at ts c ≡ tree_at ts d = cc in
      ap₂ Exists (name_determined names.properties properties r s f.0 g.0 property) (one c d f.1 g.1 filler)

fits_from : (o : Ontology) (n e : ℕ) (node : Node) → e ≤ n → IsNodeOf o e node → Fits o.names n node
fits_from o n e (Class c) l h = h
fits_from o n e (And ds) l h = (h.many, All-weaker (λ d. d < e) (λ d. d < n) (λ d k. omega arith) ds h.within)
fits_from o n e (Exists r c) l h = (h.0, omega (arith, h.1))

-- an expression is one number
expression_below : (o : Ontology) → IsOntology o → (n : ℕ) → n ≤ length o.nodes → Determined (expression o) n
expression_below o whole zero within d e l k same = absurd (omega arith)
expression_below o whole (suc n) within d e l k same =
    let (a, ga) = slice_get_there o.nodes d (omega arith) in
    let (b, gb) = slice_get_there o.nodes e (omega arith) in
    let one : Determined (expression o) n = expression_below o whole n (omega arith) in
    let is : tree_of o.names (trees o) a ≡ tree_of o.names (trees o) b = sym (node_tree o whole d a ga) ∙ same ∙ node_tree o whole e b gb in
    let node : a ≡ b = same_node o.names whole.distinct_classes whole.distinct_properties (trees o) n one a b
    (fits_from o n d a (omega arith) (whole.nodes d a ga)) (fits_from o n e b (omega arith) (whole.nodes e b gb)) is in
    whole.distinct_nodes d e a ga (gb ∙ ap Some (sym node))

pub expression_determined : (o : Ontology) → IsOntology o → Determined (expression o) (length o.nodes)
expression_determined o whole = expression_below o whole (length o.nodes) (omega arith)

-- ---- the nodes of two ontologies with the same names and trees

same_by_place : {X : Type 0} (xs ys : List X) → length xs ≡ length ys → ((n : ℕ) (x y : X) → slice_get xs n ≡ Some x → slice_get ys n ≡ Some y → x ≡ y) → xs ≡ ys
same_by_place [] [] l h = refl
same_by_place [] (y ∷ ys) l h = absurd (omega arith)
same_by_place (x ∷ xs) [] l h = absurd (omega arith)
same_by_place (x ∷ xs) (y ∷ ys) l h = ap₂ (λ a as'. a ∷ as') (h zero x y refl refl) (same_by_place xs ys (omega arith) (λ n. h (suc n)))

same_nodes : (o p : Ontology) → IsOntology o → IsOntology p → o.names ≡ p.names → trees o ≡ trees p → o.nodes ≡ p.nodes
same_nodes o p w v names-same trees-same = same_by_place o.nodes p.nodes long at
  where
    long : length o.nodes ≡ length p.nodes
    long = sym (length_trees o) ∙ ap length trees-same ∙ length_trees p

    at : (n : ℕ) (x y : Node) → slice_get o.nodes n ≡ Some x → slice_get p.nodes n ≡ Some y → x ≡ y
    at n x y gx gy =
        let of-y : tree_of p.names (trees p) y ≡ tree_of o.names (trees o) y = ap₂ (λ ns ts. tree_of ns ts y) (sym names-same) (sym trees-same) in
        let is : tree_of o.names (trees o) x ≡ tree_of o.names (trees o) y = sym (node_tree o w n x gx) ∙ ap (λ ts. tree_at ts n) trees-same ∙ node_tree p v n y gy ∙ of-y in
        let one : Determined (expression o) n = λ a b l k. expression_determined o w a b (inside n x gx a l) (inside n x gx b k) in
        let fits : Fits o.names n y = subst (λ ns. Fits ns n y) (sym names-same) (fits_from p n n y (omega arith) (v.nodes n y gy)) in
        same_node o.names w.distinct_classes w.distinct_properties (trees o) n one x y (fits_from o n n x (omega arith) (w.nodes n x gx)) fits is
      where
        inside : (n : ℕ) (x : Node) → slice_get o.nodes n ≡ Some x → (a : ℕ) → a < n → a < length o.nodes
        inside n x g a l = omega (arith, slice_get_within o.nodes n x g)

-- ---- an axiom is determined by what it says

module _ (o : Ontology) (whole : IsOntology o) where
  class' : Determined (expression o) (length o.nodes)
  class' = expression_determined o whole

  property' : Determined (property_name o) (length o.names.properties)
  property' = name_determined o.names.properties whole.distinct_properties

  individual' : Determined (individual_name o) (length o.names.individuals)
  individual' = name_determined o.names.individuals whole.distinct_individuals

  same_axiom : (a b : Axiom) → IsAxiomOf o a → IsAxiomOf o b → axiom_tree o a ≡ axiom_tree o b → a ≡ b
  same_axiom (SubClass c d) (SubClass c' d') f g e =
      let h : expression o c ≡ expression o c' = cc in
      let k : expression o d ≡ expression o d' = cc in
      ap₂ SubClass (class' c c' f.0 g.0 h) (class' d d' f.1 g.1 k)
  same_axiom (EquivalentClasses cs) (EquivalentClasses ds) f g e =
      let h : map (expression o) cs ≡ map (expression o) ds = cc in
      ap EquivalentClasses (same_numbers (expression o) (length o.nodes) class' cs ds f.within g.within h)
  same_axiom (DisjointClasses cs) (DisjointClasses ds) f g e =
      let h : map (expression o) cs ≡ map (expression o) ds = cc in
      ap DisjointClasses (same_numbers (expression o) (length o.nodes) class' cs ds f.within g.within h)
  same_axiom (SubProperty rs s) (SubProperty rs' s') f g e =
      let h : map (property_name o) rs ≡ map (property_name o) rs' = cc in
      let k : property_name o s ≡ property_name o s' = cc in
      ap₂ SubProperty (same_numbers (property_name o) (length o.names.properties) property' rs rs' f.1 g.1 h) (property' s s' f.2 g.2 k)
  same_axiom (EquivalentProperties rs) (EquivalentProperties ss) f g e =
      let h : map (property_name o) rs ≡ map (property_name o) ss = cc in
      ap EquivalentProperties (same_numbers (property_name o) (length o.names.properties) property' rs ss f.within g.within h)
  same_axiom (Domain r c) (Domain s d) f g e =
      let h : property_name o r ≡ property_name o s = cc in
      let k : expression o c ≡ expression o d = cc in
      ap₂ Domain (property' r s f.0 g.0 h) (class' c d f.1 g.1 k)
  same_axiom (Transitive r) (Transitive s) f g e = let h : property_name o r ≡ property_name o s = cc in ap Transitive (property' r s f g h)
  same_axiom (Reflexive r) (Reflexive s) f g e = let h : property_name o r ≡ property_name o s = cc in ap Reflexive (property' r s f g h)
  same_axiom (ClassAssertion c a) (ClassAssertion d b) f g e =
      let h : expression o c ≡ expression o d = cc in
      let k : individual_name o a ≡ individual_name o b = cc in
      ap₂ ClassAssertion (class' c d f.0 g.0 h) (individual' a b f.1 g.1 k)
  same_axiom (PropertyAssertion r a b) (PropertyAssertion s c d) f g e =
      let h : property_name o r ≡ property_name o s = cc in
      let k : individual_name o a ≡ individual_name o c = cc in
      let l : individual_name o b ≡ individual_name o d = cc in
      ap₂ (λ q x. PropertyAssertion q x b) (property' r s f.0 g.0 h) (individual' a c f.1 g.1 k) ∙ ap (λ x. PropertyAssertion s c x) (individual' b d f.2 g.2 l)
  same_axiom (SameIndividuals xs) (SameIndividuals ys) f g e =
      let h : map (individual_name o) xs ≡ map (individual_name o) ys = cc in
      ap SameIndividuals (same_numbers (individual_name o) (length o.names.individuals) individual' xs ys f.within g.within h)
  same_axiom (DifferentIndividuals xs) (DifferentIndividuals ys) f g e =
      let h : map (individual_name o) xs ≡ map (individual_name o) ys = cc in
      ap DifferentIndividuals (same_numbers (individual_name o) (length o.names.individuals) individual' xs ys f.within g.within h)
  same_axiom (NegativePropertyAssertion r a b) (NegativePropertyAssertion s c d) f g e =
      let h : property_name o r ≡ property_name o s = cc in
      let k : individual_name o a ≡ individual_name o c = cc in
      let l : individual_name o b ≡ individual_name o d = cc in
      ap₂ (λ q x. NegativePropertyAssertion q x b) (property' r s f.0 g.0 h) (individual' a c f.1 g.1 k) ∙ ap (λ x. NegativePropertyAssertion s c x) (individual' b d f.2 g.2 l)
  same_axiom _ _ f g e = cc

  same_axioms : (as' bs : List Axiom) → All (IsAxiomOf o) as' → All (IsAxiomOf o) bs → map (axiom_tree o) as' ≡ map (axiom_tree o) bs → as' ≡ bs
  same_axioms [] [] h k e = refl
  same_axioms [] (b ∷ bs) h k e = cc
  same_axioms (a ∷ as') [] h k e = cc
  same_axioms (a ∷ as') (b ∷ bs) h k e =
      let P = IsAxiomOf o in
      let first : axiom_tree o a ≡ axiom_tree o b = cc in
      let rest : map (axiom_tree o) as' ≡ map (axiom_tree o) bs = cc in
      ap₂ (λ x xs. x ∷ xs) (same_axiom a b (All-head P a as' h) (All-head P b bs k) first) (same_axioms as' bs (All-tail P a as' h) (All-tail P b bs k) rest)

-- ---- an ontology is determined by its statements

by_axioms : (o : Ontology) → IsOntology o → (axioms : List Axiom) → IsOntology (record o { axioms = axioms }) → axiom_trees o ≡ axiom_trees (record o { axioms = axioms }) → o.axioms ≡ axioms
by_axioms o whole axioms other same = same_axioms o whole o.axioms axioms whole.axioms other.axioms same

pub statements_determine : StatementsDetermineOntology
statements_determine statements o p w v s t =
    let trees-same : trees o ≡ trees p = s.expressions ∙ sym t.expressions in
    let classes-same : o.names.classes ≡ p.names.classes = s.classes ∙ ap (filter_map class_name) trees-same ∙ sym t.classes in
    let names-same : o.names ≡ p.names = names_from classes-same (s.properties ∙ sym t.properties) (s.individuals ∙ sym t.individuals) in
    let nodes-same : o.nodes ≡ p.nodes = same_nodes o p w v names-same trees-same in
    let q : Ontology = record o { axioms = p.axioms } in
    let is : p ≡ q = same_ontology p q (sym classes-same) (ap (λ ns. ns.properties) (sym names-same)) (ap (λ ns. ns.individuals) (sym names-same)) (sym nodes-same) refl in
    let axioms-same : o.axioms ≡ p.axioms = by_axioms o w p.axioms (subst IsOntology is v) (s.axioms ∙ sym t.axioms ∙ ap axiom_trees is) in
    same_ontology o q refl refl refl refl axioms-same ∙ sym is
  where
    names_from : {cs cs' ps ps' is is' : List Iri} → cs ≡ cs' → ps ≡ ps' → is ≡ is'
        → ◌≡◌ {A = Names} (record { classes = cs; properties = ps; individuals = is }) (record { classes = cs'; properties = ps'; individuals = is' })
    names_from e f g = rw (e, f, g)
