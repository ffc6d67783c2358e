-- What is stated, with the known axioms alone.
use Rattle.std.proofs.Common.{◌≡◌, ◌↔◌, ℕ, ◌-◌, List, [], ◌∷◌, ◌++◌, All, drop, length, map, take, refl, sym, ap, ◌∙◌, subst, arith}
use Rattle.std.proofs.Math.Seq.{drop-append_seam, take-append_seam}
use Rattle.std.proofs.lemmas.List.{append_cancel_left, drop-map, length-drop, map-append, take_all}
use Rattle.std.proofs.lemmas.List.Elements.{All-map}
use Rattle.axioms.proofs.Growing.{IsAxiomOf-more, IsNodeOf-more}
use Rattle.axioms.proofs.Keeping.{same_ontology}
use Rattle.axioms.specs.Axiom as tree
use Rattle.axioms.specs.Expression.{ClassExpression}
use Rattle.axioms.specs.Fronts.{Extends, front_of, lengths_of}
use Rattle.axioms.specs.Ontology.{Ontology, Axiom, Names, Node, SubClass, axiom_tree, axiom_trees, tree_of, trees, trees_from}
use Rattle.axioms.specs.WellFormedness.{IsAxiomOf, IsOntology}
use Rattle.entailment.proofs.Moving.{all_front, all_back}
use Rattle.entailment.specs.Entailment.{Entails, Follows}
use Rattle.entailment.specs.Testers.{with_axioms_of}
use Rattle.lemmas.proofs.Mapped.{All-from_map}
use Rattle.lemmas.proofs.Places.{Keeps, keeps_push}
use Rattle.normalise.specs.Roots.{KeepsNames}
use Rattle.profile.proofs.Trees.{KeepsAll, axioms_kept, keeps_append, trees_kept}

-- ---- what stands behind

-- of a list that begins with another, what is behind that, by elements that are mapped to it
pub behind_is : {X Y : Type 0} (f : X → Y) (known stated rest : List Y) (xs : List X) (n : ℕ) → map f xs ≡ stated → stated ≡ known ++ rest → n ≡ length known → map f (take (length xs - n) (drop n xs)) ≡ rest
behind_is f known stated rest xs n are is count =
    let all : take (length xs - n) (drop n xs) ≡ drop n xs = take_all (length xs - n) (drop n xs) (omega (arith, length-drop n xs)) in
    ap (map f) all ∙ sym (drop-map f n xs) ∙ ap (drop n) (are ∙ is) ∙ ap (λ k. drop k (known ++ rest)) count ∙ drop-append_seam known rest

-- ---- trees of more nodes

trees_behind : (names : Names) (ts : List ClassExpression) (xs ys : List Node) → trees_from names ts (xs ++ ys) ≡ trees_from names (trees_from names ts xs) ys
trees_behind names ts [] ys = refl
trees_behind names ts (x ∷ xs) ys = trees_behind names (ts ++ tree_of names ts x ∷ []) xs ys

trees_longer : (names : Names) (ts : List ClassExpression) (ys : List Node) → Keeps ts (trees_from names ts ys)
trees_longer names ts [] = λ n x at. at
trees_longer names ts (y ∷ ys) = λ n x at. trees_longer names (ts ++ tree_of names ts y ∷ []) ys n x (keeps_push ts (tree_of names ts y) n x at)

-- ---- the known axioms alone

module _ (known stated : Ontology) (more : Extends known stated) (w : IsOntology known) (whole : IsOntology stated) where
  abbrev about : Ontology
  about = with_axioms_of known stated

  abbrev rest : List Axiom
  rest = more.axioms.0

  pub front : front_of (record (lengths_of stated) { axioms = length known.axioms }) stated ≡ about
  front =
      same_ontology _ about
      (take_all (length stated.names.classes) stated.names.classes (omega arith))
      (take_all (length stated.names.properties) stated.names.properties (omega arith))
      (take_all (length stated.names.individuals) stated.names.individuals (omega arith))
      (take_all (length stated.nodes) stated.nodes (omega arith))
      (ap (take (length known.axioms)) more.axioms.1 ∙ take-append_seam known.axioms rest)

  pub about_whole : IsOntology about
  about_whole = record {
    thing_name = whole.thing_name;
    nothing_name = whole.nothing_name;
    thing_node = whole.thing_node;
    nothing_node = whole.nothing_node;
    class_nodes = whole.class_nodes;
    distinct_classes = whole.distinct_classes;
    distinct_properties = whole.distinct_properties;
    distinct_individuals = whole.distinct_individuals;
    distinct_nodes = whole.distinct_nodes;
    nodes = λ e node at. IsNodeOf-more stated about (record { classes = omega arith; properties = omega arith; individuals = omega arith; nodes = omega arith }) e node (whole.nodes e node at);
    axioms = all_front (IsAxiomOf about) known.axioms rest all_there;
  }
    where
      all_there : All (IsAxiomOf about) (known.axioms ++ rest)
      all_there = λ k d l. IsAxiomOf-more stated about (record { classes = omega arith; properties = omega arith; individuals = omega arith; nodes = omega arith }) _ (subst (All (IsAxiomOf stated)) more.axioms.1 whole.axioms k d l)

  -- what is stated more is there
  pub rest_there : All (IsAxiomOf about) rest
  rest_there =
      let there : All (IsAxiomOf stated) (known.axioms ++ rest) = subst (All (IsAxiomOf stated)) more.axioms.1 whole.axioms in
      λ k d l. IsAxiomOf-more stated about (record { classes = omega arith; properties = omega arith; individuals = omega arith; nodes = omega arith }) _ (all_back (IsAxiomOf stated) known.axioms rest there k d l)

  pub keeps_names : KeepsNames known about
  keeps_names = record {
    classes = keeps_append known.names.classes stated.names.classes more.classes.0 more.classes.1;
    individuals = keeps_append known.names.individuals stated.names.individuals more.individuals.0 more.individuals.1;
  }

  keeps_properties : Keeps known.names.properties stated.names.properties
  keeps_properties = keeps_append known.names.properties stated.names.properties more.properties.0 more.properties.1

  keeps_all : KeepsAll known about
  keeps_all =
      let same = trees_kept known w stated.names (record { classes = keeps_names.classes; properties = keeps_properties }) in
      let longer : Keeps (trees_from stated.names [] known.nodes) (trees_from stated.names [] (known.nodes ++ more.nodes.0)) =
      subst (Keeps (trees_from stated.names [] known.nodes)) (sym (trees_behind stated.names [] known.nodes more.nodes.0)) (trees_longer stated.names (trees_from stated.names [] known.nodes) more.nodes.0) in
      record {
        kept_trees = subst (λ ts. Keeps ts (trees about)) same (subst (λ nodes. Keeps (trees_from stated.names [] known.nodes) (trees_from stated.names [] nodes)) (sym more.nodes.1) longer);
        kept_properties = keeps_properties;
        kept_individuals = keeps_names.individuals;
      }

  -- the known axioms say the same there
  pub same_axioms : axiom_trees about ≡ axiom_trees known
  same_axioms = axioms_kept known about w keeps_all

  same_tree : (a : Axiom) → axiom_tree about a ≡ axiom_tree stated a
  same_tree (SubClass c d) = refl
  same_tree _ = refl

  same_trees : (axioms : List Axiom) → map (axiom_tree about) axioms ≡ map (axiom_tree stated) axioms
  same_trees [] = refl
  same_trees (a ∷ axioms) = ap (λ t. t ∷ map (axiom_tree about) axioms) (same_tree a) ∙ ap (λ ts. axiom_tree stated a ∷ ts) (same_trees axioms)

  -- what is stated says first what is known
  stated_trees : axiom_trees stated ≡ axiom_trees known ++ map (axiom_tree about) rest
  stated_trees =
      ap (map (axiom_tree stated)) more.axioms.1
      ∙ sym (same_trees (known.axioms ++ rest))
      ∙ map-append (axiom_tree about) known.axioms rest
      ∙ ap (λ ts. ts ++ map (axiom_tree about) rest) same_axioms

  -- and behind that the others
  pub others_are : (others : List tree.Axiom) → axiom_trees stated ≡ axiom_trees known ++ others → map (axiom_tree about) rest ≡ others
  others_are others is = append_cancel_left (axiom_trees known) (map (axiom_tree about) rest) others (sym stated_trees ∙ is)

  pub entailed : (others : List tree.Axiom) → axiom_trees stated ≡ axiom_trees known ++ others
      → All (λ a. Follows (axiom_trees about) (axiom_tree about a)) rest ↔ Entails (axiom_trees known) others
  entailed others is =
      let P : List tree.Axiom → List tree.Axiom → Type 0 = λ axioms others. All (λ a. Follows (axiom_trees about) (axiom_tree about a)) rest ↔ Entails axioms others in
      let here : P (axiom_trees about) (map (axiom_tree about) rest) = (
        λ h. All-map (Follows (axiom_trees about)) (axiom_tree about) rest h,
        λ h. All-from_map (Follows (axiom_trees about)) (axiom_tree about) rest h,
      ) in
      subst (P (axiom_trees known)) (others_are others is) (subst (λ axioms. P axioms (map (axiom_tree about) rest)) same_axioms here)
