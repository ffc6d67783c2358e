-- One name or expression more.
use Rattle.std.proofs.Common.{◌≡◌, ℕ, ◌<◌, ◌≤◌, inl, inr, List, [], ◌∷◌, ◌++◌, length, map, slice_get, Some, None, Ok, Err, Result, IfOk, Contains, refl, sym, ap, ap₂, ◌∙◌, subst, subst₂, arith, append_assoc}
use Rattle.std.specs.Option.{unwrap_or}
use Rattle.std.specs.Str.{bytes_eq}
use Rattle.std.specs.List.{filter_map, cons_option}
use Rattle.std.proofs.lemmas.List.{append-nil, map-append}
use Rattle.std.proofs.lemmas.List.Elements.{filter_map-append}
use Rattle.std.proofs.lemmas.Option.{slice_get_within}
use Rattle.std.proofs.lemmas.Slice.Eq.{bytes_eq-Decides}
use Rattle.lemmas.proofs.Members.{Contains-from_slice_get, slice_get-from_Contains}
use Rattle.lemmas.proofs.Places.{slice_get_push, Keeps}
use Rattle.axioms.specs.Axiom as tree
use Rattle.axioms.specs.Expression.{Iri, ClassExpression, Named}
use Rattle.axioms.specs.Growth.{IsFull, Numbers, most_names, DeclaresClass, DeclaresProperty, DeclaresIndividual, with_axiom}
use Rattle.axioms.specs.Ontology.{Ontology, Names, Axiom, Node, Class, name_at, tree_of, trees_from, trees, expression, axiom_tree, axiom_trees}
use Rattle.axioms.specs.Numbering.{same_expression, class_name}
use Rattle.axioms.specs.WellFormedness.{AreDistinct, IsOntology}
use Rattle.axioms.proofs.Trees.{node_tree, class_named, length_trees}
use Rattle.axioms.proofs.Growing.{keeps_numbers, new_class_node}
use Rattle.device.specs.declared.fault.Memory.{Memory}
use Rattle.axioms.specs.declared.ids.ExprId.{ExprId}
use Rattle.profile.specs.Additions.{Appends, Adds, Grows, HasAdded, HasFewNames, IsPrefix, KeepsNumbers}
use Rattle.profile.proofs.FirstPlaces.{one_expression}
use Rattle.profile.proofs.Appending.{appends_nothing, appends_join, appends_number, appends_old, appends_new, once}
use Rattle.profile.proofs.Overflowing.{few_with_name}
use Rattle.profile.proofs.Trees.{KeepsNames, KeepsAll, keeps_append, axioms_kept, trees_kept, trees_pushed, distinct_trees, tree_there}

-- the expression is added, and now has this number
record IsGrownAt (old new : Ontology) (number : ℕ) (c : ClassExpression) : Type 0 where
  grows : Grows (c ∷ []) [] [] [] old new
  at : slice_get (trees new) number ≡ Some c

-- additions one after another
grows_join : (es fs : List ClassExpression) (rs ss as' bs : List Iri) (xs ys : List tree.Axiom) (o p q : Ontology) →
    Grows es rs as' xs o p → Grows fs ss bs ys p q → Grows (es ++ fs) (rs ++ ss) (as' ++ bs) (xs ++ ys) o q
grows_join es fs rs ss as' bs xs ys o p q first second = record {
  trees_grow = appends_join same_expression es fs (trees o) (trees p) (trees q) first.trees_grow second.trees_grow;
  classes_grow =
      let P : List Iri → Type 0 = λ cs. Appends bytes_eq o.names.classes cs q.names.classes in
      subst P (sym (filter_map-append class_name es fs)) (appends_join bytes_eq (filter_map class_name es) (filter_map class_name fs) o.names.classes p.names.classes q.names.classes first.classes_grow second.classes_grow);
  properties_grow = appends_join bytes_eq rs ss o.names.properties p.names.properties q.names.properties first.properties_grow second.properties_grow;
  individuals_grow = appends_join bytes_eq as' bs o.names.individuals p.names.individuals q.names.individuals first.individuals_grow second.individuals_grow;
  axioms_grow = second.axioms_grow ∙ ap (λ zs. zs ++ ys) first.axioms_grow ∙ append_assoc (axiom_trees o) xs ys;
}

-- ---- additions of nothing, and of one

numbered : {A : Type 0} (old : List A) (x : A) (new : List A) (n : ℕ) → Numbers old x new n → slice_get new n ≡ Some x
numbered old x new n (inl (at, same)) = ap (λ xs. slice_get xs n) same ∙ at
numbered old x new n (inr (apart, last, longer)) = ap₂ slice_get longer last ∙ slice_get_push old x

-- ---- what was there stands in front

prefix_self : {A : Type 0} (xs : List A) → IsPrefix xs xs
prefix_self xs = ([], sym (append-nil xs))

prefix_join : {A : Type 0} (xs ys zs : List A) → IsPrefix xs ys → IsPrefix ys zs → IsPrefix xs zs
prefix_join xs ys zs first second = (first.0 ++ second.0, second.1 ∙ ap (λ us. us ++ second.0) first.1 ∙ append_assoc xs first.0 second.0)

prefix_numbered : {A : Type 0} (old : List A) (x : A) (new : List A) (n : ℕ) → Numbers old x new n → IsPrefix old new
prefix_numbered old x new n (inl (at, same)) = ([], same ∙ sym (append-nil old))
prefix_numbered old x new n (inr (apart, last, longer)) = (x ∷ [], longer)

kept_same : (o : Ontology) → KeepsNumbers o o
kept_same o = record { nodes = prefix_self o.nodes; axioms = prefix_self o.axioms }

kept_join : (o p q : Ontology) → KeepsNumbers o p → KeepsNumbers p q → KeepsNumbers o q
kept_join o p q first second =
    record { nodes = prefix_join o.nodes p.nodes q.nodes first.nodes second.nodes; axioms = prefix_join o.axioms p.axioms q.axioms first.axioms second.axioms }

pub adds_join : (es fs : List ClassExpression) (rs ss as' bs : List Iri) (xs ys : List tree.Axiom) (o p q : Ontology) →
    Adds es rs as' xs o p → Adds fs ss bs ys p q → Adds (es ++ fs) (rs ++ ss) (as' ++ bs) (xs ++ ys) o q
adds_join es fs rs ss as' bs xs ys o p q first second =
    record { grows = grows_join es fs rs ss as' bs xs ys o p q first.grows second.grows; kept = kept_join o p q first.kept second.kept; few_names = λ few. second.few_names (first.few_names few) }

pub keeps_of : (es : List ClassExpression) (rs as' : List Iri) (xs : List tree.Axiom) (o p : Ontology) → Adds es rs as' xs o p → KeepsAll o p
keeps_of es rs as' xs o p adds = record {
  kept_trees = keeps_append (trees o) (trees p) adds.grows.trees_grow.rest adds.grows.trees_grow.keeps;
  kept_properties = keeps_append o.names.properties p.names.properties adds.grows.properties_grow.rest adds.grows.properties_grow.keeps;
  kept_individuals = keeps_append o.names.individuals p.names.individuals adds.grows.individuals_grow.rest adds.grows.individuals_grow.keeps;
}

same_list : {A : Type 0} (xs : List A) → Keeps xs xs
same_list xs n x g = g

module _ (o : Ontology) (whole : IsOntology o) where
  nothing_old_trees : Appends same_expression (trees o) [] (trees o)
  nothing_old_trees = appends_nothing same_expression (trees o) (once same_expression one_expression (trees o) (distinct_trees o whole))

  no_names : (names : List Iri) → AreDistinct names → Appends bytes_eq names [] names
  no_names names distinct = appends_nothing bytes_eq names (once bytes_eq bytes_eq-Decides names distinct)

  grows_nothing : Grows [] [] [] [] o o
  grows_nothing = record {
    trees_grow = nothing_old_trees;
    classes_grow = no_names o.names.classes whole.distinct_classes;
    properties_grow = no_names o.names.properties whole.distinct_properties;
    individuals_grow = no_names o.names.individuals whole.distinct_individuals;
    axioms_grow = sym (append-nil (axiom_trees o));
  }

  -- a property gets a number
  property_added : (iri : Iri) (rs : List Iri) (n : ℕ) → Numbers o.names.properties iri rs n →
      Grows [] (iri ∷ []) [] [] o (record o { names = record o.names { properties = rs } })
  property_added iri rs n numbers =
      let p : Ontology = record o { names = record o.names { properties = rs } } in
      let keeps : Keeps o.names.properties rs = keeps_numbers o.names.properties iri rs n numbers in
      let same : trees p ≡ trees o = trees_kept o whole p.names (record { classes = same_list o.names.classes; properties = keeps }) in
      let all : KeepsAll o p = record { kept_trees = λ e x g. ap (λ ts. slice_get ts e) same ∙ g; kept_properties = keeps; kept_individuals = same_list o.names.individuals } in
      record {
        trees_grow = let P : List ClassExpression → Type 0 = Appends same_expression (trees o) [] in subst P (sym same) nothing_old_trees;
        classes_grow = no_names o.names.classes whole.distinct_classes;
        properties_grow = appends_number bytes_eq bytes_eq-Decides o.names.properties iri rs n whole.distinct_properties numbers;
        individuals_grow = no_names o.names.individuals whole.distinct_individuals;
        axioms_grow = axioms_kept o p whole all ∙ sym (append-nil (axiom_trees o));
      }

  -- an individual gets a number
  individual_added : (iri : Iri) (as' : List Iri) (n : ℕ) → Numbers o.names.individuals iri as' n →
      Grows [] [] (iri ∷ []) [] o (record o { names = record o.names { individuals = as' } })
  individual_added iri as' n numbers =
      let p : Ontology = record o { names = record o.names { individuals = as' } } in
      let keeps : Keeps o.names.individuals as' = keeps_numbers o.names.individuals iri as' n numbers in
      let same : trees p ≡ trees o = trees_kept o whole p.names (record { classes = same_list o.names.classes; properties = same_list o.names.properties }) in
      let all : KeepsAll o p = record { kept_trees = λ e x g. ap (λ ts. slice_get ts e) same ∙ g; kept_properties = same_list o.names.properties; kept_individuals = keeps } in
      record {
        trees_grow = let P : List ClassExpression → Type 0 = Appends same_expression (trees o) [] in subst P (sym same) nothing_old_trees;
        classes_grow = no_names o.names.classes whole.distinct_classes;
        properties_grow = no_names o.names.properties whole.distinct_properties;
        individuals_grow = appends_number bytes_eq bytes_eq-Decides o.names.individuals iri as' n whole.distinct_individuals numbers;
        axioms_grow = axioms_kept o p whole all ∙ sym (append-nil (axiom_trees o));
      }

  -- ---- a node at the end

  -- a new node stands for a new expression
  new_tree : (p : Ontology) → IsOntology p → (t : ClassExpression) → trees p ≡ trees o ++ t ∷ [] → Contains (trees o) t → ⊥
  new_tree p whole' t is there =
      let (e, at) = slice_get-from_Contains (trees o) t there in
      let early : slice_get (trees p) e ≡ Some t = keeps_append (trees o) (trees p) (t ∷ []) is e t at in
      let last : slice_get (trees p) (length (trees o)) ≡ Some t = ap (λ ts. slice_get ts (length (trees o))) is ∙ slice_get_push (trees o) t in
      let same : e ≡ length (trees o) = distinct_trees p whole' e (length (trees o)) t early last in
      let within : e < length (trees o) = slice_get_within (trees o) e t at in
      omega arith

  old_tree : (t : ClassExpression) (e : ℕ) → slice_get (trees o) e ≡ Some t → Appends same_expression (trees o) (t ∷ []) (trees o)
  old_tree t e at = appends_old same_expression one_expression (trees o) t (distinct_trees o whole) (Contains-from_slice_get (trees o) e t at)

  more_trees : (p : Ontology) → IsOntology p → (t : ClassExpression) → trees p ≡ trees o ++ t ∷ [] → Appends same_expression (trees o) (t ∷ []) (trees p)
  more_trees p whole' t is =
      let P : List ClassExpression → Type 0 = Appends same_expression (trees o) (t ∷ []) in
      subst P (sym is) (appends_new same_expression one_expression (trees o) t (distinct_trees o whole) (new_tree p whole' t is))

  last_tree : (p : Ontology) (t : ClassExpression) → trees p ≡ trees o ++ t ∷ [] → (e : ℕ) → e ≡ length o.nodes → slice_get (trees p) e ≡ Some t
  last_tree p t is e at =
      ap₂ slice_get is (at ∙ sym (length_trees o)) ∙ slice_get_push (trees o) t

  with_trees : (p : Ontology) → IsOntology p → (t : ClassExpression) → Appends same_expression (trees o) (t ∷ []) (trees p) → p.names ≡ o.names → p.axioms ≡ o.axioms → class_name t ≡ None → Grows (t ∷ []) [] [] [] o p
  with_trees p whole' t grow names axioms none =
      let keeps : Keeps (trees o) (trees p) = keeps_append (trees o) (trees p) grow.rest grow.keeps in
      let all : KeepsAll o p = record {
        kept_trees = keeps;
        kept_properties = λ n x g. ap (λ (ns : Names). slice_get ns.properties n) names ∙ g;
        kept_individuals = λ n x g. ap (λ (ns : Names). slice_get ns.individuals n) names ∙ g;
      } in
      let C : List Iri → List Iri → Type 0 = λ added new. Appends bytes_eq o.names.classes added new in
      record {
        trees_grow = grow;
        classes_grow = subst₂ C (ap (λ c. cons_option c []) (sym none)) (ap (λ (ns : Names). ns.classes) (sym names)) (no_names o.names.classes whole.distinct_classes);
        properties_grow = let P : List Iri → Type 0 = Appends bytes_eq o.names.properties [] in subst P (ap (λ (ns : Names). ns.properties) (sym names)) (no_names o.names.properties whole.distinct_properties);
        individuals_grow = let P : List Iri → Type 0 = Appends bytes_eq o.names.individuals [] in subst P (ap (λ (ns : Names). ns.individuals) (sym names)) (no_names o.names.individuals whole.distinct_individuals);
        axioms_grow = ap (map (axiom_tree p)) axioms ∙ axioms_kept o p whole all ∙ sym (append-nil (axiom_trees o));
      }

  same_names : KeepsNames o.names o.names
  same_names = record { classes = same_list o.names.classes; properties = same_list o.names.properties }

  node_added : (node : Node) (nodes : List Node) (e : ℕ) → IsOntology (record o { nodes = nodes }) → Numbers o.nodes node nodes e → (t : ClassExpression) → tree_of o.names (trees o) node ≡ t → class_name t ≡ None → IsGrownAt o (record o { nodes = nodes }) e t
  node_added node nodes e whole' (inl (at, same)) t is none =
      let tree-at : slice_get (trees o) e ≡ Some t = tree_there o whole e (slice_get_within o.nodes e node at) ∙ ap Some (node_tree o whole e node at ∙ is) in
      let here : IsGrownAt o o e t = record { grows = with_trees o whole t (old_tree t e tree-at) refl refl none; at = tree-at } in
      let P : List Node → Type 0 = λ ns. IsGrownAt o (record o { nodes = ns }) e t in
      subst P (sym same) here
  node_added node nodes e whole' (inr (apart, last, longer)) t is none =
      let p : Ontology = record o { nodes = nodes } in
      let grown : trees p ≡ trees o ++ t ∷ [] =
      ap (trees_from o.names []) longer ∙ trees_pushed o whole o.names same_names node ∙ ap (λ x. trees o ++ x ∷ []) is in
      record {
        grows = with_trees p whole' t (more_trees p whole' t grown) refl refl none;
        at = last_tree p t grown e last;
      }

  -- ---- a class and its expression

  abbrev with_classes : List Iri → List Node → Ontology
  with_classes classes nodes = record o { names = record o.names { classes = classes }; nodes = nodes }

  class_there : (iri : Iri) (c e : ℕ) → slice_get o.names.classes c ≡ Some iri → slice_get o.nodes e ≡ Some (Class c) → IsGrownAt o o e (Named iri)
  class_there iri c e named at =
      let is : expression o e ≡ Named iri = class_named o c e iri at named in
      let tree-at : slice_get (trees o) e ≡ Some (Named iri) = tree_there o whole e (slice_get_within o.nodes e (Class c) at) ∙ ap Some is in
      record {
        grows = record {
          trees_grow = old_tree (Named iri) e tree-at;
          classes_grow = appends_old bytes_eq bytes_eq-Decides o.names.classes iri whole.distinct_classes (Contains-from_slice_get o.names.classes c iri named);
          properties_grow = no_names o.names.properties whole.distinct_properties;
          individuals_grow = no_names o.names.individuals whole.distinct_individuals;
          axioms_grow = sym (append-nil (axiom_trees o));
        };
        at = tree-at;
      }

  class_new : (iri : Iri) (classes : List Iri) (nodes : List Node) (c e : ℕ) → IsOntology (with_classes classes nodes) → (Contains o.names.classes iri → ⊥) → c ≡ length o.names.classes → classes ≡ o.names.classes ++ iri ∷ [] →
      e ≡ length o.nodes → nodes ≡ o.nodes ++ Class c ∷ [] → IsGrownAt o (with_classes classes nodes) e (Named iri)
  class_new iri classes nodes c e whole' apart last longer end more =
      let p : Ontology = with_classes classes nodes in
      let keeps : Keeps o.names.classes classes = keeps_append o.names.classes classes (iri ∷ []) longer in
      let kept : KeepsNames o.names p.names = record { classes = keeps; properties = same_list o.names.properties } in
      let name : name_at classes c ≡ iri = ap (λ x. unwrap_or x []) (ap₂ slice_get longer last ∙ slice_get_push o.names.classes iri) in
      let grown : trees p ≡ trees o ++ Named iri ∷ [] =
      ap (trees_from p.names []) more ∙ trees_pushed o whole p.names kept (Class c) ∙ ap (λ x. trees o ++ Named x ∷ []) name in
      let grow : Appends same_expression (trees o) (Named iri ∷ []) (trees p) = more_trees p whole' (Named iri) grown in
      let all : KeepsAll o p = record { kept_trees = keeps_append (trees o) (trees p) grow.rest grow.keeps; kept_properties = same_list o.names.properties; kept_individuals = same_list o.names.individuals } in
      record {
        grows = record {
          trees_grow = grow;
          classes_grow = let P : List Iri → Type 0 = Appends bytes_eq o.names.classes (iri ∷ []) in subst P (sym longer) (appends_new bytes_eq bytes_eq-Decides o.names.classes iri whole.distinct_classes apart);
          properties_grow = no_names o.names.properties whole.distinct_properties;
          individuals_grow = no_names o.names.individuals whole.distinct_individuals;
          axioms_grow = axioms_kept o p whole all ∙ sym (append-nil (axiom_trees o));
        };
        at = last_tree p (Named iri) grown e end;
      }

  class_added : (iri : Iri) (classes : List Iri) (nodes : List Node) (c e : ℕ) → IsOntology (with_classes classes nodes) → Numbers o.names.classes iri classes c → Numbers o.nodes (Class c) nodes e → IsGrownAt o (with_classes classes nodes) e (Named iri)
  class_added iri classes nodes c e whole' (inl (named, same)) (inl (at, same')) =
      let P : List Iri → Type 0 = λ cs. IsGrownAt o (with_classes cs nodes) e (Named iri) in
      let Q : List Node → Type 0 = λ ns. IsGrownAt o (with_classes o.names.classes ns) e (Named iri) in
      subst P (sym same) (subst Q (sym same') (class_there iri c e named at))
  class_added iri classes nodes c e whole' (inl (named, same)) (inr (apart, end, more)) =
      absurd (apart (let there = whole.class_nodes c (slice_get_within o.names.classes c iri named) in Contains-from_slice_get o.nodes there.0 (Class c) there.1))
  class_added iri classes nodes c e whole' (inr (apart, last, longer)) (inl (at, same')) =
      absurd (new_class_node o whole (let P : ℕ → Type 0 = λ n. Contains o.nodes (Class n) in subst P last (Contains-from_slice_get o.nodes e (Class c) at)))
  class_added iri classes nodes c e whole' (inr (apart, last, longer)) (inr (apart', end, more)) =
      class_new iri classes nodes c e whole' apart last longer end more

-- ---- additions, by what a declaration says

same_few : (o p : Ontology) → p.names ≡ o.names → HasFewNames o → HasFewNames p
same_few o p same few = record {
  classes = subst (λ (ns : Names). length ns.classes ≤ most_names) (sym same) few.classes;
  properties = subst (λ (ns : Names). length ns.properties ≤ most_names) (sym same) few.properties;
  individuals = subst (λ (ns : Names). length ns.individuals ≤ most_names) (sym same) few.individuals;
}

pub adds_nothing : (o : Ontology) → IsOntology o → Adds [] [] [] [] o o
adds_nothing o whole = record { grows = grows_nothing o whole; kept = kept_same o; few_names = λ few. few }

pub class_declared : (o p : Ontology) (iri : Iri) (c e : ℕ) → IsOntology o → IsOntology p → (IsFull o.names.classes iri → ⊥) → DeclaresClass o iri p c e → HasAdded o p e (Named iri)
class_declared o p iri c e whole whole' room declares =
    let q : Ontology = record o { names = record o.names { classes = p.names.classes }; nodes = p.nodes } in
    let P : Ontology → Type 0 = λ x. IsGrownAt o x e (Named iri) in
    let grown : IsGrownAt o p e (Named iri) =
    subst P (sym declares.others) (class_added o whole iri p.names.classes p.nodes c e (subst IsOntology declares.others whole') declares.name declares.node) in
    let others : HasFewNames o → HasFewNames q =
    λ few. record { classes = few_with_name o.names.classes iri p.names.classes c declares.name room few.classes; properties = few.properties; individuals = few.individuals } in
    let kept : KeepsNumbers o q = record { nodes = prefix_numbered o.nodes (Class c) p.nodes e declares.node; axioms = prefix_self o.axioms } in
    record {
      adds = record { grows = grown.grows; kept = subst (KeepsNumbers o) (sym declares.others) kept; few_names = λ few. subst HasFewNames (sym declares.others) (others few) };
      at = grown.at;
    }

pub property_declared : (o p : Ontology) (iri : Iri) (n : ℕ) → IsOntology o → (IsFull o.names.properties iri → ⊥) → DeclaresProperty o iri p n → Adds [] (iri ∷ []) [] [] o p × (slice_get p.names.properties n ≡ Some iri)
property_declared o p iri n whole room declares =
    let q : Ontology = record o { names = record o.names { properties = p.names.properties } } in
    let others : HasFewNames o → HasFewNames q =
    λ few. record { classes = few.classes; properties = few_with_name o.names.properties iri p.names.properties n declares.name room few.properties; individuals = few.individuals } in
    let added : Adds [] (iri ∷ []) [] [] o q = record { grows = property_added o whole iri p.names.properties n declares.name; kept = record { nodes = prefix_self o.nodes; axioms = prefix_self o.axioms }; few_names = others } in
    let P : Ontology → Type 0 = λ x. Adds [] (iri ∷ []) [] [] o x in
    (subst P (sym declares.others) added, numbered o.names.properties iri p.names.properties n declares.name)

pub individual_declared : (o p : Ontology) (iri : Iri) (n : ℕ) → IsOntology o → (IsFull o.names.individuals iri → ⊥) → DeclaresIndividual o iri p n → Adds [] [] (iri ∷ []) [] o p × (slice_get p.names.individuals n ≡ Some iri)
individual_declared o p iri n whole room declares =
    let q : Ontology = record o { names = record o.names { individuals = p.names.individuals } } in
    let others : HasFewNames o → HasFewNames q =
    λ few. record { classes = few.classes; properties = few.properties; individuals = few_with_name o.names.individuals iri p.names.individuals n declares.name room few.individuals } in
    let added : Adds [] [] (iri ∷ []) [] o q = record { grows = individual_added o whole iri p.names.individuals n declares.name; kept = record { nodes = prefix_self o.nodes; axioms = prefix_self o.axioms }; few_names = others } in
    let P : Ontology → Type 0 = λ x. Adds [] [] (iri ∷ []) [] o x in
    (subst P (sym declares.others) added, numbered o.names.individuals iri p.names.individuals n declares.name)

pub node_stated : (o p : Ontology) (node : Node) (e : ℕ) → IsOntology o → IsOntology p → Numbers o.nodes node p.nodes e → p ≡ record o { nodes = p.nodes } → (t : ClassExpression) → tree_of o.names (trees o) node ≡ t → class_name t ≡ None → HasAdded o p e t
node_stated o p node e whole whole' numbers others t is none =
    let P : Ontology → Type 0 = λ x. IsGrownAt o x e t in
    let grown : IsGrownAt o p e t = subst P (sym others) (node_added o whole node p.nodes e (subst IsOntology others whole') numbers t is none) in
    let kept : KeepsNumbers o (record o { nodes = p.nodes }) = record { nodes = prefix_numbered o.nodes node p.nodes e numbers; axioms = prefix_self o.axioms } in
    record {
      adds = record { grows = grown.grows; kept = subst (KeepsNumbers o) (sym others) kept; few_names = same_few o p (ap (λ (x : Ontology). x.names) others) };
      at = grown.at;
    }

-- an axiom comes last
pub axiom_stated : (o : Ontology) (axiom' : Axiom) → IsOntology o → Adds [] [] [] (axiom_tree o axiom' ∷ []) o (with_axiom o axiom')
axiom_stated o axiom' whole =
    let nothing = grows_nothing o whole in
    record {
      grows = record {
        trees_grow = nothing.trees_grow;
        classes_grow = nothing.classes_grow;
        properties_grow = nothing.properties_grow;
        individuals_grow = nothing.individuals_grow;
        axioms_grow = map-append (axiom_tree o) o.axioms (axiom' ∷ []);
      };
      kept = record { nodes = prefix_self o.nodes; axioms = (axiom' ∷ [], refl) };
      few_names = same_few o (with_axiom o axiom') refl;
    }

-- where a node that is no name was added, its expression has the number that is told
pub expr_added : (o p : Ontology) (node : Node) (result : Result ExprId Memory) → IsOntology o → IsOntology p → class_name (tree_of o.names (trees o) node) ≡ None →
    IfOk result (λ e. Numbers o.nodes node p.nodes e.0) → p ≡ record o { nodes = p.nodes } → IfOk result (λ e. HasAdded o p e.0 (tree_of o.names (trees o) node))
expr_added o p node (Ok e) whole whole' none numbers others = node_stated o p node e.0 whole whole' numbers others _ refl none
expr_added o p node (Err f) whole whole' none numbers others = tt
