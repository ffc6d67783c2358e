-- The ontology of the lines is well formed.
use Rattle.std.proofs.Common.{◌≡◌, ℕ, ◌+◌, ◌<◌, List, length, map, slice_get, Some, All, sym, ap, ◌∙◌, subst, true, arith}
use Rattle.std.proofs.lemmas.Bool.{ltb-true}
use Rattle.std.proofs.lemmas.List.{length-map}
use Rattle.std.proofs.lemmas.List.Elements.{All-map, All-weaker}
use Rattle.std.proofs.lemmas.List.FromFn.{get_or-range_with_len}
use Rattle.std.proofs.lemmas.Option.{slice_get-get_or}
use Rattle.lemmas.proofs.Mapped.{slice_get_map, slice_get_map_from}
use Rattle.axioms.specs.Expression.{Iri, owl_nothing, owl_thing}
use Rattle.axioms.specs.Ontology.{Class, Names, Node, Ontology, name_at}
use Rattle.axioms.specs.WellFormedness.{AreDistinct, IsAxiomOf, IsNodeOf, IsOntology}
use Rattle.taxonomy.specs.Superclasses.{AreOnce, is_among}
use Rattle.taxonomy.specs.Texts.{in_byte_order, numbers_below}
use Rattle.taxonomy.proofs.Once.{among_below, once_below}
use Rattle.taxonomy.proofs.Told.{length-numbers}
use Rattle.inferred_text.proofs.Said.{Line, IsGood, Below, Member, Same}
use Rattle.inferred_text.proofs.Names.{one_number}
use Rattle.inferred_text.proofs.Numbered.{axiom_for, class_order, in_class_order, low_in_class_order, numbered, once_in_class_order}
use Rattle.inferred_text.proofs.Orders.{among_there, distinct_mapped, in_order, low_in_order, of_among, once_in_order}
use Rattle.inferred_text.proofs.Places.{place, place_of_one, place_within}

-- numbers below a bound stand at their places
number_at : (n k : ℕ) → k < n → slice_get (numbers_below n) k ≡ Some k
number_at n k l =
    let within : k < length (numbers_below n) = omega (arith, l, length-numbers n) in
    slice_get-get_or (numbers_below n) k 0 within ∙ ap Some (get_or-range_with_len 0 n k 0 l ∙ (let e : 0 + k ≡ k = omega arith in e))

-- names in an order without repetition are distinct
distinct_names : (names : List Iri) → AreDistinct names → (order : List ℕ) → AreOnce order → ((k : ℕ) → is_among order k ≡ true → k < length names) → AreDistinct (map (name_at names) order)
distinct_names names distinct order once low = distinct_mapped (name_at names) order once (λ a b i j e. one_number names distinct a b (low a i) (low b j) e)

module _ (names : Names) (lines : List Line) where
  abbrev p : Ontology
  p = numbered names lines

  nodes_long : length p.nodes ≡ length (class_order names.classes)
  nodes_long = length-map (numbers_below (length (class_order names.classes))) Class ∙ length-numbers (length (class_order names.classes))

  node_at : (k : ℕ) → k < length (class_order names.classes) → slice_get p.nodes k ≡ Some (Class k)
  node_at k l = slice_get_map Class (numbers_below (length (class_order names.classes))) k k (number_at (length (class_order names.classes)) k l)

  classes_long : length p.names.classes ≡ length (class_order names.classes)
  classes_long = length-map (class_order names.classes) (name_at names.classes)

  place_low : (c : ℕ) → c < length names.classes → place (class_order names.classes) c < length p.nodes
  place_low c l = let w = place_within (class_order names.classes) c (in_class_order names.classes c l) in omega (arith, w, nodes_long)

  individual_low : (a : ℕ) → a < length names.individuals → place (in_byte_order names.individuals) a < length p.names.individuals
  individual_low a l = let w = place_within (in_byte_order names.individuals) a (in_order names.individuals a l) in omega (arith, w, length-map (in_byte_order names.individuals) (name_at names.individuals))

  axiom_good : (line : Line) → IsGood names line → IsAxiomOf p (axiom_for names line)
  axiom_good (Below c d) h = (place_low c h.0, place_low d h.1)
  axiom_good (Same cs) h =
      let order = class_order names.classes in
      let low : (c : ℕ) → is_among cs c ≡ true → is_among order c ≡ true = λ c e. in_class_order names.classes c (of_among (λ c. c < length names.classes) cs h.2 c e) in
      record {
        many = omega (arith, h.0, length-map cs (place order));
        distinct = distinct_mapped (place order) cs h.1 (λ a b i j e. place_of_one order a b (low a i) (low b j) e);
        within = All-map (λ x. x < length p.nodes) (place order) cs (All-weaker (λ c. c < length names.classes) (λ c. place order c < length p.nodes) place_low cs h.2);
      }
  axiom_good (Member a c) h = (place_low c h.1, individual_low a h.0)

  node_good : (e : ℕ) (node : Node) → slice_get p.nodes e ≡ Some node → IsNodeOf p e node
  node_good e node g =
      let order = class_order names.classes in
      let (k, gk, is) = slice_get_map_from Class (numbers_below (length order)) e node g in
      let low : k < length order = ltb-true k (length order) (sym (among_below (length order) k) ∙ among_there (numbers_below (length order)) e k gk) in
      subst (IsNodeOf p e) is (let l : k < length p.names.classes = omega (arith, low, classes_long) in l)

  same_class : (c d : ℕ) → Class c ≡ Class d → c ≡ d
  same_class c d e = cc

  module _ (two : 1 < length names.classes) (thing : name_at names.classes 0 ≡ owl_thing) (nothing : name_at names.classes 1 ≡ owl_nothing) (classes : AreDistinct names.classes) (properties : AreDistinct names.properties) (individuals : AreDistinct names.individuals) (good : All (IsGood names) lines) where
    pub well_formed : IsOntology p
    well_formed =
        let order = class_order names.classes in
        record {
          thing_name = ap Some thing;
          nothing_name = ap Some nothing;
          thing_node = node_at 0 (omega arith);
          nothing_node = node_at 1 (omega arith);
          class_nodes = λ c l. (c, node_at c (omega (arith, l, classes_long)));
          distinct_classes = distinct_names names.classes classes order (once_in_class_order names.classes) (low_in_class_order names.classes two);
          distinct_properties = distinct_names names.properties properties (in_byte_order names.properties) (once_in_order names.properties) (low_in_order names.properties);
          distinct_individuals = distinct_names names.individuals individuals (in_byte_order names.individuals) (once_in_order names.individuals) (low_in_order names.individuals);
          distinct_nodes = distinct_mapped Class (numbers_below (length order)) (once_below (length order)) (λ a b i j e. same_class a b e);
          nodes = node_good;
          axioms = All-map (IsAxiomOf p) (axiom_for names) lines (All-weaker (IsGood names) (λ l. IsAxiomOf p (axiom_for names l)) axiom_good lines good);
        }
