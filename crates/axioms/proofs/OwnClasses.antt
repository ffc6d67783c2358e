-- Two of the examples have no classes but Thing and Nothing, and are ontologies.
use Rattle.std.proofs.Common.{◌≡◌, ℕ, zero, suc, ◌-◌, ◌<◌, ◌≤◌, List, [], ◌∷◌, slice_get, if◌then◌else◌, Some, All, refl, sym, ap, ◌∙◌, subst, codes, bytes_eq, arith}
use Rattle.std.proofs.lemmas.Option.{none-some, same_Some}
use Rattle.std.proofs.lemmas.List.Elements.{All-from_recursion}
use Rattle.axioms.specs.Expression.{owl_thing, owl_nothing}
use Rattle.axioms.specs.Ontology.{Ontology, Node, Class, Axiom}
use Rattle.axioms.proofs.Trees.{class_number}
use Rattle.axioms.proofs.FourClasses.{one_subclass_is, contradiction_is}
use Rattle.axioms.specs.Examples.{same_and_different, denied_by_way_of_same, ExamplesAreOntologies}
use Rattle.axioms.specs.WellFormedness.{AreOperands, IsOntology, IsNodeOf, IsAxiomOf, AreDistinct}

-- ---- where each element tells its place

module _ {A : Type 0} (place : A → ℕ) where
  distinct_two : (x y : A) → place x ≡ 0 → place y ≡ 1 → AreDistinct (x ∷ y ∷ [])
  distinct_two x y p q m n z g h = at m z g ∙ sym (at n z h)
    where
      at : (n : ℕ) (z : A) → slice_get (x ∷ y ∷ []) n ≡ Some z → n ≡ place z
      at zero z g = sym p ∙ ap place (same_Some x z g)
      at (suc zero) z g = sym q ∙ ap place (same_Some y z g)
      at (suc (suc n)) z g = absurd (none-some z g)

  distinct_three : (x y z : A) → place x ≡ 0 → place y ≡ 1 → place z ≡ 2 → AreDistinct (x ∷ y ∷ z ∷ [])
  distinct_three x y z p q r m n w g h = at m w g ∙ sym (at n w h)
    where
      at : (n : ℕ) (w : A) → slice_get (x ∷ y ∷ z ∷ []) n ≡ Some w → n ≡ place w
      at zero w g = sym p ∙ ap place (same_Some x w g)
      at (suc zero) w g = sym q ∙ ap place (same_Some y w g)
      at (suc (suc zero)) w g = sym r ∙ ap place (same_Some z w g)
      at (suc (suc (suc n))) w g = absurd (none-some w g)

-- the place of a name behind those of the first two
abbrev place_of : List ℕ → List ℕ → List ℕ → ℕ
place_of x y name = if bytes_eq name x then 0 else (if bytes_eq name y then 1 else 2)

-- ---- an ontology with these two classes

abbrev two_nodes : List Node
two_nodes = Class 0 ∷ Class 1 ∷ []

abbrev of_two : List (List ℕ) → List (List ℕ) → List Axiom → Ontology
of_two properties individuals axioms = record {
  names = record { classes = owl_thing ∷ owl_nothing ∷ []; properties = properties; individuals = individuals };
  nodes = two_nodes;
  axioms = axioms;
}

module _ (properties individuals : List (List ℕ)) (axioms : List Axiom) where
  node_of : (e : ℕ) (node : Node) → slice_get two_nodes e ≡ Some node → IsNodeOf (of_two properties individuals axioms) e node
  node_of zero node g = subst (IsNodeOf (of_two properties individuals axioms) 0) (same_Some (Class 0) node g) (omega arith)
  node_of (suc zero) node g = subst (IsNodeOf (of_two properties individuals axioms) 1) (same_Some (Class 1) node g) (omega arith)
  node_of (suc (suc n)) node g = absurd (none-some node g)

class_node : (c : ℕ) → c < 2 → (e : ℕ) × (slice_get two_nodes e ≡ Some (Class c))
class_node zero l = (0, refl)
class_node (suc zero) l = (1, refl)
class_node (suc (suc c)) l = absurd (omega arith)

two_ontology : (properties individuals : List (List ℕ)) (axioms : List Axiom) → AreDistinct properties → AreDistinct individuals →
    All (IsAxiomOf (of_two properties individuals axioms)) axioms → IsOntology (of_two properties individuals axioms)
two_ontology properties individuals axioms apart others within = record {
  thing_name = refl;
  nothing_name = refl;
  thing_node = refl;
  nothing_node = refl;
  class_nodes = class_node;
  distinct_classes = distinct_two (place_of owl_thing owl_nothing) owl_thing owl_nothing refl refl;
  distinct_properties = apart;
  distinct_individuals = others;
  distinct_nodes = distinct_two class_number (Class 0) (Class 1) refl refl;
  nodes = node_of properties individuals axioms;
  axioms = within;
}

-- ---- the two examples

-- the first two numbers, in either order
forth : (bound : ℕ) → 2 ≤ bound → AreOperands bound (0 ∷ 1 ∷ [])
forth bound l = record {
  many = omega arith;
  distinct = distinct_two (λ (n : ℕ). n) 0 1 refl refl;
  within = All-from_recursion (λ x. x < bound) (0 ∷ 1 ∷ []) (omega (arith, l), (omega (arith, l), tt));
}

back : (bound : ℕ) → 2 ≤ bound → AreOperands bound (1 ∷ 0 ∷ [])
back bound l = record {
  many = omega arith;
  distinct = distinct_two (λ (n : ℕ). 1 - n) 1 0 refl refl;
  within = All-from_recursion (λ x. x < bound) (1 ∷ 0 ∷ []) (omega (arith, l), (omega (arith, l), tt));
}

same_and_different_is : IsOntology same_and_different
same_and_different_is = two_ontology [] (codes "x:a" ∷ codes "x:b" ∷ []) same_and_different.axioms
    (λ m n x g h. absurd (none-some x g))
    (distinct_two (place_of (codes "x:a") (codes "x:b")) (codes "x:a") (codes "x:b") refl refl)
    (All-from_recursion (IsAxiomOf same_and_different) same_and_different.axioms (forth 2 (omega arith), (back 2 (omega arith), tt)))

chain_within : All (λ r. r < 2) (0 ∷ [])
chain_within = All-from_recursion (λ r. r < 2) (0 ∷ []) (omega arith, tt)

denied_is : IsOntology denied_by_way_of_same
denied_is = two_ontology (codes "x:r" ∷ codes "x:s" ∷ []) (codes "x:b" ∷ codes "x:c" ∷ codes "x:a" ∷ []) denied_by_way_of_same.axioms
    (distinct_two (place_of (codes "x:r") (codes "x:s")) (codes "x:r") (codes "x:s") refl refl)
    (distinct_three (place_of (codes "x:b") (codes "x:c")) (codes "x:b") (codes "x:c") (codes "x:a") refl refl refl)
    (All-from_recursion (IsAxiomOf denied_by_way_of_same) denied_by_way_of_same.axioms
    (forth 3 (omega arith), (omega arith, ((omega arith, chain_within, omega arith), (omega arith, tt)))))

pub examples_are_ontologies : ExamplesAreOntologies
examples_are_ontologies = (one_subclass_is, contradiction_is, same_and_different_is, denied_is)
