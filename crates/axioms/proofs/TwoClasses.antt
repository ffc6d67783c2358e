-- The ontology of no statements is well formed.
use Rattle.std.proofs.Common.{◌≡◌, ℕ, zero, suc, ◌+◌, ◌*◌, ◌<◌, [], ◌∷◌, length, slice_get, Some, refl, sym, ap, ◌∙◌, subst, arith}
use Rattle.std.proofs.lemmas.List.Elements.{All-nil}
use Rattle.std.proofs.lemmas.Option.{none-some, same_Some}
use Rattle.axioms.specs.Expression.{Iri, owl_thing, owl_nothing}
use Rattle.axioms.specs.Growth.{empty_ontology}
use Rattle.axioms.specs.Ontology.{Node, Class, IsClassAt}
use Rattle.axioms.specs.WellFormedness.{IsNodeOf, IsAxiomOf, IsOntology}

name_place : (n : ℕ) (x : Iri) → slice_get (owl_thing ∷ owl_nothing ∷ []) n ≡ Some x → 35 + 2 * n ≡ length x
name_place zero x g = ap length (same_Some owl_thing x g)
name_place (suc zero) x g = ap length (same_Some owl_nothing x g)
name_place (suc (suc n)) x g = absurd (none-some x g)

class_place : (c : ℕ) → c < 2 → (e : ℕ) × IsClassAt empty_ontology c e
class_place zero l = (0, refl)
class_place (suc zero) l = (1, refl)
class_place (suc (suc c)) l = absurd (omega arith)

number_of : Node → ℕ
number_of (Class c) = c
number_of _ = 0

node_place : (n : ℕ) (x : Node) → slice_get (Class 0 ∷ Class 1 ∷ []) n ≡ Some x → n ≡ number_of x
unfolding number_of
node_place zero x g = ap number_of (same_Some (Class 0) x g)
node_place (suc zero) x g = ap number_of (same_Some (Class 1) x g)
node_place (suc (suc n)) x g = absurd (none-some x g)

node_fits : (e : ℕ) (node : Node) → slice_get (Class 0 ∷ Class 1 ∷ []) e ≡ Some node → IsNodeOf empty_ontology e node
node_fits zero node g = subst (IsNodeOf empty_ontology 0) (same_Some (Class 0) node g) (omega arith)
node_fits (suc zero) node g = subst (IsNodeOf empty_ontology 1) (same_Some (Class 1) node g) (omega arith)
node_fits (suc (suc e)) node g = absurd (none-some node g)

pub empty_is_ontology : IsOntology empty_ontology
empty_is_ontology = record {
  thing_name = refl;
  nothing_name = refl;
  thing_node = refl;
  nothing_node = refl;
  class_nodes = class_place;
  distinct_classes = λ m n x g h. let p : 35 + 2 * m ≡ length x = name_place m x g in let q : 35 + 2 * n ≡ length x = name_place n x h in omega arith;
  distinct_properties = λ m n x g h. absurd (none-some x g);
  distinct_individuals = λ m n x g h. absurd (none-some x g);
  distinct_nodes = λ m n x g h. node_place m x g ∙ sym (node_place n x h);
  nodes = node_fits;
  axioms = All-nil (IsAxiomOf empty_ontology);
}
