-- What the numbers of that ontology stand for.
use Rattle.std.proofs.Common.{◌≡◌, ℕ, zero, suc, ◌+◌, ◌<◌, List, [], ◌∷◌, ◌++◌, length, map, slice_get, Some, All, refl, sym, ap, ap₂, ◌∙◌, arith}
use Rattle.std.specs.List.{cons_option, filter_map, range_with_len}
use Rattle.std.specs.Option.{unwrap_or}
use Rattle.std.proofs.lemmas.List.{append-nil, append_assoc}
use Rattle.std.proofs.lemmas.List.Elements.{All-head, All-tail}
use Rattle.lemmas.proofs.Mapped.{slice_get_map}
use Rattle.axioms.specs.Axiom as tree
use Rattle.axioms.specs.Expression.{ClassExpression, Named}
use Rattle.axioms.specs.Numbering.{logical_axiom}
use Rattle.axioms.specs.Ontology.{Class, Names, Ontology, axiom_tree, axiom_trees, expression, individual_name, name_at, tree_at, trees, trees_from}
use Rattle.taxonomy.specs.Following.{class_at}
use Rattle.taxonomy.specs.Texts.{in_byte_order, numbers_below}
use Rattle.inferred_text.proofs.Said.{Line, IsGood, Below, Member, Same, said}
use Rattle.inferred_text.proofs.Numbered.{axiom_for, class_order, in_class_order, numbered}
use Rattle.inferred_text.proofs.Orders.{in_order}
use Rattle.inferred_text.proofs.Places.{at_place, place}

-- nodes of classes stand for these
class_trees : (names : Names) (ts : List ClassExpression) (ns : List ℕ) → trees_from names ts (map Class ns) ≡ ts ++ map (class_at names) ns
class_trees names ts [] = sym (append-nil ts)
class_trees names ts (n ∷ ns) = class_trees names (ts ++ class_at names n ∷ []) ns ∙ append_assoc ts (class_at names n ∷ []) (map (class_at names) ns)

-- numbers in a row stand for the list
in_a_row : {X Y : Type 0} (f : ℕ → X) (h : Y → X) (a : ℕ) (ys : List Y) → ((k : ℕ) (y : Y) → slice_get ys k ≡ Some y → f (a + k) ≡ h y) → map f (range_with_len a (length ys)) ≡ map h ys
in_a_row f h a [] at = refl
in_a_row f h a (y ∷ ys) at =
    let first : f a ≡ h y = ap f (let e : a ≡ a + 0 = omega arith in e) ∙ at zero y refl in
    ap₂ (λ x xs. x ∷ xs) first (in_a_row f h (a + 1) ys (λ k z g. ap f (let e : (a + 1) + k ≡ a + suc k = omega arith in e) ∙ at (suc k) z g))

module _ (names : Names) (lines : List Line) where
  abbrev p : Ontology
  p = numbered names lines

  -- the expressions are the classes in order
  pub trees_are : trees p ≡ map (class_at names) (class_order names.classes)
  trees_are =
      let order = class_order names.classes in
      let at : (k y : ℕ) → slice_get order k ≡ Some y → class_at p.names (0 + k) ≡ class_at names y = λ k y g.
      ap (λ o. Named (unwrap_or o [])) (let e : 0 + k ≡ k = omega arith in ap (slice_get p.names.classes) e ∙ slice_get_map (name_at names.classes) order k y g) in
      class_trees p.names [] (numbers_below (length order)) ∙ in_a_row (class_at p.names) (class_at names) 0 order at

  pub class_is : (c : ℕ) → c < length names.classes → expression p (place (class_order names.classes) c) ≡ class_at names c
  class_is c l =
      let order = class_order names.classes in
      ap (λ ts. tree_at ts (place order c)) trees_are
      ∙ ap (λ o. unwrap_or o (Named [])) (slice_get_map (class_at names) order (place order c) c (at_place order c (in_class_order names.classes c l)))

  classes_are : (cs : List ℕ) → All (λ c. c < length names.classes) cs → map (expression p) (map (place (class_order names.classes)) cs) ≡ map (class_at names) cs
  classes_are [] h = refl
  classes_are (c ∷ cs) h =
      let P : ℕ → Type 0 = λ c. c < length names.classes in
      ap₂ (λ x xs. x ∷ xs) (class_is c (All-head P c cs h)) (classes_are cs (All-tail P c cs h))

  individual_is : (a : ℕ) → a < length names.individuals → individual_name p (place (in_byte_order names.individuals) a) ≡ name_at names.individuals a
  individual_is a l =
      let order = in_byte_order names.individuals in
      ap (λ o. unwrap_or o []) (slice_get_map (name_at names.individuals) order (place order a) a (at_place order a (in_order names.individuals a l)))

  -- an axiom says what the line's statement does
  axiom_is : (line : Line) → IsGood names line → logical_axiom (said names line) ≡ Some (axiom_tree p (axiom_for names line))
  axiom_is (Below c d) h = sym (ap₂ (λ x y. Some (tree.SubClassOf x y)) (class_is c h.0) (class_is d h.1))
  axiom_is (Same cs) h = sym (ap (λ x. Some (tree.EquivalentClasses x)) (classes_are cs h.2))
  axiom_is (Member a c) h = sym (ap₂ (λ x y. Some (tree.ClassAssertion x y)) (class_is c h.1) (individual_is a h.0))

  axioms_from : (ls : List Line) → All (IsGood names) ls → filter_map logical_axiom (map (said names) ls) ≡ map (axiom_tree p) (map (axiom_for names) ls)
  axioms_from [] h = refl
  axioms_from (l ∷ ls) h =
      let P = IsGood names in
      ap₂ (λ o xs. cons_option o xs) (axiom_is l (All-head P l ls h)) (axioms_from ls (All-tail P l ls h))

  pub axioms_are : All (IsGood names) lines → filter_map logical_axiom (map (said names) lines) ≡ axiom_trees p
  axioms_are h = axioms_from lines h
