-- Trees of expressions and statements mean these.
use Rattle.std.proofs.Common.{◌≡◌, ℕ, ◌+◌, List, [], ◌∷◌, length, refl, ap, ◌∙◌}
use Rattle.axioms.specs.Expression.{ClassExpression, Operands, Named, Intersection, SomeValues, Pair, Before, Iri, operand_list}
use Rattle.axioms.specs.Ontology.{intersection, operands_of}
use Rattle.shapes.specs.Meanings.{class_of, classes_of, iris_of, chain_of}
use Rattle.statements_text.specs.Terms.{term_text, term_tree, terms_trees, later_trees, words, class_term, operand_terms, class_terms, chain_term}

-- ---- intersections

record Split (os : Operands) : Type 0 where
  first : ClassExpression
  second : ClassExpression
  rest : List ClassExpression
  list_is : operand_list os ≡ first ∷ second ∷ rest
  whole : operands_of first second rest ≡ os

split : (os : Operands) → Split os
split (Pair c d) = record { first = c; second = d; rest = []; list_is = refl; whole = refl }
split (Before c os) =
    let h = split os in
    record { first = c; second = h.first; rest = h.second ∷ h.rest; list_is = ap (λ (cs : List ClassExpression). c ∷ cs) h.list_is; whole = ap (λ (os : Operands). Before c os) h.whole }

whole_again : (os : Operands) → intersection (operand_list os) ≡ Intersection os
whole_again os = let h = split os in ap intersection h.list_is ∙ ap Intersection h.whole

-- ---- expressions

mutual
  pub class_again : (c : ClassExpression) (at : ℕ) → class_of (term_tree at (class_term c)) ≡ c
  class_again (Named c) at = refl
  class_again (Intersection os) at = ap intersection (operands_again os (at + 21)) ∙ whole_again os
  class_again (SomeValues r c) at = ap (λ (d : ClassExpression). SomeValues r d) (class_again c _)

  operands_again : (os : Operands) (at : ℕ) → classes_of (terms_trees at (operand_terms os)) ≡ operand_list os
  operands_again (Pair c d) at = let a = class_again c at in let b = class_again d (at + length (term_text (class_term c)) + 1) in rw (a, b) refl
  operands_again (Before c rest) at = let a = class_again c at in let b = operands_later rest (at + length (term_text (class_term c))) in rw (a, b) refl

  operands_later : (os : Operands) (at : ℕ) → classes_of (later_trees at (operand_terms os)) ≡ operand_list os
  operands_later (Pair c d) at = let a = class_again c (at + 1) in let b = class_again d (at + 1 + length (term_text (class_term c)) + 1) in rw (a, b) refl
  operands_later (Before c rest) at = let a = class_again c (at + 1) in let b = operands_later rest (at + 1 + length (term_text (class_term c))) in rw (a, b) refl

classes_later : (cs : List ClassExpression) (at : ℕ) → classes_of (later_trees at (class_terms cs)) ≡ cs
classes_later [] at = refl
classes_later (c ∷ cs) at = let a = class_again c (at + 1) in let b = classes_later cs (at + 1 + length (term_text (class_term c))) in rw (a, b) refl

pub classes_again : (cs : List ClassExpression) (at : ℕ) → classes_of (terms_trees at (class_terms cs)) ≡ cs
classes_again [] at = refl
classes_again (c ∷ cs) at = let a = class_again c at in let b = classes_later cs (at + length (term_text (class_term c))) in rw (a, b) refl

iris_later : (rs : List Iri) (at : ℕ) → iris_of (later_trees at (words rs)) ≡ rs
iris_later [] at = refl
iris_later (r ∷ rs) at = ap (λ (ss : List Iri). r ∷ ss) (iris_later rs _)

pub iris_again : (rs : List Iri) (at : ℕ) → iris_of (terms_trees at (words rs)) ≡ rs
iris_again [] at = refl
iris_again (r ∷ rs) at = ap (λ (ss : List Iri). r ∷ ss) (iris_later rs _)

pub chain_again : (rs : List Iri) (at : ℕ) → chain_of (term_tree at (chain_term rs)) ≡ rs
chain_again [] at = refl
chain_again (r ∷ []) at = refl
chain_again (r ∷ s ∷ rs) at = iris_again (r ∷ s ∷ rs) _
