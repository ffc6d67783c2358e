-- The text of an intersection, operand by operand.
use Rattle.std.proofs.Common.{◌≡◌, ℕ, ◌≤◌, List, [], ◌∷◌, ◌++◌, length, ap, sym, ◌∙◌, arith, append_assoc}
use Rattle.std.specs.Prelude.{codes}
use Rattle.std.proofs.lemmas.List.{append-nil}
use Rattle.axioms.specs.declared.ids.ExprId.{ExprId}
use Rattle.axioms.specs.View.{expr_numbers}
use Rattle.axioms.specs.Ontology.{Ontology, operands_of, intersection, expression, expressions}
use Rattle.answer_texts.specs.Names.{expression_text, operands_text}

-- expressions, the first behind one text and each other behind a space
abbrev pub texts : Ontology → List ℕ → List ExprId → List ℕ
texts o lead [] = []
texts o lead (e ∷ es) = lead ++ expression_text (expression o e.0) ++ texts o (codes " ") es

operands : (o : Ontology) (lead : List ℕ) (a b : ExprId) (es : List ExprId)
    → texts o lead (a ∷ b ∷ es) ≡ lead ++ operands_text (operands_of (expression o a.0) (expression o b.0) (expressions o (expr_numbers es)))
operands o lead a b [] =
    let ta = expression_text (expression o a.0) in
    let tb = expression_text (expression o b.0) in
    append_assoc lead ta ((codes " " ++ tb) ++ [])
    ∙ ap (λ (t : List ℕ). lead ++ t) (ap (λ (t : List ℕ). ta ++ t) (append-nil (codes " " ++ tb)) ∙ sym (append_assoc ta (codes " ") tb))
operands o lead a b (e ∷ es) =
    let ta = expression_text (expression o a.0) in
    let ops = operands_text (operands_of (expression o b.0) (expression o e.0) (expressions o (expr_numbers es))) in
    ap (λ (t : List ℕ). (lead ++ ta) ++ t) (operands o (codes " ") b e es)
    ∙ append_assoc lead ta (codes " " ++ ops)
    ∙ ap (λ (t : List ℕ). lead ++ t) (sym (append_assoc ta (codes " ") ops))

-- the text of the whole
pub intersection_text : (o : Ontology) (es : List ExprId) → 2 ≤ length es
    → texts o (codes "ObjectIntersectionOf(") es ++ codes ")" ≡ expression_text (intersection (expressions o (expr_numbers es)))
intersection_text o [] l = absurd (omega arith)
intersection_text o (a ∷ []) l = absurd (omega arith)
intersection_text o (a ∷ b ∷ es) l = ap (λ (t : List ℕ). t ++ codes ")") (operands o (codes "ObjectIntersectionOf(") a b es)

pub five_pieces : (out a b c d e : List ℕ) → ((((out ++ a) ++ b) ++ c) ++ d) ++ e ≡ out ++ ((((a ++ b) ++ c) ++ d) ++ e)
five_pieces out a b c d e = simp append_assoc

pub four_pieces : (out a b c d : List ℕ) → (((out ++ a) ++ b) ++ c) ++ d ≡ out ++ (((a ++ b) ++ c) ++ d)
four_pieces out a b c d = simp append_assoc
