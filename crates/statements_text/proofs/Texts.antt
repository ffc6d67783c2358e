-- The texts of statements are those of their terms.
use Rattle.std.proofs.Common.{◌≡◌, ℕ, List, [], ◌∷◌, ◌++◌, map, refl, sym, ap, ◌∙◌, append_assoc}
use Rattle.std.specs.Prelude.{codes}
use Rattle.std.specs.List.{flat_map, join_by}
use Rattle.std.proofs.lemmas.List.{append-nil}
use Rattle.axioms.specs.Axiom.{Axiom, SubClassOf, EquivalentClasses, DisjointClasses, SubPropertyOf, EquivalentProperties, PropertyDomain, ClassAssertion, SameIndividuals, DifferentIndividuals}
use Rattle.axioms.specs.Expression.{ClassExpression, Operands, Named, Intersection, SomeValues, Pair, Before, Iri}
use Rattle.axioms.specs.Numbering.{Statement, States}
use Rattle.answer_texts.specs.Axioms.{axiom_text, chain_text}
use Rattle.answer_texts.specs.Names.{name_text, expression_text, operands_text}
use Rattle.statements_text.specs.Texts.{statement_text, statement_line, document_text}
use Rattle.statements_text.specs.Terms.{term_text, terms_text, later_text, lines_text, terms_document, words, class_term, operand_terms, class_terms, chain_term, axiom_term, statement_term, statement_terms}

later_operands : (os : Operands) → later_text (operand_terms os) ≡ codes " " ++ terms_text (operand_terms os)
later_operands (Pair c d) = refl
later_operands (Before c rest) = refl

mutual
  pub same_class : (c : ClassExpression) → expression_text c ≡ term_text (class_term c)
  same_class (Named c) = refl
  same_class (Intersection os) = ap (λ (t : List ℕ). codes "ObjectIntersectionOf(" ++ (t ++ codes ")")) (same_operands os)
  same_class (SomeValues r c) =
      let e : name_text r ++ codes " " ++ expression_text c ≡ name_text r ++ (codes " " ++ (term_text (class_term c) ++ [])) =
      append_assoc (name_text r) (codes " ") (expression_text c)
      ∙ ap (λ (t : List ℕ). name_text r ++ (codes " " ++ t)) (same_class c ∙ sym (append-nil (term_text (class_term c)))) in
      ap (λ (t : List ℕ). codes "ObjectSomeValuesFrom(" ++ (t ++ codes ")")) e

  same_operands : (os : Operands) → operands_text os ≡ terms_text (operand_terms os)
  same_operands (Pair c d) =
      append_assoc (expression_text c) (codes " ") (expression_text d)
      ∙ ap (λ (t : List ℕ). t ++ (codes " " ++ expression_text d)) (same_class c)
      ∙ ap (λ (t : List ℕ). term_text (class_term c) ++ (codes " " ++ t)) (same_class d ∙ sym (append-nil (term_text (class_term d))))
  same_operands (Before c rest) =
      append_assoc (expression_text c) (codes " ") (operands_text rest)
      ∙ ap (λ (t : List ℕ). t ++ (codes " " ++ operands_text rest)) (same_class c)
      ∙ ap (λ (t : List ℕ). term_text (class_term c) ++ (codes " " ++ t)) (same_operands rest)
      ∙ ap (λ (t : List ℕ). term_text (class_term c) ++ t) (sym (later_operands rest))

abbrev spaced : List ℕ → List ℕ
spaced t = codes " " ++ t

later_classes : (cs : List ClassExpression) → flat_map spaced (map expression_text cs) ≡ later_text (class_terms cs)
later_classes [] = refl
later_classes (c ∷ cs) = let a = same_class c in let b = later_classes cs in rw (a, b) refl

same_classes : (cs : List ClassExpression) → join_by (λ t. t) (codes " ") (map expression_text cs) ≡ terms_text (class_terms cs)
same_classes [] = refl
same_classes (c ∷ cs) = let a = same_class c in let b = later_classes cs in rw (a, b) refl

later_words : (rs : List Iri) → flat_map spaced (map name_text rs) ≡ later_text (words rs)
later_words [] = refl
later_words (r ∷ rs) = let b = later_words rs in rw b refl

same_words : (rs : List Iri) → join_by (λ t. t) (codes " ") (map name_text rs) ≡ terms_text (words rs)
same_words [] = refl
same_words (r ∷ rs) = let b = later_words rs in rw b refl

same_chain : (rs : List Iri) → chain_text rs ≡ term_text (chain_term rs)
same_chain [] = refl
same_chain (r ∷ []) = refl
same_chain (r ∷ s ∷ rs) = ap (λ (t : List ℕ). codes "ObjectPropertyChain(" ++ (t ++ codes ")")) (same_words (r ∷ s ∷ rs))

pub same_axiom : (a : Axiom) → axiom_text a ≡ term_text (axiom_term a)
same_axiom (SubClassOf c d) = let a = same_class c in let b = same_class d in rw (a, b) refl
same_axiom (EquivalentClasses cs) = let a = same_classes cs in rw a refl
same_axiom (DisjointClasses cs) = let a = same_classes cs in rw a refl
same_axiom (SubPropertyOf chain s) = let a = same_chain chain in rw a refl
same_axiom (EquivalentProperties rs) = let a = same_words rs in rw a refl
same_axiom (PropertyDomain r c) = let a = same_class c in rw a refl
same_axiom (ClassAssertion c a) = let e = same_class c in rw e refl
same_axiom (SameIndividuals xs) = let a = same_words xs in rw a refl
same_axiom (DifferentIndividuals xs) = let a = same_words xs in rw a refl
same_axiom _ = refl

pub same_statement : (s : Statement) → statement_text s ≡ term_text (statement_term s)
same_statement (States a) = same_axiom a
same_statement _ = refl

same_lines : (ss : List Statement) → flat_map statement_line ss ≡ lines_text (statement_terms ss)
same_lines [] = refl
same_lines (s ∷ ss) = let a = same_statement s in let b = same_lines ss in rw (a, b) refl

-- the text of statements is that of their terms
pub same_text : (ss : List Statement) → document_text ss ≡ terms_document (statement_terms ss)
same_text ss = ap (λ (t : List ℕ). codes "Ontology(\n" ++ (t ++ codes ")\n")) (same_lines ss)
