-- The text of a list of statements: a document without prefixes, with full IRIs and single spaces, a line for each statement
-- (OWL 2 Structural Specification, sections 3.7, 5.8 and 9).
use Rattle.std.specs.Prelude.{ℕ, List, [], ◌∷◌, ◌++◌, codes}
use Rattle.std.specs.List.{flat_map}
use Rattle.axioms.specs.Numbering.{Statement, DeclaresClass, DeclaresProperty, DeclaresIndividual, States}
use Rattle.answer_texts.specs.Axioms.{axiom_text, form}
use Rattle.answer_texts.specs.Names.{line_feed, name_text}

-- the declaration of an entity
abbrev pub declaration_text : List ℕ → List ℕ → List ℕ
declaration_text kind name = form (codes "Declaration") (form kind (name_text name ∷ []) ∷ [])

-- a declaration, or an axiom
abbrev pub statement_text : Statement → List ℕ
statement_text (DeclaresClass c) = declaration_text (codes "Class") c
statement_text (DeclaresProperty r) = declaration_text (codes "ObjectProperty") r
statement_text (DeclaresIndividual a) = declaration_text (codes "NamedIndividual") a
statement_text (States axiom') = axiom_text axiom'

-- with a line feed
abbrev pub statement_line : Statement → List ℕ
statement_line s = statement_text s ++ line_feed

-- the whole document
abbrev pub document_text : List Statement → List ℕ
document_text ss = codes "Ontology(\n" ++ flat_map statement_line ss ++ codes ")\n"
