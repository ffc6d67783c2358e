-- Terms of a document's trees: names as they are expanded, without places.
use Rattle.std.specs.Prelude.{◌≡◌, [], ◌⊎◌}
use Rattle.fs_parser.specs.Tree.{Tree, Trees, Name, Form, Empty, Then}
use Rattle.shapes.specs.Faults.{behind_annotations}
use Rattle.statements_text.specs.Terms.{Term, Terms, Word, Of, None, And}

-- what is neither a name nor a form has an empty name
abbrev mutual
  pub term_in : Tree → Term
  term_in (Name at iri) = Word iri
  term_in (Form at keyword trees) = Of keyword (terms_in trees)
  term_in _ = Word []

  pub terms_in : Trees → Terms
  terms_in Empty = None
  terms_in (Then first rest) = And (term_in first) (terms_in rest)

-- without the annotations in front
abbrev pub bare_term : Tree → Term
bare_term (Form at keyword trees) = Of keyword (terms_in (behind_annotations trees))
bare_term tree = term_in tree

-- the tree is one of these
abbrev pub IsAmong : Trees → Tree → Type 0
IsAmong Empty tree = ⊥
IsAmong (Then first rest) tree = (tree ≡ first) ⊎ IsAmong rest tree
