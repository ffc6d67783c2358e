-- Names in trees that are read of a text can be spelled.
use Rattle.std.proofs.Common.{◌≡◌, ℕ, Bool, true, false, List, [], ◌∷◌, subst, if◌then◌else◌}
use Rattle.std.specs.Char.{is_ascii_alphabetic}
use Rattle.std.specs.Str.{IsUtf8}
use Rattle.fs_lexer.specs.Spelling.{Token, IsOfKind, is_run}
use Rattle.fs_parser.specs.Document.{Document, prefixes_of}
use Rattle.fs_parser.specs.Name.{Prefixes, CanBeSpelled, StandForSpelled, standard_prefixes}
use Rattle.fs_parser.specs.Tree.{Tree, Trees, AreTrees, IsTree, Name, Form, Empty, Then}
use Rattle.profile.specs.Documents.{AreTextOf}
use Rattle.shapes.specs.Faults.{behind_annotations, is_annotation}
use Rattle.fs_parser.proofs.TokenNames.{both_bases, declared_bases, name_spelled, standard_bases}
use Rattle.fs_parser.proofs.Tokens.{AreSpelled, first_spelled, second_spelled, tokens_spelled}
use Rattle.profile.specs.AddedTexts.{AreStatementsOf}

-- this holds of the names in the tree, and this of the keywords
abbrev mutual
  pub Holds : (List ℕ → Type 0) → (List ℕ → Type 0) → Tree → Type 0
  Holds N W (Name at iri) = N iri
  Holds N W (Form at keyword trees) = W keyword × Hold N W trees
  Holds N W _ = Unit {0}

  pub Hold : (List ℕ → Type 0) → (List ℕ → Type 0) → Trees → Type 0
  Hold N W Empty = Unit {0}
  Hold N W (Then first rest) = Holds N W first × Hold N W rest

abbrev pub IsWord : List ℕ → Type 0
IsWord keyword = is_run is_ascii_alphabetic keyword ≡ true

-- names in the tree can be spelled, and keywords are letters
abbrev pub HasNames : Tree → Type 0
HasNames = Holds CanBeSpelled IsWord

abbrev pub HaveNames : Trees → Type 0
HaveNames = Hold CanBeSpelled IsWord

module _ (prefixes : Prefixes) (bases : StandForSpelled prefixes) where
  mutual
    tree_names : (t : Tree) (tokens : List Token) → AreSpelled tokens → IsTree prefixes t tokens → HasNames t
    tree_names (Name at iri) tokens s h = name_spelled prefixes h.0 iri bases (subst AreSpelled h.1 s).0 h.3
    tree_names (Form at keyword trees) tokens s h =
        let p = subst AreSpelled h.4 s in (
          subst (λ (w : List ℕ). is_run is_ascii_alphabetic w ≡ true) h.5.2 (subst (λ k. IsOfKind k h.0.text) h.5.0 p.0.of_kind),
          trees_names trees h.3 (first_spelled h.3 (h.2 ∷ []) p.1.1) h.8,
        )
    tree_names _ tokens s h = tt

    trees_names : (ts : Trees) (tokens : List Token) → AreSpelled tokens → AreTrees prefixes ts tokens → HaveNames ts
    trees_names Empty tokens s h = tt
    trees_names (Then first rest) tokens s h =
        let p = subst AreSpelled h.2 s in
        (tree_names first h.0 (first_spelled h.0 h.1 p) h.3, trees_names rest h.1 (second_spelled h.0 h.1 p) h.4)

-- those of a document's trees
pub document_names : (bytes : List ℕ) (d : Document) → AreTextOf bytes d → HaveNames d.trees
document_names bytes d text =
    let all = tokens_spelled 0 [] bytes text.tokens text.utf8 text.spelled in
    let declared = declared_bases d.declared text.tokens text.written.rest all text.written.declarations in
    let o = text.written.ontology in
    let inside = (subst AreSpelled o.tokens_are declared.1).1.1 in
    let inner = first_spelled o.closed.inner (o.closed.closing ∷ []) (subst AreSpelled o.closed.tokens_are inside) in
    trees_names (prefixes_of d) (both_bases standard_prefixes d.declared standard_bases declared.0) d.trees o.closed.inner inner o.closed.are_trees

-- those of trees that a text is, with such prefixes
pub added_names : (prefixes : Prefixes) (text : List ℕ) (ts : Trees) → IsUtf8 text → StandForSpelled prefixes → AreStatementsOf prefixes text ts → HaveNames ts
added_names prefixes text ts utf8 bases are = trees_names prefixes bases ts are.tokens (tokens_spelled 0 [] text are.tokens utf8 are.spelled) are.are.are_trees

-- behind the annotations in front
pub behind_names : (ts : Trees) → HaveNames ts → HaveNames (behind_annotations ts)
behind_names Empty h = tt
behind_names (Then first rest) h = go (is_annotation first) (behind_names rest h.1)
  where
    go : (b : Bool) → HaveNames (behind_annotations rest) → HaveNames (if b then behind_annotations rest else Then first rest)
    go true more = more
    go false more = h
