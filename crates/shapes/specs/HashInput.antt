-- What a tree feeds a hasher, wherever it stands and wherever the prefixes of its names end.
use Rattle.std.specs.Prelude.{ℕ, List, [], ◌++◌}
use Rattle.std.specs.Hash.{HashWrites, str, u8}
use Rattle.std.specs.List.{flat_map}
use Rattle.fs_parser.specs.Tree.{Tree, Trees, Name, PlainLiteral, TaggedLiteral, TypedLiteral, Anonymous, Number, Group, Form, Empty, Then}

-- the bytes of a name, one by one
abbrev pub name_writes : List ℕ → HashWrites
name_writes iri = flat_map u8 iri

abbrev mutual
  pub writes : Tree → HashWrites
  writes (Name at iri) = name_writes iri
  writes (PlainLiteral at text) = str text
  writes (TaggedLiteral at text tag) = str text
  writes (TypedLiteral at text type) = str text
  writes (Anonymous at label) = str label
  writes (Number at digits) = str digits
  writes (Group at trees) = writes_of trees
  writes (Form at keyword trees) = str keyword ++ writes_of trees

  pub writes_of : Trees → HashWrites
  writes_of Empty = []
  writes_of (Then first rest) = writes first ++ writes_of rest
