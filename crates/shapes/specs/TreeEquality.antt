-- Trees that are equal, wherever they stand: names by their IRIs, and all else by its text.
use Rattle.std.specs.Prelude.{Bool, true, false, ◌&&◌}
use Rattle.std.specs.Str.{bytes_eq}
use Rattle.fs_parser.specs.Tree.{Tree, Trees, Name, PlainLiteral, TaggedLiteral, TypedLiteral, Anonymous, Number, Group, Form, Empty, Then}

abbrev mutual
  pub same_tree : Tree → Tree → Bool
  same_tree (Name _ a) (Name _ b) = bytes_eq a b
  same_tree (PlainLiteral _ a) (PlainLiteral _ b) = bytes_eq a b
  same_tree (TaggedLiteral _ a t) (TaggedLiteral _ b u) = bytes_eq a b && bytes_eq t u
  same_tree (TypedLiteral _ a t) (TypedLiteral _ b u) = bytes_eq a b && bytes_eq t u
  same_tree (Anonymous _ a) (Anonymous _ b) = bytes_eq a b
  same_tree (Number _ a) (Number _ b) = bytes_eq a b
  same_tree (Group _ a) (Group _ b) = same_trees a b
  same_tree (Form _ k a) (Form _ l b) = bytes_eq k l && same_trees a b
  same_tree _ _ = false

  pub same_trees : Trees → Trees → Bool
  same_trees Empty Empty = true
  same_trees (Then a as') (Then b bs) = same_tree a b && same_trees as' bs
  same_trees _ _ = false
