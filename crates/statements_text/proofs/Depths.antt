-- In the term of a tree no more parentheses are open at once than in the tree.
use Rattle.std.proofs.Common.{◌≤◌, Bool, true, false, inl, inr, max, ap, arith, if◌then◌else◌}
use Rattle.std.proofs.Math.Nat.{le-max_left, le-max_right}
use Rattle.fs_parser.specs.Tree.{Tree, Trees, Form, Empty, Then, depth, depth_of}
use Rattle.shapes.specs.Faults.{behind_annotations, is_annotation}
use Rattle.statements_text.specs.Terms.{term_depth, terms_depth}
use Rattle.statements_text.specs.TreeTerms.{IsAmong, bare_term, term_in, terms_in}
use Rattle.statements_text.proofs.Trees.{most}

mutual
  term_shallow : (t : Tree) → term_depth (term_in t) ≤ depth t
  term_shallow (Form at keyword trees) = omega (arith, terms_shallow trees)
  term_shallow _ = omega arith

  terms_shallow : (ts : Trees) → terms_depth (terms_in ts) ≤ depth_of ts
  terms_shallow Empty = omega arith
  terms_shallow (Then first rest) =
      most (term_depth (term_in first)) (terms_depth (terms_in rest)) (max (depth first) (depth_of rest))
      (omega (arith, term_shallow first, le-max_left (depth first) (depth_of rest))) (omega (arith, terms_shallow rest, le-max_right (depth first) (depth_of rest)))

behind_shallow : (ts : Trees) → depth_of (behind_annotations ts) ≤ depth_of ts
behind_shallow Empty = omega arith
behind_shallow (Then first rest) = go (is_annotation first) (behind_shallow rest)
  where
    go : (b : Bool) → depth_of (behind_annotations rest) ≤ depth_of rest → depth_of (if b then behind_annotations rest else Then first rest) ≤ max (depth first) (depth_of rest)
    go true more = omega (arith, more, le-max_right (depth first) (depth_of rest))
    go false more = omega arith

pub bare_shallow : (t : Tree) → term_depth (bare_term t) ≤ depth t
bare_shallow (Form at keyword trees) = omega (arith, terms_shallow (behind_annotations trees), behind_shallow trees)
bare_shallow t = term_shallow t

pub among_shallow : (ts : Trees) (t : Tree) → IsAmong ts t → depth t ≤ depth_of ts
among_shallow Empty t among = absurd among
among_shallow (Then first rest) t (inl e) = omega (arith, ap depth e, le-max_left (depth first) (depth_of rest))
among_shallow (Then first rest) t (inr among) = omega (arith, among_shallow rest t among, le-max_right (depth first) (depth_of rest))
