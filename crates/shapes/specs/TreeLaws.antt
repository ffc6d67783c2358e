-- Equal trees: an equivalence, whose equals are fed alike to a hasher.
use Rattle.std.specs.Prelude.{◌≡◌, ℕ, Bool, true, ◌&&◌, List, ◌++◌}
use Rattle.std.specs.Cmp.{IsEquivalence, equiv, first_so, second_so}
use Rattle.std.specs.Cmp.Lexicographic.{nat_list_eq_equiv, bytes_decides}
use Rattle.std.specs.Hash.{Alike, str}
use Rattle.std.specs.Str.{bytes_eq}
use Rattle.std.proofs.Common.{refl, ap, ap₂, ◌∙◌}
use Rattle.std.proofs.lemmas.Bool.{false≢true}
use Rattle.fs_parser.specs.Tree.{Tree, Trees, Name, PlainLiteral, TaggedLiteral, TypedLiteral, Anonymous, Number, Group, Form, Empty, Then}
use Rattle.shapes.specs.TreeEquality.{same_tree, same_trees}
use Rattle.shapes.specs.HashInput.{name_writes, writes, writes_of}

text_itself : (a : List ℕ) → bytes_eq a a ≡ true
text_itself = nat_list_eq_equiv.refl

text_symm : (a b : List ℕ) → bytes_eq a b ≡ bytes_eq b a
text_symm = nat_list_eq_equiv.symm

text_trans : (a b c : List ℕ) → bytes_eq a b ≡ true → bytes_eq b c ≡ true → bytes_eq a c ≡ true
text_trans a b c h k = nat_list_eq_equiv.congr a b c h ∙ k

text_is : (a b : List ℕ) → bytes_eq a b ≡ true → a ≡ b
text_is a b = (bytes_decides a b).0

both : (s t : Bool) → s ≡ true → t ≡ true → (s && t) ≡ true
both s t h k = ap₂ (λ x y. x && y) h k

mutual
  pub tree_itself : (a : Tree) → same_tree a a ≡ true
  tree_itself (Name at iri) = text_itself iri
  tree_itself (PlainLiteral at text) = text_itself text
  tree_itself (TaggedLiteral at text tag) = both (bytes_eq text text) (bytes_eq tag tag) (text_itself text) (text_itself tag)
  tree_itself (TypedLiteral at text type) = both (bytes_eq text text) (bytes_eq type type) (text_itself text) (text_itself type)
  tree_itself (Anonymous at label) = text_itself label
  tree_itself (Number at digits) = text_itself digits
  tree_itself (Group at ts) = trees_itself ts
  tree_itself (Form at k ts) = both (bytes_eq k k) (same_trees ts ts) (text_itself k) (trees_itself ts)

  trees_itself : (ts : Trees) → same_trees ts ts ≡ true
  trees_itself Empty = refl
  trees_itself (Then t ts) = both (same_tree t t) (same_trees ts ts) (tree_itself t) (trees_itself ts)

mutual
  tree_symm : (a b : Tree) → same_tree a b ≡ same_tree b a
  tree_symm (Name _ a) (Name _ b) = text_symm a b
  tree_symm (PlainLiteral _ a) (PlainLiteral _ b) = text_symm a b
  tree_symm (TaggedLiteral _ a t) (TaggedLiteral _ b u) = ap₂ (λ x y. x && y) (text_symm a b) (text_symm t u)
  tree_symm (TypedLiteral _ a t) (TypedLiteral _ b u) = ap₂ (λ x y. x && y) (text_symm a b) (text_symm t u)
  tree_symm (Anonymous _ a) (Anonymous _ b) = text_symm a b
  tree_symm (Number _ a) (Number _ b) = text_symm a b
  tree_symm (Group _ a) (Group _ b) = trees_symm a b
  tree_symm (Form _ k a) (Form _ l b) = ap₂ (λ x y. x && y) (text_symm k l) (trees_symm a b)
  tree_symm _ _ = refl

  trees_symm : (a b : Trees) → same_trees a b ≡ same_trees b a
  trees_symm Empty Empty = refl
  trees_symm (Then a as') (Then b bs) = ap₂ (λ x y. x && y) (tree_symm a b) (trees_symm as' bs)
  trees_symm _ _ = refl

-- two steps, of two tests joined
two_steps : (s t s' t' s'' t'' : Bool) → (s ≡ true → s' ≡ true → s'' ≡ true) → (t ≡ true → t' ≡ true → t'' ≡ true) →
    (s && t) ≡ true → (s' && t') ≡ true → (s'' && t'') ≡ true
two_steps s t s' t' s'' t'' f g h k =
    both s'' t'' (f (first_so s t h) (first_so s' t' k)) (g (second_so s t h) (second_so s' t' k))

mutual
  tree_trans : (a b c : Tree) → same_tree a b ≡ true → same_tree b c ≡ true → same_tree a c ≡ true
  tree_trans (Name _ a) (Name _ b) (Name _ c) h k = text_trans a b c h k
  tree_trans (PlainLiteral _ a) (PlainLiteral _ b) (PlainLiteral _ c) h k = text_trans a b c h k
  tree_trans (TaggedLiteral _ a t) (TaggedLiteral _ b u) (TaggedLiteral _ c v) h k =
      two_steps (bytes_eq a b) (bytes_eq t u) (bytes_eq b c) (bytes_eq u v) (bytes_eq a c) (bytes_eq t v) (text_trans a b c) (text_trans t u v) h k
  tree_trans (TypedLiteral _ a t) (TypedLiteral _ b u) (TypedLiteral _ c v) h k =
      two_steps (bytes_eq a b) (bytes_eq t u) (bytes_eq b c) (bytes_eq u v) (bytes_eq a c) (bytes_eq t v) (text_trans a b c) (text_trans t u v) h k
  tree_trans (Anonymous _ a) (Anonymous _ b) (Anonymous _ c) h k = text_trans a b c h k
  tree_trans (Number _ a) (Number _ b) (Number _ c) h k = text_trans a b c h k
  tree_trans (Group _ a) (Group _ b) (Group _ c) h k = trees_trans a b c h k
  tree_trans (Form _ x a) (Form _ y b) (Form _ z c) h k =
      two_steps (bytes_eq x y) (same_trees a b) (bytes_eq y z) (same_trees b c) (bytes_eq x z) (same_trees a c) (text_trans x y z) (λ p q. trees_trans a b c p q) h k
  tree_trans (Name _ _) (Name _ _) _ h k = absurd (false≢true k)
  tree_trans (PlainLiteral _ _) (PlainLiteral _ _) _ h k = absurd (false≢true k)
  tree_trans (TaggedLiteral _ _ _) (TaggedLiteral _ _ _) _ h k = absurd (false≢true k)
  tree_trans (TypedLiteral _ _ _) (TypedLiteral _ _ _) _ h k = absurd (false≢true k)
  tree_trans (Anonymous _ _) (Anonymous _ _) _ h k = absurd (false≢true k)
  tree_trans (Number _ _) (Number _ _) _ h k = absurd (false≢true k)
  tree_trans (Group _ _) (Group _ _) _ h k = absurd (false≢true k)
  tree_trans (Form _ _ _) (Form _ _ _) _ h k = absurd (false≢true k)
  tree_trans _ _ c h k = absurd (false≢true h)

  trees_trans : (a b c : Trees) → same_trees a b ≡ true → same_trees b c ≡ true → same_trees a c ≡ true
  trees_trans Empty Empty c h k = k
  trees_trans (Then a as') (Then b bs) (Then c cs) h k =
      two_steps (same_tree a b) (same_trees as' bs) (same_tree b c) (same_trees bs cs) (same_tree a c) (same_trees as' cs) (λ p q. tree_trans a b c p q) (λ p q. trees_trans as' bs cs p q) h k
  trees_trans (Then _ _) (Then _ _) Empty h k = absurd (false≢true k)
  trees_trans _ _ c h k = absurd (false≢true h)

pub same_tree_equiv : IsEquivalence same_tree
same_tree_equiv = equiv (record { symm = tree_symm; trans = tree_trans }) tree_itself

mutual
  tree_alike : (a b : Tree) → same_tree a b ≡ true → writes a ≡ writes b
  tree_alike (Name _ a) (Name _ b) h = ap name_writes (text_is a b h)
  tree_alike (PlainLiteral _ a) (PlainLiteral _ b) h = ap str (text_is a b h)
  tree_alike (TaggedLiteral _ a t) (TaggedLiteral _ b u) h = ap str (text_is a b (first_so (bytes_eq a b) (bytes_eq t u) h))
  tree_alike (TypedLiteral _ a t) (TypedLiteral _ b u) h = ap str (text_is a b (first_so (bytes_eq a b) (bytes_eq t u) h))
  tree_alike (Anonymous _ a) (Anonymous _ b) h = ap str (text_is a b h)
  tree_alike (Number _ a) (Number _ b) h = ap str (text_is a b h)
  tree_alike (Group _ a) (Group _ b) h = trees_alike a b h
  tree_alike (Form _ k a) (Form _ l b) h =
      ap₂ (λ x y. x ++ y) (ap str (text_is k l (first_so (bytes_eq k l) (same_trees a b) h))) (trees_alike a b (second_so (bytes_eq k l) (same_trees a b) h))
  tree_alike _ _ h = absurd (false≢true h)

  trees_alike : (a b : Trees) → same_trees a b ≡ true → writes_of a ≡ writes_of b
  trees_alike Empty Empty h = refl
  trees_alike (Then a as') (Then b bs) h =
      ap₂ (λ x y. x ++ y) (tree_alike a b (first_so (same_tree a b) (same_trees as' bs) h)) (trees_alike as' bs (second_so (same_tree a b) (same_trees as' bs) h))
  trees_alike _ _ h = absurd (false≢true h)

pub same_tree_alike : Alike same_tree writes
same_tree_alike = record { fed = tree_alike }
