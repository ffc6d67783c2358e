-- A table of operands: which trees it finds, before and after one is put in.
use Rattle.std.proofs.Common.{◌≡◌, Bool, true, false, ◌||◌, not, List, [], ◌∷◌, ◌++◌, if◌then◌else◌, refl, sym, ap, ◌∙◌}
use Rattle.std.specs.List.{list_any}
use Rattle.std.proofs.lemmas.List.Folds.{list_any-append}
use Rattle.std.proofs.lemmas.Map.Steps.{list_any_congr}
use Rattle.fs_parser.specs.Tree.{Tree}
use Rattle.shapes.specs.TreeEquality.{same_tree}
use Rattle.shapes.specs.TreeLaws.{same_tree_equiv}
use Rattle.shapes.specs.View.{operand_tree, operand_trees}
use Rattle.shapes.specs.declared.operand.Operand as code

pub found_among : (t : Tree) (os : List code.Operand) → list_any (λ o. same_tree t (operand_tree o)) os ≡ list_any (same_tree t) (operand_trees os)
found_among t [] = refl
found_among t (o ∷ os) = ap (λ b. same_tree t (operand_tree o) || b) (found_among t os)

pub or_none : (b : Bool) → (b || false) ≡ b
or_none true = refl
or_none false = refl

-- what equals a tree that is among these is among them
already : (t u : Tree) (us : List Tree) → list_any (same_tree u) us ≡ true → list_any (same_tree t) us ≡ (list_any (same_tree t) us || same_tree t u)
already t u us there = go (same_tree t u) refl
  where
    go : (b : Bool) → same_tree t u ≡ b → list_any (same_tree t) us ≡ (list_any (same_tree t) us || b)
    go false e = sym (or_none (list_any (same_tree t) us))
    go true e =
        let found : list_any (same_tree t) us ≡ true = list_any_congr same_tree_equiv t u us e ∙ there in
        rw found refl

pub found_after : (o : code.Operand) (os new : List code.Operand) → new ≡ (if list_any (λ p. same_tree (operand_tree o) (operand_tree p)) os then os else os ++ o ∷ []) →
    (t : Tree) → list_any (same_tree t) (operand_trees new) ≡ (list_any (same_tree t) (operand_trees os) || same_tree t (operand_tree o))
found_after o os new is t = go (list_any (λ p. same_tree (operand_tree o) (operand_tree p)) os) refl
  where
    all : List code.Operand → Bool
    all xs = list_any (same_tree t) (operand_trees xs)

    go : (b : Bool) → list_any (λ p. same_tree (operand_tree o) (operand_tree p)) os ≡ b → list_any (same_tree t) (operand_trees new) ≡ (list_any (same_tree t) (operand_trees os) || same_tree t (operand_tree o))
    go true e =
        ap (λ xs. list_any (same_tree t) (operand_trees xs)) (is ∙ ap (λ b. if b then os else os ++ o ∷ []) e)
        ∙ already t (operand_tree o) (operand_trees os) (sym (found_among (operand_tree o) os) ∙ e)
    go false e =
        ap (λ xs. list_any (same_tree t) (operand_trees xs)) (is ∙ ap (λ b. if b then os else os ++ o ∷ []) e)
        ∙ sym (found_among t (os ++ o ∷ []))
        ∙ list_any-append (λ p. same_tree t (operand_tree p)) os (o ∷ [])
        ∙ ap (λ b. b || (same_tree t (operand_tree o) || false)) (found_among t os)
        ∙ ap (λ b. list_any (same_tree t) (operand_trees os) || b) (or_none (same_tree t (operand_tree o)))

pub new_where_not_found : (o : code.Operand) (os : List code.Operand) (b : Bool) → b ≡ not (list_any (λ p. same_tree (operand_tree o) (operand_tree p)) os) → b ≡ not (list_any (same_tree (operand_tree o)) (operand_trees os))
new_where_not_found o os b is = is ∙ ap not (found_among (operand_tree o) os)
