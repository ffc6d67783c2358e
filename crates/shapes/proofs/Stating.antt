-- What forms state of operands, and what states nothing.
use Rattle.std.proofs.Common.{◌≡◌, ℕ, Bool, true, false, Bor, Vec, Global, List, [], ◌∷◌, Some, None, length, ◌<◌, ◌≤◌, take, drop, ◌-◌, refl, sym, ap, ◌∙◌, subst, arith, nat_lt, ◌==◌}
use Rattle.std.proofs.lemmas.List.{length-drop, take_all}
use Rattle.std.proofs.lemmas.Bool.{eqb-true, le-ltb, lt-ltb}
use Rattle.fs_parser.specs.Tree.{Tree, Form}
use Rattle.fs_parser.specs.View.{layer_of, tree_of, trees_of}
use Rattle.fs_parser.specs.declared.tree.Tree as code
use Rattle.fs_parser.specs.declared.tree.Tree.TheFolds.{fold-roll-Tree, fold_out-Tree}
use Rattle.fs_parser.specs.declared.tree.Tree.TheVariants.{rolls-Form}
use Rattle.fs_parser.specs.declared.tree.Tree.TheOpen as layer
use Rattle.shapes.specs.declared.form.Form as shapes
use Rattle.shapes.specs.declared.expected.Expected.TheVariants.{Axiom}
use Rattle.shapes.specs.Faults.{behind_annotations, count_of}
use Rattle.shapes.specs.Shapes.{form_of}
use Rattle.program.specs.declared.version.Version.{Version}
use Rattle.shapes.specs.TreeStatements.{axiom_by, statement_in}

-- ---- how many

pub count_is : (ts : List code.Tree) → count_of (trees_of ts) ≡ length ts
count_is [] = refl
count_is (t ∷ ts) = omega (arith, count_is ts)

pub not_so_many : (n : ℕ) (ts : List code.Tree) → (length ts ≡ n → ⊥) → (count_of (trees_of ts) == n) ≡ false
not_so_many n ts other = go (count_of (trees_of ts) == n) refl
  where
    go : (b : Bool) → (count_of (trees_of ts) == n) ≡ b → b ≡ false
    go false e = refl
    go true e = absurd (other (sym (count_is ts) ∙ eqb-true (count_of (trees_of ts)) n e))

pub many_there : (ts : List code.Tree) → 1 < length ts → nat_lt 1 (count_of (trees_of ts)) ≡ true
many_there ts many = lt-ltb 1 (count_of (trees_of ts)) (omega (arith, count_is ts))

pub not_many : (ts : List code.Tree) → length ts ≤ 1 → nat_lt 1 (count_of (trees_of ts)) ≡ false
not_many ts few = le-ltb 1 (count_of (trees_of ts)) (omega (arith, count_is ts))

-- ---- trees of the code

pub form_tree : (at : ℕ) (k : Bor (List ℕ)) (v : Vec code.Tree Global) → tree_of (code.Form at k v) ≡ Form at k.now (trees_of v.items)
form_tree at k v = ap tree_of (sym (rolls-Form at k v)) ∙ fold-roll-Tree Tree layer_of (layer.Form at k v)

abbrev pub IsNoForm : Tree → Type 0
IsNoForm (Form at keyword trees) = ⊥
IsNoForm _ = Unit {0}

pub no_form : (t : code.Tree) → ((at : ℕ) (k : Bor (List ℕ)) (v : Vec code.Tree Global) → t ≡ code.Form at k v → ⊥) → IsNoForm (tree_of t)
no_form t other = subst IsNoForm (sym (fold_out-Tree Tree layer_of t)) (go (code.out-Tree t) refl)
  where
    go : (l : layer.Tree-F code.Tree) → code.out-Tree t ≡ l → IsNoForm (layer_of (code.map-Tree code.Tree Tree tree_of l))
    go (layer.Form at k v) e = absurd (other at k v (sym (code.roll-out-Tree t) ∙ ap code.roll-Tree e ∙ rolls-Form at k v))
    go _ e = tt

pub nothing_stated : (version : Version) (t : Tree) → IsNoForm t → None ≡ statement_in version t
nothing_stated version (Form at keyword trees) h = absurd h
nothing_stated version _ h = refl

-- a form states what its row does of the operands behind the annotations in front
pub form_states : (version : Version) (t : code.Tree) (at : ℕ) (k : Bor (List ℕ)) (v : Vec code.Tree Global) → t ≡ code.Form at k v →
    (ts us : List code.Tree) → ts ≡ v.items → us ≡ v.items → (n : ℕ) → n ≤ length us → trees_of (drop n us) ≡ behind_annotations (trees_of us) →
    (f : shapes.Form) → Some f ≡ form_of version Axiom k.now → axiom_by version (Some f) (trees_of (take (length ts - n) (drop n ts))) ≡ statement_in version (tree_of t)
form_states version t at k v is ts us same same' n within behind f found =
    ap (λ (xs : List code.Tree). axiom_by version (Some f) (trees_of xs)) (take_all (length ts - n) (drop n ts) (omega (arith, length-drop n ts)))
    ∙ ap (λ (xs : List code.Tree). axiom_by version (Some f) (trees_of (drop n xs))) (same ∙ sym same')
    ∙ ap (axiom_by version (Some f)) behind
    ∙ ap (λ (xs : List code.Tree). axiom_by version (Some f) (behind_annotations (trees_of xs))) same'
    ∙ ap (λ o. axiom_by version o (behind_annotations (trees_of v.items))) found
    ∙ ap (statement_in version) (sym (ap tree_of is ∙ form_tree at k v))
