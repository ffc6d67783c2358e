-- Trees without faults, where class expressions are expected, are class expressions.
use Rattle.std.proofs.Common.{◌≡◌, ℕ, ◌≤◌, true, false, inl, inr, List, [], ◌∷◌, ◌++◌, length, sym, subst}
use Rattle.fs_parser.specs.Tree.{Tree, Trees, Name, Form, Empty, Then}
use Rattle.program.specs.declared.version.Version.{Version}
use Rattle.shapes.specs.Faults.{faults, faults_in}
use Rattle.shapes.specs.Shapes.{Many}
use Rattle.shapes.specs.declared.expected.Expected.TheVariants.{ClassExpression}
use Rattle.profile.specs.ClassTrees.{AreClassTrees, AreManyDistinct, AreSomeTrees, IsClassTree}
use Rattle.profile.specs.Statements.{classes_of}
use Rattle.profile.proofs.ClassForms.{ArePlainSome, IsPlainForm, plain}
use Rattle.profile.proofs.DistinctOperands.{distinct_classes}
use Rattle.profile.proofs.Faultless.{operand_parts}

module _ (version : Version) where
  pub are_many_distinct : (ts : Trees) → 2 ≤ length (classes_of ts) → faults_in version false [] (Many true ClassExpression) ts ≡ [] → AreManyDistinct ts
  are_many_distinct ts many h = record { many = many; distinct = distinct_classes version ts h }

  -- a form, where it holds of its trees
  class_form : (at : ℕ) (keyword : List ℕ) (ts : Trees) →
      (faults_in version false [] (Many true ClassExpression) ts ≡ [] → AreClassTrees ts) → (ArePlainSome version ts → AreSomeTrees ts) → IsPlainForm version keyword ts → IsClassTree (Form at keyword ts)
  class_form at keyword ts lists pairs (inl p) =
      let P : List ℕ → Type 0 = λ k. IsClassTree (Form at k ts) in
      subst P (sym p.word) (lists p.faultless, are_many_distinct ts p.many p.faultless)
  class_form at keyword ts lists pairs (inr p) =
      let P : List ℕ → Type 0 = λ k. IsClassTree (Form at k ts) in
      subst P (sym p.word) (pairs p.parts_fit)

  mutual
    pub class_tree : (t : Tree) → faults version ClassExpression t ≡ [] → IsClassTree t
    class_tree (Name at iri) h = tt
    class_tree (Form at keyword ts) h = class_form at keyword ts (λ f. class_trees [] ts f) (λ f. some_trees ts f) (plain version at keyword ts h)
    class_tree _ h = cc

    pub class_trees : (earlier : List Tree) (ts : Trees) → faults_in version false earlier (Many true ClassExpression) ts ≡ [] → AreClassTrees ts
    class_trees earlier Empty h = tt
    class_trees earlier (Then t ts) h =
        let parts = operand_parts version earlier (Many true ClassExpression) t ts h in
        (class_tree t parts.faultless, class_trees (earlier ++ t ∷ []) ts parts.later)

    some_trees : (ts : Trees) → ArePlainSome version ts → AreSomeTrees ts
    some_trees (Then r (Then c Empty)) h = class_tree c h.1
    some_trees _ h = absurd h
