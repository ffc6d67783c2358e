-- Operands without faults are what statements are made of.
use Rattle.std.proofs.Common.{◌≡◌, true, false, List, [], ◌∷◌, ◌++◌, arith}
use Rattle.std.proofs.lemmas.Bool.{eqb-true, false≢true}
use Rattle.fs_parser.specs.Tree.{Tree, Trees, Empty, Then}
use Rattle.program.specs.declared.version.Version.{Version}
use Rattle.shapes.specs.Faults.{count_of, faults, faults_in}
use Rattle.shapes.specs.Shapes.{Operands, Each, Many, fits_count}
use Rattle.shapes.specs.declared.expected.Expected.{Expected}
use Rattle.shapes.specs.declared.expected.Expected.TheVariants.{ClassExpression, Individual, Property, PropertyOrChain}
use Rattle.profile.specs.ClassTrees.{AreManyOperands, AreOperands, IsOperand}
use Rattle.profile.proofs.ClassForms.{count_of_classes}
use Rattle.profile.proofs.ClassTrees.{are_many_distinct, class_tree, class_trees}
use Rattle.profile.proofs.DistinctOperands.{distinct_individuals, distinct_properties}
use Rattle.profile.proofs.Faultless.{operand_parts}
use Rattle.profile.proofs.NameTrees.{count_of_names, many_trees, property_chain}

module _ (version : Version) where
  -- these are the operands that the shape says
  pub record AreGiven (operands : Operands) (ts : Trees) : Type 0 where
    pub count : fits_count operands (count_of ts) ≡ true
    pub faultless : faults_in version false [] operands ts ≡ []

  is_operand : (e : Expected) (t : Tree) → faults version e t ≡ [] → IsOperand e t
  is_operand ClassExpression t h = class_tree version t h
  is_operand PropertyOrChain t h = property_chain version t h
  is_operand _ t h = tt

  each_operand : (earlier : List Tree) (es : List Expected) (ts : Trees) → faults_in version false earlier (Each es) ts ≡ [] → AreOperands (Each es) ts
  each_operand earlier [] ts h = tt
  each_operand earlier (e ∷ es) Empty h = tt
  each_operand earlier (e ∷ es) (Then t ts) h =
      let parts = operand_parts version earlier (Each (e ∷ es)) t ts h in
      (is_operand e t parts.faultless, each_operand (earlier ++ t ∷ []) es ts parts.later)

  many_operands : (e : Expected) (ts : Trees) → AreGiven (Many true e) ts → AreManyOperands e ts
  many_operands ClassExpression ts g =
      (class_trees version [] ts g.faultless, are_many_distinct version ts (omega (arith, count_of_classes ts, many_trees true ClassExpression ts g.count)) g.faultless)
  many_operands Property ts g = record { many = omega (arith, count_of_names ts, many_trees true Property ts g.count); distinct = distinct_properties version ts g.faultless }
  many_operands Individual ts g = record { many = omega (arith, count_of_names ts, many_trees true Individual ts g.count); distinct = distinct_individuals version ts g.faultless }
  many_operands _ ts g = tt

  pub given_operands : (operands : Operands) (ts : Trees) → AreGiven operands ts → AreOperands operands ts
  given_operands (Each es) ts g = each_operand [] es ts g.faultless
  given_operands (Many true e) ts g = many_operands e ts g
  given_operands (Many false e) ts g = tt

  -- ---- operands, one by one

  abbrev pub AreOne : Expected → Trees → Type 0
  AreOne e (Then t Empty) = faults version e t ≡ []
  AreOne e _ = ⊥

  abbrev pub AreTwo : Expected → Expected → Trees → Type 0
  AreTwo e f (Then t (Then u Empty)) = (faults version e t ≡ []) × (faults version f u ≡ [])
  AreTwo e f _ = ⊥

  abbrev pub AreThree : Expected → Expected → Expected → Trees → Type 0
  AreThree e f g (Then t (Then u (Then v Empty))) = (faults version e t ≡ []) × (faults version f u ≡ []) × (faults version g v ≡ [])
  AreThree e f g _ = ⊥

  pub are_one : (e : Expected) (ts : Trees) → AreGiven (Each (e ∷ [])) ts → AreOne e ts
  are_one e Empty g = absurd (false≢true g.count)
  are_one e (Then t Empty) g = (operand_parts version [] (Each (e ∷ [])) t Empty g.faultless).faultless
  are_one e (Then t (Then u ts)) g = absurd (let n = eqb-true (count_of (Then t (Then u ts))) 1 g.count in omega (arith, n))

  pub are_two : (e f : Expected) (ts : Trees) → AreGiven (Each (e ∷ f ∷ [])) ts → AreTwo e f ts
  are_two e f Empty g = absurd (false≢true g.count)
  are_two e f (Then t Empty) g = absurd (false≢true g.count)
  are_two e f (Then t (Then u Empty)) g =
      let a = operand_parts version [] (Each (e ∷ f ∷ [])) t (Then u Empty) g.faultless in
      let b = operand_parts version (t ∷ []) (Each (f ∷ [])) u Empty a.later in
      (a.faultless, b.faultless)
  are_two e f (Then t (Then u (Then v ts))) g = absurd (let n = eqb-true (count_of (Then t (Then u (Then v ts)))) 2 g.count in omega (arith, n))

  pub are_three : (e f h : Expected) (ts : Trees) → AreGiven (Each (e ∷ f ∷ h ∷ [])) ts → AreThree e f h ts
  are_three e f h Empty g = absurd (false≢true g.count)
  are_three e f h (Then t Empty) g = absurd (false≢true g.count)
  are_three e f h (Then t (Then u Empty)) g = absurd (false≢true g.count)
  are_three e f h (Then t (Then u (Then v Empty))) g =
      let a = operand_parts version [] (Each (e ∷ f ∷ h ∷ [])) t (Then u (Then v Empty)) g.faultless in
      let b = operand_parts version (t ∷ []) (Each (f ∷ h ∷ [])) u (Then v Empty) a.later in
      let c = operand_parts version (t ∷ u ∷ []) (Each (h ∷ [])) v Empty b.later in
      (a.faultless, b.faultless, c.faultless)
  are_three e f h (Then t (Then u (Then v (Then w ts)))) g = absurd (let n = eqb-true (count_of (Then t (Then u (Then v (Then w ts))))) 3 g.count in omega (arith, n))
