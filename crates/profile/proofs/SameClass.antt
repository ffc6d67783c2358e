-- Trees without faults that are the same class expression, or the same name, are the same tree.
use Rattle.std.proofs.Common.{◌≡◌, ℕ, true, false, inl, inr, List, [], ◌∷◌, ◌++◌, refl, sym, ◌∙◌, bytes_eq}
use Rattle.std.proofs.lemmas.Bool.{and_from}
use Rattle.std.proofs.lemmas.Slice.Eq.{bytes_eq-Decides}
use Rattle.axioms.specs.Expression.{Iri, Named, SomeValues}
use Rattle.axioms.specs.Ontology.{intersection}
use Rattle.fs_parser.specs.Tree.{Tree, Trees, Name, Form, Empty, Then}
use Rattle.program.specs.declared.version.Version.{Version}
use Rattle.shapes.specs.Faults.{faults, faults_in}
use Rattle.shapes.specs.TreeEquality.{same_tree, same_trees}
use Rattle.shapes.specs.Shapes.{Many}
use Rattle.shapes.specs.declared.expected.Expected.TheVariants.{ClassExpression}
use Rattle.profile.specs.Statements.{class_of, classes_of, iri_of, operand, some_values}
use Rattle.profile.proofs.ClassForms.{ArePlainSome, IsPlainForm, intersection_is, intersection_is_not, plain, same_parts, some_is, some_values_are}
use Rattle.profile.proofs.Faultless.{operand_parts}
use Rattle.profile.proofs.NameTrees.{IsName, property_name}

same_text : (a b : Iri) → a ≡ b → bytes_eq a b ≡ true
same_text a b e = (bytes_eq-Decides a b).1 e

pub same_name : (t u : Tree) → IsName t → IsName u → iri_of t ≡ iri_of u → same_tree t u ≡ true
same_name (Name at iri) (Name at' iri') h k e = same_text iri iri' e
same_name (Name at iri) _ h k e = absurd k
same_name _ u h k e = absurd h

module _ (version : Version) where
  -- ---- of two forms, where it holds of their trees

  named_is_no_form : (iri : Iri) (at : ℕ) (keyword : List ℕ) (ts : Trees) → IsPlainForm version keyword ts → Named iri ≡ class_of (Form at keyword ts) → ⊥
  named_is_no_form iri at keyword ts (inl p) e = (intersection_is_not (classes_of ts) p.many).0 iri (sym (intersection_is version at keyword ts p) ∙ sym e)
  named_is_no_form iri at keyword ts (inr p) e = let is : Named iri ≡ SomeValues (iri_of (operand ts 0)) (class_of (operand ts 1)) = e ∙ some_is version at keyword ts p ∙ some_values_are version ts p.parts_fit in cc

  module _ (at at' : ℕ) (k l : List ℕ) (ts us : Trees)
      (lists : faults_in version false [] (Many true ClassExpression) ts ≡ [] → faults_in version false [] (Many true ClassExpression) us ≡ [] → classes_of ts ≡ classes_of us → same_trees ts us ≡ true)
      (pairs : ArePlainSome version ts → ArePlainSome version us → some_values ts (classes_of ts) ≡ some_values us (classes_of us) → same_trees ts us ≡ true) where
    same_form : IsPlainForm version k ts → IsPlainForm version l us → class_of (Form at k ts) ≡ class_of (Form at' l us) → same_tree (Form at k ts) (Form at' l us) ≡ true
    same_form (inl p) (inl q) e =
        let wholes : intersection (classes_of ts) ≡ intersection (classes_of us) = sym (intersection_is version at k ts p) ∙ e ∙ intersection_is version at' l us q in
        and_from (bytes_eq k l) (same_trees ts us) (same_text k l (p.word ∙ sym q.word)) (lists p.faultless q.faultless (same_parts (classes_of ts) (classes_of us) p.many q.many wholes))
    same_form (inr p) (inr q) e =
        let wholes : some_values ts (classes_of ts) ≡ some_values us (classes_of us) = sym (some_is version at k ts p) ∙ e ∙ some_is version at' l us q in
        and_from (bytes_eq k l) (same_trees ts us) (same_text k l (p.word ∙ sym q.word)) (pairs p.parts_fit q.parts_fit wholes)
    same_form (inl p) (inr q) e =
        absurd ((intersection_is_not (classes_of ts) p.many).1 (iri_of (operand us 0)) (class_of (operand us 1))
        (sym (intersection_is version at k ts p) ∙ e ∙ some_is version at' l us q ∙ some_values_are version us q.parts_fit))
    same_form (inr p) (inl q) e =
        absurd ((intersection_is_not (classes_of us) q.many).1 (iri_of (operand ts 0)) (class_of (operand ts 1))
        (sym (intersection_is version at' l us q) ∙ sym e ∙ some_is version at k ts p ∙ some_values_are version ts p.parts_fit))

  mutual
    pub same_class : (t u : Tree) → faults version ClassExpression t ≡ [] → faults version ClassExpression u ≡ [] → class_of t ≡ class_of u → same_tree t u ≡ true
    same_class (Name at a) (Name at' b) h j e = let is : a ≡ b = cc in same_text a b is
    same_class (Name at a) (Form at' l us) h j e = absurd (named_is_no_form a at' l us (plain version at' l us j) e)
    same_class (Form at k ts) (Name at' b) h j e = absurd (named_is_no_form b at k ts (plain version at k ts h) (sym e))
    same_class (Form at k ts) (Form at' l us) h j e = same_form at at' k l ts us (λ f g. same_classes [] [] ts us f g) (λ f g. same_some ts us f g) (plain version at k ts h) (plain version at' l us j) e
    same_class (Name at a) _ h j e = cc
    same_class (Form at k ts) _ h j e = cc
    same_class _ u h j e = cc

    same_classes : (a b : List Tree) (ts us : Trees) → faults_in version false a (Many true ClassExpression) ts ≡ [] → faults_in version false b (Many true ClassExpression) us ≡ [] →
        classes_of ts ≡ classes_of us → same_trees ts us ≡ true
    same_classes a b Empty Empty h j e = refl
    same_classes a b Empty (Then u us) h j e = cc
    same_classes a b (Then t ts) Empty h j e = cc
    same_classes a b (Then t ts) (Then u us) h j e =
        let p = operand_parts version a (Many true ClassExpression) t ts h in
        let q = operand_parts version b (Many true ClassExpression) u us j in
        let first : class_of t ≡ class_of u = cc in
        let rest : classes_of ts ≡ classes_of us = cc in
        and_from (same_tree t u) (same_trees ts us) (same_class t u p.faultless q.faultless first) (same_classes (a ++ t ∷ []) (b ++ u ∷ []) ts us p.later q.later rest)

    same_some : (ts us : Trees) → ArePlainSome version ts → ArePlainSome version us → some_values ts (classes_of ts) ≡ some_values us (classes_of us) → same_trees ts us ≡ true
    same_some (Then r (Then c Empty)) (Then s (Then d Empty)) h j e =
        let property : iri_of r ≡ iri_of s = cc in
        let filler : class_of c ≡ class_of d = cc in
        and_from (same_tree r s) (same_trees (Then c Empty) (Then d Empty)) (same_name r s (property_name version r h.0) (property_name version s j.0) property)
        (and_from (same_tree c d) true (same_class c d h.1 j.1 filler) refl)
    same_some (Then r (Then c Empty)) _ h j e = absurd j
    same_some _ us h j e = absurd h
