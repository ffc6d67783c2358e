-- Operands of which no two may be equal are different class expressions, or different names.
use Rattle.std.proofs.Common.{◌≡◌, ℕ, zero, suc, true, false, List, [], ◌∷◌, ◌++◌, Some, Contains, map, slice_get, refl, sym, ap, ◌∙◌, subst}
use Rattle.std.specs.List.{list_any}
use Rattle.std.proofs.lemmas.Bool.{both_ways, or_parts}
use Rattle.std.proofs.lemmas.List.{append-nil, append_assoc, map-append}
use Rattle.std.proofs.lemmas.Option.{none-some, same_Some}
use Rattle.lemmas.proofs.Members.{slice_get-from_Contains}
use Rattle.axioms.specs.WellFormedness.{AreDistinct}
use Rattle.axioms.proofs.Growing.{AreDistinct-push}
use Rattle.fs_parser.specs.Tree.{Tree, Trees, Empty, Then}
use Rattle.program.specs.declared.version.Version.{Version}
use Rattle.shapes.specs.Faults.{faults, faults_in}
use Rattle.shapes.specs.TreeEquality.{same_tree}
use Rattle.shapes.specs.Shapes.{Many}
use Rattle.shapes.specs.declared.expected.Expected.{Expected}
use Rattle.shapes.specs.declared.expected.Expected.TheVariants.{ClassExpression, Individual, Property}
use Rattle.profile.specs.Statements.{class_of, classes_of, iri_of, iris_of}
use Rattle.profile.proofs.Faultless.{operand_parts}
use Rattle.profile.proofs.NameTrees.{IsName, individual_name, property_name}
use Rattle.profile.proofs.SameClass.{same_class, same_name}

abbrev listed : Trees → List Tree
listed Empty = []
listed (Then t ts) = t ∷ listed ts

classes_are : (ts : Trees) → map class_of (listed ts) ≡ classes_of ts
classes_are Empty = refl
classes_are (Then t ts) = ap (λ cs. class_of t ∷ cs) (classes_are ts)

iris_are : (ts : Trees) → map iri_of (listed ts) ≡ iris_of ts
iris_are Empty = refl
iris_are (Then t ts) = ap (λ iris. iri_of t ∷ iris) (iris_are ts)

module _ (version : Version) where
  abbrev HaveNoFaults : Expected → List Tree → Type 0
  HaveNoFaults expected [] = Unit {0}
  HaveNoFaults expected (t ∷ ts) = (faults version expected t ≡ []) × HaveNoFaults expected ts

  one_more : (expected : Expected) (ts : List Tree) (t : Tree) → HaveNoFaults expected ts → faults version expected t ≡ [] → HaveNoFaults expected (ts ++ t ∷ [])
  one_more expected [] t h k = (k, tt)
  one_more expected (u ∷ us) t h k = (h.0, one_more expected us t h.1 k)

  -- trees without faults version that mean the same are the same
  abbrev IsTold : {A : Type 0} → Expected → (Tree → A) → Type 0
  IsTold expected view = (t u : Tree) → faults version expected t ≡ [] → faults version expected u ≡ [] → view t ≡ view u → same_tree t u ≡ true

  module _ {A : Type 0} (expected : Expected) (view : Tree → A) (told : IsTold expected view) where
    -- a tree that equals none of those before it means what none of them does
    is_new : (t : Tree) → faults version expected t ≡ [] → (earlier : List Tree) → HaveNoFaults expected earlier → list_any (same_tree t) earlier ≡ false → (n : ℕ) → slice_get (map view earlier) n ≡ Some (view t) → ⊥
    is_new t h [] k fresh n e = none-some (view t) e
    is_new t h (u ∷ us) k fresh zero e =
        both_ways (same_tree t u) (or_parts (same_tree t u) (list_any (same_tree t) us) fresh).0 (told t u h k.0 (sym (same_Some (view u) (view t) e)))
    is_new t h (u ∷ us) k fresh (suc n) e = is_new t h us k.1 (or_parts (same_tree t u) (list_any (same_tree t) us) fresh).1 n e

    distinct_behind : (earlier : List Tree) (ts : Trees) → HaveNoFaults expected earlier → AreDistinct (map view earlier) → faults_in version false earlier (Many true expected) ts ≡ [] →
        AreDistinct (map view earlier ++ map view (listed ts))
    distinct_behind earlier Empty k distinct h = subst AreDistinct (sym (append-nil (map view earlier))) distinct
    distinct_behind earlier (Then t ts) k distinct h =
        let parts = operand_parts version earlier (Many true expected) t ts h in
        let new : Contains (map view earlier) (view t) → ⊥ = λ c. let at = slice_get-from_Contains (map view earlier) (view t) c in is_new t parts.faultless earlier k parts.fresh at.0 at.1 in
        let pushed : AreDistinct (map view (earlier ++ t ∷ [])) = subst AreDistinct (sym (map-append view earlier (t ∷ []))) (AreDistinct-push (map view earlier) (view t) distinct new) in
        let whole = distinct_behind (earlier ++ t ∷ []) ts (one_more expected earlier t k parts.faultless) pushed parts.later in
        subst AreDistinct (ap (λ (xs : List A). xs ++ map view (listed ts)) (map-append view earlier (t ∷ [])) ∙ append_assoc (map view earlier) (view t ∷ []) (map view (listed ts))) whole

    none_distinct : AreDistinct {A = A} []
    none_distinct m n x g h = absurd (none-some x g)

    distinct_views : (ts : Trees) → faults_in version false [] (Many true expected) ts ≡ [] → AreDistinct (map view (listed ts))
    distinct_views ts h = distinct_behind [] ts tt none_distinct h

  pub distinct_classes : (ts : Trees) → faults_in version false [] (Many true ClassExpression) ts ≡ [] → AreDistinct (classes_of ts)
  distinct_classes ts h = subst AreDistinct (classes_are ts) (distinct_views ClassExpression class_of (same_class version) ts h)

  distinct_names : (expected : Expected) → ((t : Tree) → faults version expected t ≡ [] → IsName t) → (ts : Trees) → faults_in version false [] (Many true expected) ts ≡ [] → AreDistinct (iris_of ts)
  distinct_names expected name ts h =
      let told : IsTold expected iri_of = λ t u f g e. same_name t u (name t f) (name u g) e in
      subst AreDistinct (iris_are ts) (distinct_views expected iri_of told ts h)

  pub distinct_properties : (ts : Trees) → faults_in version false [] (Many true Property) ts ≡ [] → AreDistinct (iris_of ts)
  distinct_properties = distinct_names Property (property_name version)

  pub distinct_individuals : (ts : Trees) → faults_in version false [] (Many true Individual) ts ≡ [] → AreDistinct (iris_of ts)
  distinct_individuals = distinct_names Individual (individual_name version)
