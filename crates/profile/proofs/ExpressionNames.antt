-- What holds of the names in class expressions of trees without faults.
use Rattle.std.proofs.Common.{◌≡◌, ◌≤◌, ◌++◌, ◌∙◌, ℕ, inl, inr, true, false, List, [], ◌∷◌, Option, None, Some, All, length, ap, refl, sym, subst}
use Rattle.std.specs.List.{cons_option, filter_map, flat_map}
use Rattle.std.proofs.lemmas.List.{append-nil}
use Rattle.std.proofs.lemmas.List.Elements.{All-append, All-cons, All-nil, filter_map-append}
use Rattle.axioms.specs.Expression.{Iri, ClassExpression as Class, SomeValues}
use Rattle.axioms.specs.Ontology.{Names, intersection}
use Rattle.axioms.specs.Numbering.{class_name, parts, properties_in}
use Rattle.fs_parser.specs.Tree.{Tree, Trees, Name, Form, Empty, Then}
use Rattle.program.specs.declared.version.Version.{Version}
use Rattle.shapes.specs.Faults.{faults_among, faults_inside}
use Rattle.shapes.specs.Shapes.{Operands, Each, Many, operands_of}
use Rattle.shapes.specs.declared.expected.Expected.TheVariants.{ClassExpression, Property}
use Rattle.profile.specs.Statements.{class_of, classes_of, iri_of, some_values}
use Rattle.profile.proofs.AnyNames.{any_names}
use Rattle.profile.proofs.ClassForms.{ArePlainSome, IsPlainForm, intersection_is, plain, some_is}
use Rattle.profile.proofs.ClassReading.{whole_of}
use Rattle.profile.proofs.Faultless.{inside_of, operand_parts_among}
use Rattle.profile.proofs.NameTrees.{IsName, property_name}
use Rattle.profile.proofs.TreeNames.{Hold, Holds}

module _ (P Q : Iri → Type 0) where
  -- of the class names in expressions the one holds, and of properties the other
  pub record AreNamed (all : List Class) (properties : List Iri) : Type 0 where
    pub classes_named : All P (filter_map class_name all)
    pub properties_named : All Q properties

  abbrev pub IsNamed : Class → Type 0
  IsNamed c = AreNamed (parts c) (properties_in c)

  abbrev pub EachIsNamed : List Class → Type 0
  EachIsNamed cs = AreNamed (flat_map parts cs) (flat_map properties_in cs)

  named_both : (es fs : List Class) (rs ss : List Iri) → AreNamed es rs → AreNamed fs ss → AreNamed (es ++ fs) (rs ++ ss)
  named_both es fs rs ss h k = record {
    classes_named = subst (All P) (sym (filter_map-append class_name es fs)) (All-append P (filter_map class_name es) (filter_map class_name fs) h.classes_named k.classes_named);
    properties_named = All-append Q rs ss h.properties_named k.properties_named;
  }

  pub none_named : EachIsNamed []
  none_named = record { classes_named = All-nil P; properties_named = All-nil Q }

  pub more_named : (c : Class) (cs : List Class) → IsNamed c → EachIsNamed cs → EachIsNamed (c ∷ cs)
  more_named c cs h k = named_both (parts c) (flat_map parts cs) (properties_in c) (flat_map properties_in cs) h k

  -- with one more expression that is no name
  named_with : (es : List Class) (rs : List Iri) (whole : Class) → class_name whole ≡ None → AreNamed es rs → AreNamed (es ++ whole ∷ []) rs
  named_with es rs whole none h =
      let is : filter_map class_name (es ++ whole ∷ []) ≡ filter_map class_name es =
      filter_map-append class_name es (whole ∷ []) ∙ ap (λ o. filter_map class_name es ++ cons_option o []) none ∙ append-nil (filter_map class_name es) in
      record { classes_named = subst (All P) (sym is) h.classes_named; properties_named = h.properties_named }

  named_intersection : (cs : List Class) → 2 ≤ length cs → EachIsNamed cs → IsNamed (intersection cs)
  named_intersection cs many h =
      let w = whole_of cs many in
      let all = named_with (flat_map parts cs) (flat_map properties_in cs) (intersection cs) w.unnamed h in
      record {
        classes_named = subst (λ (es : List Class). All P (filter_map class_name es)) (sym w.parts_is) all.classes_named;
        properties_named = subst (All Q) (sym w.properties_is) all.properties_named;
      }

  named_some : (r : Iri) (c : Class) → Q r → IsNamed c → IsNamed (SomeValues r c)
  named_some r c h k =
      let all = named_with (parts c) (properties_in c) (SomeValues r c) refl k in
      record { classes_named = all.classes_named; properties_named = All-cons Q r (properties_in c) h k.properties_named }

  abbrev pair : Operands
  pair = Each (Property ∷ ClassExpression ∷ [])

  -- where names without faults are so
  module _ (version : Version) (names : Option Names) (N W : List ℕ → Type 0)
      (class : (at : ℕ) (iri : Iri) → N iri → faults_among version names ClassExpression (Name at iri) ≡ [] → P iri)
      (property : (at : ℕ) (iri : Iri) → N iri → faults_among version names Property (Name at iri) ≡ [] → Q iri) where
    property_named : (r : Tree) → IsName r → faults_among version names Property r ≡ [] → Holds N W r → Q (iri_of r)
    property_named (Name at iri) n h k = property at iri k h
    property_named _ n h k = absurd n

    form_named : (at : ℕ) (keyword : List ℕ) (ts : Trees) → faults_among version names ClassExpression (Form at keyword ts) ≡ [] →
        (faults_inside version names false [] (Many true ClassExpression) ts ≡ [] → EachIsNamed (classes_of ts)) →
        (ArePlainSome version ts → faults_inside version names false [] pair ts ≡ [] → IsNamed (some_values ts (classes_of ts))) →
        IsPlainForm version keyword ts → IsNamed (class_of (Form at keyword ts))
    form_named at keyword ts h lists pairs (inl p) =
        let shape : operands_of version ClassExpression keyword ≡ Some (Many true ClassExpression) = ap (operands_of version ClassExpression) p.word in
        subst IsNamed (sym (intersection_is version at keyword ts p)) (named_intersection (classes_of ts) p.many (lists (inside_of version names ClassExpression at keyword ts (Many true ClassExpression) shape refl h)))
    form_named at keyword ts h lists pairs (inr p) =
        let shape : operands_of version ClassExpression keyword ≡ Some pair = ap (operands_of version ClassExpression) p.word in
        subst IsNamed (sym (some_is version at keyword ts p)) (pairs p.parts_fit (inside_of version names ClassExpression at keyword ts pair shape refl h))

    mutual
      pub class_named : (t : Tree) → faults_among version names ClassExpression t ≡ [] → Holds N W t → IsNamed (class_of t)
      class_named (Name at iri) h k = record { classes_named = All-cons P iri [] (class at iri k h) (All-nil P); properties_named = All-nil Q }
      class_named (Form at keyword ts) h k =
          form_named at keyword ts h (λ i. classes_named [] ts i k.1) (λ f i. some_named ts f i k.1) (plain version at keyword ts (any_names version names ClassExpression (Form at keyword ts) h))
      class_named _ h k = cc

      pub classes_named : (earlier : List Tree) (ts : Trees) → faults_inside version names false earlier (Many true ClassExpression) ts ≡ [] → Hold N W ts → EachIsNamed (classes_of ts)
      classes_named earlier Empty h k = none_named
      classes_named earlier (Then t ts) h k =
          let p = operand_parts_among version names earlier (Many true ClassExpression) t ts h in
          more_named (class_of t) (classes_of ts) (class_named t p.faultless k.0) (classes_named (earlier ++ t ∷ []) ts p.later k.1)

      some_named : (ts : Trees) → ArePlainSome version ts → faults_inside version names false [] pair ts ≡ [] → Hold N W ts → IsNamed (some_values ts (classes_of ts))
      some_named (Then r (Then c Empty)) fit h k =
          let first = operand_parts_among version names [] pair r (Then c Empty) h in
          let second = operand_parts_among version names (r ∷ []) (Each (ClassExpression ∷ [])) c Empty first.later in
          named_some (iri_of r) (class_of c) (property_named r (property_name version r fit.0) first.faultless k.0) (class_named c second.faultless k.1.0)
      some_named _ fit h k = absurd fit
