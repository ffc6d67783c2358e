-- Names and operands of trees without faults are as they have to be.
use Rattle.std.proofs.Common.{◌≡◌, ℕ, zero, suc, ◌<◌, ◌≤◌, Bool, true, false, inl, inr, List, [], ◌∷◌, ◌++◌, Some, length, slice_get, refl, sym, ap, ◌∙◌, subst, arith, append_assoc, bytes_eq}
use Rattle.std.specs.Bool.{Decides}
use Rattle.std.specs.List.{list_any}
use Rattle.std.proofs.lemmas.Option.{none-some, slice_get_within}
use Rattle.std.proofs.lemmas.Slice.Eq.{bytes_eq-Decides}
use Rattle.lemmas.proofs.Members.{slice_get-from_Contains}
use Rattle.axioms.specs.Expression.{ClassExpression as Class, operand_list}
use Rattle.axioms.specs.Numbering.{same_expression}
use Rattle.axioms.specs.Ontology.{intersection, operands_of as parts_of}
use Rattle.axioms.specs.WellFormedness.{AreDistinct}
use Rattle.fs_parser.specs.Tree.{Tree, Trees, Name, Form, Empty, Then}
use Rattle.program.specs.declared.version.Version.{Version}
use Rattle.shapes.specs.Faults.{faults, faults_in}
use Rattle.shapes.specs.Names.{is_reserved}
use Rattle.shapes.specs.Shapes.{Many}
use Rattle.shapes.specs.declared.expected.Expected.{Expected}
use Rattle.shapes.specs.declared.expected.Expected.TheVariants.{ClassExpression, Individual, Property, PropertyOrChain}
use Rattle.profile.specs.Statements.{chain_of, class_of, classes_of, iri_of, iris_of, operand}
use Rattle.profile.proofs.ClassForms.{ArePlainSome, IsPlainForm, intersection_is, plain, some_is, some_values_are}
use Rattle.profile.proofs.DistinctOperands.{distinct_classes, distinct_individuals, distinct_properties}
use Rattle.profile.proofs.Faultless.{operand_parts}
use Rattle.profile.proofs.FirstPlaces.{found, one_expression}
use Rattle.profile.proofs.NameTrees.{chain_form}
use Rattle.profile.proofs.PlainNames.{allowed, individual_plain, not_none, property_plain, unreserved}
use Rattle.statements_text.specs.Sound.{AllPlain, AllSound, AreApart, AreSound, IsSound}

-- ---- what is distinct is apart

in_front : {A : Type 0} (xs ys : List A) (n : ℕ) (x : A) → slice_get xs n ≡ Some x → slice_get (xs ++ ys) n ≡ Some x
in_front [] ys n x h = absurd (none-some x h)
in_front (y ∷ xs) ys zero x h = h
in_front (y ∷ xs) ys (suc n) x h = in_front xs ys n x h

behind : {A : Type 0} (xs : List A) (y : A) (ys : List A) → slice_get (xs ++ y ∷ ys) (length xs) ≡ Some y
behind [] y ys = refl
behind (x ∷ xs) y ys = behind xs y ys

module _ {A : Type 0} (same : A → A → Bool) (one : (a b : A) → Decides (same a b) (a ≡ b)) where
  new_here : (earlier : List A) (x : A) (xs : List A) → AreDistinct (earlier ++ x ∷ xs) → list_any (same x) earlier ≡ false
  new_here earlier x xs distinct = go (list_any (same x) earlier) refl
    where
      go : (b : Bool) → list_any (same x) earlier ≡ b → list_any (same x) earlier ≡ false
      go false e = e
      go true e =
          let at = slice_get-from_Contains earlier x (found same one x earlier e) in
          let place : at.0 ≡ length earlier = distinct at.0 (length earlier) x (in_front earlier (x ∷ xs) at.0 x at.1) (behind earlier x xs) in
          let within : at.0 < length earlier = slice_get_within earlier at.0 x at.1 in
          absurd (omega (arith, place, within))

  apart_behind : (earlier xs : List A) → AreDistinct (earlier ++ xs) → AreApart same earlier xs
  apart_behind earlier [] h = tt
  apart_behind earlier (x ∷ xs) h = (new_here earlier x xs h, apart_behind (earlier ++ x ∷ []) xs (subst AreDistinct (sym (append_assoc earlier (x ∷ []) xs)) h))

  pub apart : (xs : List A) → AreDistinct xs → AreApart same [] xs
  apart xs h = apart_behind [] xs h

-- ---- intersections

parts_are : (c d : Class) (es : List Class) → operand_list (parts_of c d es) ≡ c ∷ d ∷ es
parts_are c d [] = refl
parts_are c d (e ∷ es) = ap (λ xs. c ∷ xs) (parts_are d e es)

parts_sound : (c d : Class) (es : List Class) → IsSound c → IsSound d → AllSound es → AreSound (parts_of c d es)
parts_sound c d [] h k all = (h, k)
parts_sound c d (e ∷ es) h k all = (h, parts_sound d e es k all.0 all.1)

intersection_sound : (cs : List Class) → 2 ≤ length cs → AllSound cs → AreDistinct cs → IsSound (intersection cs)
intersection_sound [] many all distinct = absurd (omega (arith, many))
intersection_sound (c ∷ []) many all distinct = absurd (omega (arith, many))
intersection_sound (c ∷ d ∷ es) many all distinct =
    (parts_sound c d es all.0 all.1.0 all.1.1, apart same_expression one_expression (operand_list (parts_of c d es)) (subst AreDistinct (sym (parts_are c d es)) distinct))

-- ---- trees

module _ (version : Version) where
  names_plain : (expected : Expected) (distinct : Bool) → ((t : Tree) → faults version expected t ≡ [] → is_reserved (iri_of t) ≡ false) → (earlier : List Tree) (ts : Trees) →
      faults_in version false earlier (Many distinct expected) ts ≡ [] → AllPlain (iris_of ts)
  names_plain expected distinct one earlier Empty h = tt
  names_plain expected distinct one earlier (Then t ts) h =
      let p = operand_parts version earlier (Many distinct expected) t ts h in
      (one t p.faultless, names_plain expected distinct one (earlier ++ t ∷ []) ts p.later)

  pub properties_plain : (distinct : Bool) (ts : Trees) → faults_in version false [] (Many distinct Property) ts ≡ [] → AllPlain (iris_of ts)
  properties_plain distinct ts h = names_plain Property distinct (property_plain version) [] ts h

  pub individuals_plain : (distinct : Bool) (ts : Trees) → faults_in version false [] (Many distinct Individual) ts ≡ [] → AllPlain (iris_of ts)
  individuals_plain distinct ts h = names_plain Individual distinct (individual_plain version) [] ts h

  pub properties_apart : (ts : Trees) → faults_in version false [] (Many true Property) ts ≡ [] → AreApart bytes_eq [] (iris_of ts)
  properties_apart ts h = apart bytes_eq bytes_eq-Decides (iris_of ts) (distinct_properties version ts h)

  pub individuals_apart : (ts : Trees) → faults_in version false [] (Many true Individual) ts ≡ [] → AreApart bytes_eq [] (iris_of ts)
  individuals_apart ts h = apart bytes_eq bytes_eq-Decides (iris_of ts) (distinct_individuals version ts h)

  pub classes_apart : (ts : Trees) → faults_in version false [] (Many true ClassExpression) ts ≡ [] → AreApart same_expression [] (classes_of ts)
  classes_apart ts h = apart same_expression one_expression (classes_of ts) (distinct_classes version ts h)

  -- ---- chains

  pub chain_plain : (t : Tree) → faults version PropertyOrChain t ≡ [] → (1 ≤ length (chain_of t)) × AllPlain (chain_of t)
  chain_plain (Name at iri) h = (omega arith, (unreserved iri (allowed version PropertyOrChain refl at iri h), tt))
  chain_plain (Form at k ts) h = let p = chain_form version at k ts h in (omega (arith, p.many), properties_plain false ts p.faultless)
  chain_plain _ h = absurd (not_none _ _ h)

  -- ---- expressions

  module _ (at : ℕ) (k : List ℕ) (ts : Trees) (lists : faults_in version false [] (Many true ClassExpression) ts ≡ [] → AllSound (classes_of ts))
      (pairs : ArePlainSome version ts → (is_reserved (iri_of (operand ts 0)) ≡ false) × IsSound (class_of (operand ts 1))) where
    form_sound : IsPlainForm version k ts → IsSound (class_of (Form at k ts))
    form_sound (inl p) = subst IsSound (sym (intersection_is version at k ts p)) (intersection_sound (classes_of ts) p.many (lists p.faultless) (distinct_classes version ts p.faultless))
    form_sound (inr p) = subst IsSound (sym (some_is version at k ts p ∙ some_values_are version ts p.parts_fit)) (pairs p.parts_fit)

  mutual
    pub class_sound : (t : Tree) → faults version ClassExpression t ≡ [] → IsSound (class_of t)
    class_sound (Name at iri) h = allowed version ClassExpression refl at iri h
    class_sound (Form at k ts) h = form_sound at k ts (λ f. classes_sound [] ts f) (λ p. some_sound ts p) (plain version at k ts h)
    class_sound _ h = absurd (not_none _ _ h)

    pub classes_sound : (earlier : List Tree) (ts : Trees) → faults_in version false earlier (Many true ClassExpression) ts ≡ [] → AllSound (classes_of ts)
    classes_sound earlier Empty h = tt
    classes_sound earlier (Then t ts) h =
        let p = operand_parts version earlier (Many true ClassExpression) t ts h in
        (class_sound t p.faultless, classes_sound (earlier ++ t ∷ []) ts p.later)

    some_sound : (ts : Trees) → ArePlainSome version ts → (is_reserved (iri_of (operand ts 0)) ≡ false) × IsSound (class_of (operand ts 1))
    some_sound (Then r (Then c Empty)) h = (property_plain version r h.0, class_sound c h.1)
    some_sound _ h = absurd h
