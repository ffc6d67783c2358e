-- Trees without faults where only some names may stand have none where any may.
use Rattle.std.proofs.Common.{◌≡◌, ℕ, Bool, true, false, ◌&&◌, not, List, [], ◌∷◌, ◌++◌, Option, Some, None, refl, ap₂, if◌then◌else◌}
use Rattle.axioms.specs.Ontology.{Names}
use Rattle.fs_parser.specs.Tree.{Tree, Trees, Name, Form, Empty, Then, place_of}
use Rattle.shapes.specs.Faults.{Fault, WrongShape, RepeatedOperand, ReservedName, UnknownName, count_of, faults, faults_among, faults_in, faults_inside, form_faults, is_annotation, is_repeated, operands_or_none, own_trees}
use Rattle.program.specs.declared.version.Version.{Version}
use Rattle.shapes.specs.Names.{is_allowed, is_there, may_be_name}
use Rattle.shapes.specs.Shapes.{Operands, fits_count, later_expected, may_be_annotated, next_expected, operands_of}
use Rattle.shapes.specs.declared.expected.Expected.{Expected}
use Rattle.shapes.specs.declared.expected.Expected.TheVariants.{Annotation}
use Rattle.profile.proofs.Faultless.{none_first, none_second}

name_any : (m a t : Bool) (at : ℕ) → (if not m then WrongShape at ∷ [] else (if a then (if t then [] else UnknownName at ∷ []) else ReservedName at ∷ [])) ≡ [] →
    (if not m then WrongShape at ∷ [] else (if a then [] else ReservedName at ∷ [])) ≡ []
name_any false a t at h = h
name_any true false t at h = h
name_any true true t at h = refl

form_any : (version : Version) (at : ℕ) (keyword : List ℕ) (o : Option Operands) (own : Trees) (here any : List Fault) → (here ≡ [] → any ≡ []) → form_faults version at keyword o own here ≡ [] → form_faults version at keyword o own any ≡ []
form_any version at keyword None own here any f h = h
form_any version at keyword (Some operands) own here any f h = fits (fits_count operands (count_of own)) h
  where
    fits : (b : Bool) → (if b then here else WrongShape at ∷ []) ≡ [] → (if b then any else WrongShape at ∷ []) ≡ []
    fits true k = f k
    fits false k = k

both_none : (xs ys : List Fault) → xs ≡ [] → ys ≡ [] → xs ++ ys ≡ []
both_none xs ys h k = ap₂ (λ a b. a ++ b) h k

inside_any : (a r : Bool) (f f' g g' k k' l l' : List Fault) (at : ℕ) → (f ≡ [] → f' ≡ []) → (g ≡ [] → g' ≡ []) → (k ≡ [] → k' ≡ []) → (l ≡ [] → l' ≡ []) →
    (if a then f ++ g else ((if r then RepeatedOperand at ∷ [] else k) ++ l)) ≡ [] → (if a then f' ++ g' else ((if r then RepeatedOperand at ∷ [] else k') ++ l')) ≡ []
inside_any true r f f' g g' k k' l l' at p q s t h = both_none f' g' (p (none_first f g h)) (q (none_second f g h))
inside_any false true f f' g g' k k' l l' at p q s t h = cc
inside_any false false f f' g g' k k' l l' at p q s t h = both_none k' l' (s (none_first k l h)) (t (none_second k l h))

mutual
  names_any : (version : Version) (names : Names) (expected : Expected) (t : Tree) → faults_among version (Some names) expected t ≡ [] → faults version expected t ≡ []
  names_any version names expected (Name at iri) h = name_any (may_be_name expected) (is_allowed expected iri) (is_there (Some names) expected iri) at h
  names_any version names expected (Form at keyword ts) h =
      let operands = operands_or_none (operands_of version expected keyword) in
      form_any version at keyword (operands_of version expected keyword) (own_trees expected ts)
      (faults_inside version (Some names) (may_be_annotated expected) [] operands ts) (faults_in version (may_be_annotated expected) [] operands ts)
      (λ i. any_inside version names (may_be_annotated expected) [] operands ts i) h
  names_any version names expected _ h = h

  any_inside : (version : Version) (names : Names) (annotated : Bool) (earlier : List Tree) (operands : Operands) (ts : Trees) → faults_inside version (Some names) annotated earlier operands ts ≡ [] → faults_in version annotated earlier operands ts ≡ []
  any_inside version names annotated earlier operands Empty h = refl
  any_inside version names annotated earlier operands (Then t ts) h =
      let more = earlier ++ t ∷ [] in
      let later = later_expected operands in
      inside_any (annotated && is_annotation t) (is_repeated operands t earlier)
      (faults_among version (Some names) Annotation t) (faults version Annotation t) (faults_inside version (Some names) annotated earlier operands ts) (faults_in version annotated earlier operands ts)
      (faults_among version (Some names) (next_expected operands) t) (faults version (next_expected operands) t) (faults_inside version (Some names) false more later ts) (faults_in version false more later ts) (place_of t)
      (λ i. names_any version names Annotation t i) (λ i. any_inside version names annotated earlier operands ts i) (λ i. names_any version names (next_expected operands) t i) (λ i. any_inside version names false more later ts i) h

pub any_names : (version : Version) (names : Option Names) (expected : Expected) (t : Tree) → faults_among version names expected t ≡ [] → faults version expected t ≡ []
any_names version None expected t h = h
any_names version (Some names) expected t h = names_any version names expected t h
