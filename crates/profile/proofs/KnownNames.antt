-- Class expressions over the names of an ontology bring it no name.
use Rattle.std.proofs.Common.{◌≡◌, ℕ, ◌≤◌, inl, inr, Bool, true, false, not, List, [], ◌∷◌, ◌++◌, Some, All, length, refl, sym, ◌∙◌, subst, arith, if◌then◌else◌}
use Rattle.std.specs.List.{filter_map, list_any}
use Rattle.std.specs.Str.{bytes_eq}
use Rattle.std.proofs.lemmas.List.{append-nil}
use Rattle.std.proofs.lemmas.List.Elements.{All-head, All-nil, All-tail}
use Rattle.std.proofs.lemmas.Slice.Eq.{bytes_eq-Decides}
use Rattle.axioms.specs.Expression.{Iri, ClassExpression as Class}
use Rattle.axioms.specs.Growth.{IsBounded, most_names}
use Rattle.axioms.specs.Ontology.{Names, Ontology, axiom_trees}
use Rattle.axioms.specs.Numbering.{class_name, first_places, parts, properties_in}
use Rattle.axioms.specs.WellFormedness.{AreDistinct, IsOntology}
use Rattle.fs_parser.specs.Tree.{Tree, Trees, Name, Form, Empty, Then}
use Rattle.shapes.specs.Faults.{WrongShape, ReservedName, UnknownName, expression_faults, faults_among}
use Rattle.program.specs.declared.version.Version.{Version}
use Rattle.shapes.specs.Names.{is_allowed, is_there}
use Rattle.shapes.specs.declared.expected.Expected.TheVariants.{ClassExpression, Property}
use Rattle.profile.specs.Additions.{Appends, AreTooMany, Overflows, ReadsClass}
use Rattle.profile.specs.ClassTrees.{IsClassTree}
use Rattle.profile.specs.Growth.{IsAddedAs}
use Rattle.profile.specs.Statements.{class_of}
use Rattle.profile.proofs.AnyNames.{any_names}
use Rattle.profile.proofs.Appending.{appends_join, appends_nothing, appends_old, once}
use Rattle.profile.proofs.ClassTrees.{class_tree}
use Rattle.profile.proofs.ExpressionNames.{IsNamed, class_named}
use Rattle.profile.proofs.FirstPlaces.{found}
use Rattle.profile.proofs.TreeNames.{Hold, Holds}

-- ---- names that are there

name_there : (m a t : Bool) (at : ℕ) → (if not m then WrongShape at ∷ [] else (if a then (if t then [] else UnknownName at ∷ []) else ReservedName at ∷ [])) ≡ [] → t ≡ true
name_there false a t at h = cc
name_there true false t at h = cc
name_there true true true at h = refl
name_there true true false at h = cc

abbrev AreAmong : List Iri → List Iri → Type 0
AreAmong names xs = All (λ x. list_any (bytes_eq x) names ≡ true) xs

-- the class and property names in an expression are there
abbrev IsKnown : Names → Class → Type 0
IsKnown names c = IsNamed (λ x. list_any (bytes_eq x) names.classes ≡ true) (λ x. list_any (bytes_eq x) names.properties ≡ true) c

abbrev Anything : List ℕ → Type 0
Anything x = Unit {0}

mutual
  any_holds : (t : Tree) → Holds Anything Anything t
  any_holds (Name at iri) = tt
  any_holds (Form at keyword ts) = (tt, any_hold ts)
  any_holds _ = tt

  any_hold : (ts : Trees) → Hold Anything Anything ts
  any_hold Empty = tt
  any_hold (Then t ts) = (any_holds t, any_hold ts)

known : (version : Version) (names : Names) (t : Tree) → faults_among version (Some names) ClassExpression t ≡ [] → IsKnown names (class_of t)
known version names t h =
    class_named (λ x. list_any (bytes_eq x) names.classes ≡ true) (λ x. list_any (bytes_eq x) names.properties ≡ true) version (Some names) Anything Anything
    (λ at iri k f. name_there true (is_allowed ClassExpression iri) (is_there (Some names) ClassExpression iri) at f)
    (λ at iri k f. name_there true (is_allowed Property iri) (is_there (Some names) Property iri) at f) t h (any_holds t)

-- ---- an ontology that has the names

all_old : (old xs : List Iri) → AreDistinct old → AreAmong old xs → Appends bytes_eq old xs old
all_old old [] distinct h = appends_nothing bytes_eq old (once bytes_eq bytes_eq-Decides old distinct)
all_old old (x ∷ xs) distinct h =
    let P : Iri → Type 0 = λ y. list_any (bytes_eq y) old ≡ true in
    appends_join bytes_eq (x ∷ []) xs old old old (appends_old bytes_eq bytes_eq-Decides old x distinct (found bytes_eq bytes_eq-Decides x old (All-head P x xs h))) (all_old old xs distinct (All-tail P x xs h))

same_list : (old xs new : List Iri) → AreDistinct old → AreAmong old xs → Appends bytes_eq old xs new → new ≡ old
same_list old xs new distinct h grow = grow.places ∙ sym (all_old old xs distinct h).places

names_from : {cs cs' ps ps' is is' : List Iri} → cs ≡ cs' → ps ≡ ps' → is ≡ is'
    → ◌≡◌ {A = Names} (record { classes = cs; properties = ps; individuals = is }) (record { classes = cs'; properties = ps'; individuals = is' })
names_from e f g = rw (e, f, g)

not_too_many : (old xs : List Iri) → AreDistinct old → AreAmong old xs → length old ≤ most_names → AreTooMany (first_places bytes_eq (old ++ xs)) → ⊥
not_too_many old xs distinct h few many =
    let k : AreTooMany old = subst AreTooMany (sym (all_old old xs distinct h).places) many in
    omega (arith, k, few)

module _ (version : Version) (o : Ontology) (t : Tree) (whole : IsOntology o) (faultless : expression_faults version o.names t ≡ []) where
  pub is_class : IsClassTree t
  is_class = class_tree version t (any_names version (Some o.names) ClassExpression t faultless)

  has_names : IsKnown o.names (class_of t)
  has_names = known version o.names t faultless

  pub expression_added : (b p q : Ontology) (e : ℕ) → b ≡ o → q ≡ p → ReadsClass (class_of t) b p e → IsAddedAs version o t q e
  expression_added b p q e from to read =
      let r : ReadsClass (class_of t) o q e = subst (λ (x : Ontology). ReadsClass (class_of t) x q e) from (subst (λ (x : Ontology). ReadsClass (class_of t) b x e) (sym to) read) in
      let grows = r.adds.grows in
      record {
        faultless = faultless;
        adds = r.adds;
        at = r.at;
        names = names_from (same_list o.names.classes (filter_map class_name (parts (class_of t))) q.names.classes whole.distinct_classes has_names.classes_named grows.classes_grow)
            (same_list o.names.properties (properties_in (class_of t)) q.names.properties whole.distinct_properties has_names.properties_named grows.properties_grow)
            (same_list o.names.individuals [] q.names.individuals whole.distinct_individuals (All-nil (λ x. list_any (bytes_eq x) o.names.individuals ≡ true)) grows.individuals_grow);
        axioms = grows.axioms_grow ∙ append-nil (axiom_trees o);
      }

  -- it brings no name, so that there are not too many with it
  pub no_overflow : (b : Ontology) → IsBounded o → b ≡ o → Overflows (parts (class_of t)) (properties_in (class_of t)) [] b → ⊥
  no_overflow b few from h = go (subst (Overflows (parts (class_of t)) (properties_in (class_of t)) []) from h)
    where
      go : Overflows (parts (class_of t)) (properties_in (class_of t)) [] o → ⊥
      go (inl h) = not_too_many o.names.classes (filter_map class_name (parts (class_of t))) whole.distinct_classes has_names.classes_named few.classes h
      go (inr (inl h)) = not_too_many o.names.properties (properties_in (class_of t)) whole.distinct_properties has_names.properties_named few.properties h
      go (inr (inr h)) = not_too_many o.names.individuals [] whole.distinct_individuals (All-nil (λ x. list_any (bytes_eq x) o.names.individuals ≡ true)) few.individuals h
