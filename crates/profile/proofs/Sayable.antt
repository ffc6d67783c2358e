-- The names of what is read can be written where names of their kind may stand.
use Rattle.std.proofs.Common.{◌≡◌, ℕ, Bool, true, false, List, [], ◌∷◌, ◌++◌, Option, None, Some, All, refl, sym, ap, subst, ◌∙◌}
use Rattle.std.specs.List.{filter_map, flat_map}
use Rattle.std.specs.Str.{IsUtf8, bytes_eq}
use Rattle.std.proofs.lemmas.List.Elements.{All-append, All-cons, All-nil, filter_map-append}
use Rattle.std.proofs.lemmas.Grind.{flat_map-append}
use Rattle.axioms.specs.Axiom.{SubClassOf, EquivalentClasses, DisjointClasses, SubPropertyOf, EquivalentProperties, PropertyDomain, TransitiveProperty, ReflexiveProperty, ClassAssertion, PropertyAssertion, SameIndividuals, DifferentIndividuals, NegativePropertyAssertion}
use Rattle.axioms.specs.Expression.{ClassExpression as Class, Iri, Named, owl_thing, owl_nothing}
use Rattle.axioms.specs.Numbering.{Statement, DeclaresClass, DeclaresProperty, DeclaresIndividual, States, IsOntologyOf, class_name, parts, properties_in, statement_expressions, statement_individuals, statement_properties}
use Rattle.axioms.specs.Ontology.{Ontology}
use Rattle.axioms.specs.WellFormedness.{IsOntology}
use Rattle.fs_parser.specs.Document.{Document}
use Rattle.fs_parser.specs.Name.{Prefixes, CanBeSpelled, StandForSpelled}
use Rattle.fs_parser.specs.Tree.{Tree, Trees, Name, Form, Empty, Then}
use Rattle.fs_parser.proofs.SmallBytes.{plain}
use Rattle.program.specs.declared.version.Version.{Version}
use Rattle.shapes.specs.Faults.{faults, faults_in}
use Rattle.shapes.specs.Names.{is_class_name, is_reserved}
use Rattle.shapes.specs.Places.{faults_at, faults_from, place_behind}
use Rattle.shapes.specs.Shapes.{Many, row}
use Rattle.shapes.specs.TreeStatements.{Stated, meaning, said, statement_in}
use Rattle.shapes.specs.declared.expected.Expected.TheVariants.{Class as ClassName, ClassExpression, Individual, Property, PropertyOrChain}
use Rattle.shapes.specs.declared.form.Form as shapes
use Rattle.shapes.specs.declared.form.Form.TheVariants as forms
use Rattle.shapes.specs.declared.place.Place.{Place}
use Rattle.shapes.specs.declared.place.Place.TheVariants.{Axioms, Front}
use Rattle.shapes.proofs.Places.{one_by_one}
use Rattle.profile.specs.AddedTexts.{IsAddedText}
use Rattle.profile.specs.Additions.{Appends}
use Rattle.profile.specs.Documents.{AreTextOf, HasSayableNames, IsTaken}
use Rattle.profile.specs.Reading.{AreReadAs}
use Rattle.profile.specs.Statements.{chain_of, class_of, classes_of, iri_of, iris_of, statement_of, statements}
use Rattle.profile.proofs.ExpressionNames.{EachIsNamed, IsNamed, class_named, classes_named, more_named, none_named}
use Rattle.profile.proofs.Faultless.{none_first, none_second, operand_parts}
use Rattle.profile.proofs.FirstPlaces.{all_first}
use Rattle.profile.proofs.GivenOperands.{AreGiven, AreOne, AreThree, AreTwo, are_one, are_three, are_two}
use Rattle.profile.proofs.NameTrees.{IsName, chain_form, class_named as class_name_only, individual_name, property_name}
use Rattle.profile.proofs.PlainNames.{allowed, class_name_sound, individual_plain, property_plain, unreserved}
use Rattle.profile.proofs.Stated.{IsGiven, part_given}
use Rattle.profile.proofs.Stating.{names_first}
use Rattle.profile.proofs.TreeNames.{HasNames, HaveNames, IsWord, added_names, document_names}

-- ---- names

abbrev ClassIri : Iri → Type 0
ClassIri c = CanBeSpelled c × (is_class_name c ≡ true)

abbrev PlainIri : Iri → Type 0
PlainIri r = CanBeSpelled r × (is_reserved r ≡ false)

-- the class names in expressions, properties and individuals can be written
record AreSayable (es : List Class) (rs is : List Iri) : Type 0 where
  pub of_classes : All ClassIri (filter_map class_name es)
  pub of_properties : All PlainIri rs
  pub of_individuals : All PlainIri is

nothing_sayable : AreSayable [] [] []
nothing_sayable = record { of_classes = All-nil ClassIri; of_properties = All-nil PlainIri; of_individuals = All-nil PlainIri }

sayable_both : (es fs : List Class) (rs ss is js : List Iri) → AreSayable es rs is → AreSayable fs ss js → AreSayable (es ++ fs) (rs ++ ss) (is ++ js)
sayable_both es fs rs ss is js h k = record {
  of_classes = subst (All ClassIri) (sym (filter_map-append class_name es fs)) (All-append ClassIri (filter_map class_name es) (filter_map class_name fs) h.of_classes k.of_classes);
  of_properties = All-append PlainIri rs ss h.of_properties k.of_properties;
  of_individuals = All-append PlainIri is js h.of_individuals k.of_individuals;
}

-- those of class expressions, and these individuals
expressions_sayable : (cs : List Class) (is : List Iri) → EachIsNamed ClassIri PlainIri cs → All PlainIri is → AreSayable (flat_map parts cs) (flat_map properties_in cs) is
expressions_sayable cs is h k = record { of_classes = h.classes_named; of_properties = h.properties_named; of_individuals = k }

names_sayable : (rs is : List Iri) → All PlainIri rs → All PlainIri is → AreSayable [] rs is
names_sayable rs is h k = record { of_classes = All-nil ClassIri; of_properties = h; of_individuals = k }

none_plain : All PlainIri []
none_plain = All-nil PlainIri

one_plain : (r : Iri) → PlainIri r → All PlainIri (r ∷ [])
one_plain r h = All-cons PlainIri r [] h none_plain

two_plain : (r s : Iri) → PlainIri r → PlainIri s → All PlainIri (r ∷ s ∷ [])
two_plain r s h k = All-cons PlainIri r (s ∷ []) h (one_plain s k)

-- ---- statements

abbrev IsSayable : Statement → Type 0
IsSayable s = AreSayable (statement_expressions s) (statement_properties s) (statement_individuals s)

abbrev AllSayable : List Statement → Type 0
AllSayable ss = AreSayable (flat_map statement_expressions ss) (flat_map statement_properties ss) (flat_map statement_individuals ss)

one_sayable : (s : Statement) → IsSayable s → AllSayable (s ∷ [])
one_sayable s h = sayable_both (statement_expressions s) [] (statement_properties s) [] (statement_individuals s) [] h nothing_sayable

all_both : (ss us : List Statement) → AllSayable ss → AllSayable us → AllSayable (ss ++ us)
all_both ss us h k =
    subst (λ (es : List Class). AreSayable es (flat_map statement_properties (ss ++ us)) (flat_map statement_individuals (ss ++ us))) (sym (flat_map-append statement_expressions ss us))
    (subst (λ (rs : List Iri). AreSayable (flat_map statement_expressions ss ++ flat_map statement_expressions us) rs (flat_map statement_individuals (ss ++ us))) (sym (flat_map-append statement_properties ss us))
    (subst (λ (is : List Iri). AreSayable (flat_map statement_expressions ss ++ flat_map statement_expressions us) (flat_map statement_properties ss ++ flat_map statement_properties us) is)
    (sym (flat_map-append statement_individuals ss us))
    (sayable_both (flat_map statement_expressions ss) (flat_map statement_expressions us) (flat_map statement_properties ss) (flat_map statement_properties us) (flat_map statement_individuals ss) (flat_map statement_individuals us) h k)))

-- ---- operands

name_spelled : (t : Tree) → IsName t → HasNames t → CanBeSpelled (iri_of t)
name_spelled (Name at iri) n h = h
name_spelled _ n h = absurd n

module _ (version : Version) where
  class_operand : (t : Tree) → faults version ClassExpression t ≡ [] → HasNames t → IsNamed ClassIri PlainIri (class_of t)
  class_operand t h n =
      class_named ClassIri PlainIri version None CanBeSpelled IsWord (λ at iri k f. (k, allowed version ClassExpression refl at iri f))
      (λ at iri k f. (k, unreserved iri (allowed version Property refl at iri f))) t h n

  class_operands : (ts : Trees) → faults_in version false [] (Many true ClassExpression) ts ≡ [] → HaveNames ts → EachIsNamed ClassIri PlainIri (classes_of ts)
  class_operands ts h n =
      classes_named ClassIri PlainIri version None CanBeSpelled IsWord (λ at iri k f. (k, allowed version ClassExpression refl at iri f))
      (λ at iri k f. (k, unreserved iri (allowed version Property refl at iri f))) [] ts h n

  property_operand : (t : Tree) → faults version Property t ≡ [] → HasNames t → PlainIri (iri_of t)
  property_operand t h n = (name_spelled t (property_name version t h) n, property_plain version t h)

  individual_operand : (t : Tree) → faults version Individual t ≡ [] → HasNames t → PlainIri (iri_of t)
  individual_operand t h n = (name_spelled t (individual_name version t h) n, individual_plain version t h)

  class_name_operand : (t : Tree) → faults version ClassName t ≡ [] → HasNames t → ClassIri (iri_of t)
  class_name_operand t h n = (name_spelled t (class_name_only version t h) n, class_name_sound version t h)

  property_operands : (distinct : Bool) (earlier : List Tree) (ts : Trees) → faults_in version false earlier (Many distinct Property) ts ≡ [] → HaveNames ts → All PlainIri (iris_of ts)
  property_operands distinct earlier Empty h n = none_plain
  property_operands distinct earlier (Then t ts) h n =
      let p = operand_parts version earlier (Many distinct Property) t ts h in
      All-cons PlainIri (iri_of t) (iris_of ts) (property_operand t p.faultless n.0) (property_operands distinct (earlier ++ t ∷ []) ts p.later n.1)

  individual_operands : (earlier : List Tree) (ts : Trees) → faults_in version false earlier (Many true Individual) ts ≡ [] → HaveNames ts → All PlainIri (iris_of ts)
  individual_operands earlier Empty h n = none_plain
  individual_operands earlier (Then t ts) h n =
      let p = operand_parts version earlier (Many true Individual) t ts h in
      All-cons PlainIri (iri_of t) (iris_of ts) (individual_operand t p.faultless n.0) (individual_operands (earlier ++ t ∷ []) ts p.later n.1)

  chain_operand : (t : Tree) → faults version PropertyOrChain t ≡ [] → HasNames t → All PlainIri (chain_of t)
  chain_operand (Name at iri) h n = one_plain iri (n, unreserved iri (allowed version PropertyOrChain refl at iri h))
  chain_operand (Form at k ts) h n = property_operands false [] ts (chain_form version at k ts h).faultless n.1
  chain_operand _ h n = cc

  -- ---- rows

  one_class : (c : Class) → IsNamed ClassIri PlainIri c → EachIsNamed ClassIri PlainIri (c ∷ [])
  one_class c h = more_named ClassIri PlainIri c [] h (none_named ClassIri PlainIri)

  sub_class : (ts : Trees) → AreTwo version ClassExpression ClassExpression ts → HaveNames ts → AllSayable (said (row forms.SubClassOf).2 ts)
  sub_class (Then t (Then u Empty)) h n =
      let c = class_of t in
      let d = class_of u in
      one_sayable (States (SubClassOf c d)) (expressions_sayable (c ∷ d ∷ []) [] (more_named ClassIri PlainIri c (d ∷ []) (class_operand t h.0 n.0) (one_class d (class_operand u h.1 n.1.0))) none_plain)
  sub_class _ h n = absurd h

  sub_property : (ts : Trees) → AreTwo version PropertyOrChain Property ts → HaveNames ts → AllSayable (said (row forms.SubObjectPropertyOf).2 ts)
  sub_property (Then t (Then u Empty)) h n =
      let rs = chain_of t in
      let s = iri_of u in
      one_sayable (States (SubPropertyOf rs s)) (names_sayable (rs ++ s ∷ []) [] (All-append PlainIri rs (s ∷ []) (chain_operand t h.0 n.0) (one_plain s (property_operand u h.1 n.1.0))) none_plain)
  sub_property _ h n = absurd h

  domain : (ts : Trees) → AreTwo version Property ClassExpression ts → HaveNames ts → AllSayable (said (row forms.ObjectPropertyDomain).2 ts)
  domain (Then t (Then u Empty)) h n =
      let r = iri_of t in
      let c = class_of u in
      let named = class_operand u h.1 n.1.0 in
      one_sayable (States (PropertyDomain r c)) (record {
        of_classes = (one_class c named).classes_named;
        of_properties = All-cons PlainIri r (properties_in c) (property_operand t h.0 n.0) named.properties_named;
        of_individuals = none_plain;
      })
  domain _ h n = absurd h

  class_assertion : (ts : Trees) → AreTwo version ClassExpression Individual ts → HaveNames ts → AllSayable (said (row forms.ClassAssertion).2 ts)
  class_assertion (Then t (Then u Empty)) h n =
      let c = class_of t in
      one_sayable (States (ClassAssertion c (iri_of u))) (expressions_sayable (c ∷ []) (iri_of u ∷ []) (one_class c (class_operand t h.0 n.0)) (one_plain (iri_of u) (individual_operand u h.1 n.1.0)))
  class_assertion _ h n = absurd h

  transitive : (ts : Trees) → AreOne version Property ts → HaveNames ts → AllSayable (said (row forms.TransitiveObjectProperty).2 ts)
  transitive (Then t Empty) h n = one_sayable (States (TransitiveProperty (iri_of t))) (names_sayable (iri_of t ∷ []) [] (one_plain (iri_of t) (property_operand t h n.0)) none_plain)
  transitive _ h n = absurd h

  reflexive : (ts : Trees) → AreOne version Property ts → HaveNames ts → AllSayable (said (row forms.ReflexiveObjectProperty).2 ts)
  reflexive (Then t Empty) h n = one_sayable (States (ReflexiveProperty (iri_of t))) (names_sayable (iri_of t ∷ []) [] (one_plain (iri_of t) (property_operand t h n.0)) none_plain)
  reflexive _ h n = absurd h

  property_assertion : (ts : Trees) → AreThree version Property Individual Individual ts → HaveNames ts → AllSayable (said (row forms.ObjectPropertyAssertion).2 ts)
  property_assertion (Then t (Then u (Then v Empty))) h n =
      one_sayable (States (PropertyAssertion (iri_of t) (iri_of u) (iri_of v))) (names_sayable (iri_of t ∷ []) (iri_of u ∷ iri_of v ∷ []) (one_plain (iri_of t) (property_operand t h.0 n.0))
      (two_plain (iri_of u) (iri_of v) (individual_operand u h.1 n.1.0) (individual_operand v h.2 n.1.1.0)))
  property_assertion _ h n = absurd h

  negative_assertion : (ts : Trees) → AreThree version Property Individual Individual ts → HaveNames ts → AllSayable (said (row forms.NegativeObjectPropertyAssertion).2 ts)
  negative_assertion (Then t (Then u (Then v Empty))) h n =
      one_sayable (States (NegativePropertyAssertion (iri_of t) (iri_of u) (iri_of v))) (names_sayable (iri_of t ∷ []) (iri_of u ∷ iri_of v ∷ []) (one_plain (iri_of t) (property_operand t h.0 n.0))
      (two_plain (iri_of u) (iri_of v) (individual_operand u h.1 n.1.0) (individual_operand v h.2 n.1.1.0)))
  negative_assertion _ h n = absurd h

  declared_class : (ts : Trees) → AreOne version ClassName ts → HaveNames ts → AllSayable (said (row forms.Class).2 ts)
  declared_class (Then t Empty) h n =
      one_sayable (DeclaresClass (iri_of t)) (record { of_classes = All-cons ClassIri (iri_of t) [] (class_name_operand t h n.0) (All-nil ClassIri); of_properties = none_plain; of_individuals = none_plain })
  declared_class _ h n = absurd h

  declared_property : (ts : Trees) → AreOne version Property ts → HaveNames ts → AllSayable (said (row forms.ObjectProperty).2 ts)
  declared_property (Then t Empty) h n = one_sayable (DeclaresProperty (iri_of t)) (names_sayable (iri_of t ∷ []) [] (one_plain (iri_of t) (property_operand t h n.0)) none_plain)
  declared_property _ h n = absurd h

  declared_individual : (ts : Trees) → AreOne version Individual ts → HaveNames ts → AllSayable (said (row forms.NamedIndividual).2 ts)
  declared_individual (Then t Empty) h n = one_sayable (DeclaresIndividual (iri_of t)) (names_sayable [] (iri_of t ∷ []) none_plain (one_plain (iri_of t) (individual_operand t h n.0)))
  declared_individual _ h n = absurd h

  row_sayable : (f : shapes.Form) (ts : Trees) → AreGiven version (row f).1 ts → HaveNames ts → AllSayable (said (row f).2 ts)
  row_sayable forms.SubClassOf ts g n = sub_class ts (are_two version ClassExpression ClassExpression ts g) n
  row_sayable forms.EquivalentClasses ts g n = one_sayable (States (EquivalentClasses (classes_of ts))) (expressions_sayable (classes_of ts) [] (class_operands ts g.faultless n) none_plain)
  row_sayable forms.DisjointClasses ts g n = one_sayable (States (DisjointClasses (classes_of ts))) (expressions_sayable (classes_of ts) [] (class_operands ts g.faultless n) none_plain)
  row_sayable forms.SubObjectPropertyOf ts g n = sub_property ts (are_two version PropertyOrChain Property ts g) n
  row_sayable forms.EquivalentObjectProperties ts g n = one_sayable (States (EquivalentProperties (iris_of ts))) (names_sayable (iris_of ts) [] (property_operands true [] ts g.faultless n) none_plain)
  row_sayable forms.ObjectPropertyDomain ts g n = domain ts (are_two version Property ClassExpression ts g) n
  row_sayable forms.TransitiveObjectProperty ts g n = transitive ts (are_one version Property ts g) n
  row_sayable forms.ReflexiveObjectProperty ts g n = reflexive ts (are_one version Property ts g) n
  row_sayable forms.ClassAssertion ts g n = class_assertion ts (are_two version ClassExpression Individual ts g) n
  row_sayable forms.ObjectPropertyAssertion ts g n = property_assertion ts (are_three version Property Individual Individual ts g) n
  row_sayable forms.SameIndividual ts g n = one_sayable (States (SameIndividuals (iris_of ts))) (names_sayable [] (iris_of ts) none_plain (individual_operands [] ts g.faultless n))
  row_sayable forms.DifferentIndividuals ts g n = one_sayable (States (DifferentIndividuals (iris_of ts))) (names_sayable [] (iris_of ts) none_plain (individual_operands [] ts g.faultless n))
  row_sayable forms.NegativeObjectPropertyAssertion ts g n = negative_assertion ts (are_three version Property Individual Individual ts g) n
  row_sayable forms.Class ts g n = declared_class ts (are_one version ClassName ts g) n
  row_sayable forms.ObjectProperty ts g n = declared_property ts (are_one version Property ts g) n
  row_sayable forms.NamedIndividual ts g n = declared_individual ts (are_one version Individual ts g) n
  row_sayable _ ts g n = nothing_sayable

  -- ---- trees

  stated_sayable : (N : Type 0) → N → (says : Option Stated) → IsGiven version N says → AllSayable (meaning says)
  stated_sayable N n None g = nothing_sayable
  stated_sayable N n (Some stated) g = row_sayable stated.0 stated.1 g.0 (g.1 n)

  all_sayable : (place : Place) (ts : Trees) → faults_from version None place ts ≡ [] → HaveNames ts → AllSayable (statements version ts)
  all_sayable place Empty h n = nothing_sayable
  all_sayable place (Then t ts) h n =
      let both = sym (one_by_one version None place t ts) ∙ h in
      let here = faults_at version None place t in
      let behind = faults_from version None (place_behind place t) ts in
      all_both (statement_of version t) (statements version ts)
      (stated_sayable (HasNames t) n.0 (statement_in version t) (part_given version place t (none_first here behind both)))
      (all_sayable (place_behind place t) ts (none_second here behind both) n.1)

-- ---- ontologies

-- owl:Thing and owl:Nothing
standard_classes : All ClassIri (owl_thing ∷ owl_nothing ∷ [])
standard_classes =
    All-cons ClassIri owl_thing (owl_nothing ∷ []) (record { spelled = refl; utf8 = plain owl_thing refl }, refl)
    (All-cons ClassIri owl_nothing [] (record { spelled = refl; utf8 = plain owl_nothing refl }, refl) (All-nil ClassIri))

-- those of an ontology of statements
names_of_statements : (ss : List Statement) (o : Ontology) → IsOntologyOf ss o → AllSayable ss → HasSayableNames o.names
names_of_statements ss o is h =
    let es = flat_map statement_expressions ss in
    let all : List Class = Named owl_thing ∷ Named owl_nothing ∷ es in
    let classes = is.classes ∙ ap (filter_map class_name) is.expressions ∙ sym (names_first all) in
    record {
      classes = subst (All ClassIri) (sym classes) (all_first bytes_eq ClassIri (owl_thing ∷ owl_nothing ∷ filter_map class_name es) [] (All-append ClassIri (owl_thing ∷ owl_nothing ∷ []) (filter_map class_name es) standard_classes h.of_classes));
      properties = subst (All PlainIri) (sym is.properties) (all_first bytes_eq PlainIri (flat_map statement_properties ss) [] h.of_properties);
      individuals = subst (All PlainIri) (sym is.individuals) (all_first bytes_eq PlainIri (flat_map statement_individuals ss) [] h.of_individuals);
    }

-- those of the ontology that a text's document reads as
pub read_sayable : (version : Version) (bytes : List ℕ) (d : Document) (o : Ontology) → AreTextOf bytes d → AreReadAs version d.trees o → HasSayableNames o.names
read_sayable version bytes d o text read = names_of_statements (statements version d.trees) o read.ontology (all_sayable version (Front 2) d.trees read.faultless (document_names bytes d text))

appended_names : (P : Iri → Type 0) (old added new : List Iri) → Appends bytes_eq old added new → All P old → All P added → All P new
appended_names P old added new grows h k = subst (All P) (sym grows.places) (all_first bytes_eq P (old ++ added) [] (All-append P old added h k))

-- those of an ontology that grows by statements
pub grown_sayable : (version : Version) (prefixes : Prefixes) (text : List ℕ) (old new : Ontology) → IsUtf8 text → StandForSpelled prefixes → HasSayableNames old.names →
    IsAddedText version prefixes text old new → HasSayableNames new.names
grown_sayable version prefixes text old new utf8 bases h added =
    let ts = added.trees in
    let ss = statements version ts in
    let more = all_sayable version Axioms ts added.added.faultless (added_names prefixes text ts utf8 bases added.text_is) in
    let grows = added.added.adds.grows in
    record {
      classes = appended_names ClassIri old.names.classes (filter_map class_name (flat_map statement_expressions ss)) new.names.classes grows.classes_grow h.classes more.of_classes;
      properties = appended_names PlainIri old.names.properties (flat_map statement_properties ss) new.names.properties grows.properties_grow h.properties more.of_properties;
      individuals = appended_names PlainIri old.names.individuals (flat_map statement_individuals ss) new.names.individuals grows.individuals_grow h.individuals more.of_individuals;
    }

-- what grows by a text is taken, where it was before
pub grown_taken : (version : Version) (prefixes : Prefixes) (text : List ℕ) (old new : Ontology) → IsUtf8 text → StandForSpelled prefixes → IsTaken old → IsOntology new →
    IsAddedText version prefixes text old new → IsTaken new
grown_taken version prefixes text old new utf8 bases taken whole added = record {
  statements = taken.statements ++ statements version added.trees;
  numbered = added.added.ontology taken.statements taken.numbered;
  few_names = added.added.few_names;
  well_formed = whole;
  sayable = grown_sayable version prefixes text old new utf8 bases taken.sayable added;
}
