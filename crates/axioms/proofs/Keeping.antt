-- The fields of an ontology, by the ontology that they stand for.
use Rattle.std.proofs.Common.{◌≡◌, ℕ, ◌+◌, ◌^◌, ◌<◌, ◌≤◌, zero, suc, inl, inr, ◌++◌, ◌∷◌, [], List, length, map, slice_get, Some, Contains, string_bytes, refl, sym, ap, ◌∙◌, subst, arith}
use Rattle.std.proofs.lemmas.List.{length-map, length_push}
use Rattle.std.proofs.lemmas.Option.{none-some, same_Some, slice_get_within}
use Rattle.lemmas.proofs.Places.{slice_get_push, slice_get_push_cases, keeps_push}
use Rattle.axioms.specs.Expression.{owl_thing, owl_nothing}
use Rattle.axioms.specs.Growth.{DeclaresClass, IsBounded, Numbers, empty_ontology, most_names, with_axiom, with_class}
use Rattle.axioms.specs.Fields.{kept_ontology, IsKept}
use Rattle.axioms.specs.Ontology.{Ontology, Node, Axiom, Class, IsClassAt}
use Rattle.axioms.specs.View.{node_of, axiom_of}
use Rattle.axioms.specs.WellFormedness.{IsOntology}
use Rattle.axioms.specs.declared.ids.ExprId.{ExprId}
use Rattle.axioms.specs.declared.ontology.Ontology.TheInside.{Inside}
use Rattle.axioms.proofs.Growing.{new_class_node}
use Rattle.axioms.proofs.TwoClasses.{empty_is_ontology}

-- a table of classes has the expression of each
abbrev pub IsTable : Ontology → List ExprId → Type 0
IsTable o table = (length table ≡ length o.names.classes) × ((c : ℕ) (e : ExprId) → slice_get table c ≡ Some e → IsClassAt o c e.0)

pub kept_as : (inside : Inside) (o : Ontology) → kept_ontology inside ≡ o → IsOntology o → IsBounded o → IsTable o inside.class_expressions.items → IsKept inside
kept_as inside o is whole bounded table = record {
  ontology = subst IsOntology (sym is) whole;
  bounded = subst IsBounded (sym is) bounded;
  long = table.0 ∙ ap (λ p. length p.names.classes) (sym is) ∙ length-map inside.classes.keys _;
  each = λ c e g. subst (λ p. IsClassAt p c e.0) (sym is) (table.1 c e g);
}

pub table_of : (inside : Inside) → IsKept inside → IsTable (kept_ontology inside) inside.class_expressions.items
table_of inside kept = (kept.long ∙ sym (length-map inside.classes.keys _), kept.each)

-- the table of the two classes of the standard
pub empty_table : (table : List ExprId) → table ≡ record { 0 = 0 } ∷ record { 0 = 1 } ∷ [] → IsTable empty_ontology table
empty_table table is = subst (IsTable empty_ontology) (sym is) (refl, place)
  where
    place : (c : ℕ) (e : ExprId) → slice_get (record { 0 = 0 } ∷ record { 0 = 1 } ∷ []) c ≡ Some e → IsClassAt empty_ontology c e.0
    place zero e g = ap (λ (x : ExprId). slice_get empty_ontology.nodes x.0) (sym (same_Some _ e g))
    place (suc zero) e g = ap (λ (x : ExprId). slice_get empty_ontology.nodes x.0) (sym (same_Some _ e g))
    place (suc (suc c)) e g = absurd (none-some e g)

-- a table grows with the classes
pub grown_table : (o : Ontology) (iri : List ℕ) (table : List ExprId) (e : ExprId) → IsTable o table → e.0 ≡ length o.nodes → IsTable (with_class o iri) (table ++ e ∷ [])
grown_table o iri table e old at = (omega (arith, length_push table e, length_push o.names.classes iri, old.0), place)
  where
    last : (c : ℕ) (f : ExprId) → c ≡ length table → e ≡ f → IsClassAt (with_class o iri) c f.0
    last c f is same =
        let n : ℕ = length o.names.classes in
        let e-is : f.0 ≡ length o.nodes = ap (λ (x : ExprId). x.0) (sym same) ∙ at in
        ap (slice_get (o.nodes ++ Class n ∷ [])) e-is ∙ slice_get_push o.nodes (Class n) ∙ ap (λ k. Some (Class k)) (sym (is ∙ old.0))

    place : (c : ℕ) (f : ExprId) → slice_get (table ++ e ∷ []) c ≡ Some f → IsClassAt (with_class o iri) c f.0
    place c f g =
        elim (slice_get_push_cases table e c f g) [
          | inl h ↦ keeps_push o.nodes (Class (length o.names.classes)) f.0 (Class c) (old.1 c f h)
          | inr h ↦ last c f h.0 h.1
        ]

-- two ontologies with the same parts
pub same_ontology : (o p : Ontology) → o.names.classes ≡ p.names.classes → o.names.properties ≡ p.names.properties → o.names.individuals ≡ p.names.individuals → o.nodes ≡ p.nodes → o.axioms ≡ p.axioms → o ≡ p
same_ontology o p e f g h i =
    parts e f g h i
  where
    parts : {cs cs' ps ps' is is' : List (List ℕ)} {ns ns' : List Node} {xs xs' : List Axiom} → cs ≡ cs' → ps ≡ ps' → is ≡ is' → ns ≡ ns' → xs ≡ xs'
        → ◌≡◌ {A = Ontology} (record { names = record { classes = cs; properties = ps; individuals = is }; nodes = ns; axioms = xs }) (record { names = record { classes = cs'; properties = ps'; individuals = is' }; nodes = ns'; axioms = xs' })
    parts e f g h i = rw (e, f, g, h, i)

empty_is_bounded : IsBounded empty_ontology
empty_is_bounded = record { classes = omega arith; properties = omega arith; individuals = omega arith; expressions = omega arith; axioms = omega arith }

-- the fields of the ontology of no statements
pub empty_kept : (inside : Inside) → map string_bytes inside.classes.keys ≡ owl_thing ∷ owl_nothing ∷ [] → inside.properties.keys ≡ [] → inside.individuals.keys ≡ []
    → map node_of inside.expressions.keys ≡ Class 0 ∷ Class 1 ∷ [] → inside.axioms.items ≡ [] → inside.class_expressions.items ≡ record { 0 = 0 } ∷ record { 0 = 1 } ∷ [] → IsKept inside
empty_kept inside classes properties individuals nodes axioms table =
    let is = same_ontology (kept_ontology inside) empty_ontology classes (ap (map string_bytes) properties) (ap (map string_bytes) individuals) nodes (ap (map axiom_of) axioms) in
    kept_as inside empty_ontology is empty_is_ontology empty_is_bounded (empty_table _ table)

-- a class and its expression, put behind the others
pub class_pushed : (o : Ontology) (iri : List ℕ) (classes : List (List ℕ)) (nodes : List Node) (n : ℕ) → classes ≡ o.names.classes ++ iri ∷ [] → nodes ≡ o.nodes ++ Class n ∷ [] → n ≡ length o.names.classes
    → record o { names = record o.names { classes = classes }; nodes = nodes } ≡ with_class o iri
class_pushed o iri classes nodes n named stated at = same_ontology _ (with_class o iri) named refl refl (stated ∙ ap (λ m. o.nodes ++ Class m ∷ []) at) refl

-- an ontology with one more class is bounded where there was room for it
pub bounded_with_class : (o : Ontology) (iri : List ℕ) → IsBounded o → length o.names.classes < most_names → length o.nodes < 2 ^ 32 → IsBounded (with_class o iri)
bounded_with_class o iri bounded room place = record {
  classes = omega (arith, length_push o.names.classes iri);
  properties = bounded.properties;
  individuals = bounded.individuals;
  expressions = omega (arith, length_push o.nodes (Class (length o.names.classes)));
  axioms = bounded.axioms;
}

-- an ontology with one more axiom is bounded where there was room for it
pub bounded_with_axiom : (o : Ontology) (axiom' : Axiom) → IsBounded o → length o.axioms + 1 < 2 ^ 32 → IsBounded (with_axiom o axiom')
bounded_with_axiom o axiom' bounded room = record {
  classes = bounded.classes;
  properties = bounded.properties;
  individuals = bounded.individuals;
  expressions = bounded.expressions;
  axioms = omega (arith, length_push o.axioms axiom');
}

-- what has a number in a list that has x at most once more is below its length
pub number_below : {X : Type 0} (old : List X) (x : X) (new : List X) (n : ℕ) → Numbers old x new n → (n < length new) × (length new ≤ length old + 1)
number_below old x new n (inl (at, same)) = (slice_get_within new n x (subst (λ xs. slice_get xs n ≡ Some x) (sym same) at), omega (arith, ap length same))
number_below old x new n (inr (apart, at, longer)) = (omega (arith, ap length longer, length_push old x), omega (arith, ap length longer, length_push old x))

-- what a declaration of a class says where the name is there
pub declares_present : (o : Ontology) (iri : List ℕ) (class place : ℕ) → slice_get o.names.classes class ≡ Some iri → IsClassAt o class place → DeclaresClass o iri o class place
declares_present o iri class place named at = record { name = inl (named, refl); node = inl (at, refl); others = refl }

-- what a declaration of a class says where the name is new
pub declares_new : (o : Ontology) → IsOntology o → (iri : List ℕ) → (Contains o.names.classes iri → ⊥) → (new : Ontology) (class place : ℕ)
    → class ≡ length o.names.classes → place ≡ length o.nodes → new ≡ with_class o iri → DeclaresClass o iri new class place
declares_new o whole iri absent new class place class-is place-is is = subst (λ p. DeclaresClass o iri p class place) (sym is) (record {
  name = inr (absent, class-is, refl);
  node = inr (λ there. new_class_node o whole (subst (λ m. Contains o.nodes (Class m)) class-is there), place-is, ap (λ m. o.nodes ++ Class m ∷ []) (sym class-is));
  others = refl;
})

-- fields that stand for the same as those of an ontology
pub copy_kept : (from copy : Inside) → IsKept from → kept_ontology copy ≡ kept_ontology from → copy.class_expressions.items ≡ from.class_expressions.items → IsKept copy
copy_kept from copy kept same table =
    kept_as copy (kept_ontology from) same kept.ontology kept.bounded (subst (IsTable (kept_ontology from)) (sym table) (table_of from kept))
