-- An ontology and one statement more, and what stays where statements are added.
use Rattle.std.proofs.Common.{◌≡◌, Bool, true, false, ◌||◌, List, [], ◌∷◌, ◌++◌, refl, sym, ap, ◌∙◌, if◌then◌else◌}
use Rattle.std.specs.List.{list_any, flat_map, filter_map}
use Rattle.std.specs.Str.{bytes_eq}
use Rattle.std.proofs.lemmas.List.{append-nil}
use Rattle.std.proofs.lemmas.List.Elements.{filter_map-append}
use Rattle.std.proofs.lemmas.Grind.{flat_map-append}
use Rattle.axioms.specs.Expression.{Iri, ClassExpression, Named, Intersection, SomeValues, owl_thing, owl_nothing}
use Rattle.axioms.specs.Ontology.{trees}
use Rattle.axioms.specs.Numbering.{Statement, first_places, first_places_from, same_expression, class_name, logical_axiom, statement_expressions, statement_properties, statement_individuals}
use Rattle.profile.specs.Additions.{Appends}
use Rattle.profile.specs.Theorems.{AdditionsChangeNoNumber, OneMoreStatement}
use Rattle.profile.proofs.FirstPlaces.{seen_after}
use Rattle.profile.proofs.Appending.{places_append, places_join}

-- ---- the names among the first places of expressions are first places

abbrev AreSame : List ClassExpression → List Iri → Type 0
AreSame seen names = (c : Iri) → list_any (bytes_eq c) names ≡ list_any (same_expression (Named c)) seen

name_step : (c : Iri) (xs seen : List ClassExpression) (names : List Iri) → AreSame seen names →
    ((s : List ClassExpression) (ns : List Iri) → AreSame s ns → first_places_from bytes_eq ns (filter_map class_name xs) ≡ filter_map class_name (first_places_from same_expression s xs)) →
    (b : Bool) →
    (if b then first_places_from bytes_eq names (filter_map class_name xs) else c ∷ first_places_from bytes_eq (c ∷ names) (filter_map class_name xs))
    ≡ filter_map class_name (if b then first_places_from same_expression seen xs else Named c ∷ first_places_from same_expression (Named c ∷ seen) xs)
name_step c xs seen names same later true = later seen names same
name_step c xs seen names same later false = ap (λ ns. c ∷ ns) (later (Named c ∷ seen) (c ∷ names) (λ d. ap (λ b. bytes_eq d c || b) (same d)))

other_step : (x : ClassExpression) (xs seen : List ClassExpression) (names : List Iri) → AreSame seen names → AreSame (x ∷ seen) names →
    ((s : List ClassExpression) (ns : List Iri) → AreSame s ns → first_places_from bytes_eq ns (filter_map class_name xs) ≡ filter_map class_name (first_places_from same_expression s xs)) →
    (b : Bool) → (ns : List Iri) → first_places_from bytes_eq names ns ≡ first_places_from bytes_eq names (filter_map class_name xs) →
    ((zs : List ClassExpression) → filter_map class_name (x ∷ zs) ≡ filter_map class_name zs) →
    first_places_from bytes_eq names ns ≡ filter_map class_name (if b then first_places_from same_expression seen xs else x ∷ first_places_from same_expression (x ∷ seen) xs)
other_step x xs seen names same same' later true ns is none = is ∙ later seen names same
other_step x xs seen names same same' later false ns is none = is ∙ later (x ∷ seen) names same' ∙ sym (none (first_places_from same_expression (x ∷ seen) xs))

names_from : (xs seen : List ClassExpression) (names : List Iri) → AreSame seen names → first_places_from bytes_eq names (filter_map class_name xs) ≡ filter_map class_name (first_places_from same_expression seen xs)
names_from [] seen names same = refl
names_from (Named c ∷ xs) seen names same =
    ap (λ b. if b then first_places_from bytes_eq names (filter_map class_name xs) else c ∷ first_places_from bytes_eq (c ∷ names) (filter_map class_name xs)) (same c)
    ∙ name_step c xs seen names same (λ s ns h. names_from xs s ns h) (list_any (same_expression (Named c)) seen)
names_from (Intersection operands ∷ xs) seen names same =
    other_step (Intersection operands) xs seen names same (λ c. same c) (λ s ns h. names_from xs s ns h) (list_any (same_expression (Intersection operands)) seen) (filter_map class_name xs) refl (λ zs. refl)
names_from (SomeValues r d ∷ xs) seen names same =
    other_step (SomeValues r d) xs seen names same (λ c. same c) (λ s ns h. names_from xs s ns h) (list_any (same_expression (SomeValues r d)) seen) (filter_map class_name xs) refl (λ zs. refl)

pub names_first : (xs : List ClassExpression) → first_places bytes_eq (filter_map class_name xs) ≡ filter_map class_name (first_places same_expression xs)
names_first xs = names_from xs [] [] (λ c. refl)

-- ---- one statement more

pushed : {A : Type 0} (f : Statement → List A) (ss : List Statement) (s : Statement) → flat_map f (ss ++ s ∷ []) ≡ flat_map f ss ++ f s
pushed f ss s = flat_map-append f ss (s ∷ []) ∙ ap (λ xs. flat_map f ss ++ xs) (append-nil (f s))

grown : {A : Type 0} (same : A → A → Bool) (old xs added new : List A) → old ≡ first_places same xs → Appends same old added new → new ≡ first_places same (xs ++ added)
grown same old xs added new is grow = grow.places ∙ ap (λ zs. first_places same (zs ++ added)) is ∙ places_join same xs added

pub one_more_statement : OneMoreStatement
one_more_statement ss s o p is adds =
    let standard : List ClassExpression = Named owl_thing ∷ Named owl_nothing ∷ [] in
    record {
      expressions =
          grown same_expression (trees o) (Named owl_thing ∷ Named owl_nothing ∷ flat_map statement_expressions ss) (statement_expressions s) (trees p) is.expressions adds.trees_grow
          ∙ ap (λ es. first_places same_expression (standard ++ es)) (sym (pushed statement_expressions ss s));
      classes =
          adds.classes_grow.places
          ∙ ap (λ cs. first_places bytes_eq (cs ++ filter_map class_name (statement_expressions s))) is.classes
          ∙ ap (first_places bytes_eq) (sym (filter_map-append class_name (trees o) (statement_expressions s)))
          ∙ names_first (trees o ++ statement_expressions s)
          ∙ ap (filter_map class_name) (sym adds.trees_grow.places);
      properties =
          grown bytes_eq o.names.properties (flat_map statement_properties ss) (statement_properties s) p.names.properties is.properties adds.properties_grow
          ∙ ap (first_places bytes_eq) (sym (pushed statement_properties ss s));
      individuals =
          grown bytes_eq o.names.individuals (flat_map statement_individuals ss) (statement_individuals s) p.names.individuals is.individuals adds.individuals_grow
          ∙ ap (first_places bytes_eq) (sym (pushed statement_individuals ss s));
      axioms = adds.axioms_grow ∙ ap (λ xs. xs ++ filter_map logical_axiom (s ∷ [])) is.axioms ∙ sym (filter_map-append logical_axiom ss (s ∷ []));
    }

-- ---- more statements

begins : {A : Type 0} (same : A → A → Bool) (xs ys zs old new : List A) → old ≡ first_places same xs → zs ≡ xs ++ ys → new ≡ first_places same zs → new ≡ old ++ first_places_from same (seen_after same [] xs) ys
begins same xs ys zs old new old-is is new-is =
    new-is ∙ ap (first_places same) is ∙ places_append same xs ys [] ∙ ap (λ ws. ws ++ first_places_from same (seen_after same [] xs) ys) (sym old-is)

pub no_number_changes : AdditionsChangeNoNumber
no_number_changes ss more o p is is' =
    let standard : List ClassExpression = Named owl_thing ∷ Named owl_nothing ∷ [] in
    let xs : List ClassExpression = Named owl_thing ∷ Named owl_nothing ∷ flat_map statement_expressions ss in
    let ys = flat_map statement_expressions more in
    let grow : trees p ≡ trees o ++ first_places_from same_expression (seen_after same_expression [] xs) ys =
    begins same_expression xs ys _ (trees o) (trees p) is.expressions (ap (λ es. standard ++ es) (flat_map-append statement_expressions ss more)) is'.expressions in
    record {
      expressions = (first_places_from same_expression (seen_after same_expression [] xs) ys, grow);
      classes = (
        filter_map class_name (first_places_from same_expression (seen_after same_expression [] xs) ys),
        is'.classes ∙ ap (filter_map class_name) grow ∙ filter_map-append class_name (trees o) _ ∙ ap (λ cs. cs ++ filter_map class_name (first_places_from same_expression (seen_after same_expression [] xs) ys)) (sym is.classes),
      );
      properties = (
        first_places_from bytes_eq (seen_after bytes_eq [] (flat_map statement_properties ss)) (flat_map statement_properties more),
        begins bytes_eq (flat_map statement_properties ss) (flat_map statement_properties more) _ o.names.properties p.names.properties is.properties (flat_map-append statement_properties ss more) is'.properties,
      );
      individuals = (
        first_places_from bytes_eq (seen_after bytes_eq [] (flat_map statement_individuals ss)) (flat_map statement_individuals more),
        begins bytes_eq (flat_map statement_individuals ss) (flat_map statement_individuals more) _ o.names.individuals p.names.individuals is.individuals (flat_map-append statement_individuals ss more) is'.individuals,
      );
      axioms = (filter_map logical_axiom more, is'.axioms ∙ filter_map-append logical_axiom ss more ∙ ap (λ xs. xs ++ filter_map logical_axiom more) (sym is.axioms));
    }
