-- An ontology and the statements that it grew by.
use Rattle.std.proofs.Common.{◌≡◌, inl, inr, Bool, List, [], ◌∷◌, ◌++◌, sym, ap, ◌∙◌, subst}
use Rattle.std.specs.List.{filter_map, flat_map}
use Rattle.std.specs.Str.{bytes_eq}
use Rattle.std.proofs.lemmas.Grind.{flat_map-append}
use Rattle.std.proofs.lemmas.List.Elements.{filter_map-append}
use Rattle.axioms.specs.Axiom as tree
use Rattle.axioms.specs.Expression.{Iri, ClassExpression, Named, owl_thing, owl_nothing}
use Rattle.axioms.specs.Growth.{empty_ontology}
use Rattle.axioms.specs.Ontology.{Ontology, trees}
use Rattle.axioms.specs.Numbering.{Statement, IsOntologyOf, class_name, first_places, same_expression, logical_axiom, statement_expressions, statement_properties, statement_individuals}
use Rattle.axioms.specs.WellFormedness.{IsOntology}
use Rattle.profile.specs.Additions.{Adds, AddsStatements, Appends, AreTooMany, Overflows, StatementsOverflow}
use Rattle.profile.proofs.Appending.{places_join}
use Rattle.profile.proofs.Overflowing.{overflow_later, overflow_more}
use Rattle.profile.proofs.Stating.{names_first}
use Rattle.profile.proofs.Steps.{adds_join, adds_nothing}
use Rattle.profile.specs.Reading.{HaveTooManyNames}

-- ---- statements and more

same_adds : (es es' : List ClassExpression) (rs rs' as' bs : List Iri) (xs ys : List tree.Axiom) (o p : Ontology) → es ≡ es' → rs ≡ rs' → as' ≡ bs → xs ≡ ys → Adds es rs as' xs o p → Adds es' rs' bs ys o p
same_adds es es' rs rs' as' bs xs ys o p e r a x h =
    subst (λ (zs : List ClassExpression). Adds zs rs' bs ys o p) e (subst (λ (zs : List Iri). Adds es zs bs ys o p) r (subst (λ (zs : List Iri). Adds es rs zs ys o p) a (subst (λ (zs : List tree.Axiom). Adds es rs as' zs o p) x h)))

same_overflow : (es es' : List ClassExpression) (rs rs' as' bs : List Iri) (o : Ontology) → es ≡ es' → rs ≡ rs' → as' ≡ bs → Overflows es rs as' o → Overflows es' rs' bs o
same_overflow es es' rs rs' as' bs o e r a h =
    subst (λ (zs : List ClassExpression). Overflows zs rs' bs o) e (subst (λ (zs : List Iri). Overflows es zs bs o) r (subst (λ (zs : List Iri). Overflows es rs zs o) a h))

abbrev expressions_of : List Statement → List ClassExpression
expressions_of ss = flat_map statement_expressions ss

abbrev properties_of : List Statement → List Iri
properties_of ss = flat_map statement_properties ss

abbrev individuals_of : List Statement → List Iri
individuals_of ss = flat_map statement_individuals ss

module _ (ss us : List Statement) where
  expressions : expressions_of ss ++ expressions_of us ≡ expressions_of (ss ++ us)
  expressions = sym (flat_map-append statement_expressions ss us)

  properties : properties_of ss ++ properties_of us ≡ properties_of (ss ++ us)
  properties = sym (flat_map-append statement_properties ss us)

  individuals : individuals_of ss ++ individuals_of us ≡ individuals_of (ss ++ us)
  individuals = sym (flat_map-append statement_individuals ss us)

  pub adds_more : (o p q : Ontology) → AddsStatements ss o p → AddsStatements us p q → AddsStatements (ss ++ us) o q
  adds_more o p q first second =
      same_adds _ _ _ _ _ _ _ _ o q expressions properties individuals (sym (filter_map-append logical_axiom ss us)) (adds_join _ _ _ _ _ _ _ _ o p q first second)

  pub overflows_with_more : (o : Ontology) → StatementsOverflow ss o → StatementsOverflow (ss ++ us) o
  overflows_with_more o h =
      same_overflow _ _ _ _ _ _ o expressions properties individuals
      (overflow_more (expressions_of ss) (expressions_of us) (properties_of ss) (properties_of us) (individuals_of ss) (individuals_of us) o h)

  pub overflows_later : (o p : Ontology) → AddsStatements ss o p → StatementsOverflow us p → StatementsOverflow (ss ++ us) o
  overflows_later o p first h =
      same_overflow _ _ _ _ _ _ o expressions properties individuals
      (overflow_later (expressions_of ss) (expressions_of us) (properties_of ss) (properties_of us) (individuals_of ss) (individuals_of us) (filter_map logical_axiom ss) o p first h)

-- ---- from nothing

pub is_ontology_of : (ss : List Statement) (o : Ontology) → AddsStatements ss empty_ontology o → IsOntologyOf ss o
is_ontology_of ss o adds =
    let standard : List ClassExpression = Named owl_thing ∷ Named owl_nothing ∷ [] in
    record {
      expressions = adds.grows.trees_grow.places;
      classes = adds.grows.classes_grow.places ∙ names_first (standard ++ flat_map statement_expressions ss) ∙ ap (filter_map class_name) (sym adds.grows.trees_grow.places);
      properties = adds.grows.properties_grow.places;
      individuals = adds.grows.individuals_grow.places;
      axioms = adds.grows.axioms_grow;
    }

pub too_many : (ss : List Statement) → StatementsOverflow ss empty_ontology → HaveTooManyNames ss
too_many ss (inl h) = inl (subst AreTooMany (names_first (Named owl_thing ∷ Named owl_nothing ∷ flat_map statement_expressions ss)) h)
too_many ss (inr (inl h)) = inr (inl h)
too_many ss (inr (inr h)) = inr (inr h)

pub none_read : (o : Ontology) → IsOntology o → AddsStatements [] o o
none_read o whole = adds_nothing o whole

-- ---- from that of statements

after : {A : Type 0} (same : A → A → Bool) (old xs added new : List A) → old ≡ first_places same xs → Appends same old added new → new ≡ first_places same (xs ++ added)
after same old xs added new is grow = grow.places ∙ ap (λ zs. first_places same (zs ++ added)) is ∙ places_join same xs added

pub joined : (ss us : List Statement) (o p : Ontology) → IsOntologyOf ss o → AddsStatements us o p → IsOntologyOf (ss ++ us) p
joined ss us o p is h =
    let standard : List ClassExpression = Named owl_thing ∷ Named owl_nothing ∷ [] in
    let adds = h.grows in
    record {
      expressions =
          after same_expression (trees o) (Named owl_thing ∷ Named owl_nothing ∷ flat_map statement_expressions ss) (flat_map statement_expressions us) (trees p) is.expressions adds.trees_grow
          ∙ ap (λ es. first_places same_expression (standard ++ es)) (expressions ss us);
      classes =
          adds.classes_grow.places
          ∙ ap (λ cs. first_places bytes_eq (cs ++ filter_map class_name (flat_map statement_expressions us))) is.classes
          ∙ ap (first_places bytes_eq) (sym (filter_map-append class_name (trees o) (flat_map statement_expressions us)))
          ∙ names_first (trees o ++ flat_map statement_expressions us)
          ∙ ap (filter_map class_name) (sym adds.trees_grow.places);
      properties =
          after bytes_eq o.names.properties (flat_map statement_properties ss) (flat_map statement_properties us) p.names.properties is.properties adds.properties_grow
          ∙ ap (first_places bytes_eq) (properties ss us);
      individuals =
          after bytes_eq o.names.individuals (flat_map statement_individuals ss) (flat_map statement_individuals us) p.names.individuals is.individuals adds.individuals_grow
          ∙ ap (first_places bytes_eq) (individuals ss us);
      axioms = adds.axioms_grow ∙ ap (λ xs. xs ++ filter_map logical_axiom us) is.axioms ∙ sym (filter_map-append logical_axiom ss us);
    }
