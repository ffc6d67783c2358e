-- Kinds with too many names.
use Rattle.std.proofs.Common.{◌≡◌, ℕ, suc, ◌≤◌, inl, inr, List, [], ◌∷◌, ◌++◌, length, sym, ap, ◌∙◌, subst, arith, length-append, append_assoc}
use Rattle.std.specs.Str.{bytes_eq}
use Rattle.std.specs.List.{filter_map}
use Rattle.std.proofs.lemmas.List.Elements.{filter_map-append}
use Rattle.std.proofs.lemmas.Slice.Eq.{bytes_eq-Decides}
use Rattle.std.proofs.lemmas.Bool.{cases_lt}
use Rattle.axioms.specs.Axiom as tree
use Rattle.axioms.specs.Expression.{Iri, ClassExpression}
use Rattle.axioms.specs.Growth.{IsFull, Numbers, most_names}
use Rattle.axioms.specs.Ontology.{Ontology}
use Rattle.axioms.specs.Numbering.{first_places, first_places_from, class_name}
use Rattle.axioms.specs.WellFormedness.{AreDistinct}
use Rattle.profile.specs.Additions.{Appends, Adds, AreTooMany, Overflows}
use Rattle.profile.proofs.FirstPlaces.{seen_after}
use Rattle.profile.proofs.Appending.{appends_new, places_append, places_join}

-- a kind with no room for the name has too many with it
pub full_overflows : (names : List Iri) (iri : Iri) → AreDistinct names → IsFull names iri → AreTooMany (first_places bytes_eq (names ++ iri ∷ []))
full_overflows names iri distinct full =
    let places : names ++ iri ∷ [] ≡ first_places bytes_eq (names ++ iri ∷ []) = (appends_new bytes_eq bytes_eq-Decides names iri distinct full.0).places in
    omega (arith, full.1, length-append names (iri ∷ []), ap length places)

-- a kind with room for the name has few names with it
pub few_with_name : (names : List Iri) (iri : Iri) (new : List Iri) (n : ℕ) → Numbers names iri new n → (IsFull names iri → ⊥) → length names ≤ most_names → length new ≤ most_names
few_with_name names iri new n (inl (at, same)) room few = subst (λ (xs : List Iri). length xs ≤ most_names) (sym same) few
few_with_name names iri new n (inr (apart, last, longer)) room few =
    elim (cases_lt most_names (suc (length names))) [
      | inl h ↦ absurd (room (apart, omega (arith, h)))
      | inr h ↦ omega (arith, h, ap length longer, length-append names (iri ∷ []))
    ]

-- too many names are too many with more
more_names : (names more : List Iri) → AreTooMany (first_places bytes_eq names) → AreTooMany (first_places bytes_eq (names ++ more))
more_names names more many =
    let rest = first_places_from bytes_eq (seen_after bytes_eq [] names) more in
    omega (arith, many, ap length (places_append bytes_eq names more []), length-append (first_places bytes_eq names) rest)

more_names' : (names added more : List Iri) → AreTooMany (first_places bytes_eq (names ++ added)) → AreTooMany (first_places bytes_eq (names ++ (added ++ more)))
more_names' names added more many =
    let P : List Iri → Type 0 = λ xs. AreTooMany (first_places bytes_eq xs) in
    subst P (append_assoc names added more) (more_names (names ++ added) more many)

pub overflow_more : (es fs : List ClassExpression) (rs ss as' bs : List Iri) (o : Ontology) → Overflows es rs as' o → Overflows (es ++ fs) (rs ++ ss) (as' ++ bs) o
overflow_more es fs rs ss as' bs o (inl h) =
    let P : List Iri → Type 0 = λ xs. AreTooMany (first_places bytes_eq (o.names.classes ++ xs)) in
    inl (subst P (sym (filter_map-append class_name es fs)) (more_names' o.names.classes (filter_map class_name es) (filter_map class_name fs) h))
overflow_more es fs rs ss as' bs o (inr (inl h)) = inr (inl (more_names' o.names.properties rs ss h))
overflow_more es fs rs ss as' bs o (inr (inr h)) = inr (inr (more_names' o.names.individuals as' bs h))

-- too many names after an addition are too many before it
later_names : (old mid xs ys : List Iri) → Appends bytes_eq old xs mid → AreTooMany (first_places bytes_eq (mid ++ ys)) → AreTooMany (first_places bytes_eq (old ++ (xs ++ ys)))
later_names old mid xs ys grow many =
    let P : List Iri → Type 0 = AreTooMany in
    subst P (ap (λ zs. first_places bytes_eq (zs ++ ys)) grow.places ∙ places_join bytes_eq (old ++ xs) ys ∙ ap (first_places bytes_eq) (append_assoc old xs ys)) many

pub overflow_later : (es fs : List ClassExpression) (rs ss as' bs : List Iri) (xs : List tree.Axiom) (o p : Ontology) → Adds es rs as' xs o p → Overflows fs ss bs p → Overflows (es ++ fs) (rs ++ ss) (as' ++ bs) o
overflow_later es fs rs ss as' bs xs o p adds (inl h) =
    let P : List Iri → Type 0 = λ ys. AreTooMany (first_places bytes_eq (o.names.classes ++ ys)) in
    inl (subst P (sym (filter_map-append class_name es fs)) (later_names o.names.classes p.names.classes (filter_map class_name es) (filter_map class_name fs) adds.grows.classes_grow h))
overflow_later es fs rs ss as' bs xs o p adds (inr (inl h)) = inr (inl (later_names o.names.properties p.names.properties rs ss adds.grows.properties_grow h))
overflow_later es fs rs ss as' bs xs o p adds (inr (inr h)) = inr (inr (later_names o.names.individuals p.names.individuals as' bs adds.grows.individuals_grow h))
