-- Names that an ontology has more than the one that it has grown from.
use Rattle.std.proofs.Common.{◌≡◌, ℕ, ◌<◌, List, Contains, IfSome, Option, None, length, slice_get, Some, subst₂, arith}
use Rattle.std.proofs.lemmas.Option.{slice_get_within}
use Rattle.axioms.specs.Expression.{Iri}
use Rattle.axioms.specs.Fronts.{Continues, Extends}
use Rattle.axioms.specs.Growth.{names_of}
use Rattle.axioms.specs.Ontology.{Ontology}
use Rattle.axioms.specs.WellFormedness.{AreDistinct, IsOntology}
use Rattle.axioms.specs.declared.terms.Kind.{Kind}
use Rattle.axioms.specs.declared.terms.Kind.TheVariants as kinds
use Rattle.lemmas.proofs.Members.{Contains-from_slice_get, slice_get-from_Contains}
use Rattle.profile.proofs.Trees.{keeps_append}
use Rattle.session.specs.Entailments.{IsNewName}

-- the name behind all old ones is a new one
pub behind_is_new : (old new : List Iri) (name : Iri) → Continues old new → AreDistinct new → slice_get new (length old) ≡ Some name → Contains new name × (Contains old name → ⊥)
behind_is_new old new name more apart at = (
  Contains-from_slice_get new (length old) name at,
  λ there.
      (let (n, here) = slice_get-from_Contains old name there in
      let low : n < length old = slice_get_within old n name here in
      let same : n ≡ length old = apart n (length old) name (keeps_append old new more.0 more.1 n name here) at in
      omega arith),
)

-- the name of a kind behind all old ones
pub is_new : (old new : Ontology) → Extends old new → IsOntology new → (kind : Kind) (name : Iri) → slice_get (names_of new.names kind) (length (names_of old.names kind)) ≡ Some name → IsNewName old new name
is_new old new more w kinds.Class name at =
    let both = behind_is_new old.names.classes new.names.classes name more.classes w.distinct_classes at in
    (kinds.Class, both.0, both.1)
is_new old new more w kinds.Property name at =
    let both = behind_is_new old.names.properties new.names.properties name more.properties w.distinct_properties at in
    (kinds.Property, both.0, both.1)
is_new old new more w kinds.Individual name at =
    let both = behind_is_new old.names.individuals new.names.individuals name more.individuals w.distinct_individuals at in
    (kinds.Individual, both.0, both.1)

-- the names that are told are those of the kind
pub told_new : (old new : Ontology) → Extends old new → IsOntology new → (kind : Kind) (names : List Iri) (count : ℕ) → names ≡ names_of new.names kind → count ≡ length (names_of old.names kind)
    → (name : Iri) → slice_get names count ≡ Some name → IsNewName old new name
told_new old new more w kind names count are is name at = is_new old new more w kind name (subst₂ (λ (ns : List Iri) (n : ℕ). slice_get ns n ≡ Some name) are is at)

-- what holds of what is there holds of it otherwise
pub each_some : {X : Type 0} (r : Option X) (P Q : X → Type 0) → ((x : X) → P x → Q x) → IfSome r P → IfSome r Q
each_some (Some x) P Q f h = f x h
each_some None P Q f h = tt
