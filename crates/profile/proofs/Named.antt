-- What declaring a name answers.
use Rattle.std.proofs.Common.{◌≡◌, inl, inr, ℕ, List, [], ◌∷◌, ◌++◌, append-nil, length, arith, sym, OnOk, Ok, Err, Result, refl, subst}
use Rattle.axioms.specs.Expression.{Iri, Named}
use Rattle.axioms.specs.Growth.{Declares, IsFull, names_of}
use Rattle.axioms.specs.Ontology.{Ontology}
use Rattle.axioms.specs.WellFormedness.{IsOntology}
use Rattle.axioms.specs.declared.fault.BuildFault.{BuildFault}
use Rattle.axioms.specs.declared.fault.BuildFault.TheVariants.{TooManyNames, Memory}
use Rattle.axioms.specs.declared.ids.ClassId.{ClassId}
use Rattle.axioms.specs.declared.ids.ExprId.{ExprId}
use Rattle.axioms.specs.declared.ids.IndId.{IndId}
use Rattle.axioms.specs.declared.ids.PropId.{PropId}
use Rattle.axioms.specs.declared.terms.Kind.{Kind}
use Rattle.axioms.specs.declared.terms.Kind.TheVariants as kinds
use Rattle.axioms.specs.declared.terms.Name.{Name}
use Rattle.axioms.specs.declared.terms.Name.TheVariants as declared
use Rattle.profile.specs.Additions.{ClassRead, IndividualRead, PropertyRead, ReadsClass, ReadsProperty, ReadsIndividual}
use Rattle.profile.proofs.Overflowing.{full_overflows}
use Rattle.profile.proofs.Steps.{class_declared, property_declared, individual_declared}

-- a kind that took the name had room for it
pub has_room : (result : Result Name BuildFault) (F : Type 0) → (F → result ≡ Err TooManyNames) → OnOk result (F → ⊥)
has_room (Ok name) F full = λ is. let e : ◌≡◌ {A = Result Name BuildFault} (Ok name) (Err TooManyNames) = full is in cc
has_room (Err fault) F full = tt

-- what is said of one ontology and one text, of those that equal them
pub full_of : (o p : Ontology) (kind : Kind) (text iri : Iri) → o ≡ p → text ≡ iri → IsFull (names_of p.names kind) iri → IsFull (names_of o.names kind) text
full_of o p kind text iri e f is = rw (e, f) is

-- an IRI in one piece
pub one_piece : (base local : List ℕ) → length local ≡ 0 → base ≡ base ++ local
one_piece base [] none = sym (append-nil base)
one_piece base (b ∷ bs) none = absurd (omega (arith, none))

module _ (o p : Ontology) (iri : Iri) (whole : IsOntology o) where
  pub class_answer : IsOntology p → (name : Name) (c : ClassId) (e : ExprId) → name ≡ declared.Class c e → (IsFull o.names.classes iri → ⊥) → Declares o kinds.Class iri p name → ReadsClass (Named iri) o p e.0
  class_answer whole' name c e is room declares =
      let P : Name → Type 0 = Declares o kinds.Class iri p in
      let added = class_declared o p iri c.0 e.0 whole whole' room (subst P is declares) in
      record { adds = added.adds; at = added.at }

  pub class_refused : (fault : BuildFault) → (◌≡◌ {A = Result Name BuildFault} (Err fault) (Err TooManyNames) → IsFull o.names.classes iri) → ClassRead (Err fault) (Named iri) o p
  class_refused TooManyNames full = inl (full_overflows o.names.classes iri whole.distinct_classes (full refl))
  class_refused Memory full = tt

  pub property_answer : (name : Name) (r : PropId) → name ≡ declared.Property r → (IsFull o.names.properties iri → ⊥) → Declares o kinds.Property iri p name → ReadsProperty iri o p r.0
  property_answer name r is room declares =
      let P : Name → Type 0 = Declares o kinds.Property iri p in
      property_declared o p iri r.0 whole room (subst P is declares)

  pub property_refused : (fault : BuildFault) → (◌≡◌ {A = Result Name BuildFault} (Err fault) (Err TooManyNames) → IsFull o.names.properties iri) → PropertyRead (Err fault) iri o p
  property_refused TooManyNames full = inr (inl (full_overflows o.names.properties iri whole.distinct_properties (full refl)))
  property_refused Memory full = tt

  pub individual_answer : (name : Name) (a : IndId) → name ≡ declared.Individual a → (IsFull o.names.individuals iri → ⊥) → Declares o kinds.Individual iri p name → ReadsIndividual iri o p a.0
  individual_answer name a is room declares =
      let P : Name → Type 0 = Declares o kinds.Individual iri p in
      individual_declared o p iri a.0 whole room (subst P is declares)

  pub individual_refused : (fault : BuildFault) → (◌≡◌ {A = Result Name BuildFault} (Err fault) (Err TooManyNames) → IsFull o.names.individuals iri) → IndividualRead (Err fault) iri o p
  individual_refused TooManyNames full = inr (inr (full_overflows o.names.individuals iri whole.distinct_individuals (full refl)))
  individual_refused Memory full = tt
