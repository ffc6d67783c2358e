-- What has a number is known.
use Rattle.std.proofs.Common.{◌≡◌, ◌∷◌, ◌↔◌, [], true, false, ℕ, Option, Some, None, Contains, IsSome, arith, refl, subst, sym}
use Rattle.std.specs.List.{All}
use Rattle.std.proofs.lemmas.List.Elements.{All-cons, All-contains, All-nil}
use Rattle.lemmas.proofs.Members.{Contains-from_slice_get}
use Rattle.axioms.specs.Expression.{Iri}
use Rattle.axioms.specs.Ontology.{Ontology}
use Rattle.closure.specs.Closure.{Context, Expression}
use Rattle.closure.specs.Closure as closure
use Rattle.answers.specs.Explanations.{IsAbout, IsClassNamed, IsKnown}
use Rattle.answers.specs.Questions.{HasName, class_name, individual_name, subject_name}
use Rattle.program.specs.declared.question.Asked.{Asked}
use Rattle.program.specs.declared.question.Asked.TheVariants as asked

pub class_known : (o : Ontology) (name : Iri) (e : ℕ) → IsClassNamed o name e → Contains o.names.classes name
class_known o name e (c, at, g) = Contains-from_slice_get o.names.classes c name g

pub known_by : (o : Ontology) (a : Asked) (x : Context) → IsAbout o a x → IsKnown o a
known_by o (asked.Class c) (Expression e) about = class_known o c.now e about
known_by o (asked.Class c) (closure.Individual n) about = absurd about
known_by o (asked.Individual a) (Expression e) about = absurd about
known_by o (asked.Individual a) (closure.Individual n) about = Contains-from_slice_get o.names.individuals n a.now about

-- ---- the names in a question

one_of : {X : Type 0} (P : X → Type 0) (x : X) → P x ↔ All P (x ∷ [])
one_of P x = (λ p. All-cons P x [] p (All-nil P), λ all. All-contains P (x ∷ []) x all (0, omega arith, refl))

two_of : {X : Type 0} (P : X → Type 0) (x y : X) → (P x × P y) ↔ All P (x ∷ y ∷ [])
two_of P x y = (
  λ (p, q). All-cons P x (y ∷ []) p (All-cons P y [] q (All-nil P)),
  λ all. (All-contains P (x ∷ y ∷ []) x all (0, omega arith, refl), All-contains P (x ∷ y ∷ []) y all (1, omega arith, refl)),
)

-- of a question about a class
pub class_is_known : (o : Ontology) (class : Iri) → Contains o.names.classes class ↔ All (HasName o) (class_name class ∷ [])
class_is_known o class = one_of (HasName o) (class_name class)

-- of one about an individual
pub individual_is_known : (o : Ontology) (individual : Iri) → Contains o.names.individuals individual ↔ All (HasName o) (individual_name individual ∷ [])
individual_is_known o individual = one_of (HasName o) (individual_name individual)

-- of one about what is in a class
pub both_are_known : (o : Ontology) (a : Asked) (class : Iri) → (IsKnown o a × Contains o.names.classes class) ↔ All (HasName o) (subject_name a ∷ class_name class ∷ [])
both_are_known o (asked.Class c) class = two_of (HasName o) (class_name c.now) (class_name class)
both_are_known o (asked.Individual a) class = two_of (HasName o) (subject_name (asked.Individual a)) (class_name class)

-- an answer is there exactly where what is known is, by what was found
pub some_known : {A : Type 0} {K L : Type 0} (found : Option A) (x : A) → found ≡ Some x → K ↔ L → IsSome found ↔ K → (true ≡ true) ↔ L
some_known {A} found x is same known = (λ _. same.0 (known.0 (subst (λ (f : Option A). IsSome f) (sym is) refl)), λ _. refl)

pub none_known : {A : Type 0} {K L : Type 0} (found : Option A) → found ≡ None → K ↔ L → IsSome found ↔ K → (false ≡ true) ↔ L
none_known {A} found is same known = (λ bad. absurd (cc), λ l. subst (λ (f : Option A). IsSome f) is (known.1 (same.1 l)))
