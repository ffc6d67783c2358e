-- What a number or a name names.
use Rattle.std.proofs.Common.{◌≡◌, ◌↔◌, ℕ, ◌<◌, length, slice_get, Option, Some, None, Contains}
use Rattle.std.specs.Option.{IfSome, IsSome, MatchOption}
use Rattle.std.proofs.lemmas.Bool.{false≢true}
use Rattle.std.proofs.lemmas.Option.{slice_get_within}
use Rattle.axioms.specs.Expression.{Iri}
use Rattle.axioms.specs.Ontology.{Class, IsClassAt, Ontology}
use Rattle.axioms.specs.WellFormedness.{IsOntology}
use Rattle.axioms.specs.declared.ids.ExprId.{ExprId}
use Rattle.answers.specs.Explanations.{IsClassNamed}

pub class_there : (o : Ontology) → IsOntology o → (n : ℕ) (found : Option ExprId) → IfSome found (λ e. slice_get o.nodes e.0 ≡ Some (Class n)) → IsSome found ↔ (n < length o.names.classes)
    → MatchOption found ((e : ℕ) → IsClassAt o n e → ⊥) (λ e. IsClassAt o n e.0)
class_there o w n None at only = λ e class. false≢true (only.1 (w.nodes e (Class n) class))
class_there o w n (Some e) at only = at

pub one_there : (o : Ontology) → IsOntology o → (n : ℕ) (found : Option ExprId) → MatchOption found ((e : ℕ) → IsClassAt o n e → ⊥) (λ e. IsClassAt o n e.0)
    → IfSome found (λ e. (f : ℕ) → IsClassAt o n f → f ≡ e.0)
one_there o w n None none = tt
one_there o w n (Some e) at = λ f class. w.distinct_nodes f e.0 (Class n) class at

pub class_found : (o : Ontology) → IsOntology o → (name : Iri) (n : ℕ) (found : Option ExprId) → slice_get o.names.classes n ≡ Some name
    → MatchOption found ((e : ℕ) → IsClassAt o n e → ⊥) (λ e. IsClassAt o n e.0) → MatchOption found (Contains o.names.classes name → ⊥) (λ e. IsClassNamed o name e.0)
class_found o w name n None named none = λ _. (let (e, at) = w.class_nodes n (slice_get_within o.names.classes n name named) in none e at)
class_found o w name n (Some e) named at = (n, at, named)
