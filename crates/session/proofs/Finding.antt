-- Whether names are among those of an ontology.
use Rattle.std.proofs.Common.{◌≡◌, ◌↔◌, ◌∷◌, [], All, Bool, true, List, Contains, bytes_eq, inl, inr, refl, sym, ◌∙◌}
use Rattle.std.specs.List.{list_any}
use Rattle.std.proofs.lemmas.Map.Views.{Contains-from_any}
use Rattle.std.proofs.lemmas.List.Folds.{list_any_at}
use Rattle.std.proofs.lemmas.Slice.Eq.{bytes_eq-Decides}
use Rattle.std.proofs.lemmas.List.Elements.{All-cons, All-nil}
use Rattle.answers.specs.Questions.{HasName, IsFirstUnknown, class_name, subject_name}
use Rattle.axioms.specs.Expression.{Iri}
use Rattle.axioms.specs.Ontology.{Ontology}
use Rattle.program.specs.declared.question.Asked.{Asked}

-- a search finds a name exactly where it is
pub finds : (iri : Iri) (names : List Iri) (b : Bool) → b ≡ list_any (bytes_eq iri) names → (b ≡ true) ↔ Contains names iri
finds iri names b is = (
  λ h. Contains-from_any (λ x y e. (bytes_eq-Decides x y).0 e) iri names (sym is ∙ h),
  λ (i, lt, e). is ∙ list_any_at (bytes_eq iri) names i iri lt ((bytes_eq-Decides iri _).1 (sym e)),
)

-- of two names, of which the first is known and not both are, the second is the first unknown one
pub second_unknown : (o : Ontology) (a : Asked) (class : Iri) → HasName o (subject_name a) → (All (HasName o) (subject_name a ∷ class_name class ∷ []) → ⊥)
    → IsFirstUnknown o (subject_name a ∷ class_name class ∷ []) class
second_unknown o a class has none =
    let not_known : HasName o (class_name class) → ⊥ = λ known. none (All-cons (HasName o) (subject_name a) (class_name class ∷ []) has (All-cons (HasName o) (class_name class) [] known (All-nil (HasName o)))) in
    inr (has, inl (not_known, refl))
