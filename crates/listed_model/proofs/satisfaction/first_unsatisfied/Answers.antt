use Rattle.std.proofs.Common.{IsNone, IfSome, MatchOption, Option, Some, None, ℕ, refl}
use Rattle.std.proofs.lemmas.Result.{IfOk-weaker}
use Rattle.axioms.specs.Ontology.{axiom_trees}
use Rattle.certificate.specs.View.{listed_of}
use Rattle.interpretation_spec.specs.NamedInterpretation.{IsFirstUnsatisfied}
use Rattle.interpretation_spec.specs.Interpretation.{IsModel}
use Rattle.interpretation_spec.proofs.Steps.{IfOk-both}
use Rattle.listed_model.specs.Interpretations.{listed_interpretation}
use Rattle.listed_model.proofs.Interpreted.{listing_is, interpretation_is}
use Rattle.listed_model.proofs.satisfaction.first_unsatisfied.Goals as goal

one_or_none : (found : Option ℕ) (M : Type 0) (P : ℕ → Type 0) → (IsNone found → M) → IfSome found P → MatchOption found M P
one_or_none None M P none some = none refl
one_or_none (Some n) M P none some = some

pub returns : goal.returns
returns c =
    let o = c.args.ontology.now in
    let l = listed_of c.args.listed.now in
    let w = c.well_formed-2.ensures in
    let i = listed_interpretation o l in
    let M : Type 0 = IsModel i (axiom_trees o) in
    let P : ℕ → Type 0 = IsFirstUnsatisfied o i in
    IfOk-weaker c.first_failing.result _ _
    (λ found h. (i, listing_is o w l c.requires, interpretation_is o w l c.requires, one_or_none found M P h.0 h.1))
    (IfOk-both (λ found. IsNone found → M) (λ found. IfSome found P) c.first_failing.result c.first_failing.ensures.model c.first_failing.ensures.first)
