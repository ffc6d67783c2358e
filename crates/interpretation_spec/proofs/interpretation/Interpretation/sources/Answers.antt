use Rattle.std.proofs.Common.{◌≡◌, ◌<◌, ℕ, List, Bool, sym, ap, ◌∙◌, length, arith}
use Rattle.std.proofs.lemmas.Result.{IfOk-weaker}
use Rattle.std.specs.List.{list_any}
use Rattle.std.proofs.lemmas.List.{length-map}
use Rattle.interpretation_spec.specs.NumberedInterpretation.{NumberedInterpretation, targets_of}
use Rattle.interpretation_spec.specs.Fields.{kept_targets, kept_pairs, kept_interpretation}
use Rattle.number_sets.specs.Members.{has}
use Rattle.interpretation_spec.proofs.Keeping.{targets}
use Rattle.interpretation_spec.proofs.interpretation.Interpretation.sources.Goals as goal

pub returns-clause-members : goal.returns-clause-members
returns-clause-members c =
    let size = c.self.inside.size in
    let all = c.self.inside.pairs.items in
    let p = c.args.property.0 in
    let pairs = c.index.result.now in
    let many = ap (λ (i : NumberedInterpretation). length i.pairs) c.self.view_is in
    let within : p < length all = omega (arith, length-map all (kept_pairs size), many) in
    rw (← c.self.view_is)
    (IfOk-weaker c.sources_in.result
    (λ (row : List Bool). (x : ℕ) → x < size → has row x ≡ list_any (has c.args.fillers.now) (kept_targets pairs x))
    (λ (row : List Bool). (x : ℕ) → x < size → has row x ≡ list_any (has c.args.fillers.now) (targets_of (kept_interpretation c.self.inside) p x))
    (λ row h x l. h x l ∙ ap (list_any (has c.args.fillers.now)) (sym (targets size all p pairs pairs within c.index.ensures x l)))
    c.sources_in.ensures.members)
