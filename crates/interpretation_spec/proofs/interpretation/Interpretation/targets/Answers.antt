use Rattle.std.proofs.Common.{◌≡◌, ◌<◌, ℕ, List, Some, sym, ap, ◌∙◌, length, slice_get, option_and_then, arith}
use Rattle.std.proofs.lemmas.Option.{slice_get-get_or}
use Rattle.lemmas.proofs.Mapped.{slice_get_map}
use Rattle.interpretation_spec.specs.Fields.{kept_targets, kept_pairs}
use Rattle.number_sets.proofs.Tables.{slice_get-table}
use Rattle.interpretation_spec.proofs.interpretation.Interpretation.targets.Goals as goal

pub returns : goal.returns
returns c =
    let size = c.self.inside.size in
    let all = c.self.inside.pairs.items in
    let found = c.in_ok-pairs.pairs.now in
    let same = c.deref.ensures.value in
    let within : c.args.property.0 < length all = omega (arith, c.in_ok-pairs.ensures.lookup.3.0, ap length same) in
    let read = rw same at (c.in_ok-pairs.ensures.lookup.3.1 found) in
    let here : slice_get all c.args.property.0 ≡ Some found = slice_get-get_or all c.args.property.0 found within ∙ ap Some (sym read) in
    rw (← c.self.view_is) (
    ap Some c.targets_in.ensures
    ∙ sym (slice_get-table size (kept_targets found) c.args.source c.if-source-self.false)
    ∙ sym (ap (option_and_then (λ (sources : List (List ℕ)). slice_get sources c.args.source)) (slice_get_map (kept_pairs size) all c.args.property.0 found here)))
