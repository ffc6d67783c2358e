use Rattle.std.proofs.Common.{◌≡◌, ◌∙◌, ◌++◌, ℕ, List, [], ap, flat_map, sym}
use Rattle.receiving.specs.Places.{lined_fault}
use Rattle.shapes.specs.View.{faults_of}
use Rattle.statements_text.specs.Restrictions.{report_text}
use Rattle.restricting.proofs.report.lined_report.Goals as goal

pub returns : goal.returns
returns c = λ kept left_out is.
    let counts = report_text [] kept left_out in
    let found = faults_of c.args.faults.now in
    let before = c.as_str.ensures.value ∙ c.in_ok-plain.ensures in
    let behind : c.counts_of.result.now ≡ counts = c.counts_of.ensures counts (is ∙ ap (λ (front : List ℕ). front ++ counts) (sym before)) in
    c.in_ok-push_str.ensures.bytes ∙ ap (λ (front : List ℕ). front ++ c.counts_of.result.now) c.in_ok-lined.ensures ∙ ap (λ (end : List ℕ). flat_map (lined_fault c.args.bytes.now) found ++ end) behind
