use Rattle.std.proofs.Common.{List, ℕ, ◌++◌, ap, sym, ◌∙◌, get_or, take, append_assoc}
use Rattle.std.specs.List.{flat_map, enumerate_from}
use Rattle.certificate.specs.Text.{individual_text}
use Rattle.certificate_text.proofs.Individuals.{individuals_more}
use Rattle.certificate_text.proofs.writing.push_individuals.Goals as goal

pub loop-number-preserved : goal.loop-number-preserved
loop-number-preserved c =
    let i = c.loop-number.number in
    let xs = c.args.elements.now in
    let text = individual_text (i, get_or xs i 0) in
    let before = flat_map individual_text (enumerate_from 0 (take i xs)) in
    c.in_ok-push_individual.ensures ∙ ap (λ (o : List ℕ). o ++ text) c.loop-number.invariant ∙ append_assoc c.args.out.now.items before text
    ∙ ap (λ (o : List ℕ). c.args.out.now.items ++ o) (sym (individuals_more xs i c.loop-number-test.true))
