use Rattle.std.proofs.Common.{◌≡◌, ◌++◌, ◌<◌, ℕ, List, [], Bool, if◌then◌else◌, get_or, length, ap, sym, ◌∙◌, arith}
use Rattle.std.specs.Global.{Vec}
use Rattle.std.proofs.lemmas.List.{append-nil}
use Rattle.answer_texts.specs.Reached.{individual_in}
use Rattle.answer_texts.specs.Refutation.{individual_text}
use Rattle.answer_texts.proofs.More.{added, enumerated_more}
use Rattle.answer_texts.proofs.refutation.push_individuals_in.Goals as goal
use Rattle.answer_texts.proofs.refutation.push_individuals_in.Goals.{then-contains+in_ok-push_individual, else-contains}

pub loop-number-preserved : goal.loop-number-preserved
loop-number-preserved c =
    let names = c.args.ontology.now.names in
    let f = individual_in names c.args.reached.now in
    let n = c.loop-number.number in
    let xs = c.args.interpretation.now.individuals in
    let out = c.loop-number.out.items in
    let x = c.element_at-element.result in
    let line : Bool → List ℕ = λ b. out ++ (if b then individual_text names (n, x) else []) in
    let low : n < length xs = omega (arith, c.requires.individuals, c.loop-number-test.true, c.individuals-number-end.ensures.count) in
    let told : c.if-contains.out.items ≡ out ++ f (n, x) = elim c.if-contains.branch [
      | then-contains+in_ok-push_individual w ↦ ap (λ (v : Vec ℕ). v.items) w.out-is ∙ w.in_ok-push_individual.ensures ∙ ap line (sym (sym c.contains.ensures ∙ w.if-contains.true))
      | else-contains w ↦ ap (λ (v : Vec ℕ). v.items) w.out-is ∙ sym (append-nil out) ∙ ap line (sym (sym c.contains.ensures ∙ w.if-contains.false))
    ] in
    let step : c.if-contains.out.items ≡ out ++ f (n, get_or xs n 0) = told ∙ ap (λ (y : ℕ). out ++ f (n, y)) c.element_at-element.ensures.value in
    added c.args.out.now.items out c.if-contains.out.items _ (f (n, get_or xs n 0)) _ c.loop-number.invariant step (enumerated_more f 0 xs n n 0 low (omega arith))
