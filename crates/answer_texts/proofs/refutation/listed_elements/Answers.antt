use Rattle.std.proofs.Common.{◌≡◌, ℕ, ap, ◌∙◌}
use Rattle.std.specs.Global.{Vec}
use Rattle.std.specs.List.{filter}
use Rattle.std.proofs.lemmas.Result.{IfOk-weaker}
use Rattle.interpretation_spec.specs.NumberedInterpretation.{members_of}
use Rattle.number_sets.specs.Members.{has}
use Rattle.answer_texts.specs.Pairs.{all_elements}
use Rattle.answer_texts.specs.Reached.{elements_in}
use Rattle.answer_texts.proofs.Classes.{filter_swap}
use Rattle.answer_texts.proofs.refutation.listed_elements.Goals as goal

pub returns-in-Some : goal.returns-in-Some
returns-in-Some c =
    let i = c.args.interpretation.now in
    let set = c.in-Some.set.now in
    let row = has (members_of i c.args.class.0) in
    rw c.in-Some.is
    (IfOk-weaker c.those_in.result (λ (v : Vec ℕ). v.items ≡ filter (has set) c.deref.result.now) (λ (v : Vec ℕ). v.items ≡ filter row (elements_in i set))
    (λ v is. is ∙ ap (filter (has set)) (c.deref.ensures.value ∙ c.in_ok-members.ensures) ∙ filter_swap (has set) row (all_elements i)) c.those_in.ensures)
