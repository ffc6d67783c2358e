use Rattle.std.proofs.Common.{◌≡◌, ℕ, List, [], Bool, sym, ap, ◌∙◌}
use Rattle.std.specs.Global.{Vec}
use Rattle.std.proofs.lemmas.Result.{IfOk-weaker}
use Rattle.interpretation_spec.specs.Members.{members_below}
use Rattle.interpretation_spec.specs.NumberedInterpretation.{members_of}
use Rattle.number_sets.proofs.Absent.{none_at}
use Rattle.number_sets.specs.Members.{has}
use Rattle.std.specs.Prelude.{length, option_map}
use Rattle.answer_texts.specs.Pairs.{all_elements}
use Rattle.answer_texts.specs.Refutation.{elements_of}
use Rattle.answer_texts.proofs.Classes.{filter_none, members_are}
use Rattle.answer_texts.proofs.looking.class_members.Goals as goal

pub returns-in-Some : goal.returns-in-Some
returns-in-Some c =
    let i = c.args.interpretation.now in
    let class = c.args.class.0 in
    let row : List Bool = c.in-Some.row.now in
    let are = members_are i c.well_formed-2.ensures class row (sym c.holders.ensures ∙ ap (option_map (λ row. row.now)) c.in-Some.is) in
    IfOk-weaker c.members.result (λ (v : Vec ℕ). v.items ≡ members_below row (length row)) (λ (v : Vec ℕ). v.items ≡ elements_of i (all_elements i) class)
    (λ v is. is ∙ are) c.members.ensures

pub returns-in-None : goal.returns-in-None
returns-in-None c =
    let i = c.args.interpretation.now in
    let none = none_at i.classes c.args.class.0 [] c.in-None.ensures in
    c.new.ensures.items ∙ sym (filter_none (has (members_of i c.args.class.0)) (λ x. ap (λ (row : List Bool). has row x) (sym none)) (all_elements i))
