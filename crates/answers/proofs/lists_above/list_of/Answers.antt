use Rattle.std.proofs.Common.{◌∙◌, sym}
use Rattle.std.proofs.lemmas.Bool.{false≢true}
use Rattle.std.proofs.lemmas.Result.{IfOk-weaker}
use Rattle.answers.proofs.Listing.{marked_list, unmarked_list}
use Rattle.answers.proofs.lists_above.list_of.Goals as goal

pub returns-then-contains : goal.returns-then-contains
returns-then-contains c =
    IfOk-weaker c.classes_above.result _ _
    (λ v is. marked_list c.args.indexed.now.ontology c.args.marks.now c.args.indexed.now.saturation.state.facts c.args.class (sym c.contains.ensures ∙ c.if-contains.true) v.items is)
    c.classes_above.ensures

pub returns-else-contains : goal.returns-else-contains
returns-else-contains c =
    unmarked_list c.args.indexed.now.ontology c.args.marks.now c.args.indexed.now.saturation.state.facts c.args.class
    (λ mark. false≢true (sym c.if-contains.false ∙ c.contains.ensures ∙ mark)) c.new.result.items c.new.ensures.items
