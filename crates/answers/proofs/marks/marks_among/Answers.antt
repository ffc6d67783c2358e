use Rattle.std.proofs.Common.{sym, ◌∙◌}
use Rattle.std.proofs.lemmas.Bool.{false≢true}
use Rattle.std.proofs.lemmas.Result.{IfOk-weaker}
use Rattle.answers.proofs.AnsweredByFacts.{all_follow, given_follow}
use Rattle.answers.proofs.Lent.{whole_ontology, whole_saturation}
use Rattle.answers.proofs.marks.marks_among.Goals as goal

pub returns-then-is_every : goal.returns-then-is_every
returns-then-is_every c =
    let w = whole_ontology c.closed-closed.ensures c.well_formed-2.ensures.ontology in
    let h = whole_saturation c.closed-closed.ensures c.well_formed-2.ensures.saturated in
    IfOk-weaker c.copy.result _ _
    (λ v same. all_follow c.args.indexed.now.ontology w c.args.indexed.now.saturation h c.args.question c.requires.root c.args.marks.now c.requires.long (c.is_every.ensures.0 c.if-is_every.true) v same)
    c.copy.ensures

pub returns : goal.returns
returns c =
    let w = whole_ontology c.closed-closed.ensures c.well_formed-2.ensures.ontology in
    let h = whole_saturation c.closed-closed.ensures c.well_formed-2.ensures.saturated in
    IfOk-weaker c.answers_among.result _ _
    (λ v given. given_follow c.args.indexed.now.ontology w c.args.indexed.now.saturation h c.args.question c.requires.root c.args.marks.now c.requires.long
    (λ every. false≢true (sym c.if-is_every.false ∙ c.is_every.ensures.1 every)) v given)
    c.answers_among.ensures
