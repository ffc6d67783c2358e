use Rattle.std.proofs.lemmas.Bool.{false≢true}
use Rattle.std.proofs.Common.{◌∙◌, sym}
use Rattle.closure.specs.Denotations.{context_of}
use Rattle.answers.proofs.Having.{conditions_lacked, nothing_lacked}
use Rattle.answers.proofs.Lent.{whole_ontology, whole_saturation}
use Rattle.answers.proofs.lacking.lacking_of.Goals as goal

pub returns-then-follows : goal.returns-then-follows
returns-then-follows c =
    let w = whole_ontology c.closed.ensures c.well_formed-2.ensures.ontology in
    let h = whole_saturation c.closed.ensures c.well_formed-2.ensures.saturated in
    nothing_lacked c.args.indexed.now.ontology w c.args.indexed.now.saturation h (context_of c.args.subject) c.args.class.0 (c.follows.ensures.0 c.if-follows.true)

pub returns : goal.returns
returns c =
    let w = whole_ontology c.closed.ensures c.well_formed-2.ensures.ontology in
    let h = whole_saturation c.closed.ensures c.well_formed-2.ensures.saturated in
    conditions_lacked c.args.indexed.now.ontology w c.args.indexed.now.saturation h (context_of c.args.subject) c.args.class.0
    (λ facts. false≢true (sym c.if-follows.false ∙ c.follows.ensures.1 facts)) c.in_ok-conditions.conditions c.in_ok-conditions.ensures
