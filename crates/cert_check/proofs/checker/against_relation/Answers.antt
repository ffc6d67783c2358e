use Rattle.std.proofs.lemmas.Result.{IfOk-weaker}
use Rattle.taxonomy.specs.Relation.{lies_below, is_listed}
use Rattle.taxonomy.specs.Texts.{taxonomy_text, instances_text}
use Rattle.cert_check.specs.Verdict.{TextsAgainst, RelationAgainstLists}
use Rattle.cert_check.proofs.Relations.{relation_against, preorder_of, relation_says}
use Rattle.cert_check.proofs.checker.against_relation.Goals as goal

pub returns : goal.returns
returns c =
    let o = c.args.ontology.now in
    let t = c.args.taxonomy.now in
    let i = c.args.instances.now in
    let above = c.args.above.now in
    let types = c.args.types in
    let below = lies_below c.in_ok-reduced.reduced in
    let says = relation_says o c.in_ok-relation.relation c.in_ok-reduced.reduced above c.in_ok-reduced.ensures c.in_ok-relation.ensures.size c.requires.above c.in_ok-relation.ensures.each in
    IfOk-weaker c.against_texts.result
    (TextsAgainst t i (taxonomy_text o.names.classes below) (instances_text o.names.classes o.names.individuals below (is_listed types)))
    (RelationAgainstLists o t i above types)
    (λ reason h lines above_is types_are. relation_against o c.well_formed-2.ensures lines above types above_is types_are below says t i reason h)
    c.against_texts.ensures

pub reduce-requires : goal.reduce-requires
reduce-requires c =
    preorder_of c.in_ok-relation.relation c.args.above.now c.in_ok-relation.ensures.size c.in_ok-relation.ensures.each c.requires.preorder
