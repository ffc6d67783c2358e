use Rattle.std.proofs.Common.{◌≡◌, ◌<◌, length, arith, sym, subst}
use Rattle.classification.specs.Lists.{PutsInto}
use Rattle.classification.proofs.Growing.{adds_none, adds_here, individual_in, puts_into_once}
use Rattle.classification.proofs.types.put_into.Goals as goal

pub returns-in-None : goal.returns-in-None
returns-in-None c = adds_none _ _ c.in-None.ensures

pub returns-in_ok-push-in-Some : goal.returns-in_ok-push-in-Some
returns-in_ok-push-in-Some c =
    let puts = PutsInto c.args.ontology.now c.args.fact.now in
    let individual = c.index.result in
    let class = c.in-Some.class.0 in
    let at : individual ≡ c.in-Some.individual.0 = c.index.ensures in
    let here : puts individual class = subst (λ k. puts k class) (sym at) c.in-Some.ensures in
    let within : individual < length c.args.ontology.now.names.individuals = individual_in c.args.ontology.now c.args.fact.now individual class here c.requires.within in
    adds_here puts c.args.lists.now c.push.new.self individual class (omega (arith, within, c.requires.long)) c.in_ok-push-in-Some.ensures.ok here
    (puts_into_once c.args.ontology.now c.args.fact.now individual class here)
