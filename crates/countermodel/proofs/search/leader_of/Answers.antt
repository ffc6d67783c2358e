use Rattle.std.proofs.Common.{ap, sym, ◌∙◌}
use Rattle.closure.specs.Closure.{Individual}
use Rattle.closure.specs.Denotations.{context_of}
use Rattle.facts.specs.declared.contexts.Context as code
use Rattle.countermodel.specs.Elements.{leader}
use Rattle.countermodel.proofs.Leading.{IsLeastBy, least_is}
use Rattle.countermodel.proofs.search.leader_of.Goals as goal

pub returns-in-Individual : goal.returns-in-Individual
returns-in-Individual c = λ o asked of.
    let groups = c.args.groups.now in
    let a = c.in-Individual.individual in
    let is : IsLeastBy groups a c.least.result = record { same = c.least.ensures.same groups c.requires; low = λ b. c.least.ensures.low groups b c.requires } in
    ap Individual (least_is o asked groups of a c.least.result is) ∙ ap (λ (x : code.Context). leader o (context_of x)) (sym c.in-Individual.is)
