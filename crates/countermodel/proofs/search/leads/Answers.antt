use Rattle.std.proofs.Common.{◌↔◌, ◌≡◌, true, sym, ◌∙◌, subst}
use Rattle.std.proofs.lemmas.Bool.Decides.{Decides-eqb}
use Rattle.closure.specs.Denotations.{context_of}
use Rattle.facts.specs.declared.contexts.Context as code
use Rattle.countermodel.specs.Leading.{LeadsBy}
use Rattle.countermodel.proofs.Leading.{leads_itself}
use Rattle.countermodel.proofs.search.leads.Goals as goal

pub returns-in-Individual : goal.returns-in-Individual
returns-in-Individual c =
    let groups = c.args.groups.now in
    let a = c.in-Individual.individual in
    let itself = leads_itself groups a c.least.result (record { same = c.least.ensures.same groups c.requires; low = λ b. c.least.ensures.low groups b c.requires }) in
    let decides = Decides-eqb c.least.result.0 a.0 in
    subst (λ (x : code.Context). (c.eq.result ≡ true) ↔ LeadsBy groups (context_of x)) (sym c.in-Individual.is)
    (λ h. itself.0 (decides.0 (sym c.eq.ensures ∙ h)), λ is. c.eq.ensures ∙ decides.1 (itself.1 is))
