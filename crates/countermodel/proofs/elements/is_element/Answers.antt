use Rattle.std.proofs.Common.{sym, ◌∙◌}
use Rattle.std.proofs.lemmas.Bool.Decides.{Decides-eqb}
use Rattle.countermodel.proofs.Leading.{leads_itself}
use Rattle.countermodel.proofs.elements.is_element.Goals as goal

pub returns-then-contains : goal.returns-then-contains
returns-then-contains c =
    let groups = c.args.groups.now in
    let itself = leads_itself groups c.args.individual c.least.result (record { same = c.least.ensures.same groups c.requires; low = λ b. c.least.ensures.low groups b c.requires }) in
    let decides = Decides-eqb c.least.result.0 c.args.individual.0 in
    let admitted = sym c.contains.ensures ∙ c.if-contains.true in
    (λ h. (admitted, itself.0 (decides.0 (sym c.eq.ensures ∙ h))), λ is. c.eq.ensures ∙ decides.1 (itself.1 is.1))
