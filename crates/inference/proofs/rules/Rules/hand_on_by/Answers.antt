use Rattle.std.proofs.Common.{[], ◌∷◌, Option, ap, sym, ◌∙◌}
use Rattle.facts.specs.declared.contexts.Fact.{Fact}
use Rattle.facts.specs.Closure.{handed_on}
use Rattle.inference.proofs.Growth.{grows_trans, there_still}
use Rattle.inference.proofs.Drawing.{draws}
use Rattle.inference.proofs.Handing.{from_source, from_target, handed_by}
use Rattle.inference.proofs.rules.Rules.hand_on_by.Goals as goal

pub hand_over-requires-clause-birth : goal.hand_over-requires-clause-birth
hand_over-requires-clause-birth c = λ f is. (
  c.args.hand.fact ∷ [],
  ap (λ (o : Option Fact). o ∷ []) c.requires.hand,
  handed_on c.args.number c.in-Some.form (sym c.form.ensures ∙ c.in-Some.is) (from_source c.in-Some.form c.args.hand.fact f ((c.at_linked_source.ensures f).0 is)),
)

pub hand_over-requires-2-clause-birth : goal.hand_over-requires-2-clause-birth
hand_over-requires-2-clause-birth c = λ f is. (
  c.args.hand.fact ∷ [],
  ap (λ (o : Option Fact). o ∷ []) (c.hand_over.ensures.grows.facts c.args.hand.number c.args.hand.fact c.requires.hand),
  handed_on c.args.number c.in-Some.form (sym c.form.ensures ∙ c.in-Some.is) (from_target c.in-Some.form c.args.hand.fact f ((c.at_linked_target.ensures f).0 is)),
)

pub returns : goal.returns
returns c =
    let k = c.args.self.now.problem.now in
    let s = c.hand_over-2.ensures.grows in
    draws (grows_trans c.hand_over.ensures.grows s)
    (handed_by k c.args.number c.in-Some.form c.args.hand.fact c.hand_over-2.new.facts.facts (sym c.form.ensures ∙ c.in-Some.is)
    (λ f at. there_still s f (c.in_ok-hand_over.ensures.drawn f ((c.at_linked_source.ensures f).1 at)))
    (λ f at. c.in_ok-hand_over-2.ensures.drawn f ((c.at_linked_target.ensures f).1 at)))
