use Rattle.std.proofs.Common.{◌≡◌, ◌∙◌, ap, subst, ℕ, [], ◌∷◌, List, Err}
use Rattle.engine.specs.Saturations.{HasMoreFactsThan}
use Rattle.inference.specs.declared.known_facts.Stop.TheVariants as stops
use Rattle.normalise.specs.Listing.{Listing}
use Rattle.entailment.proofs.Asking.{asked_alone}
use Rattle.entailment.proofs.Counting.{no_more}
use Rattle.entailment.proofs.tester.saturated_with.Goals as goal

pub returns-in-Ok-clause-sound : goal.returns-in-Ok-clause-sound
returns-in-Ok-clause-sound c = (c.in-Ok.ensures.saturates c.args.new.now c.in_ok-asked.ensures.sound).sound

pub returns-in-Ok-clause-saturated : goal.returns-in-Ok-clause-saturated
returns-in-Ok-clause-saturated c = (c.in-Ok.ensures.saturates c.args.new.now c.in_ok-asked.ensures.sound).saturated

pub returns-in-Ok-clause-asked : goal.returns-in-Ok-clause-asked
returns-in-Ok-clause-asked c =
    ap (λ (n : Listing). n.asked) c.resume.ensures.resumed.normal
    ∙ asked_alone c.args.saturation.now.normal.asked _ c.args.expr.0 _ c.requires.unasked c.in_ok-asked.ensures.asked.1

pub returns-in-Ok-clause-few : goal.returns-in-Ok-clause-few
returns-in-Ok-clause-few c =
    let asked = ap (λ (n : Listing). n.asked) c.resume.ensures.resumed.normal
    ∙ asked_alone c.args.saturation.now.normal.asked _ c.args.expr.0 _ c.requires.unasked c.in_ok-asked.ensures.asked.1 in
    no_more c.args.new.now _ (c.args.expr.0 ∷ []) c.args.max_facts asked (c.in-Ok.ensures.saturates c.args.new.now c.in_ok-asked.ensures.sound).saturated c.in-Ok.ensures.resumed.within

pub returns-in-Err-clause-limit : goal.returns-in-Err-clause-limit
returns-in-Err-clause-limit c is =
    let limit : c.in-Err.stop ≡ stops.Limit = cc in
    let P : List ℕ → Type 0 = λ asked. HasMoreFactsThan c.args.new.now asked c.args.max_facts in
    let alone = ap (λ (n : Listing). n.asked) c.resume.ensures.resumed.normal
    ∙ asked_alone c.args.saturation.now.normal.asked _ c.args.expr.0 _ c.requires.unasked c.in_ok-asked.ensures.asked.1 in
    subst P alone ((c.resume.ensures.saturates c.args.new.now c.in_ok-asked.ensures.sound).limit (c.in-Err.is ∙ ap Err limit))
