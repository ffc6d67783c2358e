use Rattle.std.proofs.Common.{◌≡◌, ◌++◌, ◌∷◌, [], Ok, ap}
use Rattle.facts.specs.Births.{reason}
use Rattle.inference.proofs.Flagging.{flags_of_more}
use Rattle.inference.proofs.Lists.{keeps_push}
use Rattle.inference.proofs.Marking.{marks_of_more}
use Rattle.inference.proofs.known_facts.KnownFacts.put.Goals as goal

pub invariant_of-self-then-is_new : goal.invariant_of-self-then-is_new
invariant_of-self-then-is_new c =
    let pushed = (c.in_ok-is_new.ensures.yes (ap Ok c.if-is_new.true)).1 in
    let before = c.self.inside in
    let births : c.push-then-is_new.new.self.reasons ≡ before.births.reasons ++ reason c.args.birth ∷ [] = cc (c.push-then-is_new.ensures, c.reserve.ensures.reasons) in (
      marks_of_more before.facts c.insert.new.self before.marks.items (rw pushed (keeps_push before.facts c.args.fact)) c.self.invariant.0,
      rw (pushed, births) (flags_of_more (record { facts = before.facts; births = before.births.reasons }) c.args.fact (reason c.args.birth) before.entered c.self.invariant.1),
      rw pushed (c.in-Ok.ensures.added before.facts c.self.invariant.2),
    )
