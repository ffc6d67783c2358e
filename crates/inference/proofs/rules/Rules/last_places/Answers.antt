use Rattle.std.proofs.Common.{subst}
use Rattle.std.proofs.lemmas.List.{take_all}
use Rattle.inference.specs.Differences.{AreLastPlaces}
use Rattle.inference.proofs.Differing.{last_next, no_last_places}
use Rattle.inference.proofs.rules.Rules.last_places.Goals as goal

pub loop-place-init : goal.loop-place-init
loop-place-init c = no_last_places c.args.self.now.problem.now.forms c.new-last.result c.new-last.ensures.empty

pub loop-place-preserved : goal.loop-place-preserved
loop-place-preserved c =
    let forms = c.args.self.now.problem.now.forms in
    last_next forms c.args.list.now c.loop-place.place _ c.least-least.result c.loop-place.last c.insert.new.self c.loop-place-test.true
    (record { same = c.least-least.ensures.same forms c.args.self.now.grouped; low = λ b same. c.least-least.ensures.low forms b c.args.self.now.grouped same })
    c.in-Ok.ensures.updates c.loop-place.invariant

pub returns : goal.returns
returns c =
    let forms = c.args.self.now.problem.now.forms in
    subst (λ list. AreLastPlaces forms list c.loop-place.last) (take_all c.loop-place.place c.args.list.now c.loop-place-test.false) c.loop-place.invariant
