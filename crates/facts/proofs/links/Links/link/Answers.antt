use Rattle.std.proofs.Common.{◌≡◌, ◌+◌, get_or, length, ◌∙◌, arith}
use Rattle.facts.specs.declared.links.TheConstants.{MANY}
use Rattle.facts.proofs.Tabling.{lead_more}
use Rattle.facts.proofs.links.Links.link.Goals as goal

pub returns : goal.returns
returns c =
    let slots = c.args.self.now.slots in
    let here : get_or c.put.new.numbers.items c.args.home 0 ≡ length slots.items + MANY =
    omega (arith, c.put.ensures.here c.in_ok-extend.ensures.there, c.len-number.ensures, slots.ok.0) in
    rw c.in_ok-push.ensures.items
    (lead_more c.args.seeds.now c.args.facts.now.facts c.args.self.now.numbers.items c.put.new.numbers.items slots.items c.args.home c.in_ok-slots.slots
    c.in_ok-slots.ensures.slots c.in_ok-slots.ensures.holds here (λ i ne. c.put.ensures.others i ne ∙ c.extend.ensures.same i) c.requires.linked)
