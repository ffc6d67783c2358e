use Rattle.facts.proofs.Tabling.{lead_copied}
use Rattle.facts.proofs.links.Links.copy.Goals as goal

pub returns : goal.returns
returns c seeds facts leads =
    rw c.in_ok-numbers.ensures
    (lead_copied seeds facts c.args.self.now.numbers.items c.args.self.now.slots.items c.in_ok-slots.slots.items c.in_ok-slots.ensures leads)
