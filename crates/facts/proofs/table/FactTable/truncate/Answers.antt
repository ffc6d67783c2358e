use Rattle.std.proofs.Common.{◌∙◌}
use Rattle.facts.proofs.Facts.{distinct_take}
use Rattle.facts.proofs.Tabling.{lead_take}
use Rattle.facts.proofs.table.FactTable.truncate.Goals as goal

pub invariant_of-self : goal.invariant_of-self
invariant_of-self c =
    let facts = c.self.inside.facts.facts in
    let links = c.self.inside.links in
    record {
      home = c.truncate.ensures.by ∙ c.self.invariant.home;
      distinct = rw c.truncate.ensures.facts (distinct_take facts c.args.len c.self.invariant.distinct);
      linked = rw c.truncate.ensures.facts (lead_take c.self.inside.seeds facts links.numbers.items links.slots.items c.args.len c.self.invariant.linked);
      marked = c.clear.ensures.marked c.truncate.new.self.facts;
    }
