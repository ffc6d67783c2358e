use Rattle.facts.proofs.table.FactTable.copy.Goals as goal

pub invariant_of-result : goal.invariant_of-result
invariant_of-result c = rw c.in_ok-facts.ensures (record {
  home = c.self.invariant.home;
  distinct = c.self.invariant.distinct;
  linked = c.in_ok-links.ensures c.self.inside.seeds c.self.inside.facts.facts c.self.invariant.linked;
  marked = c.new.ensures c.self.inside.facts.facts;
})
