use Rattle.std.proofs.Common.{[], ◌∷◌, ◌++◌, sym, ap, ◌∙◌}
use Rattle.facts.specs.Chains.{AreChained, key_of}
use Rattle.facts.proofs.Chaining.{chained_last}
use Rattle.facts.proofs.chained.ChainedFacts.pop.Goals as goal

pub invariant_of-self-in-Some-pop : goal.invariant_of-self-in-Some-pop
invariant_of-self-in-Some-pop c =
    let by = c.self.inside.by in
    let facts = c.pop.new.self.items in
    let before = c.pop-2.new.self.items in
    let old : AreChained (record { by = by; facts = facts ++ c.in-Some.fact ∷ [] }) c.self.inside.newest.items (before ++ c.in-Some-pop.before ∷ []) =
    rw (← c.in-Some.ensures.items, ← c.in-Some-pop.ensures.items) c.self.invariant in
    chained_last by facts c.in-Some.fact c.key_of-key.result c.self.inside.newest.items before c.put.new.numbers.items c.in-Some-pop.before
    (sym (c.key_of-key.ensures ∙ ap (key_of by) c.get.ensures)) c.put.ensures.here c.put.ensures.others old
