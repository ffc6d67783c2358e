use Rattle.inference.proofs.Listing.{listed_pop}
use Rattle.inference.proofs.predicate_lists.PredicateLists.pop.Goals as goal

pub returns-in-Some : goal.returns-in-Some
returns-in-Some c = rw (← c.self.view_is) (λ facts are.
    listed_pop facts c.args.fact c.self.inside.ends c.replace.new.self c.self.inside.before.items c.pop.new.self.items c.in-Some.end c.in-Some.ensures.items
    (rw c.of.ensures at c.replace.ensures.here) (rw c.of.ensures at c.replace.ensures.others) are)
