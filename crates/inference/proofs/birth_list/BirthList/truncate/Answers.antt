use Rattle.inference.specs.BirthLists.{shared_births}
use Rattle.inference.proofs.BirthLists.{cut}
use Rattle.inference.proofs.birth_list.BirthList.truncate.Goals as goal

pub returns : goal.returns
returns c = rw (← c.self.view_is, c.min-self-inside.ensures, c.truncate.ensures.items, c.saturating_sub.ensures) (cut (shared_births c.self.inside.shared) c.self.inside.many c.self.inside.own.items c.self.invariant c.args.len)
