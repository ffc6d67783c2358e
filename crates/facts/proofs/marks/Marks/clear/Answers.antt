use Rattle.std.proofs.Common.{refl}
use Rattle.facts.proofs.Tabling.{marked_none}
use Rattle.facts.proofs.marks.Marks.clear.Goals as goal

pub returns-clause-marked : goal.returns-clause-marked
returns-clause-marked c table = marked_none table _ refl c.truncate.ensures.facts c.clear.ensures.items
