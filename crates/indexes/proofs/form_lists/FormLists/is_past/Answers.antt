use Rattle.std.proofs.lemmas.Bool.{leb-true}
use Rattle.indexes.proofs.Putting.{none_past}
use Rattle.indexes.proofs.form_lists.FormLists.is_past.Goals as goal

pub returns-in-Whole : goal.returns-in-Whole
returns-in-Whole c low = rw c.in-Whole.is (none_past c.args.self.now c.in-Whole.number (leb-true c.args.self.now.end c.in-Whole.number low))
