use Rattle.indexes.proofs.Putting.{none_past}
use Rattle.indexes.proofs.form_lists.FormLists.end.Goals as goal

pub returns : goal.returns
returns c = none_past c.args.self.now
