use Rattle.std.proofs.Common.{◌<◌, length, refl, rules}
use Rattle.work_list.specs.Waiting.{list_at}
use Rattle.work_list.proofs.Waiting.{has_item}
use Rattle.work_list.proofs.by_context.ByContext.lead.Goals as goal

pub returns : goal.returns
returns c =
    let some : 0 < length (list_at c.self.inside.groups c.args.context) = search rules in
    (rw (← c.self.view_is) refl, refl, has_item c.self.inside.groups c.args.context some, c.requires, rw (← c.self.view_is) c.add.ensures.begins)
