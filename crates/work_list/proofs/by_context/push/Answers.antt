use Rattle.std.proofs.Common.{◌<◌, length, rules}
use Rattle.work_list.proofs.Waiting.{room_for, room_still, stacked_more}
use Rattle.work_list.proofs.by_context.push.Goals.{then-is_last-via-then-is_last, then-is_last-via-else-is_last+then-has}
use Rattle.work_list.proofs.by_context.push.Goals as goal

pub returns-then-is_last-clause-room : goal.returns-then-is_last-clause-room
returns-then-is_last-clause-room c =
    let begun = c.args.begun.now.contexts.items in
    let low : c.args.item.context < length begun = elim c.then-is_last.branch [
      | then-is_last-via-then-is_last w ↦ room_for begun c.args.item.context (c.requires.room.last_has c.args.item.context (search rules))
      | then-is_last-via-else-is_last+then-has w ↦ c.requires.room.room c.args.item.context (search rules)
    ] in
    room_still c.args.groups.now c.push.new.self c.args.last begun c.args.item.context c.requires.room c.push.ensures.others low

pub returns-clause-stacked : goal.returns-clause-stacked
returns-clause-stacked c =
    stacked_more c.args.groups.now c.push-2.new.self c.make_room.new.list.items c.push_reserved.new.self.items c.args.last c.args.item.context (search rules) c.push-2.ensures.others c.push_reserved.ensures.items
