use Rattle.std.proofs.Common.{length}
use Rattle.taxonomy.proofs.Collected.{lists_each, lists_length, lists_sets}
use Rattle.taxonomy.proofs.collecting.of_lists.Goals as goal

pub returns-clause-sets : goal.returns-clause-sets
returns-clause-sets c =
    lists_sets (length c.args.lists.now) c.in_ok-apart.apart c.args.lists.now c.in_ok-once.once c.in_ok-apart.ensures.len c.in_ok-once.ensures.len c.in_ok-once.ensures.each

pub returns-clause-len : goal.returns-clause-len
returns-clause-len c =
    lists_length (length c.args.lists.now) c.in_ok-apart.apart c.args.lists.now c.in_ok-once.once c.in_ok-apart.ensures.len c.in_ok-once.ensures.len c.in_ok-once.ensures.each

pub returns-clause-each : goal.returns-clause-each
returns-clause-each c =
    lists_each (length c.args.lists.now) c.in_ok-apart.apart c.args.lists.now c.in_ok-once.once c.in_ok-apart.ensures.len c.in_ok-once.ensures.len c.in_ok-once.ensures.each
    c.in_ok-apart.ensures.each
