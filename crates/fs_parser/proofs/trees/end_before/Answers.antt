use Rattle.fs_parser.proofs.Faults.{first_starts}
use Rattle.fs_parser.proofs.trees.end_before.Goals as goal

pub returns-clause-said : goal.returns-clause-said
returns-clause-said c = first_starts c.args.rest.now c.next-item.result (c.next-item.is, c.in-len1-up.len_at_least)
