use Rattle.fs_parser.proofs.Faults.{first_starts}
use Rattle.fs_parser.proofs.document.expect.Goals as goal

pub returns-else-eq-clause-said : goal.returns-else-eq-clause-said
returns-else-eq-clause-said c = first_starts c.args.tokens.now c.token-item.result (c.token-item.is, c.in-len1-up.len_at_least)
