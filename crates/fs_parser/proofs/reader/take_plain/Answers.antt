use Rattle.std.proofs.Common.{length}
use Rattle.fs_parser.proofs.reader.take_plain.Goals as goal

pub returns-in-None-clause-said : goal.returns-in-None-clause-said
returns-in-None-clause-said c = rw c.in-None.is (c.unnamed.ensures.said c.args.limit (length c.args.state.now.frames.items))
