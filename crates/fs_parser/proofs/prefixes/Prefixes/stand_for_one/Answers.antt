use Rattle.std.proofs.Common.{subst}
use Rattle.fs_parser.specs.Name.{StandForOne}
use Rattle.fs_parser.proofs.prefixes.Prefixes.stand_for_one.Goals as goal

pub returns : goal.returns
returns c = subst StandForOne c.self.view_is c.self.invariant.0
