use Rattle.std.proofs.Common.{subst}
use Rattle.fs_parser.specs.Name.{StandForSpelled}
use Rattle.fs_parser.proofs.prefixes.Prefixes.stand_for_spelled.Goals as goal

pub returns : goal.returns
returns c = subst StandForSpelled c.self.view_is c.self.invariant.1
