use Rattle.std.proofs.Common.{arith}
use Rattle.indexes.proofs.Listing.{past_the_end}
use Rattle.indexes.proofs.lists.Lists.end.Goals as goal

pub returns : goal.returns
returns c = λ key ge. past_the_end c.args.self.now.starts.items c.args.self.now.numbers.items key (omega (arith, ge, c.saturating_sub.ensures, c.len.ensures))
