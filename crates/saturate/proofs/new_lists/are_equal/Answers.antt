use Rattle.std.proofs.Common.{rules}
use Rattle.std.proofs.lemmas.Slice.Eq.{slice_eq-Decides}
use Rattle.saturate.proofs.new_lists.are_equal.Goals as goal

pub returns-then-first-second : goal.returns-then-first-second
returns-then-first-second c = slice_eq-Decides (λ a b. search rules) c.args.first.now c.args.second.now c.eq.result c.eq.ensures
