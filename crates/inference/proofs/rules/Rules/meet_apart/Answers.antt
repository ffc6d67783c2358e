use Rattle.std.proofs.Common.{refl, sym, ◌∙◌}
use Rattle.inference.proofs.Growth.{grows_same}
use Rattle.inference.proofs.Drawing.{draws}
use Rattle.inference.proofs.Parting.{found_there}
use Rattle.inference.proofs.rules.Rules.meet_apart.Goals as goal
use Rattle.inference.proofs.rules.Rules.meet_apart.Goals.{then-is_empty-via-then-is_empty, then-is_empty-via-else-is_empty+then-is_some}

pub returns-then-is_empty : goal.returns-then-is_empty
returns-then-is_empty c =
    elim c.then-is_empty.branch [
      | then-is_empty-via-then-is_empty w ↦ draws (grows_same c.requires.derived) (λ n there parted. absurd (c.is_empty.ensures w.if-is_empty.true parted.0 parted.1))
      | then-is_empty-via-else-is_empty+then-is_some w ↦ draws (grows_same c.requires.derived) (λ n there parted. found_there c.args.facts.now.facts _ w.find.result (sym w.is_some.ensures ∙ w.if-is_some.true) w.find.ensures.there)
    ]

pub returns-in_default : goal.returns-in_default
returns-in_default c = draws (grows_same c.requires.derived) (λ n there parted. absurd (c.in_default.ensures.none refl n there parted))
