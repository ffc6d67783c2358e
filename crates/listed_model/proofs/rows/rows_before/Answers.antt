use Rattle.std.proofs.Common.{rules, of_calls}
use Rattle.std.proofs.lemmas.Fn.{always_returns_same}
use Rattle.listed_model.specs.Rows.{is_before}
use Rattle.listed_model.proofs.Found.{pairs_parted}
use Rattle.listed_model.proofs.rows.rows_before.Goals as goal

pub returns-clause-place : goal.returns-clause-place
returns-clause-place c = c.partition_point.ensures.partitioned (is_before c.args.property.0 c.args.source) (always_returns_same _ _ _ (λ a r f k. search (rules, of_calls))) (pairs_parted c.args.rows.now c.args.property.0 c.args.source c.requires.ordered)
