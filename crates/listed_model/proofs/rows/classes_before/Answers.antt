use Rattle.std.proofs.Common.{rules, of_calls, ltb}
use Rattle.std.proofs.lemmas.Fn.{always_returns_same}
use Rattle.certificate.specs.declared.listed.ClassRow.{ClassRow}
use Rattle.listed_model.proofs.Found.{classes_parted}
use Rattle.listed_model.proofs.rows.classes_before.Goals as goal

pub returns-clause-place : goal.returns-clause-place
returns-clause-place c = c.partition_point.ensures.partitioned (λ (row : ClassRow). ltb row.class.0 c.args.class.0) (always_returns_same _ _ _ (λ a r f k. search (rules, of_calls))) (classes_parted c.args.rows.now c.args.class.0 c.requires.ordered)
