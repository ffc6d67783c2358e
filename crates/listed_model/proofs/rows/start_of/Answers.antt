use Rattle.std.proofs.Common.{rules, of_calls, ltb, arith}
use Rattle.std.proofs.lemmas.Fn.{always_returns_same}
use Rattle.std.proofs.lemmas.Bool.{lt-ltb, ltb-true}
use Rattle.certificate.specs.declared.listed.PairRow.{PairRow}
use Rattle.listed_model.proofs.Found.{properties_rise}
use Rattle.listed_model.proofs.rows.start_of.Goals as goal

pub returns-clause-place : goal.returns-clause-place
returns-clause-place c = c.partition_point.ensures.partitioned (λ (row : PairRow). ltb row.property.0 c.args.property.0) (always_returns_same _ _ _ (λ a r f k. search (rules, of_calls))) (λ i j d l m t. let u = properties_rise c.args.rows.now c.requires.ordered i j d l m in let v = ltb-true _ _ t in lt-ltb _ _ (omega arith))
