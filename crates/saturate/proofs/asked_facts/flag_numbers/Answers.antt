use Rattle.std.proofs.Common.{◌≡◌, arith}
use Rattle.std.proofs.lemmas.List.Elements.{Contains-get_or}
use Rattle.std.proofs.lemmas.Option.{slice_get-get_or}
use Rattle.saturate.proofs.Flagging.{flagged_as, flagged_one, for_all, for_one_more, one_of}
use Rattle.saturate.proofs.asked_facts.flag_numbers.Goals as goal

pub add-requires : goal.add-requires
add-requires c = omega (arith, c.requires _ (Contains-get_or c.args.numbers.now c.loop-place.place 0 c.loop-place-test.true), c.loop-place.invariant.long)

pub loop-place-preserved : goal.loop-place-preserved
loop-place-preserved c = record {
  long = omega (arith, c.add.ensures.long, c.loop-place.invariant.long);
  too = for_one_more (λ i n. n ≡ i) c.args.numbers.now c.loop-place.place _ (slice_get-get_or c.args.numbers.now c.loop-place.place 0 c.loop-place-test.true) c.loop-place.invariant.too (flagged_one _ c.in_ok-add.ensures.ok);
}

pub returns-clause-ok : goal.returns-clause-ok
returns-clause-ok c = flagged_as _ _ (one_of c.args.numbers.now) (for_all (λ i n. n ≡ i) c.args.numbers.now c.loop-place.place (omega (arith, c.loop-place-test.false)) c.loop-place.invariant.too)
