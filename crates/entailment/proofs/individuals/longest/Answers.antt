use Rattle.std.proofs.Common.{◌≡◌, ◌+◌, length, Some, slice_get, take, refl, subst, arith}
use Rattle.std.proofs.lemmas.List.{take_all}
use Rattle.std.proofs.lemmas.Option.{slice_get_read}
use Rattle.std.specs.String.{string_bytes}
use Rattle.entailment.proofs.Names.{AreAtMost, one_more}
use Rattle.entailment.proofs.individuals.longest.Goals as goal
use Rattle.entailment.proofs.individuals.longest.Goals.{then-len-longest, else-len-longest}

pub loop-name-preserved : goal.loop-name-preserved
loop-name-preserved c =
    let names = c.args.names.now in
    let k = c.loop-name.name-index in
    let at : slice_get names k ≡ Some c.name-item.result = slice_get_read names (length names) k c.name-item.result refl (omega arith) c.name-item.is in
    elim c.if-len-longest.branch as (λ b. AreAtMost string_bytes c.if-len-longest.longest (take (k + 1) names)) [
      | then-len-longest w ↦ one_more string_bytes names k c.name-item.result c.loop-name.longest c.if-len-longest.longest at (omega arith) (omega arith) c.loop-name.invariant
      | else-len-longest w ↦ one_more string_bytes names k c.name-item.result c.loop-name.longest c.if-len-longest.longest at (omega arith) (omega arith) c.loop-name.invariant
    ]

pub returns : goal.returns
returns c = subst (AreAtMost string_bytes c.loop-name.longest) (take_all c.loop-name.name-index c.args.names.now c.loop-name-test.false) c.loop-name.invariant
