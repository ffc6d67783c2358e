use Rattle.std.proofs.Common.{List, subst, take}
use Rattle.std.proofs.lemmas.List.{take_all}
use Rattle.short_names.specs.Found.{IsFound, pairs_of}
use Rattle.short_names.specs.declared.finding.WrittenPrefix.{WrittenPrefix}
use Rattle.short_names.proofs.Choosing.{found_more}
use Rattle.short_names.proofs.finding.short_name.Goals as goal

pub loop-prefix-preserved : goal.loop-prefix-preserved
loop-prefix-preserved c =
    let prefixes = c.args.prefixes.now in
    let k = c.loop-prefix.prefix-index in
    found_more prefixes k c.prefix-item.result c.args.inside.now c.with_prefix-best.result c.loop-prefix-test.true c.prefix-item.is
    (c.with_prefix-best.ensures (pairs_of (take k prefixes)) c.loop-prefix.invariant)

pub returns : goal.returns
returns c =
    subst (λ (ps : List WrittenPrefix). IsFound (pairs_of ps) c.args.inside.now c.loop-prefix.best)
    (take_all c.loop-prefix.prefix-index c.args.prefixes.now c.loop-prefix-test.false) c.loop-prefix.invariant
