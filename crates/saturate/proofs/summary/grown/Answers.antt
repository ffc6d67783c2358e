use Rattle.std.proofs.Common.{arith}
use Rattle.saturate.proofs.Summaries.{closure_grown}
use Rattle.saturate.proofs.summary.grown.Goals as goal

pub returns : goal.returns
returns c = closure_grown c.args.forms.now c.args.from c.args.closure.now c.grow.new.self c.counted-counts.result
    (record {
      properties = omega (arith, c.counted-counts.ensures.more.properties, c.of.ensures.properties);
      partials = omega (arith, c.counted-counts.ensures.more.partials, c.of.ensures.partials);
    })
    (rw c.in_ok-added.ensures at c.counted-counts.ensures.has)
    (rw (c.in_ok-grown.ensures, c.in_ok-added.ensures) at c.in_ok-grow.ensures.ok)
    c.requires.closure
