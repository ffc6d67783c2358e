use Rattle.std.proofs.Common.{sym, ◌∙◌, below_more, arith}
use Rattle.std.proofs.lemmas.Bool.{false≢true}
use Rattle.cert_check.proofs.Claimed.{agrees_at}
use Rattle.cert_check.proofs.claims.first_disagreeing_class.Goals as goal

pub returns-then-not-agrees-clause-each : goal.returns-then-not-agrees-clause-each
returns-then-not-agrees-clause-each c =
    let test = agrees_at c.args.above.now c.args.claimed.now c.args.holding.now c.loop-class.class c.at.result.now c.agrees.result
    (omega (arith, c.loop-class-test.true, c.len-class-end.ensures)) c.requires.claimed c.at.ensures c.agrees.ensures.each in
    (λ all. false≢true (sym c.if-not-agrees.true ∙ test.1 all), c.loop-class.invariant.before)

pub loop-class-preserved : goal.loop-class-preserved
loop-class-preserved c =
    let test = agrees_at c.args.above.now c.args.claimed.now c.args.holding.now c.loop-class.class c.at.result.now c.agrees.result
    (omega (arith, c.loop-class-test.true, c.len-class-end.ensures)) c.requires.claimed c.at.ensures c.agrees.ensures.each in
    record {
      long = c.agrees.ensures.long ∙ c.loop-class.invariant.long;
      before = below_more _ _ c.loop-class.invariant.before (test.0 c.if-not-agrees.false);
    }

pub returns-clause-each : goal.returns-clause-each
returns-clause-each c = λ n l. c.loop-class.invariant.before n (omega arith) l
