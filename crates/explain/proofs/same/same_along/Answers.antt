use Rattle.std.proofs.Common.{arith}
use Rattle.explain.proofs.Exchanging.{used_both}
use Rattle.explain.proofs.Growing.{lengthened_twice}
use Rattle.explain.proofs.SameLines.{chain_next, says_grown}
use Rattle.explain.proofs.same.same_along.Goals as goal

pub loop-place-init : goal.loop-place-init
loop-place-init g c =
    let forms = c.args.basis.now.closed.now.saturation.state.problem.forms in record {
      derivation = c.in_ok-at.ensures.derivation;
      longer = c.in_ok-at.ensures.longer;
      chain = chain_next forms c.args.first c.args.chain.now 0 0 c.in_ok-at.at c.requires.some c.in_ok-at.ensures.only;
      says = c.in_ok-at.ensures.says;
      used = c.in_ok-at.ensures.used;
    }

pub joined-requires : goal.joined-requires
joined-requires g c = record {
  says = (c.loop-place.at, says_grown c.loop-place.number c.args.first c.loop-place.at c.in_ok-next.ensures.longer c.loop-place.invariant.says, c.in_ok-next.ensures.says);
}

pub loop-place-preserved : goal.loop-place-preserved
loop-place-preserved g c =
    let forms = c.args.basis.now.closed.now.saturation.state.problem.forms in record {
      derivation = c.in_ok-number.ensures.derivation c.args.basis.now.closed.now.ontology c.in_ok-next.ensures.derivation;
      longer = lengthened_twice c.loop-place.invariant.longer (lengthened_twice c.in_ok-next.ensures.longer c.in_ok-number.ensures.longer);
      chain = λ j chain. chain_next forms c.loop-place.at c.args.chain.now c.loop-place.place 0 c.in_ok-next.next (omega (arith, c.loop-place-test.true)) c.in_ok-next.ensures.only j (c.loop-place.invariant.chain j chain);
      says = c.in_ok-number.ensures.says;
      used = used_both c.args.derivation.now c.loop-place.derivation c.next_same-in-loop-place.new.derivation c.joined.new.derivation c.loop-place.number c.in_ok-next.line c.in_ok-number.number
          c.in_ok-next.ensures.longer c.in_ok-number.ensures.longer c.loop-place.invariant.used c.in_ok-next.ensures.used c.in_ok-number.ensures.used;
    }
