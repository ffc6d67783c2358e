use Rattle.std.proofs.Common.{◌≡◌, ◌++◌, ◌∷◌, [], ◌-◌, take, arith, subst}
use Rattle.explain.specs.Walks.{LeadsToNothing}
use Rattle.explain.proofs.Growing.{lengthened_twice}
use Rattle.explain.proofs.Used.{used_twice, used_back}
use Rattle.explain.specs.Uses.{IsAmong, Uses}
use Rattle.explain.proofs.Walking.{shortens_by_one, no_walk}
use Rattle.explain.proofs.nothing.carried_back.Goals as goal

pub carried_over-requires-clause-edge : goal.carried_over-requires-clause-edge
carried_over-requires-clause-edge g c =
    let (x, l) = c.requires.walk in
    let s = shortens_by_one c.loop-k.derivation c.args.walk.now c.loop-k.k c.loop-k.number x 0 (omega (arith, c.loop-k-test.true)) (omega (arith, c.loop-k.auto.k)) (c.loop-k.invariant.leads x l) in
    (s.source, s.last)

pub loop-k-preserved : goal.loop-k-preserved
loop-k-preserved g c = record {
  derivation = c.in_ok-number.ensures.derivation;
  longer = lengthened_twice c.loop-k.invariant.longer c.in_ok-number.ensures.longer;
  leads = λ x l.
      let s = shortens_by_one c.loop-k.derivation c.args.walk.now c.loop-k.k c.loop-k.number x 0 (omega (arith, c.loop-k-test.true)) (omega (arith, c.loop-k.auto.k)) (c.loop-k.invariant.leads x l) in
      s.left c.carried_over.new.derivation c.in_ok-number.number c.in_ok-number.ensures.longer (c.in_ok-number.ensures.shown s.source s.last);
  used = used_twice c.args.derivation.now c.loop-k.derivation c.carried_over.new.derivation (IsAmong (c.args.walk.now ++ c.args.end ∷ [])) (take c.loop-k.k c.args.walk.now ++ c.loop-k.number ∷ []) (take (c.loop-k.k - 1) c.args.walk.now ++ c.in_ok-number.number ∷ [])
      c.in_ok-number.ensures.longer c.loop-k.invariant.used
      (used_back c.loop-k.derivation c.carried_over.new.derivation c.args.walk.now c.loop-k.k 0 c.loop-k.number c.in_ok-number.number (omega (arith, c.loop-k-test.true)) (omega (arith, c.loop-k.auto.k)) c.in_ok-number.ensures.used);
}

pub returns-clause-shown : goal.returns-clause-shown
returns-clause-shown g c x l =
    let e : c.loop-k.k ≡ 0 = omega (arith, c.loop-k-test.false) in
    no_walk c.loop-k.derivation c.loop-k.number x (subst (λ k. LeadsToNothing c.loop-k.derivation (take k c.args.walk.now) c.loop-k.number x) e (c.loop-k.invariant.leads x l))

pub returns-clause-used : goal.returns-clause-used
returns-clause-used g c =
    let e : c.loop-k.k ≡ 0 = omega (arith, c.loop-k-test.false) in
    subst (λ k. Uses c.args.derivation.now c.loop-k.derivation (IsAmong (c.args.walk.now ++ c.args.end ∷ [])) (take k c.args.walk.now ++ c.loop-k.number ∷ [])) e c.loop-k.invariant.used
