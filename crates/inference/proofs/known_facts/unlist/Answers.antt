use Rattle.std.proofs.Common.{◌≡◌, ◌+◌, ◌-◌, ℕ, ⊎_elim, inl, inr, List, [], ◌∷◌, ◌++◌, length, slice_get, Some, take, refl, sym, ap, ◌∙◌, subst, arith}
use Rattle.std.proofs.lemmas.List.{take_all}
use Rattle.std.proofs.lemmas.Option.{slice_get_read}
use Rattle.facts.specs.declared.contexts.Fact.{Fact}
use Rattle.inference.specs.Predicates.{AreListed}
use Rattle.inference.proofs.Lists.{take_push}
use Rattle.inference.proofs.known_facts.unlist.Goals as goal

pub loop-end-init : goal.loop-end-init
loop-end-init c = record {
  within = omega arith;
  low = inl refl;
  listed = rw (take_all (length c.args.facts.now) c.args.facts.now (omega arith)) c.requires;
}

pub loop-end-preserved : goal.loop-end-preserved
loop-end-preserved c =
    let facts : List Fact = c.args.facts.now in
    let end = c.loop-end.end - 1 in
    let back : end + 1 ≡ c.loop-end.end = omega (arith, c.loop-end-test.true) in
    let at : slice_get facts end ≡ Some c.get.result = rw c.get.ensures (slice_get_read facts (length facts) end c.index-facts-end.result refl (omega (arith, back, c.loop-end.invariant.within)) c.index-facts-end.is) in
    let more : take c.loop-end.end facts ≡ take end facts ++ c.get.result ∷ [] = ap (λ (n : ℕ). take n facts) (sym back) ∙ take_push facts end c.get.result at in
    record {
      within = omega (arith, c.loop-end.invariant.within);
      low = inr (omega (arith, c.loop-end-test.true));
      listed = c.pop.ensures (take end facts) (rw more at c.loop-end.invariant.listed);
    }

pub returns : goal.returns
returns c =
    let facts : List Fact = c.args.facts.now in
    subst (λ (fs : List Fact). AreListed fs c.loop-end.lists)
    (⊎_elim
    (λ all. take_all c.loop-end.end facts (omega (arith, all)) ∙ sym (take_all c.args.len facts (omega (arith, all, c.loop-end-test.false))))
    (λ low. ap (λ (n : ℕ). take n facts) (omega (arith, low, c.loop-end-test.false)))
    c.loop-end.invariant.low)
    c.loop-end.invariant.listed
