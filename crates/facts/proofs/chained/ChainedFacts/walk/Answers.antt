use Rattle.std.proofs.Common.{◌≡◌, ◌-◌, ◌<◌, inl, inr, length, refl, ap, ◌∙◌, subst, arith}
use Rattle.std.proofs.lemmas.Bool.{cases_eq}
use Rattle.std.proofs.lemmas.Option.{slice_get_within}
use Rattle.lemmas.proofs.Members.{slice_get-from_Contains}
use Rattle.facts.specs.Chains.{IsNewest, key_of}
use Rattle.facts.proofs.Chaining.{refused}
use Rattle.facts.proofs.chained.ChainedFacts.walk.Goals as goal

pub loop-number-init : goal.loop-number-init
loop-number-init c =
    let now = c.args.self.now in
    let key : c.key_of.result ≡ key_of now.by c.args.fact = c.key_of.ensures ∙ ap (λ s. key_of s.by c.args.fact) c.self.view_is in
    let first = subst (λ k. IsNewest now k (length now.facts) c.newest-number.result) key c.newest-number.ensures in
    (first.within, first.leads, λ place there. first.newest place c.args.fact (slice_get_within now.facts place c.args.fact there) there refl)

pub loop-number-smaller : goal.loop-number-smaller
loop-number-smaller c =
    let (within, leads, passed) = c.loop-number.invariant in
    let (other, there, same) = leads (c.loop-number.number - 1) (omega (arith, c.loop-number-test.true)) in
    let next = c.before-number.ensures other there in
    omega (arith, next.within, c.loop-number-test.true)

pub loop-number-preserved : goal.loop-number-preserved
loop-number-preserved c =
    let now = c.args.self.now in
    let (within, leads, passed) = c.loop-number.invariant in
    let (other, there, same) = leads (c.loop-number.number - 1) (omega (arith, c.loop-number-test.true)) in
    let next = subst (λ k. IsNewest now k (c.loop-number.number - 1) c.before-number.result) same (c.before-number.ensures other there) in (
      omega (arith, next.within, within),
      next.leads,
      λ place at.
          let low : place < c.loop-number.number - 1 = elim (cases_eq place (c.loop-number.number - 1)) [
            | inl e ↦ absurd (refused c.if-is_at.ensures (rw (c.deref.ensures.value, ap (λ s. s.facts) c.self.view_is, ← e) at))
            | inr ne ↦ omega (arith, passed place at, ne)
          ] in
          next.newest place c.args.fact low at refl,
    )

pub returns-clause-none : goal.returns-clause-none
returns-clause-none c _ member =
    let (within, leads, passed) = c.loop-number.invariant in
    let (place, there) = slice_get-from_Contains c.args.self.now.facts c.args.fact member in
    absurd (omega (arith, passed place there, c.loop-number-test.false))
