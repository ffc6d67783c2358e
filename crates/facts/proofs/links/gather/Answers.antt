use Rattle.std.proofs.Common.{◌≡◌, suc, ◌-◌, inl, inr, subst, arith}
use Rattle.std.proofs.lemmas.Bool.{cases_eq, cases_lt}
use Rattle.facts.specs.Chains.{IsNewest}
use Rattle.facts.specs.Slots.{bucket_of, buckets_of, numbers_of, Stands}
use Rattle.facts.proofs.Placing.{same_table}
use Rattle.facts.proofs.links.gather.Goals as goal

pub loop-number-preserved : goal.loop-number-preserved
loop-number-preserved c =
    let now = c.args.facts.now in
    let (has, within, leads, held) = c.loop-number.invariant in
    let last = c.loop-number.number - 1 in
    let is : c.loop-number.number ≡ suc last = omega (arith, c.loop-number-test.true) in
    let (fact, there, same) = leads last is in
    let next = subst (λ k. IsNewest now k last c.before-number.result) same (c.before-number.ensures fact there) in (
      c.insert.ensures.slots,
      omega (arith, next.within, within),
      next.leads,
      λ place other at key from.
          elim (cases_eq place last) [
            | inl e ↦
                let one : c.get-fact.result ≡ other = same_table now.facts last c.get-fact.result other c.get-fact.ensures (rw (← e) at) in
                let stands : Stands (numbers_of c.insert.new.self) (bucket_of c.args.seeds.now (buckets_of c.insert.new.self) c.get-fact.result) c.loop-number.number = c.in_ok-insert.ensures.stands in
                rw (e, ← is, ← one) stands
            | inr ne ↦
                elim (cases_lt place c.loop-number.number) [
                  | inl low ↦ absurd (omega (arith, next.newest place other (omega (arith, low, ne)) at key, from))
                  | inr high ↦ c.insert.ensures.holds place other (rw c.as_slice.ensures.value at) (held place other at key high)
                ]
          ],
    )
