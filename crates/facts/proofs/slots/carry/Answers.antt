use Rattle.std.proofs.Common.{◌≡◌, ◌-◌, slice_get, Some, subst, ap, ◌∙◌, arith}
use Rattle.std.proofs.lemmas.Option.{get_or_from_slice_get}
use Rattle.facts.specs.Slots.{bucket_of, Stands}
use Rattle.facts.proofs.Placing.{on_ok}
use Rattle.facts.proofs.slots.carry.Goals as goal

pub returns-clause-stands : goal.returns-clause-stands
returns-clause-stands c =
    on_ok c.occupy.result c.occupy.ensures.stands (λ puts place fact is there.
    let here : slice_get c.args.facts.now (c.args.number - 1) ≡ Some fact = subst (λ i. slice_get c.args.facts.now i ≡ Some fact) (omega (arith, is)) there in
    subst (λ b. Stands c.occupy.new.numbers.items b c.args.number)
    (c.bucket.ensures.value ∙ ap (bucket_of c.args.seeds.now c.args.buckets) (c.get-fact.ensures ∙ c.index-facts-number.is ∙ get_or_from_slice_get c.args.facts.now (c.args.number - 1) fact _ here))
    (puts c.bucket.result (rw c.deref.ensures.value at c.first_free-slot.ensures)))
