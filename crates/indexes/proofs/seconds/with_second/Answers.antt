use Rattle.std.proofs.Common.{◌≡◌, ◌↔◌, ◌-◌, ℕ, length, take, drop, subst, Contains}
use Rattle.indexes.specs.Seconds.{rank_at}
use Rattle.indexes.proofs.Order.{rest_in_order, those_at, to_end}
use Rattle.indexes.proofs.seconds.with_second.Goals as goal

pub count_below-count-requires : goal.count_below-count-requires
count_below-count-requires c = rest_in_order c.args.forms.now c.args.numbers.now c.count_below-first.result c.requires

pub returns : goal.returns
returns c =
    let forms = c.args.forms.now in
    let numbers = c.args.numbers.now in
    let first = c.count_below-first.result in
    let rest = take (length numbers - first) (drop first numbers) in
    subst (λ (a : ℕ). (n : ℕ) → Contains (take c.count_below-count.result rest) n ↔ (Contains numbers n × (rank_at forms n ≡ a))) c.rank_of-place.ensures.result
    (those_at forms numbers rest c.rank_of-place.result first c.count_below-count.result (to_end numbers first) c.count_below-first.ensures.within c.count_below-count.ensures.within c.count_below-first.ensures.place c.count_below-count.ensures.place)
