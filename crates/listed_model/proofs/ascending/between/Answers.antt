use Rattle.std.proofs.Common.{◌-◌, length, take, drop, subst}
use Rattle.std.specs.List.Sorted.{IsNonDecreasing}
use Rattle.listed_model.proofs.Members.{rest_rises, to_end, between_means}
use Rattle.listed_model.proofs.ascending.between.Goals as goal

pub count_below-count-requires : goal.count_below-count-requires
count_below-count-requires c =
    let numbers = c.args.numbers.now in
    let first = c.count_below-first.result in
    subst IsNonDecreasing (to_end numbers first) (rest_rises numbers first c.requires)

pub returns : goal.returns
returns c =
    let numbers = c.args.numbers.now in
    let first = c.count_below-first.result in
    between_means numbers (take (length numbers - first) (drop first numbers)) c.args.start c.args.end first c.count_below-count.result (to_end numbers first) c.count_below-first.ensures.within c.count_below-count.ensures.within c.count_below-first.ensures.place c.count_below-count.ensures.place
