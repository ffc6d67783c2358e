use Rattle.std.proofs.Common.{◌<◌, ◌∙◌, ℕ, List, AllPairs, leb, ap, sym, subst, rules, of_calls}
use Rattle.std.proofs.lemmas.Fn.{always_returns_same}
use Rattle.narrowing.specs.Cut.{interval_of}
use Rattle.narrowing.proofs.Parted.{parted, interval_at}
use Rattle.narrowing.proofs.numbering.IntervalsNumbering.number_of.Goals as goal

pub returns : goal.returns
returns c =
    let starts = c.deref.result.now in
    let x = c.args.element in
    let same = c.deref.ensures.value in
    let up = subst (λ (xs : List ℕ). AllPairs (λ a b. a < b) xs) (sym same) c.args.self.now.ascend in
    let at = c.partition_point-count.ensures.partitioned (λ (start : ℕ). leb start x) (always_returns_same _ _ _ (λ a r f k. search (rules, of_calls))) (parted starts x up) in
    interval_at starts x c.partition_point-count.result c.partition_point-count.ensures.bound at
    ∙ ap (λ xs. interval_of xs x) same
