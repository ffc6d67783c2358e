use Rattle.std.proofs.Common.{ℕ, List, slice_get, sym, ap, ◌∙◌}
use Rattle.std.proofs.lemmas.Option.{none-some}
use Rattle.inference.proofs.joins.Joins.over.Goals as goal

pub returns-then-are_blank : goal.returns-then-are_blank
returns-then-are_blank c =
    let are = c.in_ok-joins.ensures in
    record {
      seconds = λ n mask at. absurd (none-some mask (ap (λ (l : List ℕ). slice_get l n) (sym c.clear.ensures.items) ∙ at));
      ends = λ n mask at. absurd (none-some mask (ap (λ (l : List ℕ). slice_get l n) (sym c.clear-then-are_blank.ensures.items) ∙ at));
      above = are.above;
      plans = are.plans;
      spared = are.spared;
      fillers = are.fillers;
    }
