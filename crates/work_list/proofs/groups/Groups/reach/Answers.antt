use Rattle.std.proofs.Common.{◌∙◌, List, ℕ, ap}
use Rattle.work_list.specs.Waiting.{items_in, list_at}
use Rattle.work_list.proofs.Waiting.{longer_items, longer_same}
use Rattle.work_list.proofs.groups.Groups.reach.Goals as goal

pub loop-self-preserved : goal.loop-self-preserved
loop-self-preserved c = record {
  same = λ d. ap (λ (xs : List (List ℕ)). list_at xs d) c.in_ok-grow.ensures.ok ∙ longer_same c.loop-self.self d ∙ c.loop-self.invariant.same d;
  items = ap items_in c.in_ok-grow.ensures.ok ∙ longer_items c.loop-self.self ∙ c.loop-self.invariant.items;
}
