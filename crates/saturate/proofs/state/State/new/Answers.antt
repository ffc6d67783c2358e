use Rattle.std.proofs.Common.{ℕ, List, ◌++◌, subst, sym}
use Rattle.std.proofs.lemmas.Option.{none-some}
use Rattle.axioms.specs.WellFormedness.{AreDistinct}
use Rattle.saturate.specs.IndexedFacts.{ListsFacts}
use Rattle.saturate.specs.Turns.{option_list}
use Rattle.saturate.proofs.Runs.{seen_state}
use Rattle.saturate.proofs.States.{begun}
use Rattle.saturate.proofs.Listing.{nothing_listed}
use Rattle.saturate.proofs.Turns.{none_named}
use Rattle.saturate.proofs.state.State.new.Goals as goal

pub invariant_of-result : goal.invariant_of-result
invariant_of-result g c = (
  begun c.in_ok-ground.ensures.forms c.in_ok-ground.ensures.apart c.in_ok-ground.ensures.roots c.new-2.ensures.facts c.new-2.ensures.births c.in_ok-queue.ensures.queued c.in_ok-queue.ensures.served,
  subst (λ (ns : List ℕ). ListsFacts c.in_ok-ground.ground c.new-2.result ns (c.in_ok-queue.queue.served ++ option_list c.in_ok-queue.queue.hand) c.new-3.result) (sym c.in_ok-queue.ensures.served) (nothing_listed c.in_ok-ground.ground c.new-2.result _ c.new-3.result c.new-3.ensures),
  none_named c.new-2.result.facts c.in_ok-queue.queue.waiting c.in_ok-queue.ensures.waiting,
)

pub returns-clause-state : goal.returns-clause-state
returns-clause-state g c = seen_state {q = c.in_ok-queue.queue} (begun c.in_ok-ground.ensures.forms c.in_ok-ground.ensures.apart c.in_ok-ground.ensures.roots c.new-2.ensures.facts c.new-2.ensures.births c.in_ok-queue.ensures.queued c.in_ok-queue.ensures.served) (subst AreDistinct (sym c.in_ok-queue.ensures.served) (λ i j x a b. absurd (none-some x a)))
