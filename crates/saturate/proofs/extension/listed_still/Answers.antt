use Rattle.std.proofs.Common.{ℕ, List, sym, subst, ◌∙◌}
use Rattle.normal_forms.proofs.Filters.{from_kept}
use Rattle.saturate.specs.Flags.{is_kept}
use Rattle.saturate.specs.IndexedFacts.{ListsFacts}
use Rattle.saturate.proofs.Listing.{still_listed}
use Rattle.saturate.proofs.extension.listed_still.Goals as goal

pub returns-clause-goes_on : goal.returns-clause-goes_on
returns-clause-goes_on g c =
    let served : List ℕ = c.args.queue.now.served in
    let flags = c.args.flags.now in
    let before = still_listed c.in_ok-begun_again.ensures.begun.grows (λ n there. c.requires.turns.served n (from_kept (is_kept flags) served n there)) c.requires.listed in
    record {
      begun = c.in_ok-begun_again.ensures.begun;
      queued = c.begun_again.ensures.queued;
      waiting = c.begun_again.ensures.waiting;
      listed = subst (λ (ns : List ℕ). ListsFacts c.args.ground.now c.begun_again.new.facts ns ns c.remove_pending.new.index) (sym c.in_ok-begun_again.ensures.served)
          (c.remove_pending.ensures c.args.ground.now served (λ n e. c.hand-hand.ensures.once.fresh n (sym c.hand-hand.ensures.value ∙ e)) (rw c.hand-hand.ensures.value before));
    }
