use Rattle.std.proofs.Common.{◌≡◌, ℕ, List, sym, subst}
use Rattle.normal_forms.proofs.Filters.{from_kept}
use Rattle.saturate.specs.Flags.{is_kept, kept}
use Rattle.saturate.specs.IndexedFacts.{ListsFacts}
use Rattle.saturate.proofs.Listing.{still_listed}
use Rattle.saturate.proofs.extension.listed_anew.Goals as goal

pub indexed-requires-clause-numbers : goal.indexed-requires-clause-numbers
indexed-requires-clause-numbers g c = λ n there. c.requires.turns.served n (rw (c.deref.ensures.value, c.in_ok-served.ensures) at there)

pub returns-in-Ok-clause-goes_on : goal.returns-in-Ok-clause-goes_on
returns-in-Ok-clause-goes_on g c =
    let now : List ℕ = c.begun_again.new.queue.served in
    let same : now ≡ kept c.args.flags.now c.args.queue.now.served = c.in-Ok.ensures.served in
    record {
      begun = c.in-Ok.ensures.begun;
      queued = c.begun_again.ensures.queued;
      waiting = c.begun_again.ensures.waiting;
      listed = still_listed c.in-Ok.ensures.begun.grows (λ n there. c.requires.turns.served n (from_kept (is_kept c.args.flags.now) c.args.queue.now.served n (rw same at there)))
          (subst (λ (ns : List ℕ). ListsFacts c.args.ground.now c.args.facts.now ns ns c.in_ok-again.again) (sym same) (rw (c.deref.ensures.value, c.in_ok-served.ensures) at c.in_ok-again.ensures));
    }
