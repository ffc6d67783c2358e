use Rattle.std.proofs.Common.{◌≡◌, ◌<◌, ℕ, Some, length, slice_get, ap, subst, sym, ◌∙◌, arith}
use Rattle.std.proofs.lemmas.Option.{slice_get-get_or}
use Rattle.work_list.specs.Bag.{Adds}
use Rattle.saturate.specs.Turns.{item}
use Rattle.saturate.proofs.Turns.{named_more}
use Rattle.saturate.proofs.queue.Queue.fill.Goals as goal

-- the number that is queued next waits under its fact's context
pub loop-self-preserved : goal.loop-self-preserved
loop-self-preserved g c =
    let old = c.loop-self.self in
    let facts = c.args.facts.now in
    let f = c.index-facts-queued.result in
    let more = c.in_ok-wait.ensures.ok in
    let n : ℕ = c.queued-in-loop-self.result in
    let low : n < length facts = omega (arith, c.loop-self-test.true, c.queued.ensures, c.queued-in-loop-self.ensures) in
    let at : slice_get facts n ≡ Some f = slice_get-get_or facts n f low ∙ ap Some (sym c.index-facts-queued.is) in
    let next : slice_get facts old.queued ≡ Some f = subst (λ (m : ℕ). slice_get facts m ≡ Some f) c.queued-in-loop-self.ensures at in
    record {
      most = omega (arith, more.queued, low, c.queued-in-loop-self.ensures);
      named = named_more facts old.waiting c.wait.new.self.waiting old.queued f c.loop-self.invariant.named next
          (subst (λ (x : ℕ). Adds (item old.queued x) old.waiting c.wait.new.self.waiting) c.context_of.ensures more.waiting);
      least = omega (arith, more.queued, c.loop-self.invariant.least);
      served = more.served ∙ c.loop-self.invariant.served;
      hand = more.hand ∙ c.loop-self.invariant.hand;
    }
