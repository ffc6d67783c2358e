use Rattle.std.proofs.Common.{◌≡◌, ◌++◌, length, take, drop, sym, ap, ◌∙◌, arith}
use Rattle.std.proofs.lemmas.List.{with_items_is}
use Rattle.saturate.specs.Flags.{asked, kept}
use Rattle.saturate.proofs.Flagging.{all_kept}
use Rattle.saturate.proofs.Shifting.{back_then, front_distinct, still_served, turns}
use Rattle.saturate.proofs.Turns.{few_asked, still_long}
use Rattle.saturate.proofs.queue.Queue.unserve.Goals as goal
use Rattle.saturate.proofs.queue.Queue.unserve.Goals.{After-deref_mut, After-part-self-inside}

pub returns-then-are_none-clause-ok : goal.returns-then-are_none-clause-ok
returns-then-are_none-clause-ok g c = sym (all_kept c.args.flags.now (c.are_none.ensures c.if-are_none.true) c.args.self.now.served)

-- those that were settled and are not now stand behind those that were taken
extended : (g : _) (c : After-deref_mut g) → c.extend_from_slice.new.self.items ≡ c.self.inside.taken.items ++ c.in_ok-settled.unsettled.items
extended g c = c.in_ok-extend_from_slice.ensures.items ∙ ap (λ ns. c.self.inside.taken.items ++ ns) c.deref.ensures.value

pub part-self-inside-requires-clause-room : goal.part-self-inside-requires-clause-room
part-self-inside-requires-clause-room g c =
    let d = (goal.at.part-self-inside-requires-clause-room g c).After-deref_mut in
    let taken = c.self.inside.taken.items in
    let out = c.in_ok-settled.unsettled.items in
    let front = take c.self.inside.served (taken ++ out) in
    let few = few_asked c.args.flags.now c.numbers.result.now front c.numbers.ensures (front_distinct c.args.flags.now c.self.inside.settled taken out c.self.inside.served c.self.invariant c.in_ok-settled.ensures.asked) in
    omega (arith, few, ap (λ ns. length (asked c.args.flags.now (take c.self.inside.served ns))) (c.deref_mut.ensures.value ∙ extended g d), c.in_ok-again.ensures.exact)

module _ (g : _) (c : After-part-self-inside g) (is_extended : c.extend_from_slice.new.self.items ≡ c.self.inside.taken.items ++ c.in_ok-settled.unsettled.items) where
  items : take c.extend_from_slice.new.self.len (c.part-self-inside.new.numbers ++ drop (length c.part-self-inside.new.numbers) c.extend_from_slice.new.self.items) ≡ turns c.args.flags.now c.self.inside.served (c.self.inside.taken.items ++ c.in_ok-settled.unsettled.items)
  items =
      let flags = c.args.flags.now in
      let all = c.extend_from_slice.new.self in
      let is = c.part-self-inside.ensures.parted ∙ ap (turns flags c.self.inside.served) c.deref_mut.ensures.value in
      with_items_is all c.part-self-inside.new.numbers (ap length is ∙ still_long flags c.self.inside.served all.items ∙ sym all.ok.0) ∙ is ∙ ap (turns flags c.self.inside.served) is_extended

  count : c.part-self-inside.result ≡ length (kept c.args.flags.now (take c.self.inside.served (c.self.inside.taken.items ++ c.in_ok-settled.unsettled.items)))
  count = c.part-self-inside.ensures.kept ∙ ap (λ ns. length (kept c.args.flags.now (take c.self.inside.served ns))) (c.deref_mut.ensures.value ∙ is_extended)

pub invariant_of-self-2 : goal.invariant_of-self-2
invariant_of-self-2 g c =
    let at = goal.at.invariant_of-self-2 g c in
    let is = extended g at.After-deref_mut in
    rw (c.in_ok-settled.ensures.kept, items g at.After-part-self-inside is, count g at.After-part-self-inside is)
    (back_then c.args.flags.now c.self.inside.settled c.self.inside.taken.items c.in_ok-settled.unsettled.items c.self.inside.served c.self.invariant c.in_ok-settled.ensures.asked)

pub returns-clause-ok : goal.returns-clause-ok
returns-clause-ok g c =
    let at = goal.at.returns-clause-ok g c in
    let is = extended g at.After-deref_mut in
    rw (c.in_ok-settled.ensures.kept, items g at.After-part-self-inside is, count g at.After-part-self-inside is, ← c.self.view_is)
    (still_served c.args.flags.now c.self.inside.settled c.self.inside.taken.items c.in_ok-settled.unsettled.items c.self.inside.served c.self.invariant c.in_ok-settled.ensures.asked)
