use Rattle.std.proofs.Common.{◌≡◌, List, ap₂, sym, ◌∙◌, length, drop, arith}
use Rattle.normal_forms.specs.declared.apart.ApartLists.{ApartLists}
use Rattle.normal_forms.specs.declared.forms.Form.{Form}
use Rattle.saturate.specs.GoingOn.{IsBegun}
use Rattle.saturate.specs.Growth.{with_more, KeepsServed}
use Rattle.saturate.proofs.Extending.{begin_with, derived_then, extended, listed_again, parted}
use Rattle.saturate.proofs.Turns.{named_still}
use Rattle.saturate.proofs.state.State.grown.Goals as goal
use Rattle.saturate.proofs.state.State.grown.Goals.{In_ok-ground}

-- the forms and contexts are those that were there, and those that are added
grown : (g : _) (c : In_ok-ground g) → c.in_ok-ground.ground ≡ with_more c.self.inside.ground (drop c.args.from c.args.all.now) c.args.apart.now c.args.roots.now
grown g c = parted c.self.inside.ground c.in_ok-ground.ground c.args.all.now c.args.apart.now c.args.roots.now c.args.from (rw (← c.self.view_is) at c.requires.forms) c.in_ok-ground.ensures.forms c.in_ok-ground.ensures.apart c.in_ok-ground.ensures.roots

pub continued-requires : goal.continued-requires
continued-requires g c = begin_with c.args.from c.args.all.now c.self.inside.ground.forms (rw (← c.self.view_is) at c.requires.forms)

pub copy-requires-clause-finished : goal.copy-requires-clause-finished
copy-requires-clause-finished g c =
    let all : length c.self.inside.queue.served ≡ length c.self.inside.facts.facts = rw (← c.self.view_is) at c.requires.finished in
    omega (arith, c.self.invariant.0.queued, all)

pub carry_on-requires-clause-earlier : goal.carry_on-requires-clause-earlier
carry_on-requires-clause-earlier g c = rw c.in_ok-ground.ensures.forms (rw (← c.self.view_is) at c.requires.forms)

pub carry_on-requires-clause-grown : goal.carry_on-requires-clause-grown
carry_on-requires-clause-grown g c = record {
  roots = c.args.roots.now;
  problem = grown g (goal.at.carry_on-requires-clause-grown g c).In_ok-ground ∙ ap₂ (λ (fs : List Form) (ls : ApartLists). with_more c.self.inside.ground (drop c.args.from fs) ls c.args.roots.now) (sym c.in_ok-ground.ensures.forms) (sym c.in_ok-ground.ensures.apart);
  lists = rw c.in_ok-ground.ensures.apart (rw (← c.self.view_is) at c.requires.lists);
}

pub carry_on-requires-clause-derived : goal.carry_on-requires-clause-derived
carry_on-requires-clause-derived g c = rw c.in_ok-facts.ensures (derived_then c.self.inside.ground (drop c.args.from c.args.all.now) c.args.apart.now c.args.roots.now (rw (← c.self.view_is) at c.requires.lists) (grown g (goal.at.carry_on-requires-clause-derived g c).In_ok-ground) c.self.invariant.0.derived)

pub carry_on-requires-clause-complete : goal.carry_on-requires-clause-complete
carry_on-requires-clause-complete g c = rw (c.in_ok-facts.ensures, c.in_ok-queue.ensures) c.self.invariant.0.complete

pub carry_on-requires-clause-turns : goal.carry_on-requires-clause-turns
carry_on-requires-clause-turns g c = rw (c.in_ok-queue.ensures, c.in_ok-facts.ensures) (record { queued = c.self.invariant.0.queued; served = c.self.invariant.0.within })

pub carry_on-requires-clause-listed : goal.carry_on-requires-clause-listed
carry_on-requires-clause-listed g c = rw (c.in_ok-facts.ensures, c.in_ok-queue.ensures, c.in_ok-index.ensures) c.self.invariant.1

pub invariant_of-state : goal.invariant_of-state
invariant_of-state g c =
    let same = grown g (goal.at.invariant_of-state g c).In_ok-ground in
    let begun : IsBegun c.in_ok-ground.ground 4294967295 c.self.inside.queue.served c.self.inside.facts c.carry_on.new.facts = rw (c.in_ok-facts.ensures, c.in_ok-queue.ensures) at c.in_ok-carry_on.ensures.goes_on.begun in
    let kept : KeepsServed c.self.inside.ground c.in_ok-ground.ground c.self.inside.facts.facts c.self.inside.queue.served c.carry_on.new.queue.served = rw (c.in_ok-facts.ensures, c.in_ok-queue.ensures) at c.in_ok-carry_on.ensures.served in (
      extended c.self.inside.ground (drop c.args.from c.args.all.now) c.args.apart.now c.args.roots.now (rw (← c.self.view_is) at c.requires.lists) same c.self.invariant.0 begun c.in_ok-carry_on.ensures.goes_on.queued kept,
      listed_again c.carry_on.new.queue c.in_ok-carry_on.ensures.goes_on.listed,
      rw (c.in_ok-carry_on.ensures.goes_on.waiting, c.in_ok-queue.ensures) (named_still c.self.inside.facts.facts c.carry_on.new.facts.facts c.self.inside.queue.waiting begun.grows.facts c.self.invariant.2),
    )

pub returns-clause-grown : goal.returns-clause-grown
returns-clause-grown g c = rw (← c.self.view_is, ← c.in_ok-facts.ensures) (record {
  problem = grown g (goal.at.returns-clause-grown g c).In_ok-ground;
  facts = c.in_ok-carry_on.ensures.goes_on.begun.grows.facts;
  births = c.in_ok-carry_on.ensures.goes_on.begun.grows.births;
})

pub returns-clause-served : goal.returns-clause-served
returns-clause-served g c = rw (← c.self.view_is) (rw (c.in_ok-facts.ensures, c.in_ok-queue.ensures) at c.in_ok-carry_on.ensures.served)
