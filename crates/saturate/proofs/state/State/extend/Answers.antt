use Rattle.std.proofs.Common.{◌≡◌, List, ap₂, sym, ◌∙◌, drop}
use Rattle.normal_forms.specs.declared.apart.ApartLists.{ApartLists}
use Rattle.normal_forms.specs.declared.forms.Form.{Form}
use Rattle.saturate.specs.Growth.{with_more}
use Rattle.saturate.proofs.Extending.{derived_then, extended, listed_again, parted}
use Rattle.saturate.proofs.NewSeconds.{listed_with_more}
use Rattle.saturate.proofs.Turns.{named_still}
use Rattle.saturate.proofs.state.State.extend.Goals as goal
use Rattle.saturate.proofs.state.State.extend.Goals.{In_ok-ground}

-- the forms and contexts are those that were there, and those that are added
grown : (g : _) (c : In_ok-ground g) → c.in_ok-ground.ground ≡ with_more c.self.inside.ground (drop c.args.from c.args.all.now) c.args.apart.now c.args.roots.now
grown g c = parted c.self.inside.ground c.in_ok-ground.ground c.args.all.now c.args.apart.now c.args.roots.now c.args.from (rw (← c.self.view_is) at c.requires.forms) c.in_ok-ground.ensures.forms c.in_ok-ground.ensures.apart c.in_ok-ground.ensures.roots

pub carry_on-requires-clause-earlier : goal.carry_on-requires-clause-earlier
carry_on-requires-clause-earlier g c = rw c.in_ok-ground.ensures.forms (rw (← c.self.view_is) at c.requires.forms)

pub carry_on-requires-clause-derived : goal.carry_on-requires-clause-derived
carry_on-requires-clause-derived g c = derived_then c.self.inside.ground (drop c.args.from c.args.all.now) c.args.apart.now c.args.roots.now (rw (← c.self.view_is) at c.requires.lists) (grown g (goal.at.carry_on-requires-clause-derived g c).In_ok-ground) c.self.invariant.0.derived

pub carry_on-requires-clause-grown : goal.carry_on-requires-clause-grown
carry_on-requires-clause-grown g c = record {
  roots = c.args.roots.now;
  problem = grown g (goal.at.carry_on-requires-clause-grown g c).In_ok-ground ∙ ap₂ (λ (fs : List Form) (ls : ApartLists). with_more c.self.inside.ground (drop c.args.from fs) ls c.args.roots.now) (sym c.in_ok-ground.ensures.forms) (sym c.in_ok-ground.ensures.apart);
  lists = rw c.in_ok-ground.ensures.apart (rw (← c.self.view_is) at c.requires.lists);
}

pub carry_on-requires-clause-complete : goal.carry_on-requires-clause-complete
carry_on-requires-clause-complete g c = c.self.invariant.0.complete

pub carry_on-requires-clause-listed : goal.carry_on-requires-clause-listed
carry_on-requires-clause-listed g c = c.self.invariant.1

pub invariant_of-self : goal.invariant_of-self
invariant_of-self g c = (
  extended c.self.inside.ground (drop c.args.from c.args.all.now) c.args.apart.now c.args.roots.now (rw (← c.self.view_is) at c.requires.lists) (grown g (goal.at.invariant_of-self g c).In_ok-ground) c.self.invariant.0 c.in-Ok.ensures.goes_on.begun c.in-Ok.ensures.goes_on.queued c.in-Ok.ensures.served,
  listed_again c.carry_on.new.queue c.in-Ok.ensures.goes_on.listed,
  rw c.in-Ok.ensures.goes_on.waiting (named_still c.self.inside.facts.facts c.carry_on.new.facts.facts c.self.inside.queue.waiting c.in-Ok.ensures.goes_on.begun.grows.facts c.self.invariant.2),
)

pub returns-in-Ok-clause-grown : goal.returns-in-Ok-clause-grown
returns-in-Ok-clause-grown g c = rw (← c.self.view_is) (record {
  problem = grown g (goal.at.returns-in-Ok-clause-grown g c).In_ok-ground;
  facts = c.in-Ok.ensures.goes_on.begun.grows.facts;
  births = c.in-Ok.ensures.goes_on.begun.grows.births;
})

pub returns-in-Ok-clause-served : goal.returns-in-Ok-clause-served
returns-in-Ok-clause-served g c = rw (← c.self.view_is) c.in-Ok.ensures.served

-- a growth that was refused changes nothing, but that the index may list more second premises
pub invariant_of-self-in-Err : goal.invariant_of-self-in-Err
invariant_of-self-in-Err g c = rw (c.in-Err.ensures.err.facts, c.in-Err.ensures.err.queue) (
  c.self.invariant.0,
  listed_with_more c.in-Err.ensures.index c.self.invariant.1,
  c.self.invariant.2,
)
