use Rattle.std.proofs.Common.{◌≡◌, ℕ, List, ◌++◌, length, Contains, Some, [], ◌∷◌, false, refl, sym, ap, subst, ◌∙◌, arith}
use Rattle.std.proofs.lemmas.Option.{none-some, slice_get_within}
use Rattle.facts.specs.Closure.{Problem}
use Rattle.inference.specs.Derivations.{Grows}
use Rattle.inference.specs.Visits.{IsNotCarried}
use Rattle.inference.specs.Completeness.{IsRedundantAsSecond}
use Rattle.inference.specs.Entry.{IsDrawnAlone}
use Rattle.axioms.specs.WellFormedness.{AreDistinct}
use Rattle.saturate.specs.Run.{IsLeft, IsStep}
use Rattle.saturate.specs.State.{IsUnderWay}
use Rattle.saturate.specs.IndexedFacts.{ListsServed}
use Rattle.saturate.specs.Turns.{NameTheirContexts}
use Rattle.inference.specs.Meetings.{AllListedAreMet}
use Rattle.inference.proofs.Growth.{grows_same}
use Rattle.saturate.proofs.Runs.{in_any_refusal, left, one_step}
use Rattle.saturate.proofs.States.{grown, one_served, finished}
use Rattle.saturate.proofs.Listing.{turned, may, listed, still_listed, all_within, all_met, in_most, finish_listed}
use Rattle.saturate.proofs.Turns.{named_still}
use Rattle.saturate.proofs.state.State.step.Goals as goal
use Rattle.saturate.proofs.state.State.step.Goals.{After-turn, After-add, After-serve, After-finish}

kept : (g : _) (c : After-turn g) → IsUnderWay c.self.inside.ground c.self.inside.facts c.turn.new.self × ListsServed c.self.inside.ground c.self.inside.facts c.turn.new.self c.self.inside.index
kept g c = (
  grown {most = 0} c.self.invariant.0 (grows_same c.self.invariant.0.derived) (omega (arith, c.turn.ensures.queued, ap length c.as_slice.ensures.value)) c.turn.ensures.served,
  turned c.self.inside.queue c.turn.new.self c.self.invariant.1 c.turn.ensures.served c.turn.ensures.kept,
)

-- what waits names its fact's context
named : (g : _) (c : After-turn g) → NameTheirContexts c.self.inside.facts.facts c.turn.new.self.waiting
named g c = rw (← c.as_slice.ensures.value) c.turn.ensures.named

pub turn-requires-clause-named : goal.turn-requires-clause-named
turn-requires-clause-named g c = rw c.as_slice.ensures.value c.self.invariant.2

pub invariant_of-self : goal.invariant_of-self
invariant_of-self g c = let d = (goal.at.invariant_of-self g c).After-turn in ((kept g d).0, (kept g d).1, named g d)

pub invariant_of-self-in_default : goal.invariant_of-self-in_default
invariant_of-self-in_default g c = let d = (goal.at.invariant_of-self-in_default g c).After-turn in ((kept g d).0, (kept g d).1, named g d)

pub returns-in_default-clause-done : goal.returns-in_default-clause-done
returns-in_default-clause-done g c = λ _.
    let all = c.in_ok-hand.ensures.ok.none (sym c.in_ok-hand.ensures.hand ∙ c.in_default.is) in
    finished c.self.inside.queue.served c.self.invariant.0.derived c.self.invariant.0.complete (λ n low. all.1 n (omega (arith, low, ap length c.as_slice.ensures.value)))

handed : (g : _) (c : After-add g) → c.turn.new.self.hand ≡ Some c.in-Some.hand
handed g c = sym c.in_ok-hand.ensures.hand ∙ c.in-Some.is

-- the fact in hand, where it need not be a second premise
redundant : (g : _) (c : After-add g) → c.is_second_premise-is_second.result ≡ false → IsRedundantAsSecond c.self.inside.ground c.self.inside.facts c.get-fact.result
redundant g c not_second = subst (λ (k : Problem). IsRedundantAsSecond k c.self.inside.facts c.get-fact.result) c.problem-problem.ensures (c.is_second_premise-is_second.ensures not_second c.get-fact.result c.get-fact.ensures)

-- the fact in hand, where edges carry nothing for it
uncarried : (g : _) (c : After-add g) → c.is_filler-is_filler.result ≡ false → IsNotCarried c.self.inside.ground c.get-fact.result
uncarried g c no_filler = subst (λ (k : Problem). IsNotCarried k c.get-fact.result) c.problem-problem.ensures (c.is_filler-is_filler.ensures no_filler)

indexed : (g : _) (c : After-add g) → ListsServed c.self.inside.ground c.self.inside.facts c.turn.new.self c.add.new.self
indexed g c = may (turned c.self.inside.queue c.turn.new.self c.self.invariant.1 c.turn.ensures.served c.turn.ensures.kept) c.add.ensures.may c.get-fact.ensures (in_most c.turn.new.self.served c.turn.new.self.hand c.in-Some.hand (handed g c))

pub invariant_of-self-in_default-add : goal.invariant_of-self-in_default-add
invariant_of-self-in_default-add g c =
    let d = goal.at.invariant_of-self-in_default-add g c in
    ((kept g d.After-turn).0, indexed g d.After-add, named g d.After-turn)

pub serve-requires-clause-index : goal.serve-requires-clause-index
serve-requires-clause-index g c = all_within (indexed g (goal.at.serve-requires-clause-index g c).After-add)

pub invariant_of-self-in_err-serve : goal.invariant_of-self-in_err-serve
invariant_of-self-in_err-serve g c =
    let d = goal.at.invariant_of-self-in_err-serve g c in
    let s = (kept g d.After-turn).0 in
    let grows = subst (λ (k : Problem). Grows k c.args.max_facts c.self.inside.facts c.serve.new.facts) c.problem-problem.ensures c.serve.ensures.grows in
    (grown s grows (omega (arith, c.turn.ensures.queued, ap length c.as_slice.ensures.value)) refl, still_listed grows s.within (indexed g d.After-add), named_still c.self.inside.facts.facts c.serve.new.facts.facts c.turn.new.self.waiting grows.facts (named g d.After-turn))

pub finish-requires : goal.finish-requires
finish-requires g c = λ none. none-some c.in-Some.hand (sym none ∙ handed g (goal.at.finish-requires g c).After-add)

-- the number in hand is served, behind those that were
served_now : (g : _) (c : After-finish g) → c.turn.new.self.hand ≡ Some c.in-Some.hand → c.finish.new.self.served ≡ c.turn.new.self.served ++ c.in-Some.hand ∷ []
served_now g c handed = c.finish.ensures.served ∙ in_most c.turn.new.self.served c.turn.new.self.hand c.in-Some.hand handed

grows : (g : _) (c : After-finish g) → Grows c.self.inside.ground c.args.max_facts c.self.inside.facts c.serve.new.facts
grows g c = subst (λ (k : Problem). Grows k c.args.max_facts c.self.inside.facts c.serve.new.facts) c.problem-problem.ensures c.serve.ensures.grows

module _ (g : _) (c : After-finish g) (s : IsUnderWay c.self.inside.ground c.self.inside.facts c.turn.new.self) (indexed_then : ListsServed c.self.inside.ground c.self.inside.facts c.turn.new.self c.add.new.self)
    (handed_then : c.turn.new.self.hand ≡ Some c.in-Some.hand) (redundant_then : c.is_second_premise-is_second.result ≡ false → IsRedundantAsSecond c.self.inside.ground c.self.inside.facts c.get-fact.result)
    (uncarried_then : c.is_filler-is_filler.result ≡ false → IsNotCarried c.self.inside.ground c.get-fact.result) where
  under_way : IsUnderWay c.self.inside.ground c.serve.new.facts c.finish.new.self
  under_way =
      let f = c.get-fact.result in
      let new = c.serve.new.facts in
      let alone = subst (λ (k : Problem). IsDrawnAlone k c.in-Some.hand f c.self.inside.facts new) c.problem-problem.ensures c.in_ok-serve.ensures.drawn.alone in
      let met = subst (λ (k : Problem). AllListedAreMet k f c.self.inside.facts.facts c.add.new.self new) c.problem-problem.ensures c.in_ok-serve.ensures.drawn.met in
      let whole = listed indexed_then c.get-fact.ensures c.in-Ok.ensures.ok redundant_then uncarried_then in
      one_served s (grows g c) c.in-Some.hand f c.get-fact.ensures alone
      (λ m t h at. all_met whole (grows g c) m t f h met at)
      (omega (arith, c.finish.ensures.queued, c.turn.ensures.queued, ap length c.as_slice.ensures.value))
      (served_now g c handed_then)

  stepped : IsStep c.args.self.now (record { problem = c.self.inside.ground; facts = c.serve.new.facts.facts; births = c.serve.new.facts.births; served = c.finish.new.self.served })
  stepped =
      let old = c.self.inside.queue.served in
      let was : c.turn.new.self.served ≡ old = c.turn.ensures.served in
      let served : c.finish.new.self.served ≡ old ++ c.in-Some.hand ∷ [] = subst (λ (ns : List ℕ). c.finish.new.self.served ≡ ns ++ c.in-Some.hand ∷ []) was (served_now g c handed_then) in
      let fresh = λ (there : Contains old c.in-Some.hand). c.in_ok-hand.ensures.once.fresh c.in-Some.hand handed_then (subst (λ (ns : List ℕ). Contains ns c.in-Some.hand) (sym was) there) in
      let once : AreDistinct old = (rw (← c.self.view_is) at c.well_formed-2.ensures.state).once in
      rw (← c.self.view_is) (one_step c.in-Some.hand old (grows g c) under_way once served (slice_get_within c.self.inside.facts.facts c.in-Some.hand c.get-fact.result c.get-fact.ensures) fresh)

pub invariant_of-self-2 : goal.invariant_of-self-2
invariant_of-self-2 g c =
    let d = goal.at.invariant_of-self-2 g c in
    let s = (kept g d.After-turn).0 in (
      under_way g d.After-finish s (indexed g d.After-add) (handed g d.After-add) (redundant g d.After-add) (uncarried g d.After-add),
      finish_listed c.turn.new.self c.finish.new.self (indexed g d.After-add) (handed g d.After-add) c.get-fact.ensures c.in-Ok.ensures.ok (redundant g d.After-add) (uncarried g d.After-add) (grows g d.After-finish) s.within (served_now g d.After-finish (handed g d.After-add)),
      rw c.finish.ensures.waiting (named_still c.self.inside.facts.facts c.serve.new.facts.facts c.turn.new.self.waiting (grows g d.After-finish).facts (named g d.After-turn)),
    )

pub returns-clause-extends : goal.returns-clause-extends
returns-clause-extends g c =
    let d = goal.at.returns-clause-extends g c in
    (stepped g d.After-finish (kept g d.After-turn).0 (indexed g d.After-add) (handed g d.After-add) (redundant g d.After-add) (uncarried g d.After-add)).extends

pub returns-clause-state : goal.returns-clause-state
returns-clause-state g c =
    let d = goal.at.returns-clause-state g c in
    (stepped g d.After-finish (kept g d.After-turn).0 (indexed g d.After-add) (handed g d.After-add) (redundant g d.After-add) (uncarried g d.After-add)).state

pub returns-clause-step : goal.returns-clause-step
returns-clause-step g c =
    let d = goal.at.returns-clause-step g c in
    λ _. stepped g d.After-finish (kept g d.After-turn).0 (indexed g d.After-add) (handed g d.After-add) (redundant g d.After-add) (uncarried g d.After-add)

-- ---- nothing is served

unserved : (g : _) (c : After-serve g) → IsLeft c.args.self.now (record { problem = c.self.inside.ground; facts = c.serve.new.facts.facts; births = c.serve.new.facts.births; served = c.turn.new.self.served })
unserved g c =
    let added = subst (λ (k : Problem). Grows k c.args.max_facts c.self.inside.facts c.serve.new.facts) c.problem-problem.ensures c.serve.ensures.grows in
    let once : AreDistinct c.self.inside.queue.served = (rw (← c.self.view_is) at c.well_formed-2.ensures.state).once in
    rw (← c.self.view_is) (left c.turn.new.self c.self.invariant.0 once added (omega (arith, c.turn.ensures.queued, ap length c.as_slice.ensures.value)) c.turn.ensures.served)

pub returns-in_err-serve-clause-state : goal.returns-in_err-serve-clause-state
returns-in_err-serve-clause-state g c = (unserved g (goal.at.returns-in_err-serve-clause-state g c).After-serve).state

pub returns-in_err-serve-clause-err : goal.returns-in_err-serve-clause-err
returns-in_err-serve-clause-err g c = in_any_refusal c.from_residual-in_err-serve.result (unserved g (goal.at.returns-in_err-serve-clause-err g c).After-serve)
