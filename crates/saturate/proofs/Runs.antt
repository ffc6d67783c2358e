-- States at any time, and what runs do.
use Rattle.std.proofs.Common.{◌≡◌, ◌↔◌, ℕ, suc, ◌+◌, ◌<◌, ◌≤◌, ◌⊎◌, inl, inr, ⊎_elim, List, [], ◌∷◌, ◌++◌, length, slice_get, Some, Contains, Result, Ok, Err, OnErr, is_err, refl, sym, ap, ◌∙◌, subst, arith, length-append}
use Rattle.std.proofs.lemmas.Bool.{false≢true}
use Rattle.std.proofs.lemmas.Bool.Decides.{eqb_tells}
use Rattle.std.proofs.lemmas.List.Elements.{Contains-append_cases, Contains-push_cases}
use Rattle.std.proofs.lemmas.List.FromFn.{length-range_with_len, get_or-range_with_len}
use Rattle.std.proofs.lemmas.Option.{slice_get_within, get_or_from_slice_get}
use Rattle.std.specs.List.{range_with_len}
use Rattle.axioms.specs.WellFormedness.{AreDistinct}
use Rattle.axioms.proofs.Growing.{AreDistinct-push}
use Rattle.facts.specs.declared.contexts.Fact.{Fact}
use Rattle.facts.specs.Closure.{Problem}
use Rattle.inference.specs.declared.known_facts.Stop.TheVariants.{Limit}
use Rattle.inference.specs.Derivations.{Derived, Grows}
use Rattle.inference.specs.Completeness.{IsClosure}
use Rattle.inference.proofs.Lists.{Contains-from_slice_get, slice_get-from_Contains, keeps_push}
use Rattle.saturate.specs.Turns.{Queued}
use Rattle.saturate.specs.State.{Seen, Extends, IsUnderWay}
use Rattle.saturate.specs.Run.{HasRun, IsState, IsStep, AreSteps, IsRun, IsLeft, IsRunUntil, IsFinished}
use Rattle.lemmas.proofs.Members.{Contains-first, Contains-later}
use Rattle.number_sets.proofs.Members.{length-le_from_below}
use Rattle.saturate.proofs.States.{finished, grown, too_many}

-- ---- a state

pub seen_state : {k : Problem} {d : Derived} {q : Queued} → IsUnderWay k d q → AreDistinct q.served → IsState (record { problem = k; facts = d.facts; births = d.births; served = q.served })
seen_state s once = record { born = s.derived; within = s.within; once = once; complete = s.complete }

-- ---- all numbers below a count

number_at : (n i x : ℕ) → slice_get (range_with_len 0 n) i ≡ Some x → x ≡ i
number_at n i x there =
    let low : i < n = omega (arith, slice_get_within (range_with_len 0 n) i x there, length-range_with_len 0 n) in
    omega (arith, get_or_from_slice_get (range_with_len 0 n) i x x there, get_or-range_with_len 0 n i x low)

pub all_numbers_within : (n : ℕ) → (x : ℕ) → Contains (range_with_len 0 n) x → x < n
all_numbers_within n x c =
    let there = slice_get-from_Contains (range_with_len 0 n) x c in
    omega (arith, number_at n there.0 x there.1, slice_get_within (range_with_len 0 n) there.0 x there.1, length-range_with_len 0 n)

pub all_numbers_distinct : (n : ℕ) → AreDistinct (range_with_len 0 n)
all_numbers_distinct n i j x a b = sym (number_at n i x a) ∙ number_at n j x b

-- ---- what an answer says

pub in_any_refusal : {T E P : Type 0} (r : Result T E) → P → OnErr r P
in_any_refusal (Ok x) p = tt
in_any_refusal (Err e) p = p

pub no_refusal : {T E : Type 0} (x : T) (e : E) → ◌≡◌ {A = Result T E} (Ok x) (Err e) → ⊥
no_refusal x e same = false≢true (ap is_err same)

-- ---- what a step leads to

abbrev seen : Problem → Derived → List ℕ → Seen
seen k d served = record { problem = k; facts = d.facts; births = d.births; served = served }

-- no fact is served, and facts are added
pub left : {k : Problem} {most : ℕ} {old new : Derived} {q : Queued} (r : Queued) → IsUnderWay k old q → AreDistinct q.served → Grows k most old new → r.queued ≤ length old.facts → r.served ≡ q.served → IsLeft (seen k old q.served) (seen k new r.served)
left {k} {old = old} {new = new} {q = q} r s once t low same = record {
  extends = record { problem = refl; facts = t.facts; births = t.births; served = λ m x got. rw same got };
  served = same;
  state = seen_state {q = r} (grown s t low same) (rw same once);
}

-- the number in hand is served
pub one_step : {k : Problem} {most : ℕ} {old new : Derived} {r : Queued} (n : ℕ) (before : List ℕ) → Grows k most old new → IsUnderWay k new r → AreDistinct before → r.served ≡ before ++ n ∷ [] → n < length old.facts → (Contains before n → ⊥)
    → IsStep (seen k old before) (seen k new r.served)
one_step {r = r} n before t under once served low fresh = record {
  number = n;
  was_pending = record { there = low; unserved = fresh };
  extends = record { problem = refl; facts = t.facts; births = t.births; served = λ m x got. rw served (keeps_push before n m x got) };
  served = served;
  state = seen_state {q = r} under (rw served (AreDistinct-push before n once fresh));
}

-- ---- where as many were served as there are, each was

is_there : (ys : List ℕ) (q : ℕ) → Contains ys q ⊎ (Contains ys q → ⊥)
is_there [] q = inr (λ c. absurd (omega (arith, c.1)))
is_there (y ∷ ys) q = ⊎_elim
    (λ w. inl (subst (λ (z : ℕ). Contains (y ∷ ys) z) w.1 (Contains-first y ys)))
    (λ w. ⊎_elim
    (λ c. inl (Contains-later y q ys c))
    (λ not. inr (λ c. ⊎_elim (λ one. w.1 (only one)) not (Contains-append_cases (y ∷ []) ys q c)))
    (is_there ys q))
    (eqb_tells y q)
  where
    only : Contains (y ∷ []) q → y ≡ q
    only one = ⊎_elim (λ c. absurd (omega (arith, c.1))) (λ e. e) (Contains-push_cases [] y q one)

pub each_served : (served : List ℕ) (size : ℕ) → AreDistinct served → ((n : ℕ) → Contains served n → n < size) → length served ≡ size → (n : ℕ) → n < size → Contains served n
each_served served size once within long n low = ⊎_elim (λ c. c) (λ not. absurd (too_many not)) (is_there served n)
  where
    too_many : (Contains served n → ⊥) → ⊥
    too_many not =
        let few : length (served ++ n ∷ []) ≤ size =
        length-le_from_below (served ++ n ∷ []) size
        (λ i j x a b. AreDistinct-push served n once not i j x a b)
        (λ i x at. ⊎_elim (within x) (λ e. subst (λ (m : ℕ). m < size) e low) (Contains-push_cases served n x (Contains-from_slice_get (served ++ n ∷ []) i x at))) in
        omega (arith, few, long, length-append served (n ∷ []))

pub finished_is_closure : (s : Seen) → IsState s → IsFinished s → IsClosure s.problem s.facts
finished_is_closure s state all = finished s.served state.born state.complete (each_served s.served (length s.facts) state.once state.within all)

-- ---- runs

pub extends_same : (s : Seen) → Extends s s
extends_same s = record { problem = refl; facts = λ n x at. at; births = λ n x at. at; served = λ n x at. at }

pub extends_more : {s t u : Seen} → Extends s t → Extends t u → Extends s u
extends_more a b = record {
  problem = b.problem ∙ a.problem;
  facts = λ n x at. b.facts n x (a.facts n x at);
  births = λ n x at. b.births n x (a.births n x at);
  served = λ n x at. b.served n x (a.served n x at);
}

steps_extend : (n : ℕ) (s t : Seen) → AreSteps n s t → Extends s t
steps_extend n s t AreSteps.none = extends_same s
steps_extend n s t (AreSteps.more {steps = m} u are step) = extends_more (steps_extend m s u are) step.extends

pub run_extends : (s t : Seen) → IsRun s t → Extends s t
run_extends s t run = steps_extend run.steps s t run.are

each_serves : (n : ℕ) (s t : Seen) → AreSteps n s t → length t.served ≡ length s.served + n
each_serves n s t AreSteps.none = omega arith
each_serves n s t (AreSteps.more {steps = m} u are step) =
    let before : length u.served ≡ length s.served + m = each_serves m s u are in
    let last : length t.served ≡ length u.served + 1 = ap length step.served ∙ length-append u.served (step.number ∷ []) in
    omega arith

pub steps_serve : (s t : Seen) (run : IsRun s t) → length t.served ≡ length s.served + run.steps
steps_serve s t run = each_serves run.steps s t run.are

pub no_steps : (s : Seen) → IsRun s s
no_steps s = record { steps = 0; are = AreSteps.none }

pub one_more : {s t u : Seen} → IsRun s t → IsStep t u → IsRun s u
one_more {t = t} run step = record { steps = suc run.steps; are = AreSteps.more t run.are step }

-- a run that was given up before its first step, or in the step behind its last
pub not_begun : (s : Seen) → IsState s → IsRunUntil s s
not_begun s state = record { last = s; run = no_steps s; left = record { extends = extends_same s; served = refl; state = state } }

-- nor does it begin where there are too many facts already
pub no_run : (max_facts : ℕ) (s : Seen) → IsState s → max_facts < length s.facts → HasRun max_facts s s (Err Limit)
no_run max_facts s state many = record {
  extends = extends_same s;
  state = state;
  whole = tt;
  until = not_begun s state;
  done = tt;
  served = tt;
  within = tt;
  few = tt;
  limit = λ _. too_many state.born max_facts many;
  full = λ _. omega (arith, many);
  most = λ low. low;
  idle = λ _. (refl, λ e. cc);
}

pub given_up : {s t u : Seen} → IsRun s t → IsLeft t u → IsRunUntil s u
given_up {t = t} run left = record { last = t; run = run; left = left }

-- where nothing is pending nothing is served
pub none_pending : (s t : Seen) → length s.served ≡ length s.facts → t ≡ s → length t.served < length t.facts → ⊥
none_pending s t all same some = omega (arith, all, ap (λ (x : Seen). length x.served) same, ap (λ (x : Seen). length x.facts) same, some)

steps_state : (n : ℕ) (s t : Seen) → IsState s → AreSteps n s t → IsState t
steps_state n s t state AreSteps.none = state
steps_state n s t state (AreSteps.more u are step) = step.state

pub any_order : (s t s' t' : Seen) → s.problem ≡ s'.problem → IsState s → IsRun s t → IsFinished t → IsState s' → IsRun s' t' → IsFinished t' → (f : Fact) → Contains t.facts f ↔ Contains t'.facts f
any_order s t s' t' same state run done state' run' done' f =
    let a = finished_is_closure t (steps_state run.steps s t state run.are) done in
    let b = finished_is_closure t' (steps_state run'.steps s' t' state' run'.are) done' in
    let problem : t.problem ≡ t'.problem = (run_extends s t run).problem ∙ same ∙ sym (run_extends s' t' run').problem in
    let b' = subst (λ (k : Problem). IsClosure k t'.facts) (sym problem) b in
    (λ c. (b' f).1 ((a f).0 c), λ c. (a f).1 ((b' f).0 c))
