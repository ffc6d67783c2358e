-- How many facts are served, and that what brings nothing new leaves nothing pending that was not.
use Rattle.std.proofs.Common.{◌≡◌, ℕ, ◌<◌, ◌≤◌, ⊎_elim, Bool, true, false, List, [], ◌∷◌, length, slice_get, Option, Some, Contains, All, eqb, refl, sym, ◌∙◌, arith}
use Rattle.std.specs.List.{range_with_len}
use Rattle.std.specs.Set.{is_member}
use Rattle.std.proofs.lemmas.Bool.{cases_lt, false≢true}
use Rattle.std.proofs.lemmas.Bool.Decides.{Decides-eqb}
use Rattle.std.proofs.lemmas.List.FromFn.{length-range_with_len}
use Rattle.std.proofs.lemmas.Map.Made.{is_member-Decides}
use Rattle.lemmas.proofs.Members.{Contains-from_slice_get, slice_get-from_Contains}
use Rattle.number_sets.proofs.Members.{length-le_from_below}
use Rattle.normal_forms.specs.declared.forms.Form.{Form}
use Rattle.normal_forms.specs.declared.forms.Form.TheVariants.{N1, N2, N3, N4, N5, N6, N12}
use Rattle.normal_forms.specs.declared.forms.PropId2.{PropId2}
use Rattle.normal_forms.specs.declared.forms.PropId2.TheVariants.{Property}
use Rattle.normal_forms.specs.Properties.{IsAtOrBelow, same, step}
use Rattle.facts.specs.declared.contexts.Context.{Context}
use Rattle.facts.specs.declared.contexts.Fact.{Fact}
use Rattle.facts.specs.declared.contexts.Fact.TheVariants.{In, Edge}
use Rattle.facts.specs.Closure.{Problem, IsContextBy, FromOne, FromTwo, Concludes, Gives, IsFact, in_thing, in_itself, by_form, unsatisfiable, loop, handed_on, different, apart}
use Rattle.facts.proofs.Least.{closed, least}
use Rattle.facts.proofs.Sameness.{of_more}
use Rattle.inference.proofs.Growth.{sound}
use Rattle.saturate.specs.Growth.{KeepsServed}
use Rattle.saturate.specs.Run.{IsState, IsFinished, IsPending}
use Rattle.saturate.specs.State.{Seen}
use Rattle.saturate.proofs.Counting.{not_more}
use Rattle.saturate.proofs.Runs.{all_numbers_distinct, all_numbers_within, each_served, finished_is_closure}
use Rattle.engine.proofs.Counting.{at_most}
use Rattle.engine.specs.Saturations.{AsksForNoServed, BringsNothing, FinishedHasNonePending}

-- ---- what the new forms, lists and contexts give

module _ (old new : Problem) (nothing : BringsNothing old new) where
  was_below : (p q : PropId2) → IsAtOrBelow new.forms p q → IsAtOrBelow old.forms p q
  was_below p _ same = same
  was_below p _ (step s t low there) = step s t (was_below p (Property s) low) (nothing.forms (N5 s t) there)

  two_before : (form : Form) (g h f : Fact) → FromTwo new form g h f → FromTwo old form g h f
  two_before (N2 a b c) (In d x) (In e y) f w = w
  two_before (N4 r a b) (Edge x q y) (In c z) f w = (was_below q (Property r) w.0, w.1, w.2, w.3)
  two_before (N6 r s t) (Edge x p y) (Edge z q v) f w = (was_below p r w.0, was_below q s w.1, w.2, w.3)
  two_before _ _ _ f w = absurd w

  one_before : (form : Form) (g f : Fact) → FromOne new form g f → FromOne old form g f
  one_before (N1 a b) (In c x) f w = w
  one_before (N3 a r b) (In c x) f w = w
  one_before (N12 a r b) (Edge x q y) f w = (w.0, w.1, was_below q (Property r) w.2, w.3)
  one_before _ _ f w = absurd w

  concluded_before : (form : Form) (older : List Fact) (f : Fact) → Concludes new form older f → Concludes old form older f
  concluded_before form [] f w = w
  concluded_before form (g ∷ []) f w = one_before form g f w
  concluded_before form (g ∷ h ∷ []) f w = two_before form g h f w
  concluded_before form (g ∷ h ∷ i ∷ more) f w = absurd w

  was_context : (older : List Fact) (x : Context) → IsContextBy new older x → IsContextBy old older x
  was_context [] x c = nothing.roots x c
  was_context (g ∷ []) x c = c
  was_context (g ∷ h ∷ more) x c = absurd c

  -- a form that is there stood at some place before
  was_at : (n : ℕ) (form : Form) → slice_get new.forms n ≡ Some form → (m : ℕ) × (slice_get old.forms m ≡ Some form)
  was_at n form at = slice_get-from_Contains old.forms form (nothing.forms form (Contains-from_slice_get new.forms n form at))

  -- what facts of the old closure give by the new forms, lists and contexts is of the old closure
  given_before : (condition : ℕ) (form : Option ℕ) (older : List Fact) (f : Fact) → Gives new condition form older f → All (IsFact old) older → IsFact old f
  given_before _ _ older _ (in_thing {x = x} c) all = closed old _ _ older _ (in_thing (was_context older x c)) all
  given_before _ _ older _ (in_itself {e = e} c) all = closed old _ _ older _ (in_itself (was_context older _ c)) all
  given_before _ _ older f (by_form n form at w) all =
      let before = was_at n form at in
      closed old _ _ older f (by_form before.0 form before.1 (concluded_before form older f w)) all
  given_before _ _ older f (unsatisfiable b) all = closed old _ _ older f (unsatisfiable b) all
  given_before _ _ older f (loop x n form at l c) all =
      let before = was_at n form at in
      closed old _ _ older f (loop x before.0 form before.1 l (was_context older x c)) all
  given_before _ _ older f (handed_on n form at h) all =
      let before = was_at n form at in
      closed old _ _ older f (handed_on before.0 form before.1 h) all
  given_before _ _ older f (different l a b (list, at, ordered) one) all =
      let before = slice_get-from_Contains old.apart.individuals list (nothing.different list (Contains-from_slice_get new.apart.individuals l list at)) in
      closed old _ _ older f (different before.0 a b (list, before.1, ordered) (of_more nothing.forms one)) all
  given_before _ _ older f (apart l a b x (c, d, a_is, b_is, (list, at, ordered))) all =
      let before = slice_get-from_Contains old.apart.classes list (nothing.disjoint list (Contains-from_slice_get new.apart.classes l list at)) in
      closed old _ _ older f (apart before.0 a b x (c, d, a_is, b_is, (list, before.1, ordered))) all

  was_fact : (f : Fact) → IsFact new f → IsFact old f
  was_fact f is = least new (IsFact old) given_before f is

-- ---- how many numbers there are

-- the served facts of a state are at most as many as there are facts
few_served : (s : Seen) → IsState s → length s.served ≤ length s.facts
few_served s state = length-le_from_below s.served (length s.facts) state.once (λ k n at. state.within n (Contains-from_slice_get s.served k n at))

-- ---- what is served

-- where no new form asks for a served fact, exactly those that were served are, and each once
pub as_many_served : (old new : Seen) → IsState old → IsState new → KeepsServed old.problem new.problem old.facts old.served new.served → AsksForNoServed old new → length new.served ≡ length old.served
as_many_served old new before now keeps none =
    let many : length old.served ≤ length new.served = at_most old.served new.served before.once (λ n there. (keeps n).1 (there, none n there)) in
    let few : length new.served ≤ length old.served = at_most new.served old.served now.once (λ n there. ((keeps n).0 there).0) in
    omega (arith, many, few)

-- ---- where none is pending

-- each fact is served that is not pending
served_unless_pending : (s : Seen) → ((n : ℕ) → ¬ IsPending s n) → (n : ℕ) → n < length s.facts → Contains s.served n
served_unless_pending s idle n low = go (is_member eqb s.served n) refl
  where
    go : (b : Bool) → is_member eqb s.served n ≡ b → Contains s.served n
    go true e = (is_member-Decides Decides-eqb s.served n).0 e
    go false e = absurd (idle n (record { there = low; unserved = λ c. false≢true (sym e ∙ (is_member-Decides Decides-eqb s.served n).1 c) }))

all_served : (s : Seen) → IsState s → ((n : ℕ) → ¬ IsPending s n) → length s.served ≡ length s.facts
all_served s state idle =
    let numbers = range_with_len 0 (length s.facts) in
    let many : length numbers ≤ length s.served =
    at_most numbers s.served (all_numbers_distinct (length s.facts)) (λ n c. served_unless_pending s idle n (all_numbers_within (length s.facts) n c)) in
    let few : length s.served ≤ length s.facts = few_served s state in
    omega (arith, many, few, length-range_with_len 0 (length s.facts))

pub none_pending : FinishedHasNonePending
none_pending o s of = (
  λ all n pending. pending.unserved (each_served s.state.served (length s.state.facts) of.state.once of.state.within all n pending.there),
  all_served s.state of.state,
)

-- ---- a state with nothing new

module _ (old new : Seen) (nothing : BringsNothing old.problem new.problem) (before : IsState old) (now : IsState new) (all : IsFinished old) where
  -- each fact is of the old closure, which the old facts are: there are no more
  no_more_facts : length new.facts ≤ length old.facts
  no_more_facts = ⊎_elim
      (λ more. absurd (not_more old.problem old.facts (length old.facts) (finished_is_closure old before all) (omega arith) (record {
        facts = new.facts;
        distinct = now.born.distinct;
        each = λ m f at. was_fact old.problem new.problem nothing f (sound now.born m f at);
        many = more;
      })))
      (λ few. few)
      (cases_lt (length old.facts) (length new.facts))

  -- no form and no list is new, so each fact that was served is served
  served_still : KeepsServed old.problem new.problem old.facts old.served new.served → (n : ℕ) → Contains old.served n → Contains new.served n
  served_still keeps n there = (keeps n).1 (there, λ asked. ⊎_elim (λ w. w.1.1 (nothing.forms w.0 w.1.0)) (λ w. w.1.1 (nothing.disjoint w.0 w.1.0)) asked.2)

  pub still_finished : KeepsServed old.problem new.problem old.facts old.served new.served → IsFinished new
  still_finished keeps =
      let many : length old.served ≤ length new.served = at_most old.served new.served before.once (served_still keeps) in
      let few : length new.served ≤ length new.facts = few_served new now in
      omega (arith, no_more_facts, all, many, few)
