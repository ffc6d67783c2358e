-- What forms come to is as it was where those that are added say nothing new of it.
use Rattle.std.proofs.Common.{◌≡◌, ◌↔◌, ℕ, zero, suc, ◌≤◌, ◌⊎◌, inl, inr, ⊎_elim, Bool, true, false, true≢false, IsTrue, not, eqb, eqb-true, cond, List, [], ◌∷◌, ◌++◌, length, take, drop, slice_get, Option, Some, None, Contains, refl, sym, ap, ap₂, ◌∙◌, subst, append-nil, length-append, arith}
use Rattle.std.proofs.lemmas.Bool.{cases_lt, eqb-false}
use Rattle.std.proofs.lemmas.List.{take-append-drop}
use Rattle.std.proofs.lemmas.List.Elements.{Contains-append_cases, filter-append}
use Rattle.std.proofs.lemmas.Option.{none-some, slice_get_past, slice_get_within}
use Rattle.std.specs.List.{All, filter}
use Rattle.std.specs.Option.{option_and_then}
use Rattle.lemmas.proofs.Members.{Contains-first, Contains-later, Contains-from_slice_get}
use Rattle.lemmas.proofs.Places.{slice_get_there}
use Rattle.axioms.specs.declared.ids.PropId.{PropId}
use Rattle.normal_forms.specs.declared.forms.Class2.{Class2}
use Rattle.normal_forms.specs.declared.forms.Form.{Form}
use Rattle.normal_forms.specs.declared.forms.Form.TheVariants.{N1, N2, N3, N4, N5, N6, N7, N8, N9, N10, N12}
use Rattle.normal_forms.specs.declared.forms.PropId2.{PropId2}
use Rattle.normal_forms.specs.declared.forms.PropId2.TheVariants.{Property, Partial}
use Rattle.normal_forms.specs.Properties.{IsAtOrBelow, IsPropertyFormOf, same, step, is_property_form, property_forms}
use Rattle.property_closure.specs.PropertyClosures.{Known, Has}
use Rattle.indexes.specs.declared.keys.Key.{Key}
use Rattle.indexes.specs.declared.keys.Key.TheVariants.{Whole}
use Rattle.indexes.specs.Keys.{by_chain, by_end, by_filler, by_restricted, class_key, property_key}
use Rattle.indexes.specs.FormsUnderKeys.{IsUnder, is_key, numbers_under}
use Rattle.indexes.specs.Groups.{is_link}
use Rattle.inference.specs.declared.fillers.Fillers.{Fillers}
use Rattle.inference.specs.declared.joins.Joins.{Joins}
use Rattle.inference.specs.declared.plans.PlannedChain.{PlannedChain}
use Rattle.inference.specs.Joins.{AreFillers, AreJoins, HasMask}
use Rattle.inference.specs.PropertyClosures.{IsClosureOf, PutsOnEdges}
use Rattle.inference.specs.Sameness.{AreGroupsOf}
use Rattle.inference.specs.Marks.{HasAbove, HasEnds, HasFilled, HasSeconds}
use Rattle.inference.specs.Visits.{AreSpared}
use Rattle.inference.proofs.Redundancy.{all_joined_still}
use Rattle.inference.specs.Plans.{IsPlan}
use Rattle.saturate.specs.declared.counts.Counts.{Counts}
use Rattle.saturate.specs.Counts.{HasNames, IsMore}
use Rattle.saturate.specs.Growth.{EachFrom}
use Rattle.saturate.specs.Summaries.{LeavesClosure, LeavesFillers, LeavesGroups, LeavesJoins}
use Rattle.saturate.proofs.Fresh.{upper_there}
use Rattle.saturate.proofs.Naming.{property_stays}
use Rattle.saturate.proofs.Staying.{added}

-- ---- a closure has a property where it lists one above it

pub has_listed : (closure : Known) (p : PropId2) (above : List PropId2) (empty : Bool) → ((q : PropId2) → Contains above q ↔ (Has closure p × IsAtOrBelow closure.forms p q)) → empty ≡ eqb (length above) 0 → IsTrue (not empty) ↔ Has closure p
has_listed closure p above true exact e = (
  λ yes. absurd (true≢false (sym yes)),
  λ has. let there = (exact p).1 (has, same) in absurd (omega (arith, there.1, eqb-true (length above) 0 (sym e))),
)
has_listed closure p above false exact e = (
  λ yes. let q = slice_get_there above 0 (omega (arith, eqb-false (length above) 0 (sym e))) in ((exact q.0).0 (Contains-from_slice_get above 0 q.0 q.1)).0,
  λ has. refl,
)

-- ---- what stands at a place of a list with more behind it

at_front_or_behind : {X : Type 0} (xs ys : List X) (n : ℕ) (x : X) → slice_get (xs ++ ys) n ≡ Some x → (slice_get xs n ≡ Some x) ⊎ Contains ys x
at_front_or_behind [] ys n x at = inr (Contains-from_slice_get ys n x at)
at_front_or_behind (z ∷ xs) ys zero x at = inl at
at_front_or_behind (z ∷ xs) ys (suc n) x at = at_front_or_behind xs ys n x at

at_front : {X : Type 0} (xs ys : List X) (n : ℕ) (x : X) → slice_get xs n ≡ Some x → slice_get (xs ++ ys) n ≡ Some x
at_front [] ys n x at = absurd (none-some x at)
at_front (z ∷ xs) ys zero x at = at
at_front (z ∷ xs) ys (suc n) x at = at_front xs ys n x at

none_pass : {X : Type 0} (p : X → Bool) (xs : List X) → ((x : X) → Contains xs x → p x ≡ false) → filter p xs ≡ []
none_pass p [] none = refl
none_pass p (x ∷ xs) none = rw (none x (Contains-first x xs)) (none_pass p xs (λ y there. none y (Contains-later x y xs there)))

filter_still : {X : Type 0} (p : X → Bool) (xs ys : List X) → ((x : X) → Contains ys x → p x ≡ false) → filter p (xs ++ ys) ≡ filter p xs
filter_still p xs ys none = filter-append p xs ys ∙ ap (λ zs. filter p xs ++ zs) (none_pass p ys none) ∙ append-nil (filter p xs)

-- what is added has no key, so the keys are at the same places
same_keys : {X K : Type 0} (key : X → Option K) (xs ys : List X) → ((x : X) → Contains ys x → key x ≡ None) → (n : ℕ) → option_and_then key (slice_get (xs ++ ys) n) ≡ option_and_then key (slice_get xs n)
same_keys {X} {K} key [] ys none n = no_key (slice_get ys n) (λ x at. none x (Contains-from_slice_get ys n x at))
  where
    no_key : (o : Option X) → ((x : X) → o ≡ Some x → key x ≡ None) → option_and_then key o ≡ None
    no_key None h = refl
    no_key (Some x) h = h x refl
same_keys key (x ∷ xs) ys none zero = refl
same_keys key (x ∷ xs) ys none (suc n) = same_keys key xs ys none n

-- ---- the forms under a key that none of those that are added has

module _ (key : Form → Option Key) (forms more : List Form) (none : (form : Form) → Contains more form → key form ≡ None) where
  under_before : (k : Key) (n : ℕ) → IsUnder key (forms ++ more) k n → IsUnder key forms k n
  under_before k n w = ⊎_elim
      (λ at. (w.0, at, w.2))
      (λ new. absurd (none-some k (sym (none w.0 new) ∙ w.2)))
      (at_front_or_behind forms more n w.0 w.1)

  numbers_still : (k : Key) (n : ℕ) → numbers_under key (slice_get (forms ++ more)) k n ≡ numbers_under key (slice_get forms) k n
  numbers_still k zero = refl
  numbers_still k (suc n) = ap₂ (λ (numbers : List ℕ) (o : Option Key). numbers ++ cond (is_key k o) (n ∷ []) []) (numbers_still k n) (same_keys key forms more none n)

  -- past the end there is no number more
  past_end : (k : Key) (n : ℕ) → length forms ≤ n → numbers_under key (slice_get forms) k n ≡ numbers_under key (slice_get forms) k (length forms)
  past_end k zero long = let e : 0 ≡ length forms = omega (arith, long) in ap (numbers_under key (slice_get forms) k) e
  past_end k (suc n) long = ⊎_elim
      (λ low. let e : suc n ≡ length forms = omega (arith, long, low) in ap (numbers_under key (slice_get forms) k) e)
      (λ past.
      ap (λ (o : Option Form). numbers_under key (slice_get forms) k n ++ cond (is_key k (option_and_then key o)) (n ∷ []) []) (slice_get_past forms n past)
      ∙ append-nil (numbers_under key (slice_get forms) k n)
      ∙ past_end k n past)
      (cases_lt n (length forms))

  all_still : (k : Key) → numbers_under key (slice_get (forms ++ more)) k (length (forms ++ more)) ≡ numbers_under key (slice_get forms) k (length forms)
  all_still k = numbers_still k (length (forms ++ more)) ∙ past_end k (length (forms ++ more)) (omega (arith, length-append forms more))

-- ---- a form that leaves a part of a summary as it is

no_property : (closure : Known) (form : Form) → LeavesClosure closure form → is_property_form form ≡ false
no_property closure (N1 _ _) h = refl
no_property closure (N2 _ _ _) h = refl
no_property closure (N3 _ _ _) h = refl
no_property closure (N4 _ _ _) h = refl
no_property closure (N5 _ _) h = absurd h
no_property closure (N6 _ _ _) h = absurd h
no_property closure (N7 _) h = absurd h
no_property closure (N8 _ _) h = refl
no_property closure (N9 _ _ _) h = refl
no_property closure (N10 _ _) h = refl
no_property closure (N12 _ _ _) h = refl

has_edges : (closure : Known) (form : Form) → LeavesClosure closure form → (p : PropId2) → PutsOnEdges form p → Has closure p
has_edges closure (N3 _ r _) h p puts = subst (Has closure) (sym puts) h
has_edges closure (N9 _ r _) h p puts = subst (Has closure) (sym puts) h
has_edges closure (N1 _ _) h p puts = absurd puts
has_edges closure (N2 _ _ _) h p puts = absurd puts
has_edges closure (N4 _ _ _) h p puts = absurd puts
has_edges closure (N5 _ _) h p puts = absurd puts
has_edges closure (N6 _ _ _) h p puts = absurd h
has_edges closure (N7 _) h p puts = absurd h
has_edges closure (N8 _ _) h p puts = absurd puts
has_edges closure (N10 _ _) h p puts = absurd puts
has_edges closure (N12 _ _ _) h p puts = absurd puts

no_link : (form : Form) → LeavesGroups form → is_link form ≡ false
no_link (N1 _ _) h = refl
no_link (N2 _ _ _) h = refl
no_link (N3 _ _ _) h = refl
no_link (N4 _ _ _) h = refl
no_link (N5 _ _) h = refl
no_link (N6 _ _ _) h = refl
no_link (N7 _) h = refl
no_link (N8 _ _) h = refl
no_link (N9 _ _ _) h = refl
no_link (N10 _ _) h = absurd h
no_link (N12 _ _ _) h = refl

record IsUnfilled (form : Form) : Type 0 where
  filler : by_filler form ≡ None
  restricted : by_restricted form ≡ None

unfilled : (form : Form) → LeavesFillers form → IsUnfilled form
unfilled (N1 _ _) h = record { filler = refl; restricted = refl }
unfilled (N2 _ _ _) h = record { filler = refl; restricted = refl }
unfilled (N3 _ _ _) h = record { filler = refl; restricted = refl }
unfilled (N4 _ _ _) h = absurd h
unfilled (N5 _ _) h = record { filler = refl; restricted = refl }
unfilled (N6 _ _ _) h = record { filler = refl; restricted = refl }
unfilled (N7 _) h = record { filler = refl; restricted = refl }
unfilled (N8 _ _) h = record { filler = refl; restricted = refl }
unfilled (N9 _ _ _) h = record { filler = refl; restricted = refl }
unfilled (N10 _ _) h = record { filler = refl; restricted = refl }
unfilled (N12 _ _ _) h = record { filler = refl; restricted = refl }

record IsUnjoined (form : Form) : Type 0 where
  chain : by_chain form ≡ None
  end : by_end form ≡ None

unjoined : (closure : Known) (joins : Joins) (form : Form) → LeavesJoins closure joins form → IsUnjoined form
unjoined closure joins (N1 _ _) h = record { chain = refl; end = refl }
unjoined closure joins (N2 _ _ _) h = record { chain = refl; end = refl }
unjoined closure joins (N3 _ _ _) h = record { chain = refl; end = refl }
unjoined closure joins (N4 _ _ _) h = absurd h
unjoined closure joins (N5 _ _) h = record { chain = refl; end = refl }
unjoined closure joins (N6 _ _ _) h = absurd h
unjoined closure joins (N7 _) h = record { chain = refl; end = refl }
unjoined closure joins (N8 _ _) h = record { chain = refl; end = refl }
unjoined closure joins (N9 _ _ _) h = record { chain = refl; end = refl }
unjoined closure joins (N10 _ _) h = record { chain = refl; end = refl }
unjoined closure joins (N12 _ _ _) h = record { chain = refl; end = refl }

leaves_fillers : (closure : Known) (joins : Joins) (form : Form) → LeavesJoins closure joins form → LeavesFillers form
leaves_fillers closure joins (N1 _ _) h = tt
leaves_fillers closure joins (N2 _ _ _) h = tt
leaves_fillers closure joins (N3 _ _ _) h = tt
leaves_fillers closure joins (N4 _ _ _) h = absurd h
leaves_fillers closure joins (N5 _ _) h = tt
leaves_fillers closure joins (N6 _ _ _) h = absurd h
leaves_fillers closure joins (N7 _) h = tt
leaves_fillers closure joins (N8 _ _) h = tt
leaves_fillers closure joins (N9 _ _ _) h = tt
leaves_fillers closure joins (N10 _ _) h = tt
leaves_fillers closure joins (N12 _ _ _) h = tt

-- ---- where such forms are added

closure_still : (forms more : List Form) (closure : Known) → ((form : Form) → Contains more form → LeavesClosure closure form) → IsClosureOf forms closure → IsClosureOf (forms ++ more) closure
closure_still forms more closure plain is = record {
  same = is.same ∙ sym (filter_still is_property_form forms more (λ form new. no_property closure form (plain form new)));
  has = λ form there p puts. ⊎_elim
      (λ before. is.has form before p puts)
      (λ new. has_edges closure form (plain form new) p puts)
      (Contains-append_cases forms more form there);
}

groups_still : (forms more groups : List Form) → ((form : Form) → Contains more form → LeavesGroups form) → AreGroupsOf forms groups → AreGroupsOf (forms ++ more) groups
groups_still forms more groups plain of = of ∙ sym (filter_still is_link forms more (λ form new. no_link form (plain form new)))

-- a path of some step ends with a form that names what it leads to
last_step : (forms : List Form) (p q : PropId2) (s : PropId) → q ≡ Property s → IsAtOrBelow forms p q → (p ≡ q) ⊎ ((r : PropId) × Contains forms (N5 r s))
last_step forms p _ s e same = inl refl
last_step forms p _ s e (step r t h there) = inr (r, subst (λ (x : PropId). Contains forms (N5 r x)) (let f : Property t ≡ Property s = e in cc) there)

-- what restrictions need, where none is added
module _ (forms more : List Form) (plain : (form : Form) → Contains more form → LeavesFillers form) where
  filled_still : (mask : ℕ) (c : Class2) → HasFilled forms mask c → HasFilled (forms ++ more) mask c
  filled_still mask c has = record {
    restrictions = λ n under r a b at. ⊎_elim
        (λ before. has.restrictions n (under_before by_filler forms more (λ form new. (unfilled form (plain form new)).filler) (class_key c) n under) r a b before)
        (λ new. absurd (plain (N4 r a b) new))
        (at_front_or_behind forms more n (N4 r a b) at);
    all = has.all;
  }

  fillers_still : (fillers : Fillers) → AreFillers forms fillers → AreFillers (forms ++ more) fillers
  fillers_still fillers of = record {
    filled = λ n mask at. filled_still mask _ (of.filled n mask at);
    restrictions = λ r. of.restrictions r ∙ sym (all_still by_restricted forms more (λ form new. (unfilled form (plain form new)).restricted) (Whole r));
  }

module _ (forms more : List Form) (closure : Known) (joins : Joins) (plain : (form : Form) → Contains more form → LeavesJoins closure joins form)
    (is : IsClosureOf forms closure) (within : All (IsPropertyFormOf closure.properties closure.partials) closure.forms) where
  abbrev IsMasked : PropId2 → Type 0
  IsMasked (Property r) = HasMask joins r.0
  IsMasked (Partial n) = ⊥

  -- no form that is added puts the property below another
  abbrev IsOld : PropId2 → Type 0
  IsOld p = (s t : PropId) → LeavesJoins closure joins (N5 s t) → p ≡ Property s → ⊥

  masked_is_old : (p : PropId2) → IsMasked p → IsOld p
  masked_is_old p masked s t leaves e = leaves.0 (subst IsMasked e masked)

  known_is_old : (p : PropId2) → Has closure p → IsOld p
  known_is_old p has s t leaves e = leaves.1 (subst (Has closure) e has)

  -- no path to a property that is not there begins with such
  none_leads : (p : PropId2) (s t : PropId) → IsOld p → IsAtOrBelow forms p (Property s) → LeavesJoins closure joins (N5 s t) → ⊥
  none_leads p s t old path leaves = ⊎_elim
      (λ e. old s t leaves e)
      (λ w. leaves.1 (upper_there forms closure is within w.0 s w.1))
      (last_step forms p (Property s) s refl path)

  -- so no path that begins there is new
  path_before : (p q : PropId2) → IsOld p → IsAtOrBelow (forms ++ more) p q → IsAtOrBelow forms p q
  path_before p _ old same = same
  path_before p _ old (step s t h there) = ⊎_elim
      (λ before. step s t (path_before p (Property s) old h) before)
      (λ new. absurd (none_leads p s t old (path_before p (Property s) old h) (plain (N5 s t) new)))
      (Contains-append_cases forms more (N5 s t) there)

  below_before : (p q : PropId2) → IsMasked p → IsAtOrBelow (forms ++ more) p q → IsAtOrBelow forms p q
  below_before p q masked = path_before p q (masked_is_old p masked)

  chain_before : (n : ℕ) (r s t : PropId2) → slice_get (forms ++ more) n ≡ Some (N6 r s t) → slice_get forms n ≡ Some (N6 r s t)
  chain_before n r s t at = ⊎_elim (λ before. before) (λ new. absurd (plain (N6 r s t) new)) (at_front_or_behind forms more n (N6 r s t) at)

  by_chain_before : (k : Key) (n : ℕ) → IsUnder by_chain (forms ++ more) k n → IsUnder by_chain forms k n
  by_chain_before = under_before by_chain forms more (λ form new. (unjoined closure joins form (plain form new)).chain)

  seconds_still : (mask : ℕ) (p : PropId2) → IsMasked p → HasSeconds forms mask p → HasSeconds (forms ++ more) mask p
  seconds_still mask p masked has r below n under q s t at = has r (below_before p r masked below) n (by_chain_before (property_key r) n under) q s t (chain_before n q s t at)

  ends_still : (mask : ℕ) (p : PropId2) → IsMasked p → HasEnds forms mask p → HasEnds (forms ++ more) mask p
  ends_still mask p masked has s below n under = has s (below_before p s masked below) n (under_before by_end forms more (λ form new. (unjoined closure joins form (plain form new)).end) (property_key s) n under)

  above_still : (mask : ℕ) (p : PropId2) → IsMasked p → HasAbove forms mask p → HasAbove (forms ++ more) mask p
  above_still mask p masked has r below = has r (below_before p r masked below)

  plan_still : (p : PropId2) (plan : List PlannedChain) → IsMasked p → IsPlan forms p plan → IsPlan (forms ++ more) p plan
  plan_still p plan masked of = record {
    say = λ c there. at_front forms more c.number (N6 c.first c.second c.whole) (of.say c there);
    has = λ r below n under. of.has r (below_before p r masked below) n (by_chain_before (property_key r) n under);
  }

  -- a chain's whole is a property that the closure has, so no path from it is new, and no chain is
  spared_still : (row : List Bool) → AreSpared forms row → AreSpared (forms ++ more) row
  spared_still row spared n a b c has at s below m r t there =
      let before = chain_before n a b c at in
      let whole : Has closure c = is.has (N6 a b c) (Contains-from_slice_get forms n (N6 a b c) before) c refl in
      all_joined_still forms more r a b t (spared n a b c has before s (path_before c s (known_is_old c whole) below) m r t (chain_before m r s t there))

  joins_still : AreJoins forms joins → AreJoins (forms ++ more) joins
  joins_still of = record {
    seconds = λ n mask at. seconds_still mask (Property (record { 0 = n })) (inl (slice_get_within joins.seconds.items n mask at)) (of.seconds n mask at);
    ends = λ n mask at. ends_still mask (Property (record { 0 = n })) (inr (inl (slice_get_within joins.ends.items n mask at))) (of.ends n mask at);
    above = λ n mask at. above_still mask (Property (record { 0 = n })) (inr (inr (inl (slice_get_within joins.above.items n mask at)))) (of.above n mask at);
    spared = spared_still joins.spared of.spared;
    fillers = fillers_still forms more (λ form new. leaves_fillers closure joins form (plain form new)) joins.fillers.value of.fillers;
    plans = λ n plan at. plan_still (Property (record { 0 = n })) plan (inr (inr (inr (slice_get_within joins.plans n plan at)))) (of.plans n plan at);
  }

-- ---- so it is for forms of which the first so many come to that

module _ (forms : List Form) (from : ℕ) where
  pub closure_kept : (closure : Known) → EachFrom (LeavesClosure closure) from forms → IsClosureOf (take from forms) closure → IsClosureOf forms closure
  closure_kept closure each is =
      subst (λ (all : List Form). IsClosureOf all closure) (take-append-drop from forms) (closure_still (take from forms) (drop from forms) closure (added (LeavesClosure closure) from forms each) is)

  pub groups_kept : (groups : List Form) → EachFrom LeavesGroups from forms → AreGroupsOf (take from forms) groups → AreGroupsOf forms groups
  groups_kept groups each of =
      subst (λ (all : List Form). AreGroupsOf all groups) (take-append-drop from forms) (groups_still (take from forms) (drop from forms) groups (added LeavesGroups from forms each) of)

  pub joins_kept : (closure : Known) (joins : Joins) → EachFrom (LeavesJoins closure joins) from forms → IsClosureOf (take from forms) closure
      → All (IsPropertyFormOf closure.properties closure.partials) closure.forms → AreJoins (take from forms) joins → AreJoins forms joins
  joins_kept closure joins each is within of =
      subst (λ (all : List Form). AreJoins all joins) (take-append-drop from forms) (joins_still (take from forms) (drop from forms) closure joins (added (LeavesJoins closure joins) from forms each) is within of)

  pub fillers_kept : (fillers : Fillers) → EachFrom LeavesFillers from forms → AreFillers (take from forms) fillers → AreFillers forms fillers
  fillers_kept fillers each of =
      subst (λ (all : List Form). AreFillers all fillers) (take-append-drop from forms) (fillers_still (take from forms) (drop from forms) (added LeavesFillers from forms each) fillers of)

  -- a closure that has grown by the others
  pub closure_grown : (closure known : Known) (counts : Counts) → IsMore (record { properties = closure.properties; partials = closure.partials }) counts
      → ((form : Form) → Contains (drop from forms) form → HasNames counts form)
      → known ≡ record { properties = counts.properties; partials = counts.partials; forms = closure.forms ++ property_forms (drop from forms) }
      → IsClosureOf (take from forms) closure → IsClosureOf forms known
  closure_grown closure known counts more names is before = subst (IsClosureOf forms) (sym is) (record {
    same = ap (λ (front : List Form). front ++ property_forms (drop from forms)) before.same
        ∙ sym (filter-append is_property_form (take from forms) (drop from forms))
        ∙ ap property_forms (take-append-drop from forms);
    has = λ form there p puts. ⊎_elim
        (λ old. property_stays (record { properties = closure.properties; partials = closure.partials }) counts more p (before.has form old p puts))
        (λ new. (names form new).edges p puts)
        (Contains-append_cases (take from forms) (drop from forms) form (subst (λ (all : List Form). Contains all form) (sym (take-append-drop from forms)) there));
  })
