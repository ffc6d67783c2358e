-- The engine's state from step to step.
use Rattle.std.proofs.Common.{◌≡◌, ℕ, ◌<◌, ◌≤◌, ◌⊎◌, inl, inr, ⊎_elim, List, [], ◌∷◌, ◌++◌, length, slice_get, Some, Contains, sym, ap, ◌∙◌, subst, arith}
use Rattle.std.specs.List.{AllByRecursion}
use Rattle.std.proofs.lemmas.List.Elements.{Contains-push_cases}
use Rattle.std.proofs.lemmas.Option.{none-some, slice_get_within, slice_get-get_or}
use Rattle.normal_forms.specs.Apart.{no_lists}
use Rattle.normal_forms.specs.declared.apart.ApartLists.{ApartLists}
use Rattle.facts.specs.declared.contexts.Fact.{Fact}
use Rattle.facts.specs.declared.contexts.Context.{Context}
use Rattle.facts.specs.declared.contexts.Fact.TheVariants.{In}
use Rattle.facts.specs.Closure.{Problem, IsFact, IsLoop, AreFacts, thing, given, none, more, in_thing, in_itself, by_form, unsatisfiable, loop, different}
use Rattle.facts.proofs.Premises.{no_three}
use Rattle.inference.specs.Derivations.{Derived, IsDerived, Grows, HasMoreFactsThan}
use Rattle.saturate.specs.Turns.{Queued}
use Rattle.inference.specs.Completeness.{AllDrawn, IsEntry, IsOwed, IsServed, IsClosure, IsCompleteUpToRedundancy, Drawn, DrawnUpToRedundancy, MeetEachOther}
use Rattle.inference.specs.Entry.{IsDrawnAlone}
use Rattle.saturate.specs.State.{IsUnderWay}
use Rattle.inference.proofs.Lists.{one_value, slice_get_there, Contains-from_slice_get}
use Rattle.inference.proofs.Growth.{sound}
use Rattle.inference.proofs.Drawing.{all_still}
use Rattle.inference.proofs.Owing.{entry_before}
use Rattle.inference.proofs.Redundancy.{all_drawn, up_to_redundancy_still}
use Rattle.saturate.proofs.Joining.{all_joined}

-- a fact that is there still, and was there before
pub was_there : {k : Problem} {most : ℕ} {old new : Derived} → Grows k most old new → (n : ℕ) (f : Fact) → n < length old.facts → slice_get new.facts n ≡ Some f → slice_get old.facts n ≡ Some f
was_there {old = old} t n f low at =
    let before = slice_get_there old.facts n low in
    before.1 ∙ ap Some (one_value _ before.0 f (t.facts n before.0 before.1) at)

-- facts are added
pub grown : {k : Problem} {most : ℕ} {old new : Derived} {q r : Queued} → IsUnderWay k old q → Grows k most old new → r.queued ≤ length old.facts → r.served ≡ q.served → IsUnderWay k new r
grown {k} {old = old} {new = new} {q = q} {r = r} s t low same = record {
  derived = t.derived;
  queued = omega (arith, low, t.longer);
  within = λ n c. omega (arith, within n c, t.longer);
  complete = record {
    given = λ older served. up_to_redundancy_still t older (s.complete.given older (were older served));
    loops = λ x n c e. all_still t (IsLoop x) k.forms (s.complete.loops x n (were_served n c) (entry_before s.derived t x n (within n c) e));
  };
}
  where
    were_served : (n : ℕ) → Contains r.served n → Contains q.served n
    were_served n c = subst (λ (ns : List ℕ). Contains ns n) same c

    within : (n : ℕ) → Contains r.served n → n < length old.facts
    within n c = s.within n (were_served n c)

    were : (older : List Fact) → AllByRecursion (IsServed new.facts r.served) older → AllByRecursion (IsServed old.facts q.served) older
    were [] all = tt
    were (f ∷ fs) all = ((all.0.0, subst (λ (ns : List ℕ). Contains ns all.0.0) same all.0.1, was_there t all.0.0 f (within all.0.0 all.0.1) all.0.2), were fs all.1)

-- a fact is served, since what it gives with others is there
module _ {k : Problem} {most : ℕ} {old new : Derived} {q : Queued} (s : IsUnderWay k old q) (t : Grows k most old new) (n : ℕ) (f : Fact) (at : slice_get old.facts n ≡ Some f)
    (alone : IsDrawnAlone k n f old new)
    (met : (m : ℕ) → Contains (q.served ++ n ∷ []) m → (g : Fact) → slice_get old.facts m ≡ Some g → MeetEachOther k f g new) where
  within : (m : ℕ) → Contains (q.served ++ n ∷ []) m → m < length old.facts
  within m c = ⊎_elim (s.within m) (λ e. subst (λ (i : ℕ). i < length old.facts) e (slice_get_within old.facts n f at)) (Contains-push_cases q.served n m c)

  meets : (g : Fact) → IsServed new.facts (q.served ++ n ∷ []) g → MeetEachOther k f g new
  meets g w = met w.0 w.1 g (was_there t w.0 g (within w.0 w.1) w.2)

  cases : (g : Fact) → IsServed new.facts (q.served ++ n ∷ []) g → IsServed old.facts q.served g ⊎ (f ≡ g)
  cases g w =
      let before = was_there t w.0 g (within w.0 w.1) w.2 in
      ⊎_elim (λ c. inl (w.0, c, before)) (λ e. inr (one_value _ f g at (subst (λ (i : ℕ). slice_get old.facts i ≡ Some g) (sym e) before))) (Contains-push_cases q.served n w.0 w.1)

  complete : (older : List Fact) → AllByRecursion (IsServed new.facts (q.served ++ n ∷ [])) older → DrawnUpToRedundancy k older new
  complete [] all = up_to_redundancy_still t [] (s.complete.given [] tt)
  complete (g ∷ []) all = ⊎_elim
      (λ w. up_to_redundancy_still t (g ∷ []) (s.complete.given (g ∷ []) (w, tt)))
      (λ e. subst (λ (x : Fact). DrawnUpToRedundancy k (x ∷ []) new) e alone.given)
      (cases g all.0)
  complete (g ∷ h ∷ []) all = ⊎_elim
      (λ w. ⊎_elim
      (λ v. up_to_redundancy_still t (g ∷ h ∷ []) (s.complete.given (g ∷ h ∷ []) (w, (v, tt))))
      (λ e. subst (λ (x : Fact). DrawnUpToRedundancy k (g ∷ x ∷ []) new) e (meets g all.0).second)
      (cases h all.1.0))
      (λ e. subst (λ (x : Fact). DrawnUpToRedundancy k (x ∷ h ∷ []) new) e (meets h all.1.0).first)
      (cases g all.0)
  complete (g ∷ h ∷ i ∷ rest) all = λ c form new gives. absurd (no_three gives)

  loops : (x : Context) (m : ℕ) → Contains (q.served ++ n ∷ []) m → IsEntry new x m → AllDrawn (IsLoop x) k.forms new.facts
  loops x m c e =
      let before = entry_before s.derived t x m (within m c) e in
      ⊎_elim
      (λ there. all_still t (IsLoop x) k.forms (s.complete.loops x m there before))
      (λ is. alone.loops x (subst (IsEntry old x) (sym is) before))
      (Contains-push_cases q.served n m c)

  pub one_served : {r : Queued} → r.queued ≤ length old.facts → r.served ≡ q.served ++ n ∷ [] → IsUnderWay k new r
  one_served {r} low same = record {
    derived = t.derived;
    queued = omega (arith, low, t.longer);
    within = λ m c. omega (arith, within m (subst (λ (ns : List ℕ). Contains ns m) same c), t.longer);
    complete = record {
      given = λ older served. complete older (subst (λ (ns : List ℕ). AllByRecursion (IsServed new.facts ns) older) same served);
      loops = λ x m c e. loops x m (subst (λ (ns : List ℕ). Contains ns m) same c) e;
    };
  }

-- where all are served the facts are the closure
module _ {k : Problem} {d : Derived} (ns : List ℕ) (derived : IsDerived k d) (complete_until : IsCompleteUpToRedundancy k d ns) (all : (n : ℕ) → n < length d.facts → Contains ns n) where
  served : (f : Fact) → Contains d.facts f → IsServed d.facts ns f
  served f c = (c.0, all c.0 c.1, slice_get-get_or d.facts c.0 f c.1 ∙ ap Some c.2)

  -- what two give is there: what is redundant is given by others
  pairs : (f g : Fact) → Contains d.facts f → Contains d.facts g → DrawnUpToRedundancy k (f ∷ g ∷ []) d
  pairs f g c e = complete_until.given (f ∷ g ∷ []) (served f c, (served g e, tt))

  there : (f : Fact) → IsServed d.facts ns f → Contains d.facts f
  there f w = Contains-from_slice_get d.facts w.0 f w.2

  -- a loop that is owed is there, since the entry of its context was served
  owed_there : (f : Fact) → IsOwed k d f → Contains d.facts f
  owed_there f w =
      let (n, e) = w.entry in
      complete_until.loops w.context n (all n (slice_get_within d.facts n (In thing w.context) e.there)) e w.form w.there f w.is_loop

  all_there : (older : List Fact) → AllByRecursion (IsServed d.facts ns) older → Drawn k older d.facts
  all_there [] all c form f gives = ⊎_elim (λ w. w) (owed_there f) (complete_until.given [] tt c form f gives)
  all_there (g ∷ []) all c form f gives = ⊎_elim (λ w. w) (owed_there f) (complete_until.given (g ∷ []) all c form f gives)
  all_there (g ∷ h ∷ []) all c form f gives = all_joined derived pairs g h (there g all.0) (there h all.1.0) c form f gives
  all_there (g ∷ h ∷ i ∷ rest) all c form f gives = absurd (no_three gives)

  mutual
    whole : (f : Fact) → IsFact k f → Contains d.facts f
    whole f (given condition form older gives fs) = all_there older (whole_all older fs) condition form f gives

    whole_all : (facts : List Fact) → AreFacts k facts → AllByRecursion (IsServed d.facts ns) facts
    whole_all _ none = tt
    whole_all _ (more {f = f} {facts = fs} p ps) = (served f (whole f p), whole_all fs ps)

  pub finished : IsClosure k d.facts
  finished f = (λ c. sound derived c.0 f (slice_get-get_or d.facts c.0 f c.1 ∙ ap Some c.2), whole f)

-- there are no forms, no lists, no contexts and no facts
module _ {k : Problem} (forms : k.forms ≡ []) (lists : k.apart ≡ no_lists) (roots : k.roots ≡ []) where
  nowhere : {X : Type 0} (xs : List X) → xs ≡ [] → (n : ℕ) (x : X) → slice_get xs n ≡ Some x → ⊥
  nowhere {X} xs e n x at = none-some x (subst (λ (ys : List X). slice_get ys n ≡ Some x) e at)

  no_member : {X : Type 0} (xs : List X) → xs ≡ [] → (x : X) → Contains xs x → ⊥
  no_member {X} xs e x c = let c' = subst (λ (ys : List X). Contains ys x) e c in absurd (omega (arith, c'.1))

  nothing_given : (facts : List Fact) → Drawn k [] facts
  nothing_given facts c o f (in_thing {x = x} there) = absurd (no_member k.roots roots x there)
  nothing_given facts c o f (in_itself there) = absurd (no_member k.roots roots _ there)
  nothing_given facts c o f (by_form n form at gives) = absurd (nowhere k.forms forms n form at)
  nothing_given facts c o f (unsatisfiable back) = absurd back
  nothing_given facts c o f (loop x n form at l there) = absurd (nowhere k.forms forms n form at)
  nothing_given facts c o f (different l a b (list, at, _) alike) = absurd (nowhere k.apart.individuals (ap (λ (ls : ApartLists). ls.individuals) lists) l list at)

  pub begun : {d : Derived} {q : Queued} → d.facts ≡ [] → d.births ≡ [] → q.queued ≡ 0 → q.served ≡ [] → IsUnderWay k d q
  begun {d} {q} facts births zero empty = record {
    derived = record {
      distinct = λ m n f a b. absurd (nowhere d.facts facts m f a);
      long = ap length births ∙ sym (ap length facts);
      born = λ n f r a b. absurd (nowhere d.facts facts n f a);
    };
    queued = omega (arith, zero);
    within = λ n c. absurd (no_member q.served empty n c);
    complete = record { given = complete; loops = λ x n c e. absurd (no_member q.served empty n c) };
  }
    where
      complete : (older : List Fact) → AllByRecursion (IsServed d.facts q.served) older → DrawnUpToRedundancy k older d
      complete [] all = all_drawn k [] d (nothing_given d.facts)
      complete (f ∷ fs) all = absurd (no_member q.served empty all.0.0 all.0.1)

pub too_many : {k : Problem} {d : Derived} → IsDerived k d → (limit : ℕ) → limit < length d.facts → HasMoreFactsThan k limit
too_many {d = d} s limit low = record { facts = d.facts; distinct = s.distinct; each = sound s; many = low }
