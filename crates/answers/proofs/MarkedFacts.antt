-- Marks that are made step after step, and those on the numbers that facts give.
use Rattle.std.proofs.Common.{◌≡◌, ◌↔◌, ℕ, suc, ◌+◌, ◌<◌, ◌≤◌, ◌⊎◌, inl, inr, ⊎_elim, Bool, true, false, List, length, replicate, slice_get, Option, Some, None, Contains, refl, sym, ap, ◌∙◌, subst, arith, below_more}
use Rattle.std.specs.Prelude.{slice_set}
use Rattle.std.proofs.lemmas.Bool.{false≢true}
use Rattle.std.proofs.lemmas.List.{length-replicate}
use Rattle.std.proofs.lemmas.Option.{none-some, same_Some, slice_get_within}
use Rattle.lemmas.proofs.Members.{slice_get-from_Contains}
use Rattle.number_sets.proofs.Members.{has_none, has_set_cases, has_set_grows, has_set_same, has_within}
use Rattle.axioms.specs.Ontology.{Ontology, nothing}
use Rattle.axioms.specs.declared.ids.ExprId.{ExprId}
use Rattle.facts.specs.declared.contexts.Context.{Context}
use Rattle.facts.specs.declared.contexts.Context.TheVariants as contexts
use Rattle.facts.specs.declared.contexts.Fact.{Fact}
use Rattle.facts.specs.declared.contexts.Fact.TheVariants.{In}
use Rattle.inference.specs.declared.predicates.Predicate.TheVariants.{Class}
use Rattle.inference.specs.Predicates.{IsLast, SaysAt, predicate_of}
use Rattle.inference.proofs.Listing.{none_from, on_from}
use Rattle.normal_forms.specs.declared.forms.Class2.{Class2}
use Rattle.normal_forms.specs.declared.forms.Class2.TheVariants.{Expr}
use Rattle.indexes.specs.FactIndex.{IsIn}
use Rattle.classification.specs.Lists.{SomeFact}
use Rattle.answers.specs.Selections.{Answers, AreGiven, IsOnly, PutsClass, PutsInClass}
use Rattle.answers.specs.declared.selection.Selection.TheVariants.{Below, Members}
use Rattle.answers.specs.Names.{IsMarked}

-- one of the first k steps gives the number
abbrev pub GivenBefore : (ℕ → ℕ → Type 0) → ℕ → ℕ → Type 0
GivenBefore gives k n = (j : ℕ) × (j < k) × gives j n

module _ (gives : ℕ → ℕ → Type 0) (start : List Bool) where
  -- the marks of the start, and those on what the first k steps give
  pub record AreMarksAfter (k : ℕ) (marks : List Bool) : Type 0 where
    pub long : length marks ≡ length start
    pub exact : (n : ℕ) → n < length start → IsMarked marks n ↔ (IsMarked start n ⊎ GivenBefore gives k n)

  pub no_step : (marks : List Bool) → marks ≡ start → AreMarksAfter 0 marks
  no_step marks is = subst (AreMarksAfter 0) (sym is) (record {
    long = refl;
    exact = λ n low. (λ mark. inl mark, λ h. ⊎_elim (λ mark. mark) (λ v. (let less : v.0 < 0 = v.1 in absurd (omega (arith, less)))) h);
  })

  pub one_step : (k : ℕ) (old new : List Bool) → AreMarksAfter k old → length new ≡ length old → ((n : ℕ) → n < length old → IsMarked new n ↔ (IsMarked old n ⊎ gives k n)) → AreMarksAfter (k + 1) new
  one_step k old new was long adds = record {
    long = long ∙ was.long;
    exact = λ n there.
        let before = was.exact n there in
        let step = adds n (subst (λ (m : ℕ). n < m) (sym was.long) there) in (
          λ mark. ⊎_elim
              (λ o. ⊎_elim (λ s. inl s) (λ v. (let less : v.0 < k = v.1 in inr (v.0, omega (arith, less), v.2))) (before.0 o))
              (λ g. inr (k, omega arith, g)) (step.0 mark),
          λ h. ⊎_elim
              (λ s. step.1 (inl (before.1 (inl s))))
              (λ v. below_more (λ (m : ℕ). gives m n → IsMarked new n) k (λ m less g. step.1 (inl (before.1 (inr (m, less, g))))) (λ g. step.1 (inr g)) v.0 v.1 v.2) h,
        );
  }

  pub one_mark : (k : ℕ) (old new : List Bool) (answer : Option ℕ) → AreMarksAfter k old → IsOnly (gives k) answer → length new ≡ length old
      → ((n : ℕ) → n < length old → IsMarked new n ↔ (IsMarked old n ⊎ (answer ≡ Some n))) → AreMarksAfter (k + 1) new
  one_mark k old new answer was only long adds = one_step k old new was long (λ n there. (let step = adds n there in (
    λ mark. ⊎_elim (λ o. inl o) (λ e. inr ((only n).1 e)) (step.0 mark),
    λ h. step.1 (⊎_elim (λ o. inl o) (λ g. inr ((only n).0 g)) h),
  )))

-- where nothing was marked at the start
module _ (gives : ℕ → ℕ → Type 0) (size k : ℕ) (marks : List Bool) (are : AreMarksAfter gives (replicate size false) k marks) where
  pub as_long : length marks ≡ size
  as_long = are.long ∙ length-replicate {A = Bool} size false

  pub given_is : (n : ℕ) → n < size → IsMarked marks n ↔ GivenBefore gives k n
  given_is n low =
      let is = are.exact n (subst (λ (m : ℕ). n < m) (sym (length-replicate {A = Bool} size false)) low) in (
        λ mark. ⊎_elim (λ s. absurd (false≢true (sym (has_none size n) ∙ s))) (λ v. v) (is.0 mark),
        λ v. is.1 (inr v),
      )

pub none_given : (gives : ℕ → Type 0) → ((n : ℕ) → gives n → ⊥) → IsOnly gives None
none_given gives never n = (λ g. absurd (never n g), λ e. absurd (none-some n e))

-- ---- by what stands at each place of a list

-- what stands at that place gives the number
abbrev pub At : {A : Type 0} → List A → (A → ℕ → Type 0) → ℕ → ℕ → Type 0
At {A} xs gives j n = (x : A) × (slice_get xs j ≡ Some x) × gives x n

pub only_at : {A : Type 0} (xs : List A) (gives : A → ℕ → Type 0) (j : ℕ) (x : A) → slice_get xs j ≡ Some x → (answer : Option ℕ) → IsOnly (gives x) answer → IsOnly (At xs gives j) answer
only_at {A} xs gives j x at answer only n = (
  λ v. (only n).0 (subst (λ (y : A). gives y n) (same_Some v.0 x (sym v.1 ∙ at)) v.2),
  λ e. (x, at, (only n).1 e),
)

-- ---- by facts

-- by those of some numbers, among which are all that give any
module _ (gives : Fact → ℕ → Type 0) (facts : List Fact) (marks found : List Bool) (k : ℕ) where
  pub by_some : (numbers : List ℕ) → AreMarksAfter (At numbers (At facts gives)) (replicate (length marks) false) k found → length numbers ≤ k
      → ((n m : ℕ) (f : Fact) → slice_get facts m ≡ Some f → gives f n → Contains numbers m) → AreGiven gives facts marks found
  by_some numbers are end all = record {
    long = as_long (At numbers (At facts gives)) (length marks) k found are;
    exact = λ n mark.
        let is = given_is (At numbers (At facts gives)) (length marks) k found are n (has_within marks n mark) in (
          λ h. (let (j, less, (m, there, (f, at, g))) = is.0 h in (m, f, at, g)),
          λ (m, f, at, g).
              let (j, there) = slice_get-from_Contains numbers m (all n m f at g) in
              is.1 (j, omega (arith, slice_get_within numbers j m there, end), (m, there, (f, at, g))),
        );
  }

-- ---- by the facts of one class, from the last to the first

-- a fact gives a number only where it puts something into the class
abbrev pub GivesOf : Class2 → (Fact → ℕ → Type 0) → Type 0
GivesOf a gives = (f : Fact) (n : ℕ) → gives f n → (x : Context) × (f ≡ In a x)

-- a fact from that number on gives the number
abbrev pub GivenFrom : (Fact → ℕ → Type 0) → List Fact → ℕ → ℕ → Type 0
GivenFrom gives facts end n = (j : ℕ) × (end ≤ j) × At facts gives j n

-- the marks of the start, and those on what the facts from that number on give
pub record AreMarksFrom (gives : Fact → ℕ → Type 0) (facts : List Fact) (start : List Bool) (end : ℕ) (marks : List Bool) : Type 0 where
  pub long : length marks ≡ length start
  pub exact : (n : ℕ) → n < length start → IsMarked marks n ↔ (IsMarked start n ⊎ GivenFrom gives facts end n)

module _ (gives : Fact → ℕ → Type 0) (facts : List Fact) (a : Class2) (of : GivesOf a gives) (start : List Bool) where
  -- what gives a number says that its context is in the class
  gives_says : (j n : ℕ) → At facts gives j n → SaysAt (Class a) facts j
  gives_says j n v = (let p = of v.0 n v.2 in (v.0, v.1, ap predicate_of p.1))

  -- none from the end of the list on gives any
  pub at_the_end : (end : ℕ) (marks : List Bool) → marks ≡ start → IsLast (Class a) facts (length facts) end → AreMarksFrom gives facts start end marks
  at_the_end end marks is last = subst (AreMarksFrom gives facts start end) (sym is) (record {
    long = refl;
    exact = λ n there. (λ mark. inl mark, λ h. ⊎_elim (λ mark. mark) (λ v. absurd (none_from (Class a) facts end last v.0 v.1 (gives_says v.0 n v.2))) h);
  })

  -- the last of those before gives the answer
  pub next_mark : (number end : ℕ) (old new : List Bool) (f : Fact) (answer : Option ℕ) → SaysAt (Class a) facts number → IsLast (Class a) facts number end → slice_get facts number ≡ Some f → IsOnly (gives f) answer
      → AreMarksFrom gives facts start (suc number) old → length new ≡ length old → ((n : ℕ) → n < length old → IsMarked new n ↔ (IsMarked old n ⊎ (answer ≡ Some n)))
      → AreMarksFrom gives facts start end new
  next_mark number end old new f answer says last at only was long adds = record {
    long = long ∙ was.long;
    exact = λ n there.
        let before = was.exact n there in
        let step = adds n (subst (λ (m : ℕ). n < m) (sym was.long) there) in
        let own = only_at facts gives number f at answer only n in (
          λ mark. ⊎_elim
              (λ o. ⊎_elim (λ s. inl s) (λ v. inr (v.0, omega (arith, v.1, last.within), v.2)) (before.0 o))
              (λ e. inr (number, last.within, own.1 e))
              (step.0 mark),
          λ h. step.1 (⊎_elim
              (λ s. inl (before.1 (inl s)))
              (λ v. ⊎_elim
              (λ w. inl (before.1 (inr (v.0, omega (arith, w.0), v.2))))
              (λ e. inr (own.0 (subst (λ (j : ℕ). At facts gives j n) e v.2)))
              ((on_from (Class a) facts number end says last v.0).1 (v.1, gives_says v.0 n v.2)))
              h),
        );
  }

  -- where none is left
  module _ (marks : List Bool) (are : AreMarksFrom gives facts start 0 marks) where
    some_given : (n : ℕ) → SomeFact facts (λ fact. gives fact n) ↔ GivenFrom gives facts 0 n
    some_given n = (
      λ (j, f, at, g). (j, omega arith, (f, at, g)),
      λ (j, low, (f, at, g)). (j, f, at, g),
    )

    pub with_class : (n : ℕ) → n < length start → IsMarked marks n ↔ (IsMarked start n ⊎ SomeFact facts (λ fact. gives fact n))
    with_class n there =
        let is = are.exact n there in
        let some = some_given n in (
          λ m. ⊎_elim (λ s. inl s) (λ v. inr (some.1 v)) (is.0 m),
          λ h. is.1 (⊎_elim (λ s. inl s) (λ given. inr (some.0 given)) h),
        )

    pub by_class : (among : List Bool) → start ≡ replicate (length among) false → AreGiven gives facts among marks
    by_class among is = record {
      long = are.long ∙ size;
      exact = λ n mark.
          let marked = with_class n (subst (λ (m : ℕ). n < m) (sym size) (has_within among n mark)) in (
            λ m. ⊎_elim (λ s. absurd (unmarked n s)) (λ given. given) (marked.0 m),
            λ given. marked.1 (inr given),
          );
    }
      where
        size : length start ≡ length among
        size = ap length is ∙ length-replicate {A = Bool} (length among) false

        unmarked : (n : ℕ) → IsMarked start n → ⊥
        unmarked n s = false≢true (sym (has_none (length among) n) ∙ subst (λ (ms : List Bool). IsMarked ms n) is s)

pub puts_member : (o : Ontology) (e : ExprId) → GivesOf (Expr e) (Answers o (Members e))
puts_member o e f n puts = (contexts.Individual (record { 0 = n }), puts)

pub puts_class : (o : Ontology) (e : ExprId) → GivesOf (Expr e) (PutsClass o e.0)
puts_class o e f n (g, class, puts) = (contexts.Expr (record { 0 = g }), puts)

-- by those that put a class in the expression, and then by those that put one in owl:Nothing
module _ (o : Ontology) (e : ExprId) (facts : List Fact) where
  abbrev some_puts : ℕ → ℕ → Type 0
  some_puts f n = SomeFact facts (λ fact. PutsClass o f fact n)

  in_either : (n : ℕ) → SomeFact facts (λ fact. Answers o (Below e) fact n) ↔ (some_puts e.0 n ⊎ some_puts nothing n)
  in_either n = (
    λ (j, f, at, (g, class, puts)). ⊎_elim (λ p. inl (j, f, at, (g, class, p))) (λ p. inr (j, f, at, (g, class, p))) puts,
    λ h. ⊎_elim (λ (j, f, at, (g, class, p)). (j, f, at, (g, class, inl p))) (λ (j, f, at, (g, class, p)). (j, f, at, (g, class, inr p))) h,
  )

  pub by_both : (marks start mid found : List Bool) → start ≡ replicate (length marks) false → length mid ≡ length start → length found ≡ length mid
      → ((n : ℕ) → n < length start → IsMarked mid n ↔ (IsMarked start n ⊎ some_puts e.0 n))
      → ((n : ℕ) → n < length mid → IsMarked found n ↔ (IsMarked mid n ⊎ some_puts nothing n))
      → AreGiven (Answers o (Below e)) facts marks found
  by_both marks start mid found is long longer first second = record {
    long = longer ∙ long ∙ size;
    exact = λ n mark.
        let low = has_within marks n mark in
        let one = first n (subst (λ (m : ℕ). n < m) (sym size) low) in
        let two = second n (subst (λ (m : ℕ). n < m) (sym (long ∙ size)) low) in
        let some = in_either n in (
          λ m. some.1 (⊎_elim (λ was. ⊎_elim (λ s. absurd (unmarked n s)) (λ p. inl p) (one.0 was)) (λ p. inr p) (two.0 m)),
          λ given. two.1 (⊎_elim (λ p. inl (one.1 (inr p))) (λ p. inr p) (some.0 given)),
        );
  }
    where
      size : length start ≡ length marks
      size = ap length is ∙ length-replicate {A = Bool} (length marks) false

      unmarked : (n : ℕ) → IsMarked start n → ⊥
      unmarked n s = false≢true (sym (has_none (length marks) n) ∙ subst (λ (ms : List Bool). IsMarked ms n) is s)

-- ---- by the search for a fact that gives a marked number

abbrev pub IsFound : (Fact → ℕ → Type 0) → List Fact → List Bool → ℕ → ℕ → Type 0
IsFound gives facts marks j n = (n ≡ j) × IsMarked marks n × SomeFact facts (λ fact. gives fact n)

module _ (gives : Fact → ℕ → Type 0) (facts : List Fact) (marks found : List Bool) (k : ℕ) (was : AreMarksAfter (IsFound gives facts marks) (replicate (length marks) false) k found) where
  abbrev find : ℕ → ℕ → Type 0
  find = IsFound gives facts marks

  pub by_search : length marks ≤ k → AreGiven gives facts marks found
  by_search end = record {
    long = as_long find (length marks) k found was;
    exact = λ n mark.
        let low = has_within marks n mark in
        let is = given_is find (length marks) k found was n low in
        (λ m. (let (j, less, (e, there, given)) = is.0 m in given), λ given. is.1 (n, omega (arith, low, end), (refl, mark, given)));
  }

  pub one_found : (new : List Bool) → new ≡ slice_set found k true → IsMarked marks k → SomeFact facts (λ fact. gives fact k) → length new ≡ length found
      → AreMarksAfter find (replicate (length marks) false) (k + 1) new
  one_found new is mark given long = one_step find (replicate (length marks) false) k found new was long (λ n there. (
    λ m. ⊎_elim
        (λ e. inr (e, subst (IsMarked marks) (sym e) mark, subst (λ (j : ℕ). SomeFact facts (λ fact. gives fact j)) (sym e) given))
        (λ old. inl old)
        (has_set_cases found k n (subst (λ (ms : List Bool). IsMarked ms n) is m)),
    λ h. subst (λ (ms : List Bool). IsMarked ms n) (sym is) (⊎_elim
        (λ old. has_set_grows found k n old)
        (λ v. subst (IsMarked (slice_set found k true)) (sym v.0) (has_set_same found k (subst (λ (j : ℕ). j < length found) v.0 there))) h),
  ))

  pub none_found : (IsMarked marks k → SomeFact facts (λ fact. gives fact k) → ⊥) → AreMarksAfter find (replicate (length marks) false) (k + 1) found
  none_found never = one_step find (replicate (length marks) false) k found found was refl (λ n there. (
    λ m. inl m,
    λ h. ⊎_elim (λ m. m) (λ (e, m, given). absurd (never (subst (IsMarked marks) e m) (subst (λ (j : ℕ). SomeFact facts (λ fact. gives fact j)) e given))) h,
  ))

-- ---- which facts put a context in a class

pub is_in : (o : Ontology) (x : Context) (f : Fact) (n : ℕ) → PutsInClass o x f n → IsIn x f
is_in o x f n (e, class, puts) = subst (IsIn x) (sym puts) refl
