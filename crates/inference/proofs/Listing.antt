-- Facts that are listed by what they say, one more or one fewer.
use Rattle.std.proofs.Common.{◌≡◌, ◌≢◌, ◌⊎◌, ◌↔◌, ℕ, suc, ◌+◌, ◌<◌, ◌≤◌, inl, inr, ⊎_elim, List, [], ◌∷◌, ◌++◌, length, get_or, slice_get, Option, Some, None, refl, sym, ap, ◌∙◌, subst, arith}
use Rattle.std.specs.Prelude.{MatchOption, slice_index}
use Rattle.std.proofs.lemmas.Bool.{cases_eq, cases_lt}
use Rattle.std.proofs.lemmas.List.{length_push, get_or_append_left, get_or_past}
use Rattle.std.proofs.lemmas.Option.{none-some, same_Some, slice_get_within}
use Rattle.std.proofs.Math.Seq.{get_or-append_seam}
use Rattle.lemmas.proofs.Places.{slice_get_push_cases, slice_get_push, slice_get_there, keeps_push}
use Rattle.normal_forms.specs.declared.forms.Class2.TheVariants as classes
use Rattle.normal_forms.specs.declared.forms.PropId2.TheVariants as properties
use Rattle.facts.specs.declared.contexts.Fact.{Fact}
use Rattle.inference.specs.declared.predicates.Predicate.{Predicate}
use Rattle.inference.specs.declared.predicates.Predicate.TheVariants.{Class, Property}
use Rattle.inference.specs.Predicates.{AreListed, Ends, HasPlace, IsBefore, IsLast, Linked, SaysAt, end_at, end_of, predicate_of}

-- two predicates are one or apart
pub same_or_apart : (p q : Predicate) → (p ≡ q) ⊎ (p ≢ q)
same_or_apart (Class (classes.Expr a)) (Class (classes.Expr b)) = elim (cases_eq a.0 b.0) [ inl e ↦ inl (ap (λ (n : ℕ). Class (classes.Expr (record { 0 = n }))) e) | inr ne ↦ inr (λ e. ne (cc)) ]
same_or_apart (Class (classes.Partial a)) (Class (classes.Partial b)) = elim (cases_eq a b) [ inl e ↦ inl (ap (λ (n : ℕ). Class (classes.Partial n)) e) | inr ne ↦ inr (λ e. ne (cc)) ]
same_or_apart (Property (properties.Property a)) (Property (properties.Property b)) = elim (cases_eq a.0 b.0) [ inl e ↦ inl (ap (λ (n : ℕ). Property (properties.Property (record { 0 = n }))) e) | inr ne ↦ inr (λ e. ne (cc)) ]
same_or_apart (Property (properties.Partial a)) (Property (properties.Partial b)) = elim (cases_eq a b) [ inl e ↦ inl (ap (λ (n : ℕ). Property (properties.Partial n)) e) | inr ne ↦ inr (λ e. ne (cc)) ]
same_or_apart (Class (classes.Expr _)) (Class (classes.Partial _)) = inr (λ e. cc)
same_or_apart (Class (classes.Partial _)) (Class (classes.Expr _)) = inr (λ e. cc)
same_or_apart (Property (properties.Property _)) (Property (properties.Partial _)) = inr (λ e. cc)
same_or_apart (Property (properties.Partial _)) (Property (properties.Property _)) = inr (λ e. cc)
same_or_apart (Class _) (Property _) = inr (λ e. cc)
same_or_apart (Property _) (Class _) = inr (λ e. cc)

behind : (list : List ℕ) (k n : ℕ) → n < get_or list k 0 → k < length list
behind list k n low = elim (cases_lt k (length list)) [
  | inl short ↦ short
  | inr past ↦ absurd (omega (arith, low, get_or_past list k 0 past))
]

-- a list that ends behind a fact has a place
pub has_place : (ends : Ends) (q : Predicate) (n : ℕ) → n < end_at ends q → HasPlace ends q
has_place ends (Class (classes.Expr a)) n low = behind ends.classes a.0 n low
has_place ends (Class (classes.Partial a)) n low = behind ends.partial_classes a n low
has_place ends (Property (properties.Property p)) n low = behind ends.properties p.0 n low
has_place ends (Property (properties.Partial p)) n low = behind ends.partial_properties p n low

-- what one says of the fact at a number
says_of : (facts : List Fact) (q : Predicate) (n : ℕ) (f : Fact) → slice_get facts n ≡ Some f → SaysAt q facts n → predicate_of f ≡ q
says_of facts q n f at says = ap predicate_of (same_Some f says.0 (sym at ∙ says.1)) ∙ says.2

says_more : (facts : List Fact) (fact : Fact) (q : Predicate) (n : ℕ) → SaysAt q facts n → SaysAt q (facts ++ fact ∷ []) n
says_more facts fact q n says = (says.0, keeps_push facts fact n says.0 says.1, says.2)

-- of the facts and one more it is the last, or one of the others
says_cases : (facts : List Fact) (fact : Fact) (q : Predicate) (n : ℕ) → SaysAt q (facts ++ fact ∷ []) n → SaysAt q facts n ⊎ ((n ≡ length facts) × (predicate_of fact ≡ q))
says_cases facts fact q n says = elim (slice_get_push_cases facts fact n says.0 says.1) [
  | inl before ↦ inl (says.0, before, says.2)
  | inr (last, is) ↦ inr (last, ap predicate_of is ∙ says.2)
]

says_within : (facts : List Fact) (q : Predicate) (n : ℕ) → SaysAt q facts n → n < length facts
says_within facts q n says = slice_get_within facts n says.0 says.1

-- ---- one more

last_more : (facts : List Fact) (fact : Fact) (q : Predicate) (bound end : ℕ) → bound ≤ length facts → IsLast q facts bound end → IsLast q (facts ++ fact ∷ []) bound end
last_more facts fact q bound end short old = record {
  within = old.within;
  there = λ n e. says_more facts fact q n (old.there n e);
  rest = λ n low says. elim (says_cases facts fact q n says) [
    | inl before ↦ old.rest n low before
    | inr (last, is) ↦ absurd (omega (arith, last, low, short))
  ];
}

-- the last that says something else is so still
last_other : (facts : List Fact) (fact : Fact) (q : Predicate) (end : ℕ) → predicate_of fact ≢ q → IsLast q facts (length facts) end → IsLast q (facts ++ fact ∷ []) (length (facts ++ fact ∷ [])) end
last_other facts fact q end apart old = record {
  within = omega (arith, old.within, length_push facts fact);
  there = λ n e. says_more facts fact q n (old.there n e);
  rest = λ n low says. elim (says_cases facts fact q n says) [
    | inl before ↦ old.rest n (says_within facts q n before) before
    | inr (last, is) ↦ absurd (apart is)
  ];
}

-- the one more is the last that says so
last_new : (facts : List Fact) (fact : Fact) → IsLast (predicate_of fact) (facts ++ fact ∷ []) (length (facts ++ fact ∷ [])) (suc (length facts))
last_new facts fact = record {
  within = omega (arith, length_push facts fact);
  there = λ n e. (fact, subst (λ (k : ℕ). slice_get (facts ++ fact ∷ []) k ≡ Some fact) (omega (arith, e)) (slice_get_push facts fact), refl);
  rest = λ n low says. omega (arith, low, length_push facts fact);
}

pub listed_push : (facts : List Fact) (fact : Fact) (old new : Ends) (before before' : List ℕ) (end : ℕ) → before' ≡ before ++ end ∷ [] → end ≡ end_at old (predicate_of fact) → end_at new (predicate_of fact) ≡ suc (length facts)
    → ((q : Predicate) → q ≢ predicate_of fact → end_at new q ≡ end_at old q)
    → AreListed facts (record { ends = old; before = before }) → AreListed (facts ++ fact ∷ []) (record { ends = new; before = before' })
listed_push facts fact old new before before' end pushed is here others are = record {
  long = ap length pushed ∙ length_push before end ∙ ap (λ n. n + 1) are.long ∙ sym (length_push facts fact);
  last = λ q. elim (same_or_apart q (predicate_of fact)) [
    | inl same ↦ rw (same, here) (last_new facts fact)
    | inr apart ↦ rw (others q apart) (last_other facts fact q (end_at old q) (λ e. apart (sym e)) (are.last q))
  ];
  before = λ n f there. elim (slice_get_push_cases facts fact n f there) [
    | inl at ↦
        let short : n < length before = omega (arith, slice_get_within facts n f at, are.long) in
        rw (pushed, get_or_append_left before (end ∷ []) 0 n short) (last_more facts fact (predicate_of f) n (get_or before n 0) (omega (arith, short, are.long)) (are.before n f at))
    | inr (last, same) ↦
        let seam : get_or before' n 0 ≡ end = rw pushed (ap (λ k. get_or (before ++ end ∷ []) k 0) (last ∙ sym are.long) ∙ get_or-append_seam before end [] 0) in
        rw (← same, seam, is, last) (last_more facts fact (predicate_of fact) (length facts) (end_at old (predicate_of fact)) (omega arith) (are.last (predicate_of fact)))
  ];
}

-- ---- one fewer

last_fewer : (facts : List Fact) (fact : Fact) (q : Predicate) (bound end : ℕ) → bound ≤ length facts → IsLast q (facts ++ fact ∷ []) bound end → IsLast q facts bound end
last_fewer facts fact q bound end short old = record {
  within = old.within;
  there = λ n e. elim (says_cases facts fact q n (old.there n e)) [
    | inl before ↦ before
    | inr (last, is) ↦ absurd (omega (arith, last, e, old.within, short))
  ];
  rest = λ n low says. old.rest n low (says_more facts fact q n says);
}

-- where the last says something else, the last that says so is so without it
last_below : (facts : List Fact) (fact : Fact) (q : Predicate) (end : ℕ) → predicate_of fact ≢ q → IsLast q (facts ++ fact ∷ []) (length (facts ++ fact ∷ [])) end → IsLast q facts (length facts) end
last_below facts fact q end apart old = record {
  within = elim (cases_lt (length facts) end) [
    | inl past ↦ absurd (apart (says_of (facts ++ fact ∷ []) q (length facts) fact (slice_get_push facts fact) (old.there (length facts) (omega (arith, past, old.within, length_push facts fact)))))
    | inr low ↦ low
  ];
  there = λ n e. elim (says_cases facts fact q n (old.there n e)) [
    | inl before ↦ before
    | inr (last, is) ↦ absurd (apart is)
  ];
  rest = λ n low says. old.rest n (omega (arith, low, length_push facts fact)) (says_more facts fact q n says);
}

pub listed_pop : (facts : List Fact) (fact : Fact) (old new : Ends) (before before' : List ℕ) (end : ℕ) → before ≡ before' ++ end ∷ [] → (HasPlace old (predicate_of fact) → end_at new (predicate_of fact) ≡ end)
    → ((q : Predicate) → q ≢ predicate_of fact → end_at new q ≡ end_at old q)
    → AreListed (facts ++ fact ∷ []) (record { ends = old; before = before }) → AreListed facts (record { ends = new; before = before' })
listed_pop facts fact old new before before' end popped here others are = record {
  long = long;
  last = λ q. elim (same_or_apart q (predicate_of fact)) [
    | inl same ↦ rw (same, here place) (last_fewer facts fact (predicate_of fact) (length facts) end (omega arith) was)
    | inr apart ↦ rw (others q apart) (last_below facts fact q (end_at old q) (λ e. apart (sym e)) (are.last q))
  ];
  before = λ n f there.
      let low = slice_get_within facts n f there in
      let same : get_or before n 0 ≡ get_or before' n 0 = rw popped (get_or_append_left before' (end ∷ []) 0 n (omega (arith, low, long))) in
      subst (IsLast (predicate_of f) facts n) same (last_fewer facts fact (predicate_of f) n (get_or before n 0) (omega (arith, low)) (are.before n f (keeps_push facts fact n f there)));
}
  where
    long : length before' ≡ length facts
    long = omega (arith, are.long, ap length popped, length_push before' end, length_push facts fact)

    place : HasPlace old (predicate_of fact)
    place = has_place old (predicate_of fact) (length facts) ((are.last (predicate_of fact)).rest (length facts) (omega (arith, length_push facts fact)) (fact, slice_get_push facts fact, refl))

    seam : get_or before (length facts) 0 ≡ end
    seam = rw popped (ap (λ k. get_or (before' ++ end ∷ []) k 0) (sym long) ∙ get_or-append_seam before' end [] 0)

    was : IsLast (predicate_of fact) (facts ++ fact ∷ []) (length facts) end
    was = subst (IsLast (predicate_of fact) (facts ++ fact ∷ []) (length facts)) seam (are.before (length facts) fact (slice_get_push facts fact))

-- the same ends
pub listed_same : (facts : List Fact) (old new : Ends) (before : List ℕ) → ((q : Predicate) → end_at new q ≡ end_at old q) → AreListed facts (record { ends = old; before = before }) → AreListed facts (record { ends = new; before = before })
listed_same facts old new before same are = record {
  long = are.long;
  last = λ q. rw (same q) (are.last q);
  before = are.before;
}

-- ---- a walk from the last to the first

-- from the end of the list on nothing says so
pub none_from : (q : Predicate) (facts : List Fact) (end : ℕ) → IsLast q facts (length facts) end → (n : ℕ) → end ≤ n → ¬ SaysAt q facts n
none_from q facts end last n high says = absurd (omega (arith, high, last.rest n (says_within facts q n says) says))

-- what comes before a fact of the predicate is of it, too
pub before_as : (q : Predicate) (facts : List Fact) (n : ℕ) (found : Option ℕ) → SaysAt q facts n → IsBefore facts n found → IsLast q facts n (end_of found)
before_as q facts n found says before =
    subst (λ (p : Predicate). IsLast p facts n (end_of found)) says.2
    (subst (λ (o : Option Fact). MatchOption o (found ≡ None) (λ f. IsLast (predicate_of f) facts n (end_of found))) says.1 before)

-- what is linked is found
none_found : (found : Option ℕ) → end_of found ≡ 0 → found ≡ None
none_found None e = refl
none_found (Some n) e = absurd (omega (arith, e))

pub is_before : (facts : List Fact) (lists : Linked) (n : ℕ) (found : Option ℕ) → AreListed facts lists → end_of found ≡ slice_index lists.before n → IsBefore facts n found
is_before facts lists n found are is = go (slice_get facts n) refl
  where
    no_place : (facts : List Fact) (n : ℕ) → slice_get facts n ≡ None → length facts ≤ n
    no_place facts n e = elim (cases_lt n (length facts)) [
      | inl l ↦ (let there = slice_get_there facts n l in absurd (none-some there.0 (sym e ∙ there.1)))
      | inr h ↦ h
    ]

    go : (o : Option Fact) → slice_get facts n ≡ o → MatchOption o (found ≡ None) (λ f. IsLast (predicate_of f) facts n (end_of found))
    go None e = none_found found (is ∙ get_or_past lists.before n 0 (omega (arith, are.long, no_place facts n e)))
    go (Some f) e = subst (λ (end : ℕ). IsLast (predicate_of f) facts n end) (sym is) (are.before n f e)

-- from the one before on there is that fact, and then what came behind it
pub on_from : (q : Predicate) (facts : List Fact) (number end : ℕ) → SaysAt q facts number → IsLast q facts number end
    → (n : ℕ) → ((number + 1 ≤ n) × SaysAt q facts n) ⊎ (n ≡ number) ↔ (end ≤ n) × SaysAt q facts n
on_from q facts number end says last n = (
  λ h. ⊎_elim (λ w. (omega (arith, w.0, last.within), w.1)) (λ e. (omega (arith, e, last.within), subst (SaysAt q facts) (sym e) says)) h,
  λ w. ⊎_elim
      (λ (low : n < number). absurd (omega (arith, w.0, last.rest n low w.1)))
      (λ (high : number ≤ n). ⊎_elim (λ (past : number < n). inl (omega (arith, past), w.1)) (λ (top : n ≤ number). inr (omega (arith, high, top))) (cases_lt number n))
      (cases_lt n number),
)
