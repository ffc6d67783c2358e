-- Facts that only grow, each with a reason.
use Rattle.std.proofs.Common.{◌≡◌, ℕ, zero, suc, ◌+◌, ◌<◌, ◌≤◌, ◌⊎◌, inl, inr, Bool, true, false, refl, List, [], ◌∷◌, ◌++◌, length, map, take, slice_get, Some, Contains, sym, ap, ◌∙◌, arith, length-append}
use Rattle.std.proofs.lemmas.List.{take-append-le, take_all}
use Rattle.std.proofs.lemmas.List.Elements.{Contains-push}
use Rattle.std.proofs.lemmas.Option.{slice_get_within, slice_get-get_or}
use Rattle.axioms.specs.WellFormedness.{AreDistinct}
use Rattle.facts.specs.declared.contexts.Fact.{Fact}
use Rattle.facts.specs.Closure.{Problem, IsFact, AreFacts, given, none, more}
use Rattle.facts.specs.Births.{Reason, IsBirth}
use Rattle.inference.specs.Derivations.{Derived, IsDerived, Grows, HasMoreFactsThan}
use Rattle.inference.proofs.Lists.{Contains-from_slice_get, slice_get_there, slice_get_push_cases, keeps_push, slice_get_take}

pub grows_same : {k : Problem} {most : ℕ} {d : Derived} → IsDerived k d → Grows k most d d
grows_same s = record { within = λ h. h; longer = omega arith; facts = λ n f h. h; births = λ n r h. h; derived = s }

pub grows_trans : {k : Problem} {most : ℕ} {a b c : Derived} → Grows k most a b → Grows k most b c → Grows k most a c
grows_trans s t = record {
  within = λ h. t.within (s.within h);
  longer = omega (arith, s.longer, t.longer);
  facts = λ n f h. t.facts n f (s.facts n f h);
  births = λ n r h. t.births n r (s.births n r h);
  derived = t.derived;
}

pub there_still : {k : Problem} {most : ℕ} {a b : Derived} → Grows k most a b → (f : Fact) → Contains a.facts f → Contains b.facts f
there_still {a = a} {b = b} s f c = Contains-from_slice_get b.facts c.0 f (s.facts c.0 f (slice_get-get_or a.facts c.0 f c.1 ∙ ap Some c.2))

distinct_push : (xs : List Fact) (x : Fact) → AreDistinct xs → (Contains xs x → ⊥) → AreDistinct (xs ++ x ∷ [])
distinct_push xs x d new m n f a b = go (slice_get_push_cases xs x m f a) (slice_get_push_cases xs x n f b)
  where
    not_new : (i : ℕ) → slice_get xs i ≡ Some f → x ≡ f → m ≡ n
    not_new i h e = absurd (new (Contains-from_slice_get xs i x (h ∙ ap Some (sym e))))

    go : (slice_get xs m ≡ Some f) ⊎ ((m ≡ length xs) × (x ≡ f)) → (slice_get xs n ≡ Some f) ⊎ ((n ≡ length xs) × (x ≡ f)) → m ≡ n
    go (inl h) (inl i) = d m n f h i
    go (inl h) (inr i) = not_new m h i.1
    go (inr h) (inl i) = not_new n i h.1
    go (inr h) (inr i) = h.0 ∙ sym i.0

-- one fact more, with its reason
pub added : (k : Problem) (most : ℕ) (d : Derived) (f : Fact) (r : Reason) → IsDerived k d → IsBirth k d.facts f r → (Contains d.facts f → ⊥) → length d.facts < most → Grows k most d (record { facts = d.facts ++ f ∷ []; births = d.births ++ r ∷ [] })
added k most d f r s birth new low = record {
  within = λ _. omega (arith, low, length-append d.facts (f ∷ []));
  longer = omega (arith, length-append d.facts (f ∷ []));
  facts = keeps_push d.facts f;
  births = keeps_push d.births r;
  derived = record {
    distinct = distinct_push d.facts f s.distinct new;
    long = omega (arith, s.long, length-append d.facts (f ∷ []), length-append d.births (r ∷ []));
    born = λ n g q at_g at_q. born n g q (slice_get_push_cases d.facts f n g at_g) (slice_get_push_cases d.births r n q at_q);
  };
}
  where
    born : (n : ℕ) (g : Fact) (q : Reason) → (slice_get d.facts n ≡ Some g) ⊎ ((n ≡ length d.facts) × (f ≡ g)) → (slice_get d.births n ≡ Some q) ⊎ ((n ≡ length d.births) × (r ≡ q)) → IsBirth k (take n (d.facts ++ f ∷ [])) g q
    born n g q (inl a) (inl b) =
        let short : n ≤ length d.facts = omega (arith, slice_get_within d.facts n g a) in
        rw (take-append-le n d.facts (f ∷ []) short) (s.born n g q a b)
    born n g q (inl a) (inr b) = absurd (omega (arith, slice_get_within d.facts n g a, s.long, b.0))
    born n g q (inr a) (inl b) = absurd (omega (arith, slice_get_within d.births n q b, s.long, a.0))
    born n g q (inr a) (inr b) =
        let short : n ≤ length d.facts = omega (arith, a.0) in
        let long : length d.facts ≤ n = omega (arith, a.0) in
        rw (take-append-le n d.facts (f ∷ []) short) (rw (take_all n d.facts long) (rw (← a.1) (rw (← b.1) birth)))

-- each fact with a reason is in the closure
module _ {k : Problem} {d : Derived} (s : IsDerived k d) where
  pub older_facts : (n : ℕ) (places : List ℕ) (older : List Fact) → map (slice_get (take n d.facts)) places ≡ map Some older
      → ((m : ℕ) (f : Fact) → m < n → slice_get d.facts m ≡ Some f → IsFact k f) → AreFacts k older
  older_facts n places [] e h = none
  older_facts n [] (f ∷ fs) e h = absurd (cc)
  older_facts n (p ∷ ps) (f ∷ fs) e h =
      let at : slice_get (take n d.facts) p ≡ Some f = cc in
      let rest : map (slice_get (take n d.facts)) ps ≡ map Some fs = cc in
      let here = slice_get_take n d.facts p f at in
      more (h p f here.0 here.1) (older_facts n ps fs rest h)

  facts_below : (bound n : ℕ) (f : Fact) → n < bound → slice_get d.facts n ≡ Some f → IsFact k f
  facts_below zero n f l at = absurd (omega arith)
  facts_below (suc bound) n f l at =
      let q = slice_get_there d.births n (omega (arith, s.long, slice_get_within d.facts n f at)) in
      let b = s.born n f q.0 at q.1 in
      given q.0.condition q.0.form b.0 b.2 (older_facts n q.0.older b.0 b.1 (λ m g low. facts_below bound m g (omega (arith, low, l))))

  pub sound : (n : ℕ) (f : Fact) → slice_get d.facts n ≡ Some f → IsFact k f
  sound n f at = facts_below (n + 1) n f (omega arith) at

-- facts that are the first so many, and one more of the closure
pub one_too_many : (k : Problem) (d : Derived) (f : Fact) (r : Reason) (limit : ℕ) → IsDerived k d → IsBirth k d.facts f r → (Contains d.facts f → ⊥) → limit ≤ length d.facts → HasMoreFactsThan k limit
one_too_many k d f r limit s birth new many =
    let grown = added k (length d.facts + 1) d f r s birth new (omega arith) in
    record {
      facts = d.facts ++ f ∷ [];
      distinct = grown.derived.distinct;
      each = sound grown.derived;
      many = omega (arith, length-append d.facts (f ∷ []));
    }

-- a fact is put in with its reason, where it was not there
pub put : (k : Problem) (most : ℕ) (d new : Derived) (f : Fact) (r : Reason) (is_new : Bool) → IsDerived k d → IsBirth k d.facts f r → length d.facts < most
    → (is_new ≡ true → (Contains d.facts f → ⊥) × (new ≡ record { facts = d.facts ++ f ∷ []; births = d.births ++ r ∷ [] })) → (is_new ≡ false → Contains d.facts f × (new ≡ d))
    → Grows k most d new
put k most d new f r true s birth low fresh known = rw (fresh refl).1 (added k most d f r s birth (fresh refl).0 low)
put k most d new f r false s birth low fresh known = rw (known refl).1 (grows_same s)

pub put_there : (d new : Derived) (f : Fact) (r : Reason) (is_new : Bool) → (is_new ≡ true → (Contains d.facts f → ⊥) × (new ≡ record { facts = d.facts ++ f ∷ []; births = d.births ++ r ∷ [] })) → (is_new ≡ false → Contains d.facts f × (new ≡ d)) → Contains new.facts f
put_there d new f r true fresh known = rw (fresh refl).1 (Contains-push d.facts f)
put_there d new f r false fresh known = rw (known refl).1 (known refl).0
