-- A listing each of whose elements is put in a set.
use Rattle.std.proofs.Common.{◌≡◌, ℕ, zero, suc, ◌+◌, ◌<◌, ◌≤◌, ◌↔◌, inl, inr, Bool, true, false, IsTrue, List, length, count_by, nat_eq, replicate, get_or, All, Contains, sym, ap, ◌∙◌, arith}
use Rattle.std.specs.List.{range_with_len}
use Rattle.std.proofs.lemmas.Bool.{eq-eqb, eqb-true, false≢true}
use Rattle.std.proofs.lemmas.List.{get_or-replicate, length-replicate}
use Rattle.std.proofs.lemmas.List.FromFn.{get_or-range_with_len, length-range_with_len}
use Rattle.std.proofs.lemmas.List.Elements.{All-contains, Contains-get_or}
use Rattle.listed_model.proofs.Given.{ascends_pairs}
use Rattle.certificate.specs.Writability.{Ascends}
use Rattle.certificate.specs.View.{listed_of}
use Rattle.certificate.specs.declared.listed.Listed.{Listed}
use Rattle.number_sets.specs.Members.{has}
use Rattle.narrowing.specs.Gathered.{elements_of_lines}
use Rattle.narrowing.specs.Marked.{marked}
use Rattle.narrowing.specs.Narrowed.{StandsIn, IsNarrowed, place_among}
use Rattle.narrowing.proofs.Marking.{length_marked, was_or_put, is_put, each_there, as_many, put_few, none_counted}
use Rattle.narrowing.proofs.Placed.{place_at}
use Rattle.narrowing.proofs.Standing.{stands_from, stands_to}
use Rattle.narrowing.proofs.Unchanged.{unchanged}

-- the elements that stand in lines are those of the domain
abbrev pub StandsInEach : Listed → Type 0
StandsInEach l = (x : ℕ) → StandsIn (listed_of l) x ↔ x < l.domain

module _ (l : Listed) where
  abbrev pub none : List Bool
  none = replicate l.domain false

  long : length none ≡ l.domain
  long = length-replicate l.domain false

  -- those that stand in lines are then in range
  pub in_range_of : StandsInEach l → All (λ x. x < length none) (elements_of_lines l)
  in_range_of each k d m =
      let y = get_or (elements_of_lines l) k d in
      let below = (each y).0 (stands_from l y (Contains-get_or (elements_of_lines l) k d m)) in
      omega (arith, long, below)

  -- so there are no more of the domain than numbers in lines
  pub no_more : StandsInEach l → l.domain ≤ length (elements_of_lines l)
  no_more each =
      let xs = elements_of_lines l in
      let same = length_marked none xs in
      let all = as_many (marked none xs) (λ k m. is_put none xs k (stands_to l k ((each k).1 (omega (arith, same, long, m)))) (omega (arith, same, m))) in
      let few = put_few none xs in
      let before = none_counted l.domain in
      omega (arith, same, long, all, few, before)

  module _ (new : List Bool) (below : All (λ x. x < length none) (elements_of_lines l)) (after : new ≡ marked none (elements_of_lines l)) where
    same_length : length new ≡ l.domain
    same_length = ap length after ∙ length_marked none (elements_of_lines l) ∙ long

    put_there : (k : ℕ) → has new k ≡ true → k < l.domain → Contains (elements_of_lines l) k
    put_there k h m =
        elim (was_or_put none (elements_of_lines l) k (sym (ap (λ (r : List Bool). has r k) after) ∙ h)) [
          | inl e ↦ absurd (false≢true (sym (get_or-replicate l.domain k false false m) ∙ e))
          | inr c ↦ c
        ]

    each_of : count_by (λ (b : Bool). b) new ≡ length new → StandsInEach l
    each_of many x = (
      λ s. (let b = All-contains (λ y. y < length none) (elements_of_lines l) x below (stands_to l x s) in omega (arith, long, b)),
      λ m. stands_from l x (put_there x (each_there new many x (omega (arith, same_length, m))) m),
    )

    of_each : StandsInEach l → count_by (λ (b : Bool). b) new ≡ length new
    of_each each =
        as_many new (λ k m. ap (λ (r : List Bool). has r k) after
        ∙ is_put none (elements_of_lines l) k (stands_to l k ((each k).1 (omega (arith, same_length, m)))) (omega (arith, long, same_length, m)))

    pub counted : (count len : ℕ) → count ≡ count_by (λ (b : Bool). b) new → len ≡ length new → IsTrue (nat_eq count len) ↔ StandsInEach l
    counted count len c e = (
      λ t. each_of (sym c ∙ eqb-true count len t ∙ e),
      λ each. eq-eqb count len (c ∙ of_each each ∙ sym e),
    )

-- ---- narrowed by nothing

range_ascends : (a n : ℕ) → Ascends (range_with_len a n)
range_ascends a zero = tt
range_ascends a (suc zero) = tt
range_ascends a (suc (suc n)) = (omega arith, range_ascends (a + 1) (suc n))

-- each number of a range from 0 on is at its own place
at_own : (n x d : ℕ) → x < n → get_or (range_with_len 0 n) x d ≡ x
at_own n x d m = (let at = get_or-range_with_len 0 n x d m in omega (arith, at))

among_range : (n x : ℕ) → Contains (range_with_len 0 n) x ↔ x < n
among_range n x =
    let long = length-range_with_len 0 n in (
      λ c. (let l : c.0 < n = omega (arith, long, c.1) in let at = at_own n c.0 x l in omega (arith, l, c.2, at)),
      λ m. (x, omega (arith, long, m), at_own n x x m),
    )

pub is_narrowed : (l : Listed) → StandsInEach l → IsNarrowed (listed_of l) (listed_of l)
is_narrowed l each =
    let used = range_with_len 0 l.domain in
    let long = length-range_with_len 0 l.domain in
    let up = range_ascends 0 l.domain in
    let own : (x : ℕ) → StandsIn (listed_of l) x → place_among used x ≡ x = λ x s. (
    let b = (each x).0 s in
    ap (place_among used) (sym (at_own l.domain x 0 b)) ∙ place_at used (ascends_pairs used up) x (omega (arith, long, b))) in
    record {
      used = used;
      ascend = up;
      exact = λ x. (let r = among_range l.domain x in (λ c. (each x).1 (r.0 c), λ s. r.1 ((each x).0 s)));
      narrowed = unchanged used (listed_of l) long own;
    }
