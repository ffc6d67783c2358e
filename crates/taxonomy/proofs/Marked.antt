-- Marks of what is above classes.
use Rattle.std.proofs.Common.{◌≡◌, ℕ, ◌<◌, List, length, Bool, true, false, not, ◌||◌, ◌⊎◌, inl, inr, refl, sym, ap, ◌∙◌}
use Rattle.std.specs.List.{filter, list_any, Contains}
use Rattle.std.specs.List.Sorted.{IsPermutation}
use Rattle.std.proofs.lemmas.Bool.{and_from, and_parts, cases_Bool, false≢true, or_cases, or_left, or_right}
use Rattle.std.proofs.lemmas.List.Folds.{list_any_at}
use Rattle.std.proofs.lemmas.List.Sorted.{list_any-IsPermutation}
use Rattle.std.proofs.Math.Bool.{or-false}
use Rattle.number_sets.specs.Members.{has}
use Rattle.taxonomy.specs.declared.least.Marks.{Marks}
use Rattle.taxonomy.specs.ClassMarks.{AreUpwardClosed}
use Rattle.taxonomy.specs.Relation.{is_listed}
use Rattle.taxonomy.specs.Superclasses.{is_among, is_larger, AreSuperclasses}
use Rattle.taxonomy.specs.Texts.{is_strictly_above}
use Rattle.taxonomy.proofs.Arranged.{among_found, any_at}
use Rattle.taxonomy.proofs.Once.{among_filter, same_truth}
use Rattle.taxonomy.proofs.Sizes.{named, strict_chain, strictly_by_size}

-- where nothing is marked, nothing is missing
pub closed_none : (lists : List (List ℕ)) (m : Marks) → ((k : ℕ) → has m.above k ≡ false) → AreUpwardClosed lists m
closed_none lists m none = record {
  above = λ c k h _. absurd (false≢true (sym (none c) ∙ h));
  strictly = λ c k h _. absurd (false≢true (sym (none c) ∙ h));
}

-- what is above one more class is marked
pub closed_more : (lists : List (List ℕ)) (s : AreSuperclasses lists) (c : ℕ) (old new : Marks) → AreUpwardClosed lists old
    → ((k : ℕ) → k < length lists → has new.above k ≡ (has old.above k || is_listed lists c k))
    → ((k : ℕ) → k < length lists → has new.strictly k ≡ (has old.strictly k || is_larger lists c k))
    → AreUpwardClosed lists new
closed_more lists s c old new closed above strictly = record {
  above = λ j k h b.
      above k (s.sets.within j k b)
      ∙ (elim (of_one j k h b) [
        | inl e ↦ or_left (has old.above k) (is_listed lists c k) (closed.above j k e b)
        | inr e ↦ or_right (has old.above k) (is_listed lists c k) (s.transitive c j k e b)
      ]);
  strictly = λ j k h b.
      let listed = (and_parts (is_listed lists j k) (not (is_listed lists k j)) b).0 in
      strictly k (s.sets.within j k listed)
      ∙ (elim (of_one j k h listed) [
        | inl e ↦ or_left (has old.strictly k) (is_larger lists c k) (closed.strictly j k e b)
        | inr e ↦ or_right (has old.strictly k) (is_larger lists c k) (strictly_by_size lists s c k ∙ strict_chain lists s c j k e b)
      ]);
}
  where
    of_one : (j k : ℕ) → has new.above j ≡ true → is_listed lists j k ≡ true → (has old.above j ≡ true) ⊎ (is_listed lists c j ≡ true)
    of_one j k h b = or_cases (has old.above j) (is_listed lists c j) (sym (above j (named lists j k b)) ∙ h)

-- a test of one more adds nothing where what passes it passes already
pub or_known : (now old some more : Bool) → now ≡ (old || some) → (more ≡ true → now ≡ true) → now ≡ (old || (some || more))
or_known now old some true e known = known refl ∙ sym (or_right old (some || true) (or_right some true refl))
or_known now old some false e known = e ∙ ap (λ b. old || b) (sym (or-false some))

-- marks of what is above some of the numbers
pub record AreSome (lists : List (List ℕ)) (numbers : List ℕ) (m : Marks) : Type 0 where
  pub closed : AreUpwardClosed lists m
  pub only : (k : ℕ) → k < length lists → has m.strictly k ≡ true → list_any (λ c. is_strictly_above (is_listed lists) c k) numbers ≡ true

-- nothing is marked
pub some_none : (lists : List (List ℕ)) (numbers : List ℕ) (m : Marks) → ((k : ℕ) → has m.above k ≡ false) → ((k : ℕ) → has m.strictly k ≡ false) → AreSome lists numbers m
some_none lists numbers m above strictly = record {
  closed = closed_none lists m above;
  only = λ k _ h. absurd (false≢true (sym (strictly k) ∙ h));
}

-- what is above one of the numbers is marked
pub some_one : (lists : List (List ℕ)) (s : AreSuperclasses lists) (numbers : List ℕ) (c : ℕ) (old new : Marks) → Contains numbers c
    → ((k : ℕ) → has old.above k ≡ false) → ((k : ℕ) → has old.strictly k ≡ false)
    → ((k : ℕ) → k < length lists → has new.above k ≡ (has old.above k || is_listed lists c k))
    → ((k : ℕ) → k < length lists → has new.strictly k ≡ (has old.strictly k || is_larger lists c k))
    → AreSome lists numbers new
some_one lists s numbers c old new among no_above no_strictly above strictly =
    let strict : ℕ → ℕ → Bool = is_strictly_above (is_listed lists) in
    record {
      closed = closed_more lists s c old new (closed_none lists old no_above) above strictly;
      only = λ k l h.
          list_any_at (λ j. strict j k) numbers among.0 c among.1
          (ap (λ j. strict j k) among.2 ∙ sym (strictly_by_size lists s c k) ∙ sym (strictly k l ∙ ap (λ b. b || is_larger lists c k) (no_strictly k)) ∙ h);
    }

-- a test of some of the numbers, and then of those that are not marked, is one of all where it is known of those that are marked
pub any_unmarked : (p marked : ℕ → Bool) (first : Bool) (numbers rest : List ℕ) → IsPermutation (filter (λ c. not (marked c)) numbers) rest
    → (first ≡ true → list_any p numbers ≡ true) → ((c : ℕ) → marked c ≡ true → p c ≡ true → first ≡ true)
    → (first || list_any p rest) ≡ list_any p numbers
any_unmarked p marked first numbers rest moved known covered =
    let test : ℕ → Bool = λ c. not (marked c) in
    let kept = filter test numbers in
    ap (λ b. first || b) (sym (list_any-IsPermutation p kept rest moved))
    ∙ same_truth (first || list_any p kept) (list_any p numbers)
    (λ t. elim (or_cases first (list_any p kept) t) [
      | inl e ↦ known e
      | inr e ↦ let w = among_found p kept e in any_at p numbers w.0 (and_parts (is_among numbers w.0) (test w.0) (sym (among_filter test numbers w.0) ∙ w.1)).0 w.2
    ])
    (λ t. let w = among_found p numbers t in elim (cases_Bool (marked w.0)) [
      | inl e ↦ or_left first (list_any p kept) (covered w.0 e w.2)
      | inr e ↦ or_right first (list_any p kept) (any_at p kept w.0 (among_filter test numbers w.0 ∙ and_from (is_among numbers w.0) (test w.0) w.1 (ap not e)) w.2)
    ])
