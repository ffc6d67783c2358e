-- What stands for numbers of lines stands for the same ones where there are more lists, and where more facts have entries.
use Rattle.std.proofs.Common.{◌≡◌, ◌≢◌, ℕ, zero, suc, ◌+◌, ◌-◌, ◌/◌, ◌%◌, ◌^◌, ◌<◌, ◌≤◌, Bool, true, false, ltb, inl, inr, List, [], ◌∷◌, ◌++◌, length, map, get_or, Result, Ok, Err, OnErr, refl, sym, ap, ap₂, ◌∙◌, subst, arith}
use Rattle.std.specs.Prelude.{slice_set, slice_index_or}
use Rattle.std.specs.List.{range_with_len}
use Rattle.std.proofs.lemmas.Bool.{ltb-false, cases_eq, cases_lt}
use Rattle.std.proofs.lemmas.List.{get_or_past, get_or-set_same, get_or-set_other, length-append, same_lists}
use Rattle.std.proofs.lemmas.List.FromFn.{get_or-map-range_with_len, length-map-range_with_len, map-range_with_len_more}
use Rattle.number_sets.specs.Pieces.{list_at}
use Rattle.explain.specs.LinesByFact.{AreEntries, IsGrownBy, entry_at, numbers_at, numbers_by_fact}

-- ---- more lists

list_at_grown : (xs more : List (List ℕ)) (n : ℕ) → n < length xs → list_at (xs ++ more) n ≡ list_at xs n
list_at_grown [] more n l = absurd (omega arith)
list_at_grown (x ∷ xs) more zero l = refl
list_at_grown (x ∷ xs) more (suc n) l = list_at_grown xs more n (omega arith)

numbers_grown_by : (old more : List (List ℕ)) (entry : ℕ) → entry < 2 ^ 31 + length old → numbers_at (old ++ more) entry ≡ numbers_at old entry
numbers_grown_by old more entry l = go (ltb entry (2 ^ 31)) refl (λ far. list_at_grown old more (entry - 2 ^ 31) (omega (arith, ltb-false entry (2 ^ 31) far)))
  where
    go : (b : Bool) → ltb entry (2 ^ 31) ≡ b → ((b ≡ false) → list_at (old ++ more) (entry - 2 ^ 31) ≡ list_at old (entry - 2 ^ 31)) → numbers_at (old ++ more) entry ≡ numbers_at old entry
    go true e h = rw e refl
    go false e h = rw e (h refl)

numbers_grown : (old new : List (List ℕ)) (entry : ℕ) → IsGrownBy old new → entry < 2 ^ 31 + length old → numbers_at new entry ≡ numbers_at old entry
numbers_grown old new entry (more, is) l = subst (λ lists. numbers_at lists entry ≡ numbers_at old entry) (sym is) (numbers_grown_by old more entry l)

length_grown : (old new : List (List ℕ)) → IsGrownBy old new → length old ≤ length new
length_grown old new (more, is) = let long : length new ≡ length old + length more = ap length is ∙ length-append old more in omega arith

-- ---- the numbers of each fact

module _ (f g : ℕ → List ℕ) where
  -- the same function, as far as it is asked
  same_up_to : (n : ℕ) → ((k : ℕ) → k < n → f k ≡ g k) → map f (range_with_len 0 n) ≡ map g (range_with_len 0 n)
  same_up_to n h =
      same_lists (map f (range_with_len 0 n)) (map g (range_with_len 0 n)) (length-map-range_with_len f 0 n ∙ sym (length-map-range_with_len g 0 n)) (λ k d l.
      let within : k < n = omega (arith, l, length-map-range_with_len f 0 n) in
      get_or-map-range_with_len f 0 n k k d within (omega arith) ∙ h k within ∙ sym (get_or-map-range_with_len g 0 n k k d within (omega arith)))

-- the facts that are there keep their numbers
pub numbers_kept : (old new : List (List ℕ)) (blocks : List (List ℕ)) (facts : ℕ) → IsGrownBy old new → AreEntries (length old) blocks facts → numbers_by_fact new blocks facts ≡ numbers_by_fact old blocks facts
numbers_kept old new blocks facts grown entries =
    same_up_to (λ k. numbers_at new (entry_at blocks k)) (λ k. numbers_at old (entry_at blocks k)) facts (λ k l. numbers_grown old new (entry_at blocks k) grown (entries.named k))

pub entries_kept : (old new : List (List ℕ)) (blocks : List (List ℕ)) (facts : ℕ) → IsGrownBy old new → AreEntries (length old) blocks facts → AreEntries (length new) blocks facts
entries_kept old new blocks facts grown entries = record {
  named = λ k. let l = entries.named k in omega (arith, l, length_grown old new grown);
  next = entries.next;
  later = entries.later;
}

-- no entry stands for a fact that is not there
pub no_entry : (lists : ℕ) (blocks : List (List ℕ)) (facts fact : ℕ) → AreEntries lists blocks facts → facts ≤ fact → length (list_at blocks (fact / 256)) ≤ fact % 256
no_entry lists blocks facts fact entries l = elim (cases_lt (facts / 256) (fact / 256)) [
  | inl later ↦ rw (entries.later (fact / 256) later) (omega arith)
  | inr same ↦
      let e : facts / 256 ≡ fact / 256 = omega (arith, l, same) in
      let long : length (list_at blocks (fact / 256)) ≡ facts % 256 = ap (λ k. length (list_at blocks k)) (sym e) ∙ entries.next in
      omega (arith, long, e, l)
]

pub length_numbers : (lists blocks : List (List ℕ)) (facts : ℕ) → length (numbers_by_fact lists blocks facts) ≡ facts
length_numbers lists blocks facts = length-map-range_with_len (λ k. numbers_at lists (entry_at blocks k)) 0 facts

-- what is read for a fact
pub numbers_of_entry : (lists blocks : List (List ℕ)) (facts fact : ℕ) → AreEntries (length lists) blocks facts → list_at (numbers_by_fact lists blocks facts) fact ≡ numbers_at lists (entry_at blocks fact)
numbers_of_entry lists blocks facts fact entries =
    let f : ℕ → List ℕ = λ k. numbers_at lists (entry_at blocks k) in
    elim (cases_lt fact facts) [
      | inl l ↦ get_or-map-range_with_len f 0 facts fact fact [] l (omega arith)
      | inr l ↦
          get_or_past (numbers_by_fact lists blocks facts) fact [] (omega (arith, l, length_numbers lists blocks facts))
          ∙ sym (ap (numbers_at lists) (get_or_past (list_at blocks (fact / 256)) (fact % 256) 0 (no_entry (length lists) blocks facts fact entries l)))
    ]

-- whether the step failed or not
pub on_failure : {T E P : Type 0} (result : Result T E) → P → OnErr result P
on_failure (Ok x) p = tt
on_failure (Err e) p = p

-- ---- one fact more

get_or_before : (xs : List ℕ) (x : ℕ) (n d : ℕ) → n < length xs → get_or (xs ++ x ∷ []) n d ≡ get_or xs n d
get_or_before [] x n d l = absurd (omega arith)
get_or_before (y ∷ xs) x zero d l = refl
get_or_before (y ∷ xs) x (suc n) d l = get_or_before xs x n d (omega arith)

get_or_last : (xs : List ℕ) (x : ℕ) (n d : ℕ) → n ≡ length xs → get_or (xs ++ x ∷ []) n d ≡ x
get_or_last [] x n d e = rw e refl
get_or_last (y ∷ xs) x zero d e = absurd (omega arith)
get_or_last (y ∷ xs) x (suc n) d e = get_or_last xs x n d (omega arith)

module _ (lists blocks new : List (List ℕ)) (facts block entry : ℕ) (entries : AreEntries (length lists) blocks facts) (block_is : block ≡ facts / 256) (there : block < length blocks)
    (new_is : new ≡ slice_set blocks block (list_at blocks block ++ entry ∷ [])) where
  abbrev longer : List ℕ
  longer = list_at blocks block ++ entry ∷ []

  here : list_at new block ≡ longer
  here = ap (λ (bs : List (List ℕ)). list_at bs block) new_is ∙ get_or-set_same blocks block longer [] there

  other : (k : ℕ) → k ≢ block → list_at new k ≡ list_at blocks k
  other k apart = ap (λ (bs : List (List ℕ)). list_at bs k) new_is ∙ get_or-set_other blocks block k longer [] apart

  long : length (list_at blocks block) ≡ facts % 256
  long = ap (λ k. length (list_at blocks k)) block_is ∙ entries.next

  entry_last : entry_at new facts ≡ entry
  entry_last =
      ap (λ k. slice_index_or (list_at new k) (facts % 256) 0) (sym block_is)
      ∙ ap (λ (b : List ℕ). slice_index_or b (facts % 256) 0) here
      ∙ get_or_last (list_at blocks block) entry (facts % 256) 0 (sym long)

  entry_other : (fact : ℕ) → fact ≢ facts → entry_at new fact ≡ entry_at blocks fact
  entry_other fact apart = elim (cases_eq (fact / 256) block) [
    | inr d ↦ ap (λ (b : List ℕ). slice_index_or b (fact % 256) 0) (other (fact / 256) d)
    | inl e ↦
        ap (λ k. slice_index_or (list_at new k) (fact % 256) 0) e
        ∙ ap (λ (b : List ℕ). slice_index_or b (fact % 256) 0) here
        ∙ elim (cases_lt (fact % 256) (facts % 256)) [
          | inl l ↦ get_or_before (list_at blocks block) entry (fact % 256) 0 (omega (arith, l, long))
          | inr l ↦
              let past : length longer ≤ fact % 256 = omega (arith, l, long, length-append (list_at blocks block) (entry ∷ []), e, block_is, apart) in
              let before : length (list_at blocks block) ≤ fact % 256 = omega (arith, l, long) in
              get_or_past longer (fact % 256) 0 past ∙ sym (get_or_past (list_at blocks block) (fact % 256) 0 before)
        ]
        ∙ ap (λ k. slice_index_or (list_at blocks k) (fact % 256) 0) (sym e)
  ]

  pub numbers_more : (numbers : List ℕ) → numbers_at lists entry ≡ numbers → numbers_by_fact lists new (facts + 1) ≡ numbers_by_fact lists blocks facts ++ numbers ∷ []
  numbers_more numbers is =
      let f : ℕ → List ℕ = λ k. numbers_at lists (entry_at blocks k) in
      let g : ℕ → List ℕ = λ k. numbers_at lists (entry_at new k) in
      map-range_with_len_more g 0 facts facts (omega arith)
      ∙ ap₂ (λ (ns : List (List ℕ)) (n : List ℕ). ns ++ n ∷ [])
      (same_up_to g f facts (λ k l. ap (numbers_at lists) (entry_other k (omega (arith, l)))))
      (ap (numbers_at lists) entry_last ∙ is)

-- ---- a block more

pub entries_skipped : (lists : ℕ) (blocks : List (List ℕ)) (facts : ℕ) → AreEntries lists blocks facts → facts % 256 ≡ 0 → AreEntries lists blocks (facts + 256)
entries_skipped lists blocks facts entries whole =
    let empty : list_at blocks ((facts + 256) / 256) ≡ [] = entries.later ((facts + 256) / 256) (omega arith) in record {
      named = entries.named;
      next = ap length empty ∙ omega (arith, whole);
      later = λ k l. entries.later k (omega (arith, l));
    }

pub numbers_skipped : (lists blocks : List (List ℕ)) (facts fact : ℕ) → AreEntries (length lists) blocks facts → facts % 256 ≡ 0 → list_at (numbers_by_fact lists blocks (facts + 256)) fact ≡ list_at (numbers_by_fact lists blocks facts) fact
numbers_skipped lists blocks facts fact entries whole =
    numbers_of_entry lists blocks (facts + 256) fact (entries_skipped (length lists) blocks facts entries whole) ∙ sym (numbers_of_entry lists blocks facts fact entries)
