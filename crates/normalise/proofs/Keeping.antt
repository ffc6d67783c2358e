-- A table and the lists that it spells, where one is added.
use Rattle.std.proofs.Common.{◌<◌, ◌^◌, ◌≡◌, ℕ, ◌+◌, ◌-◌, ◌≤◌, inl, inr, List, [], ◌∷◌, ◌++◌, length, map, take, slice_get, Some, None, refl, sym, ap, ap₂, ◌∙◌, subst, arith, Contains}
use Rattle.std.specs.Prelude.{slice_index, option_and_then}
use Rattle.std.specs.declared.option.Option.{Option}
use Rattle.std.proofs.lemmas.List.{length-append, length-map, map-append}
use Rattle.std.proofs.lemmas.Option.{none-some, slice_get_within, slice_get-get_or}
use Rattle.axioms.specs.Growth.{Numbers}
use Rattle.axioms.specs.WellFormedness.{AreDistinct}
use Rattle.lemmas.proofs.Choices.{one_value}
use Rattle.lemmas.proofs.Mapped.{slice_get_map, slice_get_map_from}
use Rattle.lemmas.proofs.Members.{Contains-from_slice_get, slice_get-from_Contains}
use Rattle.lemmas.proofs.Places.{Keeps, keeps_push, slice_get_push, slice_get_push_cases, slice_get_there}
use Rattle.normalise.specs.declared.start.Start.{Start}
use Rattle.normalise.specs.declared.spans.Span.{Span}
use Rattle.normalise.specs.Lengths.{IsShorter}
use Rattle.normalise.specs.Spans.{IsListAt, IsSpanOf, list_at}
use Rattle.normalise.specs.Tables.{Table, Spells, Starts, IsKept, start_in, key_in}
use Rattle.normalise.proofs.Placing.{range-append, lists_stay, all_but_last}
use Rattle.normalise.proofs.Spelling.{spells_more, starts_more, spells_entry, entry_spells, last_same, starts_one, starts_number}

distinct_push : {X : Type 0} (xs : List X) (x : X) → AreDistinct xs → (Contains xs x → ⊥) → AreDistinct (xs ++ x ∷ [])
distinct_push xs x one out m n y gm gn = elim (slice_get_push_cases xs x m y gm) [
  | inl a ↦ elim (slice_get_push_cases xs x n y gn) [
    | inl b ↦ one m n y a b
    | inr b ↦ absurd (out (subst (Contains xs) (sym b.1) (Contains-from_slice_get xs m y a)))
  ]
  | inr a ↦ elim (slice_get_push_cases xs x n y gn) [
    | inl b ↦ absurd (out (subst (Contains xs) (sym a.1) (Contains-from_slice_get xs n y b)))
    | inr b ↦ a.0 ∙ sym b.0
  ]
]

two_list : (xs : List ℕ) → length xs ≡ 2 → take (length xs - 1) xs ≡ slice_index xs 0 ∷ []
two_list [] e = absurd (omega arith)
two_list (x ∷ []) e = absurd (omega arith)
two_list (x ∷ y ∷ []) e = refl
two_list (x ∷ y ∷ z ∷ xs) e = absurd (omega arith)

last_there : (xs : List ℕ) → 1 ≤ length xs → slice_get xs (length xs - 1) ≡ Some (slice_index xs (length xs - 1))
last_there xs l = slice_get-get_or xs (length xs - 1) 0 (omega arith)

-- the shorter list stands there
pub span_there : {T : Type 0} (number : T → ℕ) (table : Table) (spans : List Span) (members : List T) → IsKept number table spans members → (shorter : Option ℕ) (list : List ℕ) → IsShorter (map (list_at number members) spans) shorter list
    → (s : Span) → option_and_then (slice_get spans) shorter ≡ Some s → IsListAt number members s (take (length list - 1) list)
span_there number table spans members kept None list is s e = absurd (none-some s e)
span_there number table spans members kept (Some n) list is s e = record {
  within = kept.within n s e;
  listed = one_value _ _ _ (slice_get_map (list_at number members) spans n s e) is;
}

module _ {T : Type 0} (number : T → ℕ) (table : Table) (spans : List Span) (members : List T) (kept : IsKept number table spans members) (shorter : Option ℕ) (list : List ℕ) (many : 2 ≤ length list)
    (is : IsShorter (map (list_at number members) spans) shorter list) where
  start : Start
  start = start_in shorter list

  last : ℕ
  last = slice_index list (length list - 1)

  first : List ℕ
  first = take (length list - 1) list

  whole : list ≡ first ++ last ∷ []
  unfolding first last
  whole = all_but_last list (length list - 1) (slice_index list (length list - 1)) (omega arith) (last_there list (omega arith))

  starts : Starts table start first
  unfolding start first
  starts = go shorter is
    where
      go : (s : Option ℕ) → IsShorter (map (list_at number members) spans) s list → Starts table (start_in s list) (take (length list - 1) list)
      go None e = two_list list e
      go (Some n) g = let s = slice_get_map_from (list_at number members) spans n _ g in subst (Spells table n) s.2 (kept.spelled n s.0 s.1)

  -- it is there already
  pub old_number : (n : ℕ) → slice_get table n ≡ Some (key_in shorter list) → slice_get (map (list_at number members) spans) n ≡ Some list
  unfolding start last
  old_number n g =
      let s = slice_get_there spans n (omega (arith, slice_get_within table n _ g, kept.long)) in
      let e = entry_spells table n _ (kept.spelled n s.0 s.1) in
      let same : (e.0, e.1.0) ≡ (start, last) = one_value _ _ _ e.1.1.1 g in
      let a : e.0 ≡ start = ap (λ p. p.0) same in let b : e.1.0 ≡ last = ap (λ p. p.1) same in
      let c : e.1.1.0 ≡ first = starts_one table start _ _ (subst (λ z. Starts table z e.1.1.0) a e.1.1.2) starts in
      slice_get_map (list_at number members) spans n s.0 s.1 ∙ ap Some (e.1.1.3 ∙ ap₂ (λ zs z. zs ++ z ∷ []) c b ∙ sym whole)

  -- it is not there
  no_number : (Contains table (key_in shorter list) → ⊥) → Contains (map (list_at number members) spans) list → ⊥
  unfolding start last
  no_number out c =
      let p = slice_get-from_Contains _ list c in
      let s = slice_get_map_from (list_at number members) spans p.0 list p.1 in
      let e = entry_spells table p.0 _ (kept.spelled p.0 s.0 s.1) in
      let same = last_same e.1.1.0 first e.1.0 last (sym e.1.1.3 ∙ s.2 ∙ whole) in
      let a : e.0 ≡ start = starts_number table kept.distinct e.0 start _ _ e.1.1.2 starts same.0 in
      out (Contains-from_slice_get table p.0 _ (e.1.1.1 ∙ ap₂ (λ x y. Some (x, y)) a same.1))

  pub new_number : (table' : Table) (n : ℕ) (members' more : List T) (span : Span) → length table + 1 < 2 ^ 32 → (Contains table (key_in shorter list) → ⊥) → n ≡ length table → table' ≡ table ++ key_in shorter list ∷ [] → members' ≡ members ++ more → IsListAt number members' span list
      → IsKept number table' (spans ++ span ∷ []) members' × Numbers (map (list_at number members) spans) list (map (list_at number members') (spans ++ span ∷ [])) n
  unfolding start last
  new_number table' n members' more span room out en et em at = (
    record {
      long = length-append spans (span ∷ []) ∙ ap (λ k. k + 1) kept.long ∙ sym (length-append table (key_in shorter list ∷ [])) ∙ ap length (sym et);
      within = λ k s g. elim (slice_get_push_cases spans span k s g) [
        | inl h ↦ (let w = kept.within k s h in (w.0, omega (arith, w.1, ap length em, length-append members more)))
        | inr h ↦ subst (IsSpanOf members') h.1 at.within
      ];
      spelled = λ k s g. elim (slice_get_push_cases spans span k s g) [
        | inl h ↦ subst (Spells table' k) (sym (stay s (kept.within k s h))) (spells_more table table' keeps k _ (kept.spelled k s h))
        | inr h ↦ subst (λ t. Spells table' k (list_at number members' t)) h.1 (subst (Spells table' k) (sym at.listed) (spelled k h.0))
      ];
      distinct = subst AreDistinct (sym et) (distinct_push table _ kept.distinct out);
      small = omega (arith, length-append spans (span ∷ []), kept.long, room);
    },
    inr (no_number out, en ∙ sym kept.long ∙ sym (length-map spans (list_at number members)), map-append (list_at number members') spans (span ∷ []) ∙ ap₂ (λ xs x. xs ++ x ∷ []) same at.listed),
  )
    where
      stay : (s : Span) → IsSpanOf members s → list_at number members' s ≡ list_at number members s
      stay s w = ap (λ m. list_at number m s) em ∙ ap (map number) (range-append members more s.start s.end w.0 w.1)

      keeps : Keeps table table'
      keeps k x g = ap (λ t. slice_get t k) et ∙ keeps_push table (key_in shorter list) k x g

      spelled : (k : ℕ) → k ≡ length spans → Spells table' k list
      spelled k e =
          subst (Spells table' k) (sym whole) (spells_entry table' start first last k
          (ap (λ t. slice_get t k) et ∙ ap (slice_get (table ++ key_in shorter list ∷ [])) (e ∙ kept.long) ∙ slice_get_push table (key_in shorter list))
          (starts_more table table' keeps start first starts))

      same : map (list_at number members') spans ≡ map (list_at number members) spans
      same = ap (λ m. map (list_at number m) spans) em ∙ lists_stay number members more spans kept.within

-- ---- what an insertion leaves

pub is_old : {X : Type 0} (t : List X) (k : X) (u : List X) (n : ℕ) → Numbers t k u n → length u ≡ length t + 0 → (slice_get t n ≡ Some k) × (u ≡ t)
is_old t k u n (inl h) l = h
is_old t k u n (inr h) l = absurd (omega (arith, l, ap length h.2, length-append t (k ∷ [])))

pub is_next : {X : Type 0} (t : List X) (k : X) (u : List X) (n : ℕ) → Numbers t k u n → length u ≡ length t + 1 → (Contains t k → ⊥) × (n ≡ length t) × (u ≡ t ++ k ∷ [])
is_next t k u n (inl h) l = absurd (omega (arith, l, ap length h.1))
is_next t k u n (inr h) l = h

-- a list that is there has its number
pub longer_old : {T : Type 0} (number : T → ℕ) (table : Table) (spans spans' : List Span) (members members' : List T) (view : List (List ℕ)) → IsKept number table spans members → map (list_at number members) spans ≡ view → (shorter : Option ℕ) (list : List ℕ) → 2 ≤ length list → IsShorter view shorter list
    → (key : Start × ℕ) → key ≡ key_in shorter list → (table' : Table) (n : ℕ) → Numbers table key table' n → length table' ≡ length table + 0 → spans' ≡ spans → members' ≡ members → Numbers view list (map (list_at number members') spans') n
longer_old number table spans spans' members members' view kept at shorter list many is key ek table' n numbers long es em =
    let old = is_old table key table' n numbers long in
    let P : List (List ℕ) → Type 0 = λ v. IsShorter v shorter list in
    inl (
      ap (λ v. slice_get v n) (sym at) ∙ old_number number table spans members kept shorter list many (subst P (sym at) is) n (old.0 ∙ ap Some ek),
      ap₂ (λ m s. map (list_at number m) s) em es ∙ at,
    )

-- another is the next
pub longer_next : {T : Type 0} (number : T → ℕ) (table : Table) (spans spans' spans'' : List Span) (members members' members'' more : List T) (view : List (List ℕ)) (span : Span) → IsKept number table spans members → map (list_at number members) spans ≡ view → (shorter : Option ℕ) (list : List ℕ) → 2 ≤ length list → IsShorter view shorter list
    → (key : Start × ℕ) → key ≡ key_in shorter list → (table' : Table) (n : ℕ) → Numbers table key table' n → length table + 1 < 2 ^ 32 → length table' ≡ length table + 1 → spans' ≡ spans → spans'' ≡ spans' ++ span ∷ [] → members' ≡ members → members'' ≡ members' ++ more → IsListAt number members'' span list
    → IsKept number table' spans'' members'' × Numbers view list (map (list_at number members'') spans'') n
longer_next {T} number table spans spans' spans'' members members' members'' more view span kept at shorter list many is key ek table' n numbers room long es es' em em' placed =
    let next = is_next table key table' n numbers long in
    let P : List (List ℕ) → Type 0 = λ v. IsShorter v shorter list in
    let Q : Start × ℕ → Type 0 = λ k. Contains table k → ⊥ in
    let R : List Span → Type 0 = λ s. IsKept number table' s members'' × Numbers view list (map (list_at number members'') s) n in
    let S : List (List ℕ) → Type 0 = λ v. IsKept number table' (spans ++ span ∷ []) members'' × Numbers v list (map (list_at number members'') (spans ++ span ∷ [])) n in
    subst R (sym (es' ∙ ap (λ s. s ++ span ∷ []) es))
    (subst S at
    (new_number number table spans members kept shorter list many (subst P (sym at) is) table' n members'' more span room
    (subst Q ek next.0) next.1 (next.2 ∙ ap (λ k. table ++ k ∷ []) ek) (em' ∙ ap (λ m. m ++ more) em) placed))
