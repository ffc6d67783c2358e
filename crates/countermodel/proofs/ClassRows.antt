-- Rows of classes, and what they say of facts.
use Rattle.std.proofs.Common.{◌≡◌, ◌↔◌, ℕ, ◌+◌, ◌<◌, ◌≤◌, inl, inr, List, [], ◌∷◌, ◌++◌, length, get_or, map, slice_get, Some, Contains, sym, subst, arith}
use Rattle.std.proofs.lemmas.Bool.{cases_eq, cases_lt}
use Rattle.std.proofs.lemmas.List.{map-append}
use Rattle.std.proofs.lemmas.List.Elements.{Contains-get_or}
use Rattle.std.proofs.lemmas.Option.{none-some}
use Rattle.lemmas.proofs.Mapped.{slice_get_map_from}
use Rattle.lemmas.proofs.Places.{slice_get_push, slice_get_push_cases, keeps_push}
use Rattle.number_sets.specs.Pieces.{list_at}
use Rattle.number_sets.proofs.Members.{nothing_past}
use Rattle.certificate.specs.Writability.{Ascends}
use Rattle.countermodel.specs.Members.{AreRowsOf}
use Rattle.exactness.proofs.Trimmed.{Ascends-push}

-- the row has the numbers of its list in order
abbrev IsRowOf : List (List ℕ) → ℕ × List ℕ → Type 0
IsRowOf lists row = (0 < length row.1) × Ascends row.1 × ((m : ℕ) → Contains row.1 m ↔ Contains (list_at lists row.0) m)

-- some row is of the list
abbrev HasRow : List (ℕ × List ℕ) → ℕ → Type 0
HasRow rows e = (k : ℕ) × (row : ℕ × List ℕ) × (slice_get rows k ≡ Some row) × (row.0 ≡ e)

-- the rows of the first lists
pub record AreFirstRows (lists : List (List ℕ)) (count : ℕ) (rows : List (ℕ × List ℕ)) : Type 0 where
  pub ascend : Ascends (map (λ r. r.0) rows)
  pub each : (k : ℕ) (row : ℕ × List ℕ) → slice_get rows k ≡ Some row → (row.0 < count) × IsRowOf lists row
  pub all : (e m : ℕ) → e < count → Contains (list_at lists e) m → HasRow rows e

module _ (lists : List (List ℕ)) where
  pub no_rows : AreFirstRows lists 0 []
  no_rows = record { ascend = tt; each = λ k row h. absurd (none-some row h); all = λ e m l. absurd (omega arith) }

  module _ (count : ℕ) (rows : List (ℕ × List ℕ)) (are : AreFirstRows lists count rows) where
    pub no_row : length (list_at lists count) ≡ 0 → AreFirstRows lists (count + 1) rows
    no_row none = record {
      ascend = are.ascend;
      each = λ k row h. (let p = are.each k row h in (omega (arith, p.0), p.1));
      all = λ e m l c. elim (cases_eq e count) [
        | inl same ↦ absurd (empty (subst (λ i. Contains (list_at lists i) m) same c))
        | inr other ↦ are.all e m (omega arith) c
      ];
    }
      where
        empty : {m : ℕ} → Contains (list_at lists count) m → ⊥
        empty c = omega (arith, none, c.1)

    keys_below : (k x : ℕ) → slice_get (map (λ (r : ℕ × List ℕ). r.0) rows) k ≡ Some x → x < count
    keys_below k x h =
        let (r, at, same) = slice_get_map_from (λ (r : ℕ × List ℕ). r.0) rows k x h in
        subst (λ y. y < count) same (are.each k r at).0

    pub one_row : (xs : List ℕ) → (length (list_at lists count) ≡ 0 → ⊥) → Ascends xs → ((m : ℕ) → Contains xs m ↔ Contains (list_at lists count) m) → AreFirstRows lists (count + 1) (rows ++ (count, xs) ∷ [])
    one_row xs some up same = record {
      ascend = rw (map-append (λ (r : ℕ × List ℕ). r.0) rows ((count, xs) ∷ [])) (Ascends-push (map (λ (r : ℕ × List ℕ). r.0) rows) count are.ascend keys_below);
      each = λ k row h. elim (slice_get_push_cases rows (count, xs) k row h) [
        | inl old ↦ (let p = are.each k row old in (omega (arith, p.0), p.1))
        | inr new ↦ subst (λ (r : ℕ × List ℕ). (r.0 < count + 1) × IsRowOf lists r) new.1 (omega arith, (long, up, same))
      ];
      all = λ e m l c. elim (cases_eq e count) [
        | inl here ↦ (length rows, (count, xs), slice_get_push rows (count, xs), sym here)
        | inr other ↦ later e (are.all e m (omega arith) c)
      ];
    }
      where
        first : ℕ
        first = get_or (list_at lists count) 0 0

        has : Contains (list_at lists count) first
        has = Contains-get_or (list_at lists count) 0 0 (elim (cases_lt 0 (length (list_at lists count))) [ inl l ↦ l | inr l ↦ absurd (some (omega arith)) ])

        long : 0 < length xs
        long = let c = (same first).1 has in omega (arith, c.1)

        later : (e : ℕ) → HasRow rows e → HasRow (rows ++ (count, xs) ∷ []) e
        later e h = (h.0, h.1, keeps_push rows (count, xs) h.0 h.1 h.2, h.3)

  pub all_rows : (count : ℕ) (rows : List (ℕ × List ℕ)) → length lists ≤ count → AreFirstRows lists count rows → AreRowsOf lists rows
  all_rows count rows done are = record {
    ascend = are.ascend;
    each = λ k row h. (are.each k row h).1;
    all = λ e m c. are.all e m (omega (arith, done, nothing_past lists e m c)) c;
  }
