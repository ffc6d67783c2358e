-- Slots, and what is found in them.
use Rattle.std.proofs.Common.{◌≡◌, ◌≢◌, ℕ, zero, suc, ◌<◌, ◌≤◌, inl, inr, List, [], ◌∷◌, length, get_or, set, slice_get, Some, Result, Ok, Err, OnOk, refl, sym, ap, ◌∙◌, arith}
use Rattle.std.proofs.lemmas.Bool.{cases_lt}
use Rattle.std.proofs.lemmas.Nat.{and_le_r}
use Rattle.facts.specs.Hashes.{hash_of}
use Rattle.std.proofs.lemmas.Option.{none-some, slice_get-get_or}
use Rattle.facts.specs.declared.seeds.Seeds.{Seeds}
use Rattle.facts.specs.declared.contexts.Fact.{Fact}
use Rattle.facts.specs.declared.slots.Slots.{Slots}
use Rattle.facts.specs.declared.slots.Slots.TheVariants.{Few, Many}
use Rattle.facts.specs.Slots.{bucket_of, buckets_of, numbers_of, IsFirstFree, HasRoom, CanHold}

pub set_here : {X : Type 0} (xs : List X) (i : ℕ) (x y : X) → slice_get xs i ≡ Some y → slice_get (set xs i x) i ≡ Some x
set_here [] i x y h = absurd (none-some y h)
set_here (z ∷ xs) zero x y h = refl
set_here (z ∷ xs) (suc i) x y h = set_here xs i x y h

pub set_elsewhere : {X : Type 0} (xs : List X) (i j : ℕ) (x : X) → j ≢ i → slice_get (set xs i x) j ≡ slice_get xs j
set_elsewhere [] i j x ne = refl
set_elsewhere (z ∷ xs) zero zero x ne = absurd (ne refl)
set_elsewhere (z ∷ xs) zero (suc j) x ne = refl
set_elsewhere (z ∷ xs) (suc i) zero x ne = refl
set_elsewhere (z ∷ xs) (suc i) (suc j) x ne = set_elsewhere xs i j x (λ e. ne (ap suc e))

pub same_table : {X : Type 0} (xs : List X) (i : ℕ) (x y : X) → slice_get xs i ≡ Some x → slice_get xs i ≡ Some y → x ≡ y
same_table xs i x y e f = cc

-- an element that is read stands there
pub read_at : {X : Type 0} (xs : List X) (i : ℕ) (x : X) → i < length xs → x ≡ get_or xs i x → slice_get xs i ≡ Some x
read_at xs i x within read = slice_get-get_or xs i x within ∙ ap Some (sym read)

pub on_ok : {A E : Type 0} (r : Result A E) {P Q : Type 0} → OnOk r P → (P → Q) → OnOk r Q
on_ok (Ok x) h f = f h
on_ok (Err e) h f = tt

-- the one bucket is the first
pub one_bucket : (seeds : Seeds) (fact : Fact) → bucket_of seeds 1 fact ≡ 0
unfolding bucket_of
one_bucket seeds fact = omega (arith, and_le_r (hash_of seeds fact) 0)

-- in one bucket with a free slot, the first that is free is no later one
not_past : (seeds : Seeds) (numbers : List ℕ) (fact : Fact) (slot last : ℕ) → get_or numbers last 0 ≡ 0 →
    IsFirstFree numbers (bucket_of seeds 1 fact) slot → slot ≤ last
not_past seeds numbers fact slot last free first =
    elim (cases_lt last slot) [
      | inl past ↦ absurd (first.no_gap last (omega (arith, one_bucket seeds fact)) past free)
      | inr within ↦ within
    ]

-- where there is room for a number, the first free slot can hold it
pub first_holds : (seeds : Seeds) (table : Slots) (fact : Fact) (slot : ℕ) → HasRoom table →
    IsFirstFree (numbers_of table) (bucket_of seeds (buckets_of table) fact) slot → CanHold table slot
first_holds seeds (Few numbers) fact slot last first = omega (arith, not_past seeds numbers fact slot 6 last first)
first_holds seeds (Many size used numbers) fact slot room first = first.within
