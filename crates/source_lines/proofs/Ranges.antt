-- Parts of a list from one place to another.
use Rattle.std.proofs.Common.{◌≡◌, ℕ, ◌+◌, ◌-◌, ◌≤◌, List, [], ◌++◌, length, take, drop, sym, ap, ◌∙◌, arith}
use Rattle.std.specs.Prelude.{slice_range}
use Rattle.std.proofs.lemmas.List.{drop-drop, drop-take, length-drop, length-take-le, take-take}
use Rattle.std.proofs.Math.Seq.{take-add}

pub length-range : {X : Type 0} (xs : List X) (a b : ℕ) → a ≤ b → b ≤ length xs → length (slice_range xs a b) ≡ b - a
length-range xs a b low high = length-take-le (b - a) (drop a xs) (omega (arith, length-drop a xs))

pub range_empty : {X : Type 0} (xs : List X) (a : ℕ) → slice_range xs a a ≡ []
range_empty xs a = let none : a - a ≡ 0 = omega arith in ap (λ n. take n (drop a xs)) none

-- a part is its own first part and what stands behind that
pub range_split : {X : Type 0} (xs : List X) (a b c : ℕ) → a ≤ b → b ≤ c → slice_range xs a c ≡ slice_range xs a b ++ slice_range xs b c
range_split xs a b c low high =
    let whole : c - a ≡ (b - a) + (c - b) = omega arith in
    let to : a + (b - a) ≡ b = omega arith in
    ap (λ n. take n (drop a xs)) whole ∙ take-add (b - a) (c - b) (drop a xs)
    ∙ ap (λ l. slice_range xs a b ++ take (c - b) l) (drop-drop (b - a) a xs ∙ ap (λ n. drop n xs) to)

range_of_take : {X : Type 0} (xs : List X) (a b : ℕ) → a ≤ b → slice_range xs a b ≡ drop a (take b xs)
range_of_take xs a b low =
    let whole : a + (b - a) ≡ b = omega arith in
    sym (drop-take a (b - a) xs) ∙ ap (λ n. drop a (take n xs)) whole

-- a part stays the same where all before its end does
pub range_kept : {X : Type 0} (xs ys : List X) (a b : ℕ) → a ≤ b → take b ys ≡ take b xs → slice_range ys a b ≡ slice_range xs a b
range_kept xs ys a b low e = range_of_take ys a b low ∙ ap (drop a) e ∙ sym (range_of_take xs a b low)

-- the front of a part
pub take-range : {X : Type 0} (xs : List X) (a b n : ℕ) → a + n ≤ b → take n (slice_range xs a b) ≡ slice_range xs a (a + n)
take-range xs a b n within =
    let long : (a + n) - a ≡ n = omega arith in
    take-take n (b - a) (drop a xs) (omega arith) ∙ ap (λ m. take m (drop a xs)) (sym long)
