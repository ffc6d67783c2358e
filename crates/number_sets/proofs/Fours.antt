-- Words taken four at a time.
use Rattle.std.proofs.Common.{◌≡◌, ℕ, ◌+◌, ◌-◌, ◌<◌, ◌≤◌, ◌%◌, bit_and, bit_or, bit_xor, List, [], ◌∷◌, length, get_or, refl, sym, ap, ap₂, ◌∙◌, subst, arith, inl, inr}
use Rattle.std.specs.Int.{bit_at}
use Rattle.std.specs.Int.Bits.{or_zero_l}
use Rattle.std.specs.Simd.Lanes.{Each1, fold_l, zip2, chunk, put_chunk}
use Rattle.std.proofs.lemmas.Bool.{cases_lt}
use Rattle.std.proofs.lemmas.Nat.{le_or_l, le_or_r}
use Rattle.std.proofs.lemmas.Nat.Bits.{bit_at_xor, bit_at-zero, bit_at-lt, same_from_bits}
use Rattle.std.proofs.lemmas.Simd.{Each1-get_or, get_or-chunk, get_or-zip2, get_or-put_chunk_below, get_or-put_chunk_at, get_or-put_chunk_above, length-chunk, length-put_chunk, length-zip2}
use Rattle.number_sets.specs.Words.{without_bits}

-- the words before i are made of two words each, those from i on are as they were
pub record Made (g : ℕ → ℕ → ℕ) (old other new : List ℕ) (i : ℕ) : Type 0 where
  pub within : i ≤ length new
  pub before : (k : ℕ) → k < i → get_or new k 0 ≡ g (get_or old k 0) (get_or other k 0)
  pub after : (k : ℕ) → i ≤ k → get_or new k 0 ≡ get_or old k 0

-- a lane of two vectors from i on
pub lane : (f : ℕ → ℕ → ℕ) (a b : List ℕ) (i j : ℕ) → i + 4 ≤ length a → i + 4 ≤ length b → j < 4 → get_or (zip2 f (chunk i 4 a) (chunk i 4 b)) j 0 ≡ f (get_or a (i + j) 0) (get_or b (i + j) 0)
lane f a b i j la lb lj =
    let na = length-chunk i 4 a la in
    let nb = length-chunk i 4 b lb in
    get_or-zip2 f (chunk i 4 a) (chunk i 4 b) j 0 0 0 (omega arith) (omega arith)
    ∙ ap₂ f (get_or-chunk i 4 a j 0 lj) (get_or-chunk i 4 b j 0 lj)

pub lanes : (f : ℕ → ℕ → ℕ) (a b : List ℕ) (i : ℕ) → i + 4 ≤ length a → i + 4 ≤ length b → length (zip2 f (chunk i 4 a) (chunk i 4 b)) ≡ 4
lanes f a b i la lb =
    let na = length-chunk i 4 a la in
    let nb = length-chunk i 4 b lb in
    length-zip2 f (chunk i 4 a) (chunk i 4 b) (na ∙ sym nb) ∙ na

-- a lane of what is left of the one vector
pub left_lane : (a b : List ℕ) (i j : ℕ) → i + 4 ≤ length a → i + 4 ≤ length b → j < 4
    → get_or (zip2 bit_xor (chunk i 4 a) (zip2 bit_and (chunk i 4 a) (chunk i 4 b))) j 0 ≡ without_bits (get_or a (i + j) 0) (get_or b (i + j) 0)
left_lane a b i j la lb lj =
    let na = length-chunk i 4 a la in
    let common = lanes bit_and a b i la lb in
    get_or-zip2 bit_xor (chunk i 4 a) (zip2 bit_and (chunk i 4 a) (chunk i 4 b)) j 0 0 0 (omega arith) (omega arith)
    ∙ ap₂ bit_xor (get_or-chunk i 4 a j 0 lj) (lane bit_and a b i j la lb lj)

pub left_lanes : (a b : List ℕ) (i : ℕ) → i + 4 ≤ length a → i + 4 ≤ length b → length (zip2 bit_xor (chunk i 4 a) (zip2 bit_and (chunk i 4 a) (chunk i 4 b))) ≡ 4
left_lanes a b i la lb =
    let na = length-chunk i 4 a la in
    length-zip2 bit_xor (chunk i 4 a) (zip2 bit_and (chunk i 4 a) (chunk i 4 b)) (na ∙ sym (lanes bit_and a b i la lb)) ∙ na

-- four more words
pub four_more : (g : ℕ → ℕ → ℕ) (old other new : List ℕ) (i : ℕ) (four : List ℕ) → Made g old other new i → length four ≡ 4 → i + 4 ≤ length new
    → length (put_chunk i new four) ≡ length new
    → ((j : ℕ) → j < 4 → get_or four j 0 ≡ g (get_or new (i + j) 0) (get_or other (i + j) 0)) → Made g old other (put_chunk i new four) (i + 4)
four_more g old other new i four made long room same each = record {
  within = omega arith;
  before = λ k l.
      elim (cases_lt k i) [
        | inl low ↦ get_or-put_chunk_below i new four k 0 low ∙ made.before k low
        | inr high ↦
            (let at : i + (k - i) ≡ k = omega arith in
            ap (λ (v : ℕ). get_or (put_chunk i new four) v 0) (sym at)
            ∙ get_or-put_chunk_at i new four (k - i) 0 (omega arith) (omega arith)
            ∙ each (k - i) (omega arith)
            ∙ ap (λ (v : ℕ). g (get_or new v 0) (get_or other v 0)) at
            ∙ ap (λ (v : ℕ). g v (get_or other k 0)) (made.after k high))
      ];
  after = λ k l. get_or-put_chunk_above i new four k 0 (omega arith) ∙ made.after k (omega arith);
}

-- as long as four are left
pub made_more : (g : ℕ → ℕ → ℕ) (old other new : List ℕ) (i : ℕ) (four : List ℕ) → Made g old other new i × (length new ≡ length old) → length old ≡ length other → 4 ≤ length new - i
    → (i + 4 ≤ length new → i + 4 ≤ length other → (length four ≡ 4) × ((j : ℕ) → j < 4 → get_or four j 0 ≡ g (get_or new (i + j) 0) (get_or other (i + j) 0)))
    → Made g old other (put_chunk i new four) (i + 4) × (length (put_chunk i new four) ≡ length old)
made_more g old other new i four (made, same) wide left each =
    let low : i + 4 ≤ length new = omega (arith, left, made.within) in
    let (long, lanes) = each low (omega (arith, low, same, wide)) in
    let kept = length-put_chunk i new four in
    (four_more g old other new i four made long low kept lanes, kept ∙ same)

-- ---- four words that are 0

pub zero_from_fold : (a : ℕ) (xs : List ℕ) → fold_l bit_or a xs ≡ 0 → (a ≡ 0) × Each1 (λ (w : ℕ). w ≡ 0) xs
zero_from_fold a [] h = (h, tt)
zero_from_fold a (x ∷ xs) h =
    let rest = zero_from_fold (bit_or a x) xs h in
    let both = rest.0 in
    (omega (arith, le_or_l a x), (omega (arith, le_or_r a x), rest.1))

pub fold_zero : (xs : List ℕ) → Each1 (λ (w : ℕ). w ≡ 0) xs → fold_l bit_or 0 xs ≡ 0
fold_zero [] h = refl
fold_zero (x ∷ xs) h = ap (λ (v : ℕ). fold_l bit_or v xs) (or_zero_l x ∙ h.0) ∙ fold_zero xs h.1

pub same_from_xor : (x y : ℕ) → bit_xor x y ≡ 0 → y ≡ x
same_from_xor x y h = same_from_bits y x (λ j.
    let e : (bit_at x j + bit_at y j) % 2 ≡ 0 = sym (bit_at_xor x y j) ∙ ap (λ (v : ℕ). bit_at v j) h ∙ bit_at-zero j in
    omega (arith, bit_at-lt x j, bit_at-lt y j))

-- where four words are 0, each is
pub each_zero : (P : ℕ → Type 0) (i : ℕ) (four : List ℕ) → length four ≡ 4 → Each1 (λ (w : ℕ). w ≡ 0) four
    → ((j : ℕ) → j < 4 → get_or four j 0 ≡ 0 → P (i + j)) → ((k : ℕ) → k < i → P k) → (k : ℕ) → k < i + 4 → P k
each_zero P i four long none here before k l =
    elim (cases_lt k i) [
      | inl low ↦ before k low
      | inr high ↦
          (let at : i + (k - i) ≡ k = omega arith in
          let within : k - i < length four = omega arith in
          subst P at (here (k - i) (omega arith) (Each1-get_or (λ (w : ℕ). w ≡ 0) four (k - i) 0 within none)))
    ]
