-- Lists whose elements are mapped one after another.
use Rattle.std.proofs.Common.{◌≡◌, ℕ, zero, suc, ◌+◌, ◌<◌, ◌≤◌, List, [], ◌∷◌, ◌++◌, length, get_or, map, set, take, drop, refl, sym, ap, ◌∙◌, arith, add-one}
use Rattle.std.proofs.lemmas.List.{append-nil, drop_all, get_or-map, length-map, map-set, take_all}

-- the list with so many of its first elements mapped
abbrev pub mapped_until : {Y : Type 0} → (Y → Y) → ℕ → List Y → List Y
mapped_until f zero ys = ys
mapped_until f (suc k) [] = []
mapped_until f (suc k) (y ∷ ys) = f y ∷ mapped_until f k ys

pub length-mapped_until : {Y : Type 0} (f : Y → Y) (k : ℕ) (ys : List Y) → length (mapped_until f k ys) ≡ length ys
length-mapped_until f zero ys = refl
length-mapped_until f (suc k) [] = refl
length-mapped_until f (suc k) (y ∷ ys) = ap suc (length-mapped_until f k ys)

-- each of them
pub mapped_whole : {Y : Type 0} (f : Y → Y) (k : ℕ) (ys : List Y) → length ys ≤ k → mapped_until f k ys ≡ map f ys
mapped_whole f zero [] l = refl
mapped_whole f zero (y ∷ ys) l = absurd (omega arith)
mapped_whole f (suc k) [] l = refl
mapped_whole f (suc k) (y ∷ ys) l = ap (λ zs. f y ∷ zs) (mapped_whole f k ys (omega arith))

-- one more
one_more : {Y : Type 0} (f : Y → Y) (k : ℕ) (ys : List Y) (d : Y) → k < length ys → set (mapped_until f k ys) k (f (get_or (mapped_until f k ys) k d)) ≡ mapped_until f (suc k) ys
one_more f k [] d l = absurd (omega arith)
one_more f zero (y ∷ ys) d l = refl
one_more f (suc k) (y ∷ ys) d l = ap (λ zs. f y ∷ zs) (one_more f k ys d (omega arith))

pub mapped_more : {Y : Type 0} (f : Y → Y) (k : ℕ) (ys zs : List Y) (new d : Y) → k < length zs → zs ≡ mapped_until f k ys → new ≡ f (get_or zs k d) → set zs k new ≡ mapped_until f (k + 1) ys
mapped_more f k ys zs new d l e n =
    let many : k < length ys = omega (arith, ap length e, length-mapped_until f k ys) in
    rw (n, e, add-one) (one_more f k ys d many)

-- ---- what a vector holds after a loop over each of its elements

whole_back : {X : Type 0} (n : ℕ) (old now : List X) → n ≡ length old → length now ≡ length old → take n (now ++ drop (length now) old) ≡ now
whole_back n old now e s =
    rw (e, s, drop_all (length old) old (omega arith), append-nil now) (take_all (length old) now (omega arith))

-- the same of what is seen of the elements, and one more of them
pub seen_back : {X Y : Type 0} (v : X → Y) (f : Y → Y) (n k : ℕ) (old now : List X) → n ≡ length old → length old ≤ k → map v now ≡ mapped_until f k (map v old) → map v (take n (now ++ drop (length now) old)) ≡ map f (map v old)
seen_back v f n k old now e l h =
    let long = length-map old v in
    ap (map v) (whole_back n old now e (sym (length-map now v) ∙ ap length h ∙ length-mapped_until f k (map v old) ∙ long)) ∙ h ∙ mapped_whole f k (map v old) (omega arith)

pub seen_more : {X Y : Type 0} (v : X → Y) (f : Y → Y) (k : ℕ) (old : List Y) (now : List X) (new d : X) → k < length now → map v now ≡ mapped_until f k old → v new ≡ f (v (get_or now k d)) → map v (set now k new) ≡ mapped_until f (k + 1) old
seen_more v f k old now new d l e n =
    let long = length-map now v in
    map-set v now k new ∙ mapped_more f k old (map v now) (v new) (v d) (omega arith) e (n ∙ ap f (sym (get_or-map v now k d (v d) l)))
