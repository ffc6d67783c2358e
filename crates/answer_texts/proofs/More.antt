-- Texts that a loop makes, one piece more at a time.
use Rattle.std.proofs.Common.{◌≡◌, ℕ, ◌+◌, ◌-◌, ◌<◌, List, [], ◌∷◌, ◌++◌, Bool, true, false, if◌then◌else◌, Result, Ok, Err, OnOk, refl, length, map, take, get_or, ap, sym, ◌∙◌, arith, append_assoc}
use Rattle.std.specs.Result.{is_ok}
use Rattle.std.specs.List.{flat_map, enumerate_from, range_with_len, filter}
use Rattle.std.proofs.lemmas.List.{take_more, append-nil, length-take, length-map, map-append, map-id}
use Rattle.std.proofs.lemmas.List.Concat.{flat_map-append}
use Rattle.std.proofs.lemmas.List.FromFn.{map-range_with_len_more}
use Rattle.lemmas.proofs.Ranges.{enumerate_push}

-- what was added is added to the end
pub added : (old out new a b c : List ℕ) → out ≡ old ++ a → new ≡ out ++ b → c ≡ a ++ b → new ≡ old ++ c
added old out new a b c e f g = f ∙ ap (λ (x : List ℕ). x ++ b) e ∙ append_assoc old a b ∙ ap (λ (x : List ℕ). old ++ x) (sym g)

pub flat_more : {X : Type 0} (f : X → List ℕ) (xs : List X) (x : X) → flat_map f (xs ++ x ∷ []) ≡ flat_map f xs ++ f x
flat_more f xs x = flat_map-append f xs (x ∷ []) ∙ ap (λ (s : List ℕ). flat_map f xs ++ s) (append-nil (f x))

pub range_from : (a n k : ℕ) → k ≡ a + n → range_with_len a (n + 1) ≡ range_with_len a n ++ k ∷ []
range_from a n k e = simp map-id at (map-range_with_len_more (λ x. x) a n k (sym e))

pub range_more : (f : ℕ → List ℕ) (k : ℕ) → flat_map f (range_with_len 0 (k + 1)) ≡ flat_map f (range_with_len 0 k) ++ f k
range_more f k = ap (flat_map f) (range_from 0 k k (omega arith)) ∙ flat_more f (range_with_len 0 k) k

pub numbered_more : {X Y : Type 0} (f : ℕ × X → List ℕ) (a : ℕ) (g : Y → X) (ys : List Y) (i n : ℕ) (d : Y) → i < length ys → n ≡ a + i
    → flat_map f (enumerate_from a (map g (take (i + 1) ys))) ≡ flat_map f (enumerate_from a (map g (take i ys))) ++ f (n, g (get_or ys i d))
numbered_more {X} f a g ys i n d l e =
    let before = map g (take i ys) in
    let x = g (get_or ys i d) in
    let k : a + length before ≡ n = omega (arith, length-map (take i ys) g, length-take i ys) in
    ap (λ zs. flat_map f (enumerate_from a (map g zs))) (take_more ys i d l)
    ∙ ap (λ zs. flat_map f (enumerate_from a zs)) (map-append g (take i ys) (get_or ys i d ∷ []))
    ∙ ap (flat_map f) (enumerate_push a before x ∙ ap (λ (k : ℕ). enumerate_from a before ++ (k, x) ∷ []) k)
    ∙ flat_more f (enumerate_from a before) (n, x)

pub enumerated_more : {X : Type 0} (f : ℕ × X → List ℕ) (a : ℕ) (xs : List X) (i n : ℕ) (d : X) → i < length xs → n ≡ a + i
    → flat_map f (enumerate_from a (take (i + 1) xs)) ≡ flat_map f (enumerate_from a (take i xs)) ++ f (n, get_or xs i d)
enumerated_more f a xs i n d l e =
    let before = take i xs in
    let x = get_or xs i d in
    let k : a + length before ≡ n = omega (arith, length-take i xs) in
    ap (λ ys. flat_map f (enumerate_from a ys)) (take_more xs i d l)
    ∙ ap (flat_map f) (enumerate_push a before x ∙ ap (λ (k : ℕ). enumerate_from a before ++ (k, x) ∷ []) k)
    ∙ flat_more f (enumerate_from a before) (n, x)

filter_case : (b : Bool) (y : ℕ) (longer xs last : List ℕ) → longer ≡ xs ++ last → (if b then y ∷ longer else longer) ≡ (if b then y ∷ xs else xs) ++ last
filter_case true y longer xs last e = ap (λ (zs : List ℕ). y ∷ zs) e
filter_case false y longer xs last e = e

-- the numbers that pass, one number further
pub filter_push : (p : ℕ → Bool) (xs : List ℕ) (x : ℕ) → filter p (xs ++ x ∷ []) ≡ filter p xs ++ (if p x then x ∷ [] else [])
filter_push p [] x = refl
filter_push p (y ∷ ys) x = filter_case (p y) y (filter p (ys ++ x ∷ [])) (filter p ys) (if p x then x ∷ [] else []) (filter_push p ys x)

pub filter_more : (p : ℕ → Bool) (k : ℕ) (now before : List ℕ) (b : Bool) → before ≡ filter p (range_with_len 0 k) → p k ≡ b → now ≡ before ++ (if b then k ∷ [] else []) → now ≡ filter p (range_with_len 0 (k + 1))
filter_more p k now before b e is step =
    step ∙ ap (λ (xs : List ℕ). xs ++ (if b then k ∷ [] else [])) e
    ∙ ap (λ (t : Bool). filter p (range_with_len 0 k) ++ (if t then k ∷ [] else [])) (sym is)
    ∙ sym (ap (filter p) (range_from 0 k k (omega arith)) ∙ filter_push p (range_with_len 0 k) k)

-- what the last piece makes, where memory is not refused
pub on_ok : {A E : Type 0} (r : Result A E) (new old add whole : List ℕ) → new ≡ (if is_ok r then old ++ add else old) → old ++ add ≡ whole → OnOk r (new ≡ whole)
on_ok (Ok x) new old add whole e f = e ∙ f
on_ok (Err x) new old add whole e f = tt
