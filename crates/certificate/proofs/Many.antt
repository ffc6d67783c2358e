-- Values one after another, and the loop that reads them.
use Rattle.std.proofs.Common.{◌≡◌, ℕ, zero, suc, ◌<◌, ◌≤◌, List, [], ◌∷◌, ◌++◌, length, Option, Some, None, refl, sym, ap, subst, ◌∙◌, arith, append_assoc, length-append}
use Rattle.std.specs.List.{flat_map}
use Rattle.std.proofs.lemmas.Option.{same_Some}
use Rattle.std.proofs.lemmas.List.{append-nil}
use Rattle.certificate.specs.Reading.{Reader, more, many_from, many}
use Rattle.certificate.proofs.Laws.{Reads}

-- each value is valid after the one before
abbrev pub Chain : {A : Type 0} → (Option A → A → Type 0) → Option A → List A → Type 0
Chain V last [] = Unit {0}
Chain V last (x ∷ xs) = V last x × Chain V (Some x) xs

-- A reader of one value at a time. MayEnd says before which bytes no value follows.
pub record ReadsEach {A : Type 0} (MayFollow MayEnd : List ℕ → Type 0) (IsValid : Option A → A → Type 0) (text : A → List ℕ) (read : Option A → Reader A) : Type 0 where
  pub each : (last : Option A) → Reads MayFollow (IsValid last) text (read last)
  pub ends : (last : Option A) (rest : List ℕ) → MayEnd rest → read last rest ≡ None
  pub end_follows : (rest : List ℕ) → MayEnd rest → MayFollow rest
  pub next_follows : (last : Option A) (x : A) (rest : List ℕ) → IsValid last x → MayFollow (text x ++ rest)
  pub some : (last : Option A) (x : A) → IsValid last x → 0 < length (text x)

-- what was taken from the front
pub record IsTaken {A : Type 0} (V : Option A → A → Type 0) (t : A → List ℕ) (last : Option A) (bytes : List ℕ) (p : List A × List ℕ) : Type 0 where
  pub parts : bytes ≡ flat_map t p.0 ++ p.1
  pub valid : Chain V last p.0

more_taken : {A : Type 0} (V : Option A → A → Type 0) (t : A → List ℕ) (last : Option A) (bytes : List ℕ) (o : Option (A × List ℕ)) (others : A → List ℕ → List A × List ℕ)
    → ((x : A) (rest : List ℕ) → o ≡ Some (x, rest) → (bytes ≡ t x ++ rest) × V last x) → ((x : A) (rest : List ℕ) → IsTaken V t (Some x) rest (others x rest)) → IsTaken V t last bytes (more o others bytes)
more_taken V t last bytes None others h k = record { parts = refl; valid = tt }
more_taken V t last bytes (Some (x, rest)) others h k =
    let a = h x rest refl in
    let b = k x rest in
    record { parts = a.0 ∙ ap (λ (s : List ℕ). t x ++ s) b.parts ∙ sym (append_assoc (t x) (flat_map t (others x rest).0) (others x rest).1); valid = (a.1, b.valid) }

many_takes : {A : Type 0} (F G : List ℕ → Type 0) (V : Option A → A → Type 0) (t : A → List ℕ) (read : Option A → Reader A) → ReadsEach F G V t read → (n : ℕ) (last : Option A) (bytes : List ℕ) → IsTaken V t last bytes (many_from read last n bytes)
many_takes F G V t read h zero last bytes = record { parts = refl; valid = tt }
many_takes F G V t read h (suc n) last bytes =
    more_taken V t last bytes (read last bytes) (λ x. many_from read (Some x) n) (λ x rest e. (h.each last).takes bytes x rest e) (λ x rest. many_takes F G V t read h n (Some x) rest)

next : {A : Type 0} (F G : List ℕ → Type 0) (V : Option A → A → Type 0) (t : A → List ℕ) (read : Option A → Reader A) → ReadsEach F G V t read → (last : Option A) (xs : List A) (rest : List ℕ) → Chain V last xs → G rest → F (flat_map t xs ++ rest)
next F G V t read h last [] rest v g = h.end_follows rest g
next F G V t read h last (x ∷ xs) rest v g = subst F (sym (append_assoc (t x) (flat_map t xs) rest)) (h.next_follows last x (flat_map t xs ++ rest) v.0)

long : {A : Type 0} (F G : List ℕ → Type 0) (V : Option A → A → Type 0) (t : A → List ℕ) (read : Option A → Reader A) → ReadsEach F G V t read → (last : Option A) (xs : List A) → Chain V last xs → length xs ≤ length (flat_map t xs)
long F G V t read h last [] v = omega arith
long F G V t read h last (x ∷ xs) v = omega (arith, h.some last x v.0, long F G V t read h (Some x) xs v.1, length-append (t x) (flat_map t xs))

-- a value takes some bytes
pub shorter : {A : Type 0} (F G : List ℕ → Type 0) (V : Option A → A → Type 0) (t : A → List ℕ) (read : Option A → Reader A) → ReadsEach F G V t read → (last : Option A) (bytes : List ℕ) (x : A) (rest : List ℕ) → read last bytes ≡ Some (x, rest) → length rest < length bytes
shorter F G V t read h last bytes x rest e =
    let a = (h.each last).takes bytes x rest e in
    omega (arith, h.some last x a.1, ap length a.0, length-append (t x) rest)

many_again : {A : Type 0} (F G : List ℕ → Type 0) (V : Option A → A → Type 0) (t : A → List ℕ) (read : Option A → Reader A) → ReadsEach F G V t read → (n : ℕ) (last : Option A) (xs : List A) (rest : List ℕ) → length xs ≤ n → Chain V last xs → G rest → many_from read last n (flat_map t xs ++ rest) ≡ (xs, rest)
many_again F G V t read h zero last [] rest le v g = refl
many_again F G V t read h (suc n) last [] rest le v g = ap (λ o. more o (λ x. many_from read (Some x) n) rest) (h.ends last rest g)
many_again F G V t read h zero last (x ∷ xs) rest le v g = absurd (omega arith)
many_again {A} F G V t read h (suc n) last (x ∷ xs) rest le v g =
    let follows : F (flat_map t xs ++ rest) = next F G V t read h (Some x) xs rest v.1 g in
    ap (many_from read last (suc n)) (append_assoc (t x) (flat_map t xs) rest)
    ∙ ap (λ o. more o (λ y. many_from read (Some y) n) (t x ++ (flat_map t xs ++ rest))) ((h.each last).again x (flat_map t xs ++ rest) v.0 follows)
    ∙ ap (λ (p : List A × List ℕ). (x ∷ p.0, p.1)) (many_again F G V t read h n (Some x) xs rest (omega arith) v.1 g)

pub many_reads : {A : Type 0} (F G : List ℕ → Type 0) (V : Option A → A → Type 0) (t : A → List ℕ) (read : Option A → Reader A) → ReadsEach F G V t read → Reads G (Chain V None) (flat_map t) (many read)
unfolding many
many_reads {A} F G V t read h = record {
  takes = λ bytes xs rest e.
      let p : many_from read None (length bytes) bytes ≡ (xs, rest) = same_Some _ _ e in
      let a = subst (IsTaken V t None bytes) p (many_takes F G V t read h (length bytes) None bytes) in
      (a.parts, a.valid);
  again = λ xs rest v g.
      let le : length xs ≤ length (flat_map t xs ++ rest) = omega (arith, long F G V t read h None xs v, length-append (flat_map t xs) rest) in
      ap (λ (p : List A × List ℕ). Some p) (many_again F G V t read h (length (flat_map t xs ++ rest)) None xs rest le v g);
}

-- ---- the loop

-- the reader reads just these values, one after another, and then no more
abbrev pub AreRead : {A : Type 0} → (Option A → Reader A) → Option A → List A → List ℕ → List ℕ → Type 0
AreRead read last [] bytes rest = (read last bytes ≡ None) × (bytes ≡ rest)
AreRead read last (x ∷ xs) bytes rest = (mid : List ℕ) × (read last bytes ≡ Some (x, mid)) × AreRead read (Some x) xs mid rest

abbrev pub last_or : {A : Type 0} → Option A → List A → Option A
last_or last [] = last
last_or last (x ∷ xs) = last_or (Some x) xs

pub last_push : {A : Type 0} (last : Option A) (xs : List A) (x : A) → last_or last (xs ++ x ∷ []) ≡ Some x
last_push last [] x = refl
last_push last (y ∷ ys) x = last_push (Some y) ys x

-- the values so far were read, whatever comes behind them
pub record IsReadSoFar {A : Type 0} (read : Option A → Reader A) (bytes : List ℕ) (items : List A) (rest : List ℕ) : Type 0 where
  pub goes_on : (xs : List A) (end : List ℕ) → AreRead read (last_or None items) xs rest end → AreRead read None (items ++ xs) bytes end

pub none_read : {A : Type 0} (read : Option A → Reader A) (bytes : List ℕ) → IsReadSoFar read bytes [] bytes
none_read read bytes = record { goes_on = λ xs end h. h }

pub one_more_read : {A : Type 0} (read : Option A → Reader A) (bytes : List ℕ) (items : List A) (rest : List ℕ) (x : A) (mid : List ℕ) → IsReadSoFar read bytes items rest → read (last_or None items) rest ≡ Some (x, mid) → IsReadSoFar read bytes (items ++ x ∷ []) mid
one_more_read {A} read bytes items rest x mid h e = record {
  goes_on = λ xs end k.
      subst (λ (ys : List A). AreRead read None ys bytes end) (sym (append_assoc items (x ∷ []) xs))
      (h.goes_on (x ∷ xs) end (mid, e, subst (λ last. AreRead read last xs mid end) (last_push None items x) k));
}

from_reads : {A : Type 0} (F G : List ℕ → Type 0) (V : Option A → A → Type 0) (t : A → List ℕ) (read : Option A → Reader A) → ReadsEach F G V t read → (n : ℕ) (last : Option A) (xs : List A) (bytes rest : List ℕ) → length bytes ≤ n → AreRead read last xs bytes rest → many_from read last n bytes ≡ (xs, rest)
from_reads F G V t read h zero last [] bytes rest le a = ap (λ (s : List ℕ). ([], s)) a.1
from_reads F G V t read h (suc n) last [] bytes rest le a = ap (λ o. more o (λ x. many_from read (Some x) n) bytes) a.0 ∙ ap (λ (s : List ℕ). ([], s)) a.1
from_reads F G V t read h zero last (x ∷ xs) bytes rest le a =
    let s = shorter F G V t read h last bytes x a.0 a.1 in absurd (omega arith)
from_reads {A} F G V t read h (suc n) last (x ∷ xs) bytes rest le a =
    let s = shorter F G V t read h last bytes x a.0 a.1 in
    ap (λ o. more o (λ y. many_from read (Some y) n) bytes) a.1
    ∙ ap (λ (p : List A × List ℕ). (x ∷ p.0, p.1)) (from_reads F G V t read h n (Some x) xs a.0 rest (omega arith) a.2)

pub all_read : {A : Type 0} (F G : List ℕ → Type 0) (V : Option A → A → Type 0) (t : A → List ℕ) (read : Option A → Reader A) → ReadsEach F G V t read → (bytes : List ℕ) (items : List A) (rest : List ℕ) → IsReadSoFar read bytes items rest → read (last_or None items) rest ≡ None → many read bytes ≡ Some (items, rest)
unfolding many
all_read {A} F G V t read h bytes items rest so_far e =
    ap (λ (p : List A × List ℕ). Some p) (from_reads F G V t read h (length bytes) None items bytes rest (omega arith)
    (subst (λ (ys : List A). AreRead read None ys bytes rest) (append-nil items) (so_far.goes_on [] rest (e, refl))))
