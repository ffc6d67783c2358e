-- What stays of a text, and where its first name stands.
use Rattle.std.proofs.Common.{◌≡◌, ℕ, zero, suc, ◌+◌, ◌<◌, true, false, List, [], ◌∷◌, ◌++◌, Contains, length, get_or, take, drop, Some, None, refl, sym, ap, ◌∙◌, subst, inl, inr, ◌⊎◌, arith}
use Rattle.std.proofs.lemmas.Bool.{eq-eqb, eqb-true, true≢false}
use Rattle.std.proofs.lemmas.List.{append_assoc}
use Rattle.std.specs.Prelude.{◌==◌}
use Rattle.memchr.specs.Find.{IsFirstByte, is_byte}
use Rattle.fs_lexer.proofs.Searches.{NoneBefore, found_first, found_none}
use Rattle.fs_parser.specs.Name.{Prefixes}
use Rattle.lemmas.proofs.Members.{Contains-cons_cases, Contains-first, Contains-later, Contains-none}
use Rattle.short_names.specs.Found.{IsCut, Stays}
use Rattle.short_names.specs.ShortNames.{IsShortened, IsShownName, ended, other, named, unclosed}

-- ---- a search for a byte

-- what stands before the first place of a byte does not hold it
none_in : (b : ℕ) (bytes : List ℕ) (k : ℕ) → NoneBefore (is_byte b) bytes k → Contains (take k bytes) b → ⊥
none_in b bytes zero n c = Contains-none b c
none_in b [] (suc k) n c = Contains-none b c
none_in b (x ∷ bs) (suc k) n c = go (Contains-cons_cases x b (take k bs) c) (none_in b bs k (λ j h. n (suc j) (omega arith)))
  where
    go : (x ≡ b) ⊎ Contains (take k bs) b → (Contains (take k bs) b → ⊥) → ⊥
    go (inl e) later = let same : (x == b) ≡ true = eq-eqb x b e in let differs : (x == b) ≡ false = n 0 (omega arith) in true≢false (sym same ∙ differs)
    go (inr c) later = later c

-- a list around one of its places
around : (b : ℕ) (bytes : List ℕ) (k : ℕ) → k < length bytes → is_byte b (get_or bytes k 0) ≡ true → bytes ≡ take k bytes ++ b ∷ drop (suc k) bytes
around b [] k l e = absurd (omega arith)
around b (x ∷ bs) zero l e = ap (λ y. y ∷ bs) (eqb-true x b e)
around b (x ∷ bs) (suc k) l e = ap (λ ys. x ∷ ys) (around b bs k (omega arith) e)

next : (k : ℕ) → suc k ≡ k + 1
next k = omega arith

pub record IsAround (b : ℕ) (bytes : List ℕ) (k : ℕ) : Type 0 where
  pub within : k < length bytes
  pub is : bytes ≡ take k bytes ++ b ∷ drop (k + 1) bytes
  pub before : Contains (take k bytes) b → ⊥

pub found_around : (b : ℕ) (bytes : List ℕ) (k : ℕ) → IsFirstByte (is_byte b) bytes (Some k) → IsAround b bytes k
found_around b bytes k h =
    let f = found_first (is_byte b) bytes k h in
    record { within = f.0; is = around b bytes k f.0 f.1 ∙ ap (λ n. take k bytes ++ b ∷ drop n bytes) (next k); before = none_in b bytes k f.2 }

take_all : (bytes : List ℕ) → take (length bytes) bytes ≡ bytes
take_all [] = refl
take_all (b ∷ bs) = ap (λ xs. b ∷ xs) (take_all bs)

pub found_nowhere : (b : ℕ) (bytes : List ℕ) → IsFirstByte (is_byte b) bytes None → Contains bytes b → ⊥
found_nowhere b bytes h c = none_in b bytes (length bytes) (found_none (is_byte b) bytes h) (subst (λ (xs : List ℕ). Contains xs b) (sym (take_all bytes)) c)

-- ---- what stays

-- bytes without < in front stay
pub plain_front : (ps : Prefixes) (written : List ℕ → List ℕ) (front full short : List ℕ) → (Contains front 60 → ⊥) → IsShortened ps written full short → IsShortened ps written (front ++ full) (front ++ short)
plain_front ps written [] full short plain h = h
plain_front ps written (b ∷ bs) full short plain h =
    other b (λ e. plain (subst (λ (x : ℕ). Contains (x ∷ bs) 60) (sym e) (Contains-first 60 bs))) (plain_front ps written bs full short (λ c. plain (Contains-later b 60 bs c)) h)

append_none : (xs : List ℕ) → xs ++ [] ≡ xs
append_none [] = refl
append_none (x ∷ xs) = ap (λ ys. x ∷ ys) (append_none xs)

pub stays_plain : (text : List ℕ) → (Contains text 60 → ⊥) → Stays text
stays_plain text plain = λ ps written. subst (λ (t : List ℕ). IsShortened ps written t t) (append_none text) (plain_front ps written text [] [] plain ended)

pub stays_unclosed : (text : List ℕ) (k : ℕ) → IsAround 60 text k → (Contains (drop (k + 1) text) 62 → ⊥) → Stays text
stays_unclosed text k a closed = λ ps written.
    subst (λ (t : List ℕ). IsShortened ps written t t) (sym a.is) (plain_front ps written (take k text) (60 ∷ drop (k + 1) text) (60 ∷ drop (k + 1) text) a.before (unclosed (drop (k + 1) text) closed))

-- ---- the first name

pub cut_at : (text rest : List ℕ) (k l : ℕ) → IsAround 60 text k → rest ≡ drop (k + 1) text → IsAround 62 rest l → IsCut text (take k text) (take l rest) (drop (l + 1) rest)
cut_at text rest k l a e b = record {
  is = a.is ∙ ap (λ xs. take k text ++ 60 ∷ xs) (sym e ∙ b.is)
      ∙ grind (arith, append_assoc (take k text ++ 60 ∷ take l rest) (62 ∷ []) (drop (l + 1) rest), append_assoc (take k text) (60 ∷ []) (take l rest), append_assoc (take k text) (60 ∷ take l rest) (62 ∷ drop (l + 1) rest));
  plain = a.before;
  closed = b.before;
}

-- a text whose first name is shown, and whose rest is shortened
pub cut_shortened : (ps : Prefixes) (written : List ℕ → List ℕ) (text front inside behind shown short : List ℕ) → IsCut text front inside behind → IsShownName ps written inside shown
    → IsShortened ps written behind short → IsShortened ps written text (front ++ (shown ++ short))
cut_shortened ps written text front inside behind shown short cut name h =
    subst (λ (t : List ℕ). IsShortened ps written t (front ++ (shown ++ short)))
    (grind (arith, sym cut.is, append_assoc (front ++ 60 ∷ inside) (62 ∷ []) behind, append_assoc front (60 ∷ []) inside, append_assoc front (60 ∷ inside) (62 ∷ behind), append_assoc inside (62 ∷ []) behind))
    (plain_front ps written front (60 ∷ (inside ++ 62 ∷ [] ++ behind)) (shown ++ short) cut.plain (named inside shown cut.closed name h))

-- what is written behind one another
pub regrouped : (old front shown short mid new : List ℕ) → mid ≡ old ++ front → new ≡ mid ++ shown → old ++ (front ++ (shown ++ short)) ≡ new ++ short
regrouped old front shown short mid new e f =
    sym (ap (λ (xs : List ℕ). xs ++ short) (f ∙ ap (λ (xs : List ℕ). xs ++ shown) e) ∙ append_assoc (old ++ front) shown short ∙ append_assoc old front (shown ++ short))
