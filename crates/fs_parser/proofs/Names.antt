-- The IRI that a token names: there is one at most, and it can be found.
use Rattle.std.proofs.Common.{◌≡◌, ℕ, List, [], ◌∷◌, ◌++◌, Bool, true, false, Option, Some, None, refl, sym, ap, ◌∙◌, subst, ◌⊎◌, inl, inr, append_assoc}
use Rattle.std.specs.List.{Contains, list_all}
use Rattle.std.specs.Prelude.{codes, ◌||◌, ◌==◌}
use Rattle.std.specs.Char.{is_ascii_alphabetic, is_ascii_digit}
use Rattle.std.proofs.lemmas.Bool.{cases_eq, and_parts}
use Rattle.std.proofs.lemmas.List.{append_cancel_left, append_cancel_right}
use Rattle.std.proofs.lemmas.List.Elements.{Contains-append_right}
use Rattle.std.proofs.lemmas.Option.{none-some, same_Some}
use Rattle.lemmas.proofs.Members.{Contains-first, Contains-later, Contains-cons_cases, Contains-none}
use Rattle.fs_lexer.specs.declared.token.Kind.{Kind}
use Rattle.fs_lexer.specs.declared.token.Kind.TheVariants.{FullIri, ShortName}
use Rattle.fs_lexer.specs.Spelling.{Token, IsPrefixName}
use Rattle.fs_parser.specs.Name.{Prefixes, StandForOne, IsNameOf, IsShort}

-- one that is so, or that none is
pub data Decided (P : List ℕ → Type 0) : Type 0 where
  yes : (x : List ℕ) (holds : P x) → Decided P
  no : (none : (x : List ℕ) → P x → ⊥) → Decided P

abbrev pub option_of : {P : List ℕ → Type 0} → Decided P → Option (List ℕ)
option_of (yes x holds) = Some x
option_of (no none) = None

pub of_option : {P : List ℕ → Type 0} (d : Decided P) (x : List ℕ) → option_of d ≡ Some x → P x
of_option {P} (yes y holds) x e = subst P (same_Some y x e) holds
of_option {P} (no none) x e = absurd (none-some x e)

pub to_option : {P : List ℕ → Type 0} (d : Decided P) (x : List ℕ) → P x → ((y z : List ℕ) → P y → P z → y ≡ z) → option_of d ≡ Some x
to_option {P} (yes y holds) x h one = ap Some (one y x holds h)
to_option {P} (no none) x h one = absurd (none x h)

-- ---- texts

-- what stands behind a prefix
pub behind : (front text : List ℕ) → Decided (λ rest. text ≡ front ++ rest)
behind [] text = yes text refl
behind (a ∷ front) [] = no (λ x e. cc)
behind (a ∷ front) (b ∷ text) =
    elim (cases_eq b a) [
      | inl e ↦ elim (behind front text) [ yes rest h ↦ yes rest (cc) | no none ↦ no (λ rest h. none rest (cc)) ]
      | inr apart ↦ no (λ rest h. apart (cc))
    ]

none_last : (c : ℕ) (front : List ℕ) → [] ≡ front ++ c ∷ [] → ⊥
none_last c [] e = cc
none_last c (b ∷ front) e = cc

one_last : (c b : ℕ) (front : List ℕ) → b ∷ [] ≡ front ++ c ∷ [] → b ≡ c
one_last c b [] e = cc
one_last c b (d ∷ front) e = absurd (none_last c front (cc))

more_last : (c b d : ℕ) (bs : List ℕ) → ((x : List ℕ) → d ∷ bs ≡ x ++ c ∷ [] → ⊥) → (front : List ℕ) → b ∷ d ∷ bs ≡ front ++ c ∷ [] → ⊥
more_last c b d bs none [] e = cc
more_last c b d bs none (f ∷ front) e = none front (cc)

-- what stands before an end of one byte
pub before_last : (c : ℕ) (text : List ℕ) → Decided (λ front. text ≡ front ++ c ∷ [])
before_last c [] = no (none_last c)
before_last c (b ∷ []) =
    elim (cases_eq b c) [ inl e ↦ yes [] (cc) | inr apart ↦ no (λ front e. apart (one_last c b front e)) ]
before_last c (b ∷ d ∷ bs) =
    elim (before_last c (d ∷ bs)) [ yes front h ↦ yes (b ∷ front) (ap (λ (x : List ℕ). b ∷ x) h) | no none ↦ no (more_last c b d bs none) ]

-- ---- prefixes

same_text : (a b : List ℕ) → (a ≡ b) ⊎ (a ≡ b → ⊥)
same_text [] [] = inl refl
same_text [] (b ∷ bs) = inr (λ e. cc)
same_text (a ∷ xs) [] = inr (λ e. cc)
same_text (a ∷ xs) (b ∷ bs) =
    elim (cases_eq a b) [
      | inl e ↦ elim (same_text xs bs) [ inl same ↦ inl (cc) | inr apart ↦ inr (λ h. apart (cc)) ]
      | inr apart ↦ inr (λ h. apart (cc))
    ]

decide_iri : (prefixes : Prefixes) (name : List ℕ) → Decided (λ iri. Contains prefixes (name, iri))
decide_iri [] name = no (λ iri c. Contains-none (name, iri) c)
decide_iri (p ∷ prefixes) name =
    elim (same_text p.0 name) [
      | inl e ↦ yes p.1 (subst (λ (n : List ℕ). Contains (p ∷ prefixes) (n, p.1)) e (Contains-first p prefixes))
      | inr apart ↦ elim (decide_iri prefixes name) [
        | yes iri c ↦ yes iri (Contains-later p (name, iri) prefixes c)
        | no none ↦ no (λ iri c. elim (Contains-cons_cases p (name, iri) prefixes c) [
          | inl e ↦ apart (ap (λ (q : List ℕ × List ℕ). q.0) e)
          | inr d ↦ none iri d
        ])
      ]
    ]

-- ---- the first colon

pub data Split (text : List ℕ) : Type 0 where
  parts : (front after : List ℕ) (is : text ≡ front ++ 58 ∷ after) (free : Contains front 58 → ⊥) → Split text
  whole : (free : Contains text 58 → ⊥) → Split text

free_first : (b : ℕ) (bs : List ℕ) → (b ≡ 58 → ⊥) → (Contains bs 58 → ⊥) → Contains (b ∷ bs) 58 → ⊥
free_first b bs apart free c = elim (Contains-cons_cases b 58 bs c) [ inl e ↦ apart e | inr d ↦ free d ]

split_text : (text : List ℕ) → Split text
split_text [] = whole (λ c. Contains-none 58 c)
split_text (b ∷ bs) =
    elim (cases_eq b 58) [
      | inl e ↦ parts [] bs (cc) (λ c. Contains-none 58 c)
      | inr apart ↦ elim (split_text bs) [
        | parts front after is free ↦ parts (b ∷ front) after (ap (λ (x : List ℕ). b ∷ x) is) (free_first b front apart free)
        | whole free ↦ whole (free_first b bs apart free)
      ]
    ]

pub same_front : (a b x y : List ℕ) → (Contains a 58 → ⊥) → (Contains b 58 → ⊥) → a ++ 58 ∷ x ≡ b ++ 58 ∷ y → a ≡ b
same_front [] [] x y f g e = refl
same_front [] (b ∷ bs) x y f g e = absurd (g (subst (λ (n : ℕ). Contains (n ∷ bs) 58) (let k : 58 ≡ b = cc in k) (Contains-first 58 bs)))
same_front (a ∷ xs) [] x y f g e = absurd (f (subst (λ (n : ℕ). Contains (n ∷ xs) 58) (let k : 58 ≡ a = cc in k) (Contains-first 58 xs)))
same_front (a ∷ xs) (b ∷ bs) x y f g e =
    let k : xs ≡ bs = same_front xs bs x y (λ c. f (Contains-later a 58 xs c)) (λ c. g (Contains-later b 58 bs c)) (cc) in cc

-- where the text of a short name ends at its first colon
pub short_parts : (prefixes : Prefixes) (text iri : List ℕ) (h : IsShort prefixes text iri) → text ≡ h.prefix ++ 58 ∷ h.local
short_parts prefixes text iri h = h.text_is ∙ append_assoc h.prefix (58 ∷ []) h.local

pub decide_short : (prefixes : Prefixes) (text : List ℕ) → Decided (IsShort prefixes text)
decide_short prefixes text =
    elim (split_text text) [
      | parts front after is free ↦ elim (decide_iri prefixes front) [
        | yes base c ↦ yes (base ++ after) (record { prefix = front; base = base; local = after; text_is = is ∙ sym (append_assoc front (58 ∷ []) after); no_colon = free; declared = c; iri_is = refl })
        | no none ↦ no (λ iri h.
            let e : front ≡ h.prefix = same_front front h.prefix after h.local free h.no_colon (sym is ∙ short_parts prefixes text iri h) in
            none h.base (subst (λ (n : List ℕ). Contains prefixes (n, h.base)) (sym e) h.declared))
      ]
      | whole free ↦ no (λ iri h. free (subst (λ (x : List ℕ). Contains x 58) (sym (short_parts prefixes text iri h)) (Contains-append_right h.prefix (58 ∷ h.local) 58 (Contains-first 58 h.local))))
    ]

pub decide_full : (text : List ℕ) → Decided (λ iri. text ≡ codes "<" ++ iri ++ codes ">")
decide_full text =
    elim (behind (codes "<") text) [
      | yes rest h ↦ elim (before_last 62 rest) [
        | yes iri k ↦ yes iri (h ∙ ap (λ (r : List ℕ). codes "<" ++ r) k)
        | no none ↦ no (λ iri e. none iri (append_cancel_left (codes "<") rest (iri ++ codes ">") (sym h ∙ e)))
      ]
      | no none ↦ no (λ iri e. none (iri ++ codes ">") e)
    ]

decide_kind : (prefixes : Prefixes) (t : Token) (kind : Kind) → t.kind ≡ kind → Decided (IsNameOf prefixes t)
decide_kind prefixes t FullIri e =
    elim (decide_full t.text) [
      | yes iri h ↦ yes iri (inl (e, h))
      | no none ↦ no (λ iri x. elim x [ inl a ↦ none iri a.1 | inr b ↦ absurd (let f : t.kind ≡ ShortName = b.0 in cc) ])
    ]
decide_kind prefixes t ShortName e =
    elim (decide_short prefixes t.text) [
      | yes iri h ↦ yes iri (inr (e, h))
      | no none ↦ no (λ iri x. elim x [ inl a ↦ absurd (let f : t.kind ≡ FullIri = a.0 in cc) | inr b ↦ none iri b.1 ])
    ]
decide_kind prefixes t _ e =
    no (λ iri x. elim x [ inl a ↦ absurd (let f : t.kind ≡ FullIri = a.0 in cc) | inr b ↦ absurd (let f : t.kind ≡ ShortName = b.0 in cc) ])

pub name_of : Prefixes → Token → Option (List ℕ)
name_of prefixes t = option_of (decide_kind prefixes t t.kind refl)

-- ---- there is one at most

free_by : (test : ℕ → Bool) → test 58 ≡ false → (bs : List ℕ) → list_all test bs ≡ true → Contains bs 58 → ⊥
free_by test off [] h c = Contains-none 58 c
free_by test off (b ∷ bs) h c =
    let parts = and_parts (test b) (list_all test bs) h in
    free_first b bs (λ e. absurd (let k : false ≡ true = sym off ∙ sym (ap test e) ∙ parts.0 in cc)) (free_by test off bs parts.1) c

-- the name of a prefix, as the lexer has it, holds no colon but the one at its end
pub ends_at_colon : (text : List ℕ) → IsPrefixName text → (name : List ℕ) × (text ≡ name ++ codes ":") × (Contains name 58 → ⊥)
ends_at_colon text (inl e) = ([], e, λ c. Contains-none 58 c)
ends_at_colon text (inr h) = (
  h.0 ∷ h.1,
  h.2,
  free_first h.0 h.1 (λ e. absurd (let k : false ≡ true = sym (ap is_ascii_alphabetic e) ∙ h.3 in cc)) (free_by (λ c. is_ascii_alphabetic c || is_ascii_digit c || c == 95 || c == 45) refl h.1 h.4),
)

pub one_short : (prefixes : Prefixes) → StandForOne prefixes → (text a b : List ℕ) → IsShort prefixes text a → IsShort prefixes text b → a ≡ b
one_short prefixes are text a b h k =
    let e : h.prefix ++ 58 ∷ h.local ≡ k.prefix ++ 58 ∷ k.local = sym (short_parts prefixes text a h) ∙ short_parts prefixes text b k in
    let p : h.prefix ≡ k.prefix = same_front h.prefix k.prefix h.local k.local h.no_colon k.no_colon e in
    let l : 58 ∷ h.local ≡ 58 ∷ k.local = append_cancel_left h.prefix (58 ∷ h.local) (58 ∷ k.local) (e ∙ ap (λ (z : List ℕ). z ++ 58 ∷ k.local) (sym p)) in
    let m : h.local ≡ k.local = cc in
    let base : h.base ≡ k.base = are h.prefix h.base k.base h.declared (subst (λ (z : List ℕ). Contains prefixes (z, k.base)) (sym p) k.declared) in
    h.iri_is ∙ ap (λ (z : List ℕ). z ++ h.local) base ∙ ap (λ (z : List ℕ). k.base ++ z) m ∙ sym k.iri_is

pub one_name : (prefixes : Prefixes) → StandForOne prefixes → (t : Token) (a b : List ℕ) → IsNameOf prefixes t a → IsNameOf prefixes t b → a ≡ b
one_name prefixes are t a b (inl h) (inl k) = append_cancel_right a b (codes ">") (append_cancel_left (codes "<") (a ++ codes ">") (b ++ codes ">") (sym h.1 ∙ k.1))
one_name prefixes are t a b (inl h) (inr k) = absurd (let e : t.kind ≡ FullIri = h.0 in let f : t.kind ≡ ShortName = k.0 in cc)
one_name prefixes are t a b (inr h) (inl k) = absurd (let e : t.kind ≡ ShortName = h.0 in let f : t.kind ≡ FullIri = k.0 in cc)
one_name prefixes are t a b (inr h) (inr k) = one_short prefixes are t.text a b h.1 k.1

pub name_is : (prefixes : Prefixes) (t : Token) (iri : List ℕ) → name_of prefixes t ≡ Some iri → IsNameOf prefixes t iri
unfolding name_of
name_is prefixes t iri e = of_option (decide_kind prefixes t t.kind refl) iri e

pub name_found : (prefixes : Prefixes) → StandForOne prefixes → (t : Token) (iri : List ℕ) → IsNameOf prefixes t iri → name_of prefixes t ≡ Some iri
unfolding name_of
name_found prefixes are t iri h = to_option (decide_kind prefixes t t.kind refl) iri h (one_name prefixes are t)

pub name_none : (prefixes : Prefixes) (t : Token) → ((iri : List ℕ) → IsNameOf prefixes t iri → ⊥) → name_of prefixes t ≡ None
unfolding name_of
name_none prefixes t none = go (decide_kind prefixes t t.kind refl)
  where
    go : (d : Decided (IsNameOf prefixes t)) → option_of d ≡ None
    go (yes iri h) = absurd (none iri h)
    go (no never) = refl
