-- From prefixes whose IRIs are written as names are in a text to the prefixes themselves.
use Rattle.std.proofs.Common.{◌≡◌, ℕ, ◌+◌, ◌<◌, ◌≤◌, Bool, true, false, List, [], ◌∷◌, ◌++◌, map, Contains, length, get_or, drop, refl, sym, ap, ap₂, ◌∙◌, subst, inl, inr, arith}
use Rattle.std.specs.Prelude.{◌==◌, codes}
use Rattle.std.specs.List.{flat_map, list_all}
use Rattle.std.proofs.lemmas.Bool.{and_parts, eqb-true, false_from_ne_true, true≢false}
use Rattle.std.proofs.lemmas.Grind.{flat_map-append}
use Rattle.std.proofs.lemmas.List.{length-append}
use Rattle.answer_texts.specs.Graphs.{escaped, escaped_byte}
use Rattle.fs_lexer.specs.Reading.{is_local_byte}
use Rattle.fs_lexer.specs.Spelling.{IsPrefixName, is_local_name}
use Rattle.fs_parser.specs.Name.{Prefixes}
use Rattle.lemmas.proofs.Mapped.{Contains-map}
use Rattle.short_names.specs.Found.{written_prefixes}
use Rattle.short_names.specs.ShortNames.{IsShortBy, IsShortForm, IsShortened, IsShownName, ended, other, named, unclosed}
use Rattle.short_names.specs.Spellings.{written_in}

abbrev Named : Type 0
Named = List ℕ × List ℕ

-- a local name behind bytes is written as it is
abbrev pub KeepsLocals : (List ℕ → List ℕ) → Type 0
KeepsLocals written = (base local : List ℕ) → is_local_name local ≡ true → written (base ++ local) ≡ written base ++ local

-- ---- graphs

no_local : (b c : ℕ) → is_local_byte b ≡ true → is_local_byte c ≡ false → (b == c) ≡ false
no_local b c h differs = false_from_ne_true _ (λ e. true≢false (sym (subst (λ (x : ℕ). is_local_byte x ≡ true) (eqb-true b c e) h) ∙ differs))

plain_byte : (b : ℕ) → is_local_byte b ≡ true → escaped_byte b ≡ b ∷ []
plain_byte b h = rw (no_local b 34 h refl) (rw (no_local b 92 h refl) (rw (no_local b 38 h refl) refl))

plain_bytes : (bs : List ℕ) → list_all is_local_byte bs ≡ true → escaped bs ≡ bs
plain_bytes [] h = refl
plain_bytes (b ∷ bs) h =
    let parts = and_parts (is_local_byte b) (list_all is_local_byte bs) h in
    ap (λ (xs : List ℕ). xs ++ flat_map escaped_byte bs) (plain_byte b parts.0) ∙ ap (λ xs. b ∷ xs) (plain_bytes bs parts.1)

local_bytes : (bs : List ℕ) → is_local_name bs ≡ true → list_all is_local_byte bs ≡ true
local_bytes [] h = refl
local_bytes (b ∷ bs) h = grind (arith, h)

pub keeps_locals : (graph : Bool) → KeepsLocals (written_in graph)
keeps_locals false base local h = refl
keeps_locals true base local h = flat_map-append escaped_byte base local ∙ ap (λ xs. escaped base ++ xs) (plain_bytes local (local_bytes local h))

-- ---- lists

-- where a mapped list is cut at an element, the list is cut at what is mapped to it
record IsCutAt {X Y : Type 0} (f : X → Y) (xs : List X) (before : List Y) (y : Y) (behind : List Y) : Type 0 where
  front : List X
  at : X
  rest : List X
  xs_are : xs ≡ front ++ at ∷ rest
  front_is : map f front ≡ before
  at_is : f at ≡ y
  rest_is : map f rest ≡ behind

cut_mapped : {X Y : Type 0} (f : X → Y) (xs : List X) (before : List Y) (y : Y) (behind : List Y) → map f xs ≡ before ++ y ∷ behind → IsCutAt f xs before y behind
cut_mapped f [] before y behind e = absurd (omega (arith, ap length e, length-append before (y ∷ behind)))
cut_mapped f (x ∷ xs) [] y behind e = record { front = []; at = x; rest = xs; xs_are = refl; front_is = refl; at_is = ap (λ zs. get_or zs 0 y) e; rest_is = ap (λ zs. drop 1 zs) e }
cut_mapped f (x ∷ xs) (b ∷ before) y behind e =
    let more = cut_mapped f xs before y behind (ap (λ zs. drop 1 zs) e) in record {
      front = x ∷ more.front;
      at = more.at;
      rest = more.rest;
      xs_are = ap (λ zs. x ∷ zs) more.xs_are;
      front_is = ap₂ (λ z zs. z ∷ zs) (ap (λ zs. get_or zs 0 b) e) more.front_is;
      at_is = more.at_is;
      rest_is = more.rest_is;
    }

-- ---- prefixes

module _ (written : List ℕ → List ℕ) (keeps : KeepsLocals written) where
  -- what is short by a prefix is short by the written one, of the written IRI
  short_written : (p : Named) (text iri : List ℕ) → IsShortBy p text iri → IsShortBy (p.0, written p.1) text (written iri)
  short_written p text iri s = record {
    local = s.local;
    text_is = s.text_is;
    iri_is = ap written s.iri_is ∙ keeps p.1 s.local s.local_name;
    prefix_name = s.prefix_name;
    local_name = s.local_name;
  }

  -- of two prefixes by which an IRI is short, the lengths of the written IRIs and of the IRIs themselves are in the same order
  lengths : (p : Named) (text iri : List ℕ) (s : IsShortBy p text iri) → length (written p.1) + length s.local ≡ length (written iri)
  lengths p text iri s = sym (ap length (ap written s.iri_is ∙ keeps p.1 s.local s.local_name) ∙ length-append (written p.1) s.local)

  own_lengths : (p : Named) (text iri : List ℕ) (s : IsShortBy p text iri) → length p.1 + length s.local ≡ length iri
  own_lengths p text iri s = sym (ap length s.iri_is ∙ length-append p.1 s.local)

  form_of_cut : (ps : Prefixes) (inside shown : List ℕ) (form : IsShortForm (written_prefixes written ps) shown inside) → IsCutAt (λ (p : Named). (p.0, written p.1)) ps form.before form.prefix form.behind
      → (iri : List ℕ) × (inside ≡ written iri) × IsShortForm ps shown iri
  form_of_cut ps inside shown form cut =
      let base_is : written cut.at.1 ≡ form.prefix.1 = ap (λ (p : Named). p.1) cut.at_is in
      let iri : List ℕ = cut.at.1 ++ form.short.local in
      let inside_is : inside ≡ written iri = form.short.iri_is ∙ ap (λ (xs : List ℕ). xs ++ form.short.local) (sym base_is) ∙ sym (keeps cut.at.1 form.short.local form.short.local_name) in
      let short : IsShortBy cut.at shown iri = record {
        local = form.short.local;
        text_is = form.short.text_is ∙ ap (λ (p : Named). p.0 ++ codes ":" ++ form.short.local) (sym cut.at_is);
        iri_is = refl;
        prefix_name = subst (λ (p : Named). IsPrefixName (p.0 ++ codes ":")) (sym cut.at_is) form.short.prefix_name;
        local_name = form.short.local_name;
      } in
      let moved : (other : Named) (name : List ℕ) → IsShortBy other name iri → IsShortBy (other.0, written other.1) name inside = λ other name s.
      subst (λ (xs : List ℕ). IsShortBy (other.0, written other.1) name xs) (sym inside_is) (short_written other name iri s) in
      let among : (others : List Named) (now : List Named) → map (λ (p : Named). (p.0, written p.1)) others ≡ now → (other : Named) → Contains others other → Contains now (other.0, written other.1) = λ others now is other c.
      subst (λ (qs : List Named). Contains qs (other.0, written other.1)) is (Contains-map (λ (p : Named). (p.0, written p.1)) others other c) in (
        iri,
        inside_is,
        record {
          before = cut.front;
          prefix = cut.at;
          behind = cut.rest;
          prefixes_are = cut.xs_are;
          short = short;
          longer = λ other name c s.
              let less : length (written other.1) < length form.prefix.1 = form.longer (other.0, written other.1) name (among cut.front form.before cut.front_is other c) (moved other name s) in
              omega (arith, less, lengths other name iri s, own_lengths other name iri s, lengths cut.at shown iri short, own_lengths cut.at shown iri short, ap length base_is);
          as_long = λ other name c s.
              let less : length (written other.1) ≤ length form.prefix.1 = form.as_long (other.0, written other.1) name (among cut.rest form.behind cut.rest_is other c) (moved other name s) in
              omega (arith, less, lengths other name iri s, own_lengths other name iri s, lengths cut.at shown iri short, own_lengths cut.at shown iri short, ap length base_is);
        },
      )

  form_of_written : (ps : Prefixes) (inside shown : List ℕ) → IsShortForm (written_prefixes written ps) shown inside → (iri : List ℕ) × (inside ≡ written iri) × IsShortForm ps shown iri
  form_of_written ps inside shown form = form_of_cut ps inside shown form (cut_mapped (λ (p : Named). (p.0, written p.1)) ps form.before form.prefix form.behind form.prefixes_are)

  shown_of_written : (ps : Prefixes) (inside shown : List ℕ) → IsShownName (written_prefixes written ps) (λ iri. iri) inside shown → IsShownName ps written inside shown
  shown_of_written ps inside shown (inl (iri, e, form)) = inl (form_of_written ps inside shown (subst (λ (xs : List ℕ). IsShortForm (written_prefixes written ps) shown xs) (sym e) form))
  shown_of_written ps inside shown (inr (e, none)) = inr (
    e,
    λ iri is p text c s.
        none inside refl (p.0, written p.1) text (Contains-map _ ps p c) (subst (λ (xs : List ℕ). IsShortBy (p.0, written p.1) text xs) (sym is) (short_written p text iri s)),
  )

  -- a text that is shortened by the written prefixes
  pub text_of_written : (ps : Prefixes) (full short : List ℕ) → IsShortened (written_prefixes written ps) (λ iri. iri) full short → IsShortened ps written full short
  text_of_written ps full short ended = ended
  text_of_written ps full short (other byte plain h) = other byte plain (text_of_written ps _ _ h)
  text_of_written ps full short (named inside shown closed name h) = named inside shown closed (shown_of_written ps inside shown name) (text_of_written ps _ _ h)
  text_of_written ps full short (unclosed rest closed) = unclosed rest closed
