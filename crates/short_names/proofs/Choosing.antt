-- The short form by the first prefix with the longest IRI, one prefix after the other.
use Rattle.std.proofs.Common.{◌≡◌, ℕ, ◌+◌, ◌<◌, ◌≤◌, Bool, true, false, List, [], ◌∷◌, ◌++◌, Contains, length, get_or, take, Option, Some, None, refl, sym, ap, ◌∙◌, subst, inl, inr, ◌⊎◌, leb-true, leb-false, arith}
use Rattle.std.specs.Prelude.{codes, if◌then◌else◌, nat_le}
use Rattle.std.proofs.lemmas.List.{append_assoc, length-append, map-append, take_more}
use Rattle.std.proofs.lemmas.List.Elements.{Contains-append_cases, Contains-push_cases}
use Rattle.fs_parser.specs.Name.{Prefixes}
use Rattle.lemmas.proofs.Members.{Contains-cons_cases, Contains-none}
use Rattle.short_names.specs.Found.{AppendsShown, IsFound, IsLocalIn, pair_of, pairs_of, short_text, shortest, shown_text}
use Rattle.short_names.specs.ShortNames.{HasNoShort, IsShortBy, IsShortForm}
use Rattle.short_names.specs.declared.finding.ShortName.{ShortName}
use Rattle.short_names.specs.declared.finding.WrittenPrefix.{WrittenPrefix}

abbrev Named : Type 0
Named = List ℕ × List ℕ

-- how long the IRI of a prefix and the local name are together
lengths : (p : Named) (text iri : List ℕ) → (s : IsShortBy p text iri) → length p.1 + length s.local ≡ length iri
lengths p text iri s = sym (ap length s.iri_is ∙ length-append p.1 s.local)

-- one prefix more, by which the IRI has no form with a longer IRI
extended : (ps : Prefixes) (p : Named) (text iri : List ℕ) (form : IsShortForm ps text iri) → ((name : List ℕ) → IsShortBy p name iri → length p.1 ≤ length form.prefix.1)
    → (more : IsShortForm (ps ++ p ∷ []) text iri) × (more.short.local ≡ form.short.local)
extended ps p text iri form short = (
  record {
    before = form.before;
    prefix = form.prefix;
    behind = form.behind ++ p ∷ [];
    prefixes_are = ap (λ (qs : Prefixes). qs ++ p ∷ []) form.prefixes_are ∙ append_assoc form.before (form.prefix ∷ form.behind) (p ∷ []);
    short = form.short;
    longer = form.longer;
    as_long = λ other name c s. go other name s (Contains-push_cases form.behind p other c);
  },
  refl,
)
  where
    go : (other : Named) (name : List ℕ) → IsShortBy other name iri → Contains form.behind other ⊎ (p ≡ other) → length other.1 ≤ length form.prefix.1
    go other name s (inl c) = form.as_long other name c s
    go other name s (inr e) = subst (λ (q : Named). length q.1 ≤ length form.prefix.1) e (short name (subst (λ (q : Named). IsShortBy q name iri) (sym e) s))

-- all forms by these prefixes have shorter IRIs than the prefix that comes behind them
abbrev AreShorter : Prefixes → (iri : List ℕ) → Named → Type 0
AreShorter ps iri p = (other : Named) (name : List ℕ) → Contains ps other → IsShortBy other name iri → length other.1 < length p.1

-- the prefix is the first with the longest IRI, behind shorter ones
replaced : (ps : Prefixes) (p : Named) (iri local : List ℕ) → IsLocalIn p iri local → AreShorter ps iri p
    → (more : IsShortForm (ps ++ p ∷ []) (p.0 ++ codes ":" ++ local) iri) × (more.short.local ≡ local)
replaced ps p iri local there shorter = (
  record {
    before = ps;
    prefix = p;
    behind = [];
    prefixes_are = refl;
    short = there.0;
    longer = shorter;
    as_long = λ other name c s. absurd (Contains-none other c);
  },
  there.1,
)

-- the forms by these are not longer than the best, and that is shorter
behind_best : (ps : Prefixes) (p : Named) (text iri : List ℕ) (form : IsShortForm ps text iri) → length form.prefix.1 < length p.1 → AreShorter ps iri p
behind_best ps p text iri form less other name c s = go (Contains-append_cases form.before (form.prefix ∷ form.behind) other (subst (λ (qs : Prefixes). Contains qs other) form.prefixes_are c))
  where
    later : (form.prefix ≡ other) ⊎ Contains form.behind other → length other.1 < length p.1
    later (inl e) = subst (λ (q : Named). length q.1 < length p.1) e less
    later (inr c) = let l : length other.1 ≤ length form.prefix.1 = form.as_long other name c s in omega (arith, less)

    go : Contains form.before other ⊎ Contains (form.prefix ∷ form.behind) other → length other.1 < length p.1
    go (inl c) = let l : length other.1 < length form.prefix.1 = form.longer other name c s in omega (arith, less)
    go (inr c) = later (Contains-cons_cases form.prefix other form.behind c)

-- ---- one prefix more

-- by which the name has no short form
pub without : (ps : Prefixes) (p : Named) (inside : List ℕ) (best : Option ShortName) → ((text : List ℕ) → IsShortBy p text inside → ⊥) → IsFound ps inside best → IsFound (ps ++ p ∷ []) inside best
without ps p inside None none h = λ other text c s. go other text s (Contains-push_cases ps p other c)
  where
    go : (other : Named) (text : List ℕ) → IsShortBy other text inside → Contains ps other ⊎ (p ≡ other) → ⊥
    go other text s (inl c) = h other text c s
    go other text s (inr e) = none text (subst (λ (q : Named). IsShortBy q text inside) (sym e) s)
without ps p inside (Some s) none h = let more = extended ps p (short_text s) inside h.0 (λ name short. absurd (none name short)) in (more.0, more.1 ∙ h.1)

-- by which the local name is not shorter
kept : (ps : Prefixes) (p : Named) (inside local : List ℕ) (best : ShortName) → IsLocalIn p inside local → length best.local.now ≤ length local → IsFound ps inside (Some best) → IsFound (ps ++ p ∷ []) inside (Some best)
kept ps p inside local best there less h =
    let old = lengths h.0.prefix (short_text best) inside h.0.short in
    let local_is = ap length h.1 in
    let more = extended ps p (short_text best) inside h.0 (λ name s.
    let new = lengths p (p.0 ++ codes ":" ++ local) inside there.0 in omega (arith, less, old, new, local_is, ap length there.1)) in
    (more.0, more.1 ∙ h.1)

-- behind prefixes by which the name has no short form
first_found : (ps : Prefixes) (p : Named) (inside local : List ℕ) → IsLocalIn p inside local → IsFound ps inside None
    → (more : IsShortForm (ps ++ p ∷ []) (p.0 ++ codes ":" ++ local) inside) × (more.short.local ≡ local)
first_found ps p inside local there none = replaced ps p inside local there (λ other name c s. absurd (none other name c s))

-- by which the local name is shorter
better_found : (ps : Prefixes) (p : Named) (inside local : List ℕ) (best : ShortName) → IsLocalIn p inside local → length local < length best.local.now → IsFound ps inside (Some best)
    → (more : IsShortForm (ps ++ p ∷ []) (p.0 ++ codes ":" ++ local) inside) × (more.short.local ≡ local)
better_found ps p inside local best there less h =
    let old = lengths h.0.prefix (short_text best) inside h.0.short in
    let new = lengths p (p.0 ++ codes ":" ++ local) inside there.0 in
    replaced ps p inside local there (behind_best ps p (short_text best) inside h.0 (omega (arith, less, old, new, ap length h.1, ap length there.1)))

-- by which the name has this local name
pub found_one : (ps : Prefixes) (base inside : List ℕ) (best : Option ShortName) (found : ShortName) → IsLocalIn (found.prefix.now, base) inside found.local.now → IsFound ps inside best
    → IsFound (ps ++ (found.prefix.now, base) ∷ []) inside (Some (shortest best found))
found_one ps base inside None found there h = first_found ps (found.prefix.now, base) inside found.local.now there h
found_one ps base inside (Some best) found there h = go (nat_le (length best.local.now) (length found.local.now)) refl
  where
    go : (t : Bool) → nat_le (length best.local.now) (length found.local.now) ≡ t → IsFound (ps ++ (found.prefix.now, base) ∷ []) inside (Some (if t then best else found))
    go true e = kept ps (found.prefix.now, base) inside found.local.now best there (leb-true _ _ e) h
    go false e = better_found ps (found.prefix.now, base) inside found.local.now best there (leb-false _ _ e) h

-- ---- all prefixes

-- one prefix more of a list
pub found_more : (qs : List WrittenPrefix) (k : ℕ) (p : WrittenPrefix) (inside : List ℕ) (best : Option ShortName) → k < length qs → p ≡ get_or qs k p → IsFound (pairs_of (take k qs) ++ pair_of p ∷ []) inside best
    → IsFound (pairs_of (take (k + 1) qs)) inside best
found_more qs k p inside best l e h =
    subst (λ (ps : Prefixes). IsFound ps inside best)
    (sym (map-append pair_of (take k qs) (p ∷ [])) ∙ ap pairs_of (ap (λ (q : WrittenPrefix). take k qs ++ q ∷ []) e ∙ sym (take_more qs k p l))) h

-- what is shown of the name
pub appended : (ps : Prefixes) (inside old new : List ℕ) (found : Option ShortName) → IsFound ps inside found → new ≡ old ++ shown_text inside found → AppendsShown ps inside old new
appended ps inside old new (Some s) h e = (short_text s, inl (inside, refl, h.0), e)
appended ps inside old new None h e = (codes "<" ++ inside ++ codes ">", inr (refl, λ iri is. subst (λ (xs : List ℕ). HasNoShort ps xs) is h), e)
