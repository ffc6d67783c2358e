-- The index of the prefixes that were declared.
use Rattle.std.proofs.Common.{◌≡◌, ℕ, List, [], ◌∷◌, ◌++◌, Bool, true, false, if◌then◌else◌, Option, Some, None, Bor, refl, sym, ap, ◌∙◌, subst, inl, inr}
use Rattle.std.specs.BTreeMap.{BTreeMap, get_by, UpdatesBy}
use Rattle.std.specs.Cmp.Lexicographic.{slice_cmp}
use Rattle.std.specs.List.{Contains}
use Rattle.std.specs.Option.{IfSome, IfNone}
use Rattle.std.specs.Ordering.{nat_cmp}
use Rattle.std.specs.Prelude.{option_map}
use Rattle.std.specs.Str.{bytes_eq}
use Rattle.std.proofs.lemmas.Map.Text.{btree_map_updates_str}
use Rattle.std.proofs.lemmas.Option.{none-some, same_Some}
use Rattle.lemmas.proofs.Members.{Contains-first, Contains-later, Contains-cons_cases, Contains-none}
use Rattle.fs_parser.specs.Index.{iri_at, or_first, last_iri}
use Rattle.fs_parser.specs.Name.{Prefixes}
use Rattle.fs_parser.proofs.Steps.{same_bytes, other_bytes}

-- ---- one more prefix

or_first-if : (q : List ℕ × List ℕ) (name iri : List ℕ) (o : Option (List ℕ)) (b : Bool) → or_first q name (if b then Some iri else o) ≡ (if b then Some iri else or_first q name o)
or_first-if q name iri o true = refl
or_first-if q name iri o false = refl

last_iri-push : (ps : Prefixes) (p : List ℕ × List ℕ) (name : List ℕ) → last_iri (ps ++ p ∷ []) name ≡ (if bytes_eq p.0 name then Some p.1 else last_iri ps name)
last_iri-push [] p name = refl
last_iri-push (q ∷ ps) p name = ap (or_first q name) (last_iri-push ps p name) ∙ or_first-if q name p.1 (last_iri ps name) (bytes_eq p.0 name)

option_map-if : (iri : Bor (List ℕ)) (o : Option (Bor (List ℕ))) (b : Bool) → option_map (λ i. i.now) (if b then Some iri else o) ≡ (if b then Some iri.now else option_map (λ i. i.now) o)
option_map-if iri o true = refl
option_map-if iri o false = refl

pub indexed_more : (m n : BTreeMap (Bor (List ℕ)) (Bor (List ℕ))) (ps : Prefixes) (key iri : Bor (List ℕ)) → UpdatesBy (λ x y. slice_cmp nat_cmp x.now y.now) (λ k. slice_cmp nat_cmp key.now k.now) m n (Some iri)
    → ((name : List ℕ) → iri_at m name ≡ last_iri ps name) → (name : List ℕ) → iri_at n name ≡ last_iri (ps ++ (key.now, iri.now) ∷ []) name
indexed_more m n ps key iri u h name =
    let old = get_by (λ k. slice_cmp nat_cmp name k.now) m in
    ap (option_map (λ i. i.now)) (btree_map_updates_str key.now m n (Some iri) u name)
    ∙ option_map-if iri old (bytes_eq key.now name)
    ∙ ap (λ (o : Option (List ℕ)). if bytes_eq key.now name then Some iri.now else o) (h name)
    ∙ sym (last_iri-push ps (key.now, iri.now) name)

-- ---- what is found

last_some : (ps : Prefixes) (name iri : List ℕ) → last_iri ps name ≡ Some iri → Contains ps (name, iri)
last_some [] name iri e = absurd (none-some iri e)
last_some (p ∷ ps) name iri e = go (λ x k. last_some ps name x k) (last_iri ps name) refl (bytes_eq p.0 name) refl e
  where
    go : ((x : List ℕ) → last_iri ps name ≡ Some x → Contains ps (name, x)) → (o : Option (List ℕ)) → last_iri ps name ≡ o → (b : Bool) → bytes_eq p.0 name ≡ b
        → or_first p name o ≡ Some iri → Contains (p ∷ ps) (name, iri)
    go later (Some x) k b t f = Contains-later p (name, iri) ps (later iri (k ∙ f))
    go later None k true t f =
        let same : p.0 ≡ name = same_bytes p.0 name true (sym t) refl in
        let g : p.1 ≡ iri = same_Some p.1 iri (ap (λ (c : Bool). if c then Some p.1 else None) (sym t) ∙ f) in
        subst (λ (q : List ℕ × List ℕ). Contains (p ∷ ps) q) (ap (λ (n : List ℕ). (n, p.1)) same ∙ ap (λ (i : List ℕ). (name, i)) g) (Contains-first p ps)
    go later None k false t f = absurd (none-some iri (ap (λ (c : Bool). if c then Some p.1 else None) (sym t) ∙ f))

last_none : (ps : Prefixes) (name : List ℕ) → last_iri ps name ≡ None → (iri : List ℕ) → Contains ps (name, iri) → ⊥
last_none [] name e iri c = Contains-none (name, iri) c
last_none (p ∷ ps) name e iri c = go (λ k. last_none ps name k iri) (last_iri ps name) refl (bytes_eq p.0 name) refl e
  where
    go : (last_iri ps name ≡ None → Contains ps (name, iri) → ⊥) → (o : Option (List ℕ)) → last_iri ps name ≡ o → (b : Bool) → bytes_eq p.0 name ≡ b → or_first p name o ≡ None → ⊥
    go later (Some x) k b t f = none-some x (sym f)
    go later None k true t f = none-some p.1 (sym f ∙ ap (λ (c : Bool). if c then Some p.1 else None) t)
    go later None k false t f =
        elim (Contains-cons_cases p (name, iri) ps c) [
          | inl same ↦ other_bytes p.0 name false (sym t) refl (ap (λ (q : List ℕ × List ℕ). q.0) same)
          | inr d ↦ later k d
        ]

pub found_some : (ps : Prefixes) (name : List ℕ) (r : Option (Bor (List ℕ))) → option_map (λ i. i.now) r ≡ last_iri ps name → IfSome r (λ iri. Contains ps (name, iri.now))
found_some ps name None e = tt
found_some ps name (Some iri) e = last_some ps name iri.now (sym e)

pub found_none : (ps : Prefixes) (name : List ℕ) (r : Option (Bor (List ℕ))) → option_map (λ i. i.now) r ≡ last_iri ps name → IfNone r ((iri : List ℕ) → Contains ps (name, iri) → ⊥)
found_none ps name None e = last_none ps name (sym e)
found_none ps name (Some iri) e = tt
