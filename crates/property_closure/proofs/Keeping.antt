-- What a closure keeps of its forms, as they grow.
use Rattle.std.proofs.Common.{◌≡◌, ◌↔◌, ℕ, ◌<◌, ◌≤◌, inl, inr, Bool, true, List, [], ◌∷◌, ◌++◌, length, get_or, Contains, slice_get, Some, refl, sym, ap, ap₂, ◌∙◌, subst, subst₂, arith}
use Rattle.std.specs.List.{All, AllPairs}
use Rattle.std.proofs.lemmas.Bool.{cases_lt}
use Rattle.std.proofs.lemmas.List.{get_or_past}
use Rattle.std.proofs.lemmas.List.Elements.{All-contains}
use Rattle.lemmas.proofs.Members.{Contains-first, Contains-one}
use Rattle.lemmas.proofs.Places.{slice_get_there}
use Rattle.normal_forms.specs.declared.forms.PropId2.{PropId2}
use Rattle.normal_forms.specs.declared.forms.PropId2.TheVariants.{Property, Partial}
use Rattle.normal_forms.specs.declared.forms.Form.{Form}
use Rattle.normal_forms.specs.declared.forms.Form.TheVariants.{N5, N6, N7}
use Rattle.normal_forms.specs.Properties.{ComesBefore, IsAtOrBelow, IsPropertyOf, IsPropertyFormOf, IsReflexive, same, step}
use Rattle.number_sets.specs.Members.{has}
use Rattle.number_sets.specs.Pieces.{list_at}
use Rattle.property_closure.specs.declared.chains.Chains.{Chains}
use Rattle.property_closure.specs.declared.related.Related.{Related}
use Rattle.property_closure.specs.Relations.{as_id, as_property, Tells, AreReflexiveWithin}
use Rattle.property_closure.specs.Chains.{AreChains, AreChainsWithin, chains_at}
use Rattle.property_closure.specs.Growth.{AreSupers, lists_of}
use Rattle.property_closure.specs.PropertyClosures.{IsRelated, IsSame}
use Rattle.property_closure.proofs.Reflexives.{number_of}

-- ---- what forms name

pub reflexive_within : (n m : ℕ) (forms : List Form) → All (IsPropertyFormOf n m) forms → AreReflexiveWithin n forms
reflexive_within n m forms all r c = All-contains (IsPropertyFormOf n m) forms (N7 (as_id r)) all c

pub chains_within : (n m : ℕ) (forms : List Form) → All (IsPropertyFormOf n m) forms → AreChainsWithin n m forms
chains_within n m forms all p c h = (All-contains (IsPropertyFormOf n m) forms (N6 p c.0 c.1) all h).0

property_wider : (n m n' m' : ℕ) (p : PropId2) → n ≤ n' → m ≤ m' → IsPropertyOf n m p → IsPropertyOf n' m' p
property_wider n m n' m' (Property p) a b h = omega arith
property_wider n m n' m' (Partial k) a b h = omega arith

form_wider : (n m n' m' : ℕ) (form : Form) → n ≤ n' → m ≤ m' → IsPropertyFormOf n m form → IsPropertyFormOf n' m' form
form_wider n m n' m' (N5 r s) a b h = (omega (arith, h.0), omega (arith, h.1))
form_wider n m n' m' (N6 r s t) a b h = (property_wider n m n' m' r a b h.0, property_wider n m n' m' s a b h.1, property_wider n m n' m' t a b h.2)
form_wider n m n' m' (N7 r) a b h = omega arith
form_wider n m n' m' _ a b h = tt

pub all_wider : (n m n' m' : ℕ) (forms : List Form) → n ≤ n' → m ≤ m' → All (IsPropertyFormOf n m) forms → All (IsPropertyFormOf n' m') forms
all_wider n m n' m' forms a b all k d l = form_wider n m n' m' (get_or forms k d) a b (all k d l)

-- the lists serve more properties too
pub related_wider : (n m n' m' : ℕ) (r : Related) → n ≤ n' → m ≤ m' → IsRelated n m r → IsRelated n' m' r
related_wider n m n' m' r a b w = record {
  within = all_wider n m n' m' r.forms.value.items a b w.within;
  covered = omega (arith, w.covered);
  supers = w.supers;
  reflexive = w.reflexive;
  chains = w.chains;
}

-- what says the same is what the forms say too
pub related_same : (n m : ℕ) (old new : Related) → IsSame old new → IsRelated n m old → IsRelated n m new
related_same n m old new is w =
    let forms = sym is.forms in
    let lists : lists_of old.supers ≡ lists_of new.supers = ap₂ (λ (base more : List (List PropId2)). base ++ more) (sym is.base) (sym is.more) in record {
      within = subst (All (IsPropertyFormOf n m)) forms w.within;
      covered = subst (λ (l : List (List PropId2)). length l ≤ n) lists w.covered;
      supers = subst (λ (fs : List Form). AreSupers fs new.supers.base.value new.supers.more) forms (subst₂ (AreSupers old.forms.value.items) (sym is.base) (sym is.more) w.supers);
      reflexive = λ p. subst₂ (λ (fs : List Form) (s : List Bool). (has s p ≡ true) ↔ IsReflexive fs (as_property p)) forms (sym is.reflexive) (w.reflexive p);
      chains = λ p. subst₂ (λ (fs : List Form) (c : Chains). AreChains fs p (chains_at c p)) forms (sym is.chains) (w.chains p);
    }

-- ---- the list of a property

-- an empty list is past the end
pub empty_past : (forms : List Form) (base more : List (List PropId2)) (p : ℕ) (list : List PropId2) → AreSupers forms base more → list ≡ list_at (base ++ more) p → length list ≡ 0 → length (base ++ more) ≤ p
empty_past forms base more p list w is none = elim (cases_lt p (length (base ++ more))) [
  | inl l ↦
      let itself : Contains list (as_property p) = subst (λ (xs : List PropId2). Contains xs (as_property p)) (sym is) (((w.each p l).exact (as_property p)).1 same) in
      absurd (omega (arith, itself.1, none))
  | inr l ↦ l
]

-- and another is not
pub full_within : (base more : List (List PropId2)) (p : ℕ) (list : List PropId2) → list ≡ list_at (base ++ more) p → (length list ≡ 0 → ⊥) → p < length (base ++ more)
full_within base more p list is some = elim (cases_lt p (length (base ++ more))) [
  | inl l ↦ l
  | inr l ↦ absurd (some (ap length (is ∙ get_or_past (base ++ more) p [] l)))
]

-- ---- what is above a property

-- a property that no plain form names first is below itself alone
pub alone_above : (forms : List Form) (p : ℕ) → ((s : ℕ) → Tells forms p s → ⊥) → (q : PropId2) → IsAtOrBelow forms (as_property p) q → q ≡ as_property p
alone_above forms p none _ same = refl
alone_above forms p none _ (step s t h f) =
    let e : s.0 ≡ p = ap number_of (alone_above forms p none (Property s) h) in
    absurd (none t.0 (subst (λ (x : ℕ). Tells forms x t.0) e f))

-- and so is a prefix of chains
pub partial_above : (forms : List Form) (n : ℕ) (q : PropId2) → IsAtOrBelow forms (Partial n) q → q ≡ Partial n
partial_above forms n _ same = refl
partial_above forms n _ (step s t h f) = absurd (let e : Property s ≡ Partial n = partial_above forms n (Property s) h in cc)

-- what is above itself alone
pub only_itself : (forms : List Form) (p : PropId2) → ((q : PropId2) → IsAtOrBelow forms p q → q ≡ p) → (list : List PropId2) (place : ℕ) (result : List PropId2)
    → ((x : PropId2) → slice_get list place ≡ Some x → x ≡ p) → ((x : PropId2) → slice_get list place ≡ Some x → result ≡ x ∷ []) → (length list ≤ place → result ≡ [])
    → AllPairs ComesBefore result × ((q : PropId2) → Contains result q ↔ ((place < length list) × IsAtOrBelow forms p q))
only_itself forms p only list place result at there past = elim (cases_lt place (length list)) [
  | inl l ↦
      let here = slice_get_there list place l in
      let is : result ≡ p ∷ [] = there here.0 here.1 ∙ ap (λ x. x ∷ []) (at here.0 here.1) in (
        subst (AllPairs ComesBefore) (sym is) (λ i j d m high. absurd (omega arith)),
        λ q. (
          λ h. (l, subst (IsAtOrBelow forms p) (Contains-one p q (subst (λ (xs : List PropId2). Contains xs q) is h)) same),
          λ h. subst (λ (xs : List PropId2). Contains xs q) (sym is) (subst (Contains (p ∷ [])) (sym (only q h.1)) (Contains-first p [])),
        ),
      )
  | inr l ↦ (
    subst (AllPairs ComesBefore) (sym (past l)) (λ i j d m high. absurd (omega arith)),
    λ q. (
      λ h. absurd (omega (arith, (subst (λ (xs : List PropId2). Contains xs q) (past l) h).1)),
      λ h. absurd (omega (arith, h.0)),
    ),
  )
]

-- ---- out of range

pub none_there : {X : Type 0} (xs : List X) → ((x : X) → Contains xs x → ⊥) → xs ≡ []
none_there [] none = refl
none_there (x ∷ xs) none = absurd (none x (Contains-first x xs))
