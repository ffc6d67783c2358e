-- Ways back are paths, and what is kept of them.
use Rattle.std.proofs.Common.{◌≡◌, ℕ, ◌+◌, ◌≤◌, false, inl, inr, List, [], ◌∷◌, ◌++◌, length, slice_get, Option, Some, None, refl, sym, ap, ◌∙◌, subst, arith}
use Rattle.std.specs.BTreeMap.{BTreeMap, Updates, get, is_at}
use Rattle.std.specs.List.{All}
use Rattle.std.specs.Map.{lookup}
use Rattle.std.specs.Ordering.{is_eq, nat_cmp}
use Rattle.std.specs.Prelude.{Result, Ok, Err, IfOk, MatchOption, reverse}
use Rattle.std.proofs.lemmas.Bool.{cases_eq}
use Rattle.std.proofs.lemmas.Bool.Decides.{nat_tests}
use Rattle.std.proofs.lemmas.List.{append_assoc, get_or_append_left, get_or_push, length_push, reverse-append}
use Rattle.std.proofs.lemmas.List.Elements.{All-contains}
use Rattle.std.proofs.lemmas.Option.{none-some, same_Some}
use Rattle.lemmas.proofs.Members.{Contains-from_slice_get, slice_get-from_Contains}
use Rattle.axioms.specs.declared.ids.IndId.{IndId}
use Rattle.axioms.specs.declared.ids.PropId.{PropId}
use Rattle.normal_forms.specs.declared.forms.Form.{Form}
use Rattle.normal_forms.specs.declared.forms.Form.TheVariants.{N5}
use Rattle.normal_forms.specs.declared.forms.PropId2.{PropId2}
use Rattle.normal_forms.specs.declared.forms.PropId2.TheVariants.{Property}
use Rattle.normal_forms.specs.Properties.{IsAtOrBelow, IsPropertyFormOf, same, step}
use Rattle.number_sets.specs.Pieces.{list_at}
use Rattle.explain.specs.declared.reached.Reached.{Reached}
use Rattle.explain.specs.declared.reached.Way.{Way}
use Rattle.explain.specs.Paths.{IsChain, IsPath}
use Rattle.explain.specs.Search.{AreEarlier, AreKept, AreLeadsWithin, AreReached, AreWays, HasNo, IsTrace, IsWay, LeadsOver, LeadsUp, StandsAt, as_id, as_individual}
use Rattle.explain.specs.Search as search
use Rattle.explain.proofs.Reaching.{led_up}

-- ---- ways back

-- the numbers so far, last first, lead on from a place
abbrev pub TracesOn : List Reached → ℕ → ℕ → List ℕ → Type 0
TracesOn found place at numbers = (before : List ℕ) → IsTrace found at before → IsTrace found place (before ++ reverse numbers)

pub traces_more : (found : List Reached) (place at : ℕ) (numbers : List ℕ) (r : Reached) (way : Way) → slice_get found at ≡ Some r → r.way ≡ Some way → TracesOn found place at numbers → TracesOn found place way.from (numbers ++ way.form ∷ [])
traces_more found place at numbers r way g e on before trace =
    let is : (before ++ way.form ∷ []) ++ reverse numbers ≡ before ++ reverse (numbers ++ way.form ∷ []) =
    append_assoc before (way.form ∷ []) (reverse numbers) ∙ ap (λ ns. before ++ ns) (sym (reverse-append numbers (way.form ∷ []))) in
    subst (IsTrace found place) is (on (before ++ way.form ∷ []) (search.step at r way g e trace))

pub traces_all : (found : List Reached) (place at : ℕ) (numbers : List ℕ) (r : Reached) → slice_get found at ≡ Some r → r.way ≡ None → TracesOn found place at numbers → IsTrace found place (reverse numbers)
traces_all found place at numbers r g e on = on [] (search.start at r g e)

pub no_way : (way : Option Way) → ((w : Way) → way ≡ Some w → ⊥) → way ≡ None
no_way None h = refl
no_way (Some w) h = absurd (h w refl)

-- ---- a trace is a path

module _ (Leads : ℕ → ℕ → ℕ → Type 0) where
  pub earlier : (c : ℕ) (found : List Reached) → AreWays Leads c found → AreEarlier found
  earlier c found ways place r way g e =
      let h : IsWay Leads c found place r.number (Some way) = subst (IsWay Leads c found place r.number) e (ways place r g) in h.1

  -- the forms of these numbers lead from one to the other, each from where the one before it ends
  abbrev pub LeadAlong : ℕ → List ℕ → ℕ → Type 0
  LeadAlong c [] d = c ≡ d
  LeadAlong c (n ∷ ns) d = (b : ℕ) × Leads n c b × LeadAlong b ns d

  along_more : (c b d n : ℕ) (ns : List ℕ) → LeadAlong c ns b → Leads n b d → LeadAlong c (ns ++ n ∷ []) d
  along_more c b d n [] e leads = (d, subst (λ x. Leads n x d) (sym e) leads, refl)
  along_more c b d n (m ∷ ns) (a, first, rest) leads = (a, first, along_more a b d n ns rest leads)

  traced : (c : ℕ) (found : List Reached) → AreWays Leads c found → {place : ℕ} {numbers : List ℕ} → IsTrace found place numbers → (r : Reached) × (slice_get found place ≡ Some r) × LeadAlong c numbers r.number
  traced c found ways (search.start place r g e) =
      let h : r.number ≡ c = subst (IsWay Leads c found place r.number) e (ways place r g) in
      (r, g, sym h)
  traced c found ways (search.step {numbers = numbers} place r way g e trace) =
      let h : IsWay Leads c found place r.number (Some way) = subst (IsWay Leads c found place r.number) e (ways place r g) in
      let (b, at, before) = traced c found ways trace in
      let same : b ≡ h.0 = same_Some b h.0 (sym at ∙ h.2) in
      (r, g, along_more c h.0.number r.number way.form numbers (subst (λ (x : Reached). LeadAlong c numbers x.number) same before) h.3)

  pub leads_along : (c d : ℕ) (found : List Reached) (place : ℕ) (numbers : List ℕ) → AreWays Leads c found → StandsAt found d place → IsTrace found place numbers → LeadAlong c numbers d
  leads_along c d found place numbers ways stands trace =
      let (r, at, along) = traced c found ways trace in
      let same : r ≡ stands.0 = same_Some r stands.0 (sym at ∙ stands.1) in
      subst (LeadAlong c numbers) (ap (λ (x : Reached). x.number) same ∙ stands.2) along

-- of plain property forms
pub path_along : (forms : List Form) (p : PropId) (numbers : List ℕ) (q : PropId) → LeadAlong (LeadsUp forms) p.0 numbers q.0 → IsPath forms p numbers q
path_along forms p [] q e = ap as_id e
path_along forms p (n ∷ ns) q (t, at, rest) = (as_id t, at, path_along forms (as_id t) ns q rest)

-- of forms that make individuals one
pub chain_along : (forms : List Form) (i : IndId) (numbers : List ℕ) (j : IndId) → LeadAlong (LeadsOver forms) i.0 numbers j.0 → IsChain forms i numbers j
chain_along forms i [] j e = ap as_individual e
chain_along forms i (n ∷ ns) j (h, link, rest) = (as_individual h, link, chain_along forms (as_individual h) ns j rest)

-- ---- what is kept for a property

-- no place for any
pub none_kept : (forms : List Form) (places : BTreeMap ℕ ℕ) (lists : List (List Reached)) → places.entries ≡ [] → AreKept forms places lists
none_kept forms places lists none p place at = absurd (none-some place (ap (lookup (is_at (nat_cmp p))) (sym none) ∙ at))

-- the same places
pub kept_still : (forms : List Form) (old new : BTreeMap ℕ ℕ) (lists : List (List Reached)) → new.entries ≡ old.entries → AreKept forms old lists → AreKept forms new lists
kept_still forms old new lists equal kept p place at = kept p place (ap (lookup (is_at (nat_cmp p))) (sym equal) ∙ at)

-- a list more with no place
pub kept_longer : (forms : List Form) (places : BTreeMap ℕ ℕ) (lists : List (List Reached)) (list : List Reached) → AreKept forms places lists → AreKept forms places (lists ++ list ∷ [])
kept_longer forms places lists list kept p place at =
    let (low, reached) = kept p place at in
    (omega (arith, low, length_push lists list), subst (AreReached (LeadsUp forms) p) (sym (get_or_append_left lists (list ∷ []) [] place low)) reached)

differ : (x y : ℕ) → (y ≡ x → ⊥) → is_eq (nat_cmp x y) ≡ false
differ x y other = grind (arith, nat_tests)

-- one with a place
pub one_kept : (forms : List Form) (old new : BTreeMap ℕ ℕ) (lists : List (List Reached)) (list : List Reached) (q : ℕ) → Updates nat_cmp old new q (Some (length lists)) → AreKept forms old lists → AreReached (LeadsUp forms) q list
    → AreKept forms new (lists ++ list ∷ [])
one_kept forms old new lists list q is kept reached p place at = elim (cases_eq p q) [
  | inl here ↦
      let last : length lists ≡ place = same_Some (length lists) place (sym is.1 ∙ subst (λ (k : ℕ). get nat_cmp new k ≡ Some place) here at) in
      let there : list_at (lists ++ list ∷ []) place ≡ list = get_or_push lists list [] place last in
      (omega (arith, last, length_push lists list), subst (AreReached (LeadsUp forms) p) (sym there) (subst (λ (k : ℕ). AreReached (LeadsUp forms) k list) (sym here) reached))
  | inr other ↦ kept_longer forms old lists list kept p place (sym (is.2 p (differ q p other)) ∙ at)
]

-- the way to what was reached is a path
pub path_by : (forms : List Form) (p d : PropId) (list : List Reached) (numbers : List ℕ) → AreReached (LeadsUp forms) p.0 list → (place : ℕ) × StandsAt list d.0 place × IsTrace list place numbers → IsPath forms p numbers d
path_by forms p d list numbers h (place, stands, trace) = path_along forms p numbers d (leads_along (LeadsUp forms) p.0 d.0 list place numbers h.ways stands trace)

-- what was not reached is not above
pub not_above : (forms : List Form) (p d : PropId) (list : List Reached) → AreReached (LeadsUp forms) p.0 list → HasNo list d.0 → IsAtOrBelow forms (Property p) (Property d) → ⊥
not_above forms p d list h hidden below = let at = h.all d.0 (led_up forms p (Property d) below d refl) in hidden at.0 at.1

-- what is told of the way is told of the path
pub way_is : {V E : Type 0} (numbers : V → List ℕ) (forms : List Form) (p d : PropId) (list : List Reached) (result : Result (Option V) E) → AreReached (LeadsUp forms) p.0 list
    → IfOk result (λ found. MatchOption found (HasNo list d.0) (λ v. (place : ℕ) × StandsAt list d.0 place × IsTrace list place (numbers v)))
    → IfOk result (λ found. MatchOption found (IsAtOrBelow forms (Property p) (Property d) → ⊥) (λ v. IsPath forms p (numbers v) d))
way_is numbers forms p d list (Ok None) h hidden = not_above forms p d list h hidden
way_is numbers forms p d list (Ok (Some v)) h way = path_by forms p d list (numbers v) h way
way_is numbers forms p d list (Err e) h way = way

-- a property that no form leads on from is below itself alone
alone : (forms : List Form) (p : PropId) → ((n s : ℕ) → LeadsUp forms n p.0 s → ⊥) → (q : PropId2) → IsAtOrBelow forms (Property p) q → q ≡ Property p
alone forms p none _ same = refl
alone forms p none _ (step s t h form) =
    let e : Property s ≡ Property p = alone forms p none (Property s) h in
    let is : s ≡ p = cc in
    let n = slice_get-from_Contains forms _ form in
    absurd (none n.0 t.0 (subst (λ (x : PropId). LeadsUp forms n.0 x.0 t.0) is n.1))

pub beyond : (bound : ℕ) (forms : List Form) (p d : PropId) → AreLeadsWithin bound (LeadsUp forms) → bound ≤ p.0 → (p ≡ d → ⊥) → IsAtOrBelow forms (Property p) (Property d) → ⊥
beyond bound forms p d within past apart below =
    let e : Property d ≡ Property p = alone forms p (λ n s leads. let l = (within n p.0 s leads).0 in absurd (omega (arith, past, l))) (Property d) below in
    let i : p ≡ d = cc in
    apart i

-- ---- what is made

pub leads_within : (n m : ℕ) (forms : List Form) → All (IsPropertyFormOf n m) forms → AreLeadsWithin n (LeadsUp forms)
leads_within n m forms all k r s g = All-contains (IsPropertyFormOf n m) forms (N5 (as_id r) (as_id s)) all (Contains-from_slice_get forms k (N5 (as_id r) (as_id s)) g)
