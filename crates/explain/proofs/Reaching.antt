-- What the search finds is what forms lead to from a number, with the ways there.
use Rattle.std.proofs.Common.{◌≡◌, ◌↔◌, ℕ, Bool, true, false, List, [], ◌∷◌, refl, sym, ◌∙◌, subst, arith}
use Rattle.lemmas.proofs.Members.{Contains-first, Contains-one, slice_get-from_Contains}
use Rattle.axioms.specs.declared.ids.IndId.{IndId}
use Rattle.axioms.specs.declared.ids.PropId.{PropId}
use Rattle.facts.specs.Closure as facts
use Rattle.facts.specs.Closure.{AreSame}
use Rattle.normal_forms.specs.declared.forms.Form.{Form}
use Rattle.normal_forms.specs.declared.forms.PropId2.{PropId2}
use Rattle.normal_forms.specs.declared.forms.PropId2.TheVariants.{Property}
use Rattle.normal_forms.specs.Properties.{IsAtOrBelow, same, step}
use Rattle.number_sets.specs.Members.{has}
use Rattle.number_sets.specs.Search.{AreFound, IsBounded, LeadsTo}
use Rattle.number_sets.specs.Search as numbers
use Rattle.explain.specs.declared.told.Told.{Told}
use Rattle.explain.specs.declared.reached.Reached.{Reached}
use Rattle.explain.specs.Search.{AreLeadsWithin, AreReached, AreTold, IsLedTo, IsWay, LeadsOver, LeadsUp, itself, onward, start_of, step_from}

abbrev number : Reached → ℕ
number r = r.number

abbrev target : Told → ℕ
target t = t.to

abbrev by : Told → ℕ → Reached
by t place = step_from place t

module _ (Leads : ℕ → ℕ → ℕ → Type 0) (bound : ℕ) (lists : List (List Told)) (told : AreTold bound Leads lists) where
  pub bounded : AreLeadsWithin bound Leads → IsBounded target lists
  bounded within b t c = omega (arith, (within t.form b t.to ((told.exact b t).0 c)).1, told.long)

  module _ (c : ℕ) where
    way : (found : List Reached) (place : ℕ) (r : Reached) → numbers.IsWay number by (start_of c ∷ []) lists found place r → IsWay Leads c found place r.number r.way
    way found place r (numbers.first _ h) = subst (λ (x : Reached). IsWay Leads c found place x.number x.way) (Contains-one (start_of c) r h) refl
    way found place _ (numbers.step from b t low at tells) = (b, low, at, (told.exact b.number t).0 tells)

    led : {d : ℕ} → IsLedTo Leads c d → LeadsTo number target (start_of c ∷ []) lists d
    led itself = numbers.itself (start_of c) (Contains-first (start_of c) [])
    led (onward {d = d} n b before leads) =
        let x : Told = record { form = n; to = d } in
        numbers.onward b x (led before) ((told.exact b x).1 leads)

    reached : (found : List Reached) → AreFound number target by (start_of c ∷ []) lists found → AreReached Leads c found
    reached found f = record {
      ways = λ place r g. way found place r (f.ways place r g);
      all = λ d h. f.all d (led h);
    }

    -- .. in the list that it is read from
    pub found_in : (found list : List Reached) → AreFound number target by (start_of c ∷ []) lists found → list ≡ found → AreReached Leads c list
    found_in found list f is = subst (AreReached Leads c) (sym is) (reached found f)

-- ---- what forms lead to

pub led_up : (forms : List Form) (p : PropId) (q : PropId2) → IsAtOrBelow forms (Property p) q → (d : PropId) → q ≡ Property d → IsLedTo (LeadsUp forms) p.0 d.0
led_up forms p _ same d e = let is : p ≡ d = cc in subst (λ (x : PropId). IsLedTo (LeadsUp forms) p.0 x.0) is itself
led_up forms p _ (step s t h form) d e =
    let is : t ≡ d = cc in
    let (n, at) = slice_get-from_Contains forms _ form in
    subst (λ (x : PropId). IsLedTo (LeadsUp forms) p.0 x.0) is (onward n s.0 (led_up forms p (Property s) h s refl) at)

pub led_over : {forms : List Form} {i j : IndId} → AreSame forms i j → IsLedTo (LeadsOver forms) i.0 j.0
led_over facts.itself = itself
led_over {forms} (facts.step h form before there link) =
    let (n, at) = slice_get-from_Contains forms form there in
    onward n h.0 (led_over before) (form, at, link)

-- an individual that was not seen is not one with it
pub not_seen : (bound : ℕ) (forms : List Form) (links : List (List Told)) (i j : IndId) (seen : List Bool) → AreTold bound (LeadsOver forms) links → ((d : ℕ) → (has seen d ≡ true) ↔ LeadsTo number target (start_of i.0 ∷ []) links d) → has seen j.0 ≡ false → AreSame forms i j → ⊥
not_seen bound forms links i j seen told exact hidden one =
    let h : has seen j.0 ≡ true = (exact j.0).1 (led (LeadsOver forms) bound links told i.0 (led_over one)) in
    let bad : false ≡ true = sym hidden ∙ h in
    cc
