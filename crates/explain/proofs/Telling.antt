-- Lists of what forms lead to, one form after another.
use Rattle.std.proofs.Common.{◌≡◌, ◌↔◌, ℕ, ◌+◌, ◌<◌, ◌≤◌, inl, inr, List, ◌++◌, length, Contains, slice_get, Some, refl, sym, ap, ◌∙◌, subst, arith}
use Rattle.std.proofs.lemmas.Bool.{cases_eq}
use Rattle.std.proofs.lemmas.List.Elements.{Contains-append_cases, Contains-append_left, Contains-append_right}
use Rattle.std.proofs.lemmas.Option.{same_Some, slice_get_within}
use Rattle.lemmas.proofs.Members.{slice_get-from_Contains}
use Rattle.axioms.specs.declared.ids.IndId.{IndId}
use Rattle.axioms.specs.declared.ids.PropId.{PropId}
use Rattle.facts.specs.Closure.{Links}
use Rattle.indexes.specs.FormsUnderKeys.{IsUnder}
use Rattle.indexes.specs.Keys.{by_linked_first, by_linked_second, by_plain, individual_key, property_key}
use Rattle.indexes.specs.declared.keys.Key.TheVariants.{Whole}
use Rattle.normal_forms.specs.declared.forms.Form.{Form}
use Rattle.normal_forms.specs.declared.forms.Form.TheVariants.{N5, N10}
use Rattle.normal_forms.specs.declared.forms.PropId2.TheVariants.{Property}
use Rattle.number_sets.specs.Pieces.{list_at}
use Rattle.number_sets.proofs.Members.{nothing_past}
use Rattle.explain.specs.declared.told.Told.{Told}
use Rattle.explain.specs.Search.{AddsTold, AreLeadsWithin, AreTold, AreToldOf, IsLinkOf, LeadsOver, LeadsUp, as_id, as_individual}

module _ (Leads : ℕ → ℕ → ℕ → Type 0) where
  -- ---- the forms of a list

  module _ (r : ℕ) (items : List ℕ) where
    -- what the first of them lead to
    pub record AreToldOfFirst (count : ℕ) (told : List Told) : Type 0 where
      pub only : (t : Told) → Contains told t → Leads t.form r t.to
      pub all : (k : ℕ) (t : Told) → k < count → slice_get items k ≡ Some t.form → Leads t.form r t.to → Contains told t

    pub told_next : (count n : ℕ) (told new : List Told) → slice_get items count ≡ Some n → AddsTold Leads n r told new → AreToldOfFirst count told → AreToldOfFirst (count + 1) new
    told_next count n told new here adds before = record {
      only = λ t c. elim ((adds t).0 c) [
        | inl v ↦ before.only t v
        | inr there ↦ subst (λ (m : ℕ). Leads m r t.to) (sym there.0) there.1
      ];
      all = λ k t low at leads. elim (cases_eq k count) [
        | inl e ↦
            let form : t.form ≡ n = same_Some t.form n (sym at ∙ ap (slice_get items) e ∙ here) in
            (adds t).1 (inr (form, subst (λ (m : ℕ). Leads m r t.to) form leads))
        | inr apart ↦ (adds t).1 (inl (before.all k t (omega (arith, apart, low)) at leads))
      ];
    }

    pub all_of : (count : ℕ) (told : List Told) → ((n s : ℕ) → Leads n r s → Contains items n) → length items ≤ count → AreToldOfFirst count told → AreToldOf Leads r told
    all_of count told listed past first t = (
      first.only t,
      λ leads.
          let (k, at) = slice_get-from_Contains items t.form (listed t.form t.to leads) in
          first.all k t (omega (arith, past, slice_get_within items k t.form at)) at leads,
    )

  -- the lists of all numbers
  pub all_lists : (bound : ℕ) (lists : List (List Told)) → AreLeadsWithin bound Leads → length lists ≡ bound → ((r : ℕ) → r < bound → AreToldOf Leads r (list_at lists r)) → AreTold bound Leads lists
  all_lists bound lists within long each = record {
    long = long;
    exact = λ r t. (
      λ c. (each r (omega (arith, long, nothing_past lists r t c)) t).0 c,
      λ leads. (each r (within t.form r t.to leads).0 t).1 leads,
    );
  }

-- ---- from a property to one above it

pub leads_listed : (forms : List Form) (p : PropId) (n s : ℕ) → LeadsUp forms n p.0 s → IsUnder by_plain forms (property_key (Property p)) n
leads_listed forms p n s leads = (N5 p (as_id s), leads, refl)

-- ---- from an individual to one that is one with it

link_listed : (forms : List Form) (i : IndId) (n : ℕ) (form : Form) (j : IndId) → slice_get forms n ≡ Some form → Links form i j → IsLinkOf forms i n
link_listed forms i n (N10 a b) j at (inl l) = inl (N10 a b, at, ap (λ (x : IndId). Some (Whole x.0)) (sym l.0))
link_listed forms i n (N10 a b) j at (inr l) = inr (N10 a b, at, ap (λ (x : IndId). Some (Whole x.0)) (sym l.0))
link_listed forms i n _ j at link = absurd link

-- the forms of both lists of the individual
pub links_joined : (forms : List Form) (i : IndId) (first second sorted : List ℕ) → ((n : ℕ) → Contains first n ↔ IsUnder by_linked_first forms (individual_key i) n) → ((n : ℕ) → Contains second n ↔ IsUnder by_linked_second forms (individual_key i) n)
    → ((n : ℕ) → Contains sorted n ↔ Contains (first ++ second) n) → (n : ℕ) → Contains sorted n ↔ IsLinkOf forms i n
links_joined forms i first second sorted as_first as_second same n = (
  λ c. elim (Contains-append_cases first second n ((same n).0 c)) [
    | inl v ↦ inl ((as_first n).0 v)
    | inr v ↦ inr ((as_second n).0 v)
  ],
  λ h. (same n).1 (elim h [
    | inl v ↦ Contains-append_left first second n ((as_first n).1 v)
    | inr v ↦ Contains-append_right first second n ((as_second n).1 v)
  ]),
)

pub over_listed : (forms : List Form) (i : IndId) (n s : ℕ) → LeadsOver forms n i.0 s → IsLinkOf forms i n
over_listed forms i n s (form, at, link) = link_listed forms i n form (as_individual s) at link
