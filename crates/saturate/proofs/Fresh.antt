-- A form that puts a property that the earlier forms do not have below another, or begins a chain with it, asks for no edge that is there.
use Rattle.std.proofs.Common.{◌≡◌, ◌<◌, ◌≤◌, ◌⊎◌, ⊎_elim, List, length, Contains, refl, sym, subst, arith}
use Rattle.std.proofs.lemmas.Bool.{cases_lt}
use Rattle.std.proofs.lemmas.List.Elements.{All-contains}
use Rattle.std.specs.List.{All}
use Rattle.axioms.specs.declared.ids.PropId.{PropId}
use Rattle.normal_forms.specs.declared.forms.Form.{Form}
use Rattle.normal_forms.specs.declared.forms.Form.TheVariants.{N1, N2, N3, N4, N5, N6, N7, N8, N9, N10, N12}
use Rattle.normal_forms.specs.declared.forms.PropId2.{PropId2}
use Rattle.normal_forms.specs.declared.forms.PropId2.TheVariants.{Property}
use Rattle.normal_forms.proofs.Filters.{kept}
use Rattle.normal_forms.specs.Properties.{IsAtOrBelow, IsPropertyFormOf, same, step, is_property_form}
use Rattle.facts.specs.declared.contexts.Context.TheVariants.{Individual}
use Rattle.facts.specs.declared.contexts.Fact.{Fact}
use Rattle.facts.specs.declared.contexts.Fact.TheVariants.{In, Edge}
use Rattle.facts.specs.Closure.{Problem}
use Rattle.property_closure.specs.PropertyClosures.{Known, Has}
use Rattle.inference.specs.PropertyClosures.{IsClosureOf}
use Rattle.inference.specs.Visits.{HasProperty}
use Rattle.saturate.specs.Requests.{AskByClass, Asks, AsksByClass, HasNewBelow, IsOfNamed, BeginsFresh}
use Rattle.saturate.proofs.Asking.{asked_by_class}

-- a property that one of the forms puts another one below is one that their closure has
pub upper_there : (forms : List Form) (closure : Known) → IsClosureOf forms closure → All (IsPropertyFormOf closure.properties closure.partials) closure.forms
    → (r s : PropId) → Contains forms (N5 r s) → Has closure (Property s)
upper_there forms closure is within r s there =
    let there_too : Contains closure.forms (N5 r s) = subst (λ (list : List Form). Contains list (N5 r s)) (sym is.same) (kept is_property_form forms (N5 r s) there refl) in
    (All-contains (IsPropertyFormOf closure.properties closure.partials) closure.forms (N5 r s) within there_too).1

module _ (before now added : List Form) (closure : Known) (is : IsClosureOf before closure) (within : All (IsPropertyFormOf closure.properties closure.partials) closure.forms)
    (new : HasNewBelow before now added) (each : (form : Form) → Contains added form → AsksByClass form ⊎ BeginsFresh closure form) where
  -- no added form puts a property that the closure has below another
  none_below : (r s : PropId) → Contains added (N5 r s) → Has closure (Property r) → ⊥
  none_below r s there has = ⊎_elim
      (λ by_class. by_class now (Edge (Individual (record { 0 = 0 })) (Property r) (Individual (record { 0 = 0 }))) same)
      (λ fresh. fresh has)
      (each (N5 r s) there)

  -- so each path from a property that it has leads to those that it has
  stays : (p q : PropId2) → Has closure p → IsAtOrBelow now p q → Has closure q
  stays p _ has same = has
  stays p _ has (step s t path there) = ⊎_elim
      (λ (low : t.0 < closure.properties). low)
      (λ (high : closure.properties ≤ t.0).
      absurd (none_below s t (new s t (there, λ old. (let low : t.0 < closure.properties = upper_there before closure is within s t old in omega (arith, low, high)))) (stays p (Property s) has path)))
      (cases_lt t.0 closure.properties)

  fresh_asks : (form : Form) → BeginsFresh closure form → (f : Fact) → HasProperty closure f → Asks now form f → ⊥
  fresh_asks (N5 r s) fresh (In c x) has asks = asks
  fresh_asks (N5 r s) fresh (Edge x p y) has asks = fresh (stays p (Property r) has asks)
  fresh_asks (N6 r s t) fresh (In c x) has asks = asks
  fresh_asks (N6 r s t) fresh (Edge x p y) has asks = fresh (stays p r has asks)
  fresh_asks (N1 _ _) fresh f has asks = fresh
  fresh_asks (N2 _ _ _) fresh f has asks = fresh
  fresh_asks (N3 _ _ _) fresh f has asks = fresh
  fresh_asks (N4 _ _ _) fresh f has asks = fresh
  fresh_asks (N7 _) fresh f has asks = fresh
  fresh_asks (N8 _ _) fresh f has asks = fresh
  fresh_asks (N9 _ _ _) fresh f has asks = fresh
  fresh_asks (N10 _ _) fresh f has asks = fresh
  fresh_asks (N12 _ _ _) fresh f has asks = fresh

  asks_as_named : (f : Fact) → HasProperty closure f → (form : Form) → Contains added form → Asks now form f → IsOfNamed form f
  asks_as_named f has form there asks = ⊎_elim
      (λ by_class. by_class now f asks)
      (λ fresh. absurd (fresh_asks form fresh f has asks))
      (each form there)

-- where there is no list, and each form asks for facts of the class that it names alone, or begins with such a property
pub ask_by_class : (closure : Known) (added : Problem) → All (IsPropertyFormOf closure.properties closure.partials) closure.forms
    → ((form : Form) → Contains added.forms form → AsksByClass form ⊎ BeginsFresh closure form) → length added.apart.classes ≡ 0 → AskByClass closure added
ask_by_class closure added within each lists before now is new f has =
    asked_by_class now added f (asks_as_named before now added.forms closure is within new each f has) lists
