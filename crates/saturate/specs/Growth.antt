-- How a state grows by forms, lists of what is apart and roots.
use Rattle.std.specs.Prelude.{◌≡◌, ◌↔◌, ◌≤◌, ℕ, List, ◌++◌, drop, slice_get, Some}
use Rattle.std.specs.List.{Contains}
use Rattle.normal_forms.specs.declared.apart.ApartLists.{ApartLists}
use Rattle.normal_forms.specs.declared.forms.Form.{Form}
use Rattle.normal_forms.specs.declared.forms.Form.TheVariants.{N6, N7}
use Rattle.normal_forms.specs.Apart.{AreContinuedBy}
use Rattle.facts.specs.declared.contexts.Context.{Context}
use Rattle.facts.specs.declared.contexts.Fact.{Fact}
use Rattle.facts.specs.Closure.{Problem}
use Rattle.saturate.specs.Requests.{IsAskedAt}
use Rattle.inference.specs.Derivations.{Keeps}
use Rattle.saturate.specs.State.{Seen}

-- the forms and roots, and then those that are added, with these lists
abbrev pub with_more : Problem → List Form → ApartLists → List Context → Problem
with_more k forms apart roots = record { forms = k.forms ++ forms; apart = apart; roots = k.roots ++ roots }

-- the second problem is the first with the forms from that number on, with more lists and with more roots
pub record IsGrownFrom (from : ℕ) (k j : Problem) : Type 0 where
  pub roots : List Context
  pub problem : j ≡ with_more k (drop from j.forms) j.apart roots
  pub lists : AreContinuedBy k.apart j.apart

-- each of the forms from that number on is such
abbrev pub EachFrom : (Form → Type 0) → ℕ → List Form → Type 0
EachFrom P from forms = (n : ℕ) (form : Form) → from ≤ n → slice_get forms n ≡ Some form → P form

-- the form is no chain: it makes no old fact that it does not ask for a second premise
abbrev pub LeavesLists : Form → Type 0
LeavesLists (N6 r s t) = ⊥
LeavesLists _ = Unit {0}

-- the form makes no property reflexive: no context has a loop more
abbrev pub LeavesEntries : Form → Type 0
LeavesEntries (N7 r) = ⊥
LeavesEntries _ = Unit {0}

-- forms and roots are added, and these are the lists; facts and what gave them are kept
pub record HasGrown (forms : List Form) (apart : ApartLists) (roots : List Context) (old new : Seen) : Type 0 where
  pub problem : new.problem ≡ with_more old.problem forms apart roots
  pub facts : Keeps old.facts new.facts
  pub births : Keeps old.births new.births

-- exactly the served facts that no new form and no new list of disjoint classes asks for are served still
abbrev pub KeepsServed : Problem → Problem → List Fact → List ℕ → List ℕ → Type 0
KeepsServed before now facts old new = (n : ℕ) → Contains new n ↔ (Contains old n × ¬ IsAskedAt before now facts n)
