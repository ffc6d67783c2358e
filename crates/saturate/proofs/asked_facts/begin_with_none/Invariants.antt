use Rattle.std.proofs.Common.{◌≡◌, ◌<◌, ℕ, List, slice_get, Some}
use Rattle.facts.specs.declared.contexts.Fact.{Fact}
use Rattle.normal_forms.specs.declared.forms.Form.{Form}
use Rattle.saturate.specs.Requests.{NamesEdge}
use Rattle.saturate.proofs.asked_facts.begin_with_none.Given as goal

abbrev pub invariant-loop-number : goal.invariant-loop-number
invariant-loop-number l = (n : ℕ) (form : Form) → n < l.number → slice_get l.forms n ≡ Some form → (all : List Form) (f : Fact) → NamesEdge all form f → ⊥
