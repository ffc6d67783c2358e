use Rattle.std.proofs.Common.{◌≡◌, ◌⊎◌, ◌<◌, ℕ, slice_get, Some}
use Rattle.normal_forms.specs.declared.forms.Form.{Form}
use Rattle.saturate.specs.Requests.{AsksByClass, BeginsFresh}
use Rattle.saturate.proofs.named_facts.ask_by_class.Given as goal

abbrev pub invariant-loop-number : goal.invariant-loop-number
invariant-loop-number l = (n : ℕ) (form : Form) → n < l.number → slice_get l.forms n ≡ Some form → AsksByClass form ⊎ BeginsFresh l.closure form
