use Rattle.std.proofs.Common.{take, Contains}
use Rattle.normal_forms.specs.declared.forms.PropId2.{PropId2}
use Rattle.saturate.specs.Requests.{BeginsWith, HasForm}
use Rattle.saturate.proofs.asked_facts.asks_for_edges.Given as goal

abbrev pub invariant-loop-above : goal.invariant-loop-above
invariant-loop-above l = (r : PropId2) → Contains (take l.above-index l.above-items) r → HasForm (λ form. BeginsWith form r) l.added.forms → ⊥
