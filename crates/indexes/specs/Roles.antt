-- What holds by each of the keys of a form.
use Rattle.std.specs.Prelude.{Option}
use Rattle.normal_forms.specs.declared.forms.Form.{Form}
use Rattle.indexes.specs.declared.keys.Key.{Key}
use Rattle.indexes.specs.declared.roles.ByRole.{ByRole}
use Rattle.indexes.specs.Keys.{by_kind, by_alone, by_first, by_second, by_filler, by_chain, by_end, by_plain, by_linked_first, by_linked_second, by_denied}

-- it holds of what there is by each key
pub record ForEach {T : Type 0} (P : (Form → Option Key) → T → Type 0) (by : ByRole T) : Type 0 where
  pub kinds : P by_kind by.kinds
  pub alone : P by_alone by.alone
  pub first : P by_first by.first
  pub second : P by_second by.second
  pub fillers : P by_filler by.fillers
  pub chains : P by_chain by.chains
  pub ends : P by_end by.ends
  pub plain : P by_plain by.plain
  pub linked_first : P by_linked_first by.linked_first
  pub linked_second : P by_linked_second by.linked_second
  pub denied : P by_denied by.denied

-- it holds of the two that there are by each key
pub record ForEachTwo {S T : Type 0} (P : (Form → Option Key) → S → T → Type 0) (one : ByRole S) (other : ByRole T) : Type 0 where
  pub kinds : P by_kind one.kinds other.kinds
  pub alone : P by_alone one.alone other.alone
  pub first : P by_first one.first other.first
  pub second : P by_second one.second other.second
  pub fillers : P by_filler one.fillers other.fillers
  pub chains : P by_chain one.chains other.chains
  pub ends : P by_end one.ends other.ends
  pub plain : P by_plain one.plain other.plain
  pub linked_first : P by_linked_first one.linked_first other.linked_first
  pub linked_second : P by_linked_second one.linked_second other.linked_second
  pub denied : P by_denied one.denied other.denied
