-- What follows by each of the keys of a form from what holds by each.
use Rattle.std.specs.Prelude.{Option}
use Rattle.normal_forms.specs.declared.forms.Form.{Form}
use Rattle.indexes.specs.declared.keys.Key.{Key}
use Rattle.indexes.specs.declared.roles.ByRole.{ByRole}
use Rattle.indexes.specs.Keys.{by_kind, by_alone, by_first, by_second, by_filler, by_chain, by_end, by_plain, by_linked_first, by_linked_second, by_denied}
use Rattle.indexes.specs.Roles.{ForEach, ForEachTwo}

pub for_each : {T : Type 0} (P Q : (Form → Option Key) → T → Type 0) (by : ByRole T) → ((key : Form → Option Key) (t : T) → P key t → Q key t) → ForEach P by → ForEach Q by
for_each P Q by so all = record {
  kinds = so by_kind by.kinds all.kinds;
  alone = so by_alone by.alone all.alone;
  first = so by_first by.first all.first;
  second = so by_second by.second all.second;
  fillers = so by_filler by.fillers all.fillers;
  chains = so by_chain by.chains all.chains;
  ends = so by_end by.ends all.ends;
  plain = so by_plain by.plain all.plain;
  linked_first = so by_linked_first by.linked_first all.linked_first;
  linked_second = so by_linked_second by.linked_second all.linked_second;
  denied = so by_denied by.denied all.denied;
}

-- from what holds of the one and of the two what holds of the other
pub for_other : {S T : Type 0} (P : (Form → Option Key) → S → Type 0) (R : (Form → Option Key) → S → T → Type 0) (Q : (Form → Option Key) → T → Type 0) (one : ByRole S) (other : ByRole T)
    → ((key : Form → Option Key) (s : S) (t : T) → P key s → R key s t → Q key t) → ForEach P one → ForEachTwo R one other → ForEach Q other
for_other P R Q one other so all two = record {
  kinds = so by_kind one.kinds other.kinds all.kinds two.kinds;
  alone = so by_alone one.alone other.alone all.alone two.alone;
  first = so by_first one.first other.first all.first two.first;
  second = so by_second one.second other.second all.second two.second;
  fillers = so by_filler one.fillers other.fillers all.fillers two.fillers;
  chains = so by_chain one.chains other.chains all.chains two.chains;
  ends = so by_end one.ends other.ends all.ends two.ends;
  plain = so by_plain one.plain other.plain all.plain two.plain;
  linked_first = so by_linked_first one.linked_first other.linked_first all.linked_first two.linked_first;
  linked_second = so by_linked_second one.linked_second other.linked_second all.linked_second two.linked_second;
  denied = so by_denied one.denied other.denied all.denied two.denied;
}

-- what follows of the two from what holds of them
pub for_both : {S T : Type 0} (P Q : (Form → Option Key) → S → T → Type 0) (one : ByRole S) (other : ByRole T) → ((key : Form → Option Key) (s : S) (t : T) → P key s t → Q key s t) → ForEachTwo P one other → ForEachTwo Q one other
for_both P Q one other so two = record {
  kinds = so by_kind one.kinds other.kinds two.kinds;
  alone = so by_alone one.alone other.alone two.alone;
  first = so by_first one.first other.first two.first;
  second = so by_second one.second other.second two.second;
  fillers = so by_filler one.fillers other.fillers two.fillers;
  chains = so by_chain one.chains other.chains two.chains;
  ends = so by_end one.ends other.ends two.ends;
  plain = so by_plain one.plain other.plain two.plain;
  linked_first = so by_linked_first one.linked_first other.linked_first two.linked_first;
  linked_second = so by_linked_second one.linked_second other.linked_second two.linked_second;
  denied = so by_denied one.denied other.denied two.denied;
}

-- .. and of the second of them
pub for_second : {S T : Type 0} (P : (Form → Option Key) → S → T → Type 0) (Q : (Form → Option Key) → T → Type 0) (one : ByRole S) (other : ByRole T) → ((key : Form → Option Key) (s : S) (t : T) → P key s t → Q key t) → ForEachTwo P one other → ForEach Q other
for_second P Q one other so two = record {
  kinds = so by_kind one.kinds other.kinds two.kinds;
  alone = so by_alone one.alone other.alone two.alone;
  first = so by_first one.first other.first two.first;
  second = so by_second one.second other.second two.second;
  fillers = so by_filler one.fillers other.fillers two.fillers;
  chains = so by_chain one.chains other.chains two.chains;
  ends = so by_end one.ends other.ends two.ends;
  plain = so by_plain one.plain other.plain two.plain;
  linked_first = so by_linked_first one.linked_first other.linked_first two.linked_first;
  linked_second = so by_linked_second one.linked_second other.linked_second two.linked_second;
  denied = so by_denied one.denied other.denied two.denied;
}
