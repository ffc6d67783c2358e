use Rattle.std.proofs.Common.{◌∙◌, false, length, ap}
use Rattle.std.proofs.lemmas.List.{length-replicate}
use Rattle.saturate.proofs.Flagging.{flagged_alone, is_none, one_named}
use Rattle.saturate.specs.Requests.{IsOfNamedClass}
use Rattle.saturate.proofs.named_facts.flags_of_named.Goals as goal

pub flag_of_named-requires : goal.flag_of_named-requires
flag_of_named-requires c = ap length c.in_ok-flags.ensures ∙ length-replicate c.len.result false ∙ c.len.ensures.value

pub returns-clause-flags : goal.returns-clause-flags
returns-clause-flags c = λ n _. flagged_alone (IsOfNamedClass c.args.forms.now) _ c.args.facts.now.facts c.in_ok-flags.flags c.flag_of_named.new.flags n (rw c.in_ok-flags.ensures (is_none c.len.result n)) (one_named c.args.forms.now c.args.facts.now.facts n) c.in_ok-flag_of_named.ensures.ok
