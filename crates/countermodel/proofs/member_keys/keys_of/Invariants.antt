use Rattle.std.proofs.Common.{take}
use Rattle.countermodel.specs.Members.{HasKey, SayMembers}
use Rattle.countermodel.proofs.member_keys.keys_of.Given as goal

abbrev pub invariant-loop-fact : goal.invariant-loop-fact
invariant-loop-fact l = SayMembers l.ontology l.elements (take l.fact-index l.facts) (HasKey l.keys.items)
