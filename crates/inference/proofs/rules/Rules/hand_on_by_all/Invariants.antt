use Rattle.std.proofs.Common.{ℕ, take, Contains}
use Rattle.inference.specs.Derivations.{Grows}
use Rattle.inference.specs.Sameness.{IsHandedOnBy}
use Rattle.inference.proofs.rules.Rules.hand_on_by_all.Given as goal

abbrev pub invariant-loop-number : goal.invariant-loop-number
invariant-loop-number l = record {
  grows : Grows l.self.problem.now l.self.max_facts l.fn.facts l.facts;
  drawn : (n : ℕ) → Contains (take l.number-index l.listed) n → IsHandedOnBy l.self.problem.now l.hand.fact l.facts.facts n;
}
