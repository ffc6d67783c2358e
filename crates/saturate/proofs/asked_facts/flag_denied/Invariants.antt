use Rattle.std.proofs.Common.{◌≡◌, ℕ, length, take}
use Rattle.saturate.specs.Flags.{AreFlaggedToo, IsSuchForOne}
use Rattle.saturate.specs.Requests.{Denies, IsSuchAt}
use Rattle.saturate.proofs.asked_facts.flag_denied.Given as goal

abbrev pub invariant-loop-place : goal.invariant-loop-place
invariant-loop-place l = record {
  long : length l.flags ≡ length l.facts.facts;
  too : AreFlaggedToo (IsSuchForOne (λ (i n : ℕ). (n ≡ i) × IsSuchAt (Denies l.ground.forms l.form) l.facts.facts n) (take l.place l.edges)) l.fn.flags l.flags;
}
