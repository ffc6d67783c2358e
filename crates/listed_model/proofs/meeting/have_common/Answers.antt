use Rattle.std.proofs.Common.{inl, inr, arith}
use Rattle.std.proofs.lemmas.Bool.{cases_lt}
use Rattle.interpretation_spec.proofs.Ascending.{no_descent}
use Rattle.listed_model.proofs.Covering.{no_fall, none_common}
use Rattle.listed_model.proofs.meeting.have_common.Goals as goal

pub next_place-i-requires-clause-list : goal.next_place-i-requires-clause-list
next_place-i-requires-clause-list c = no_fall c.args.first.now c.requires.first

pub next_place-j-requires-clause-list : goal.next_place-j-requires-clause-list
next_place-j-requires-clause-list c = no_fall c.args.second.now c.requires.second

pub loop-i-preserved-then-first-i-2 : goal.loop-i-preserved-then-first-i-2
loop-i-preserved-then-first-i-2 c = record {
  first = c.next_place-i.ensures.within;
  second = c.loop-i.invariant.second;
  passed = λ k m l n e.
      let old = c.loop-i.invariant.passed k m l n e in
      elim (cases_lt k c.next_place-i.result) [
        | inr b ↦ (b, old.1)
        | inl b ↦
            (let low = c.next_place-i.ensures.below k old.0 b in
            let up = no_descent c.args.second.now c.requires.second c.loop-i.j m old.1 n in
            absurd (omega arith))
      ];
}

pub loop-i-preserved : goal.loop-i-preserved
loop-i-preserved c = record {
  first = c.loop-i.invariant.first;
  second = c.next_place-j.ensures.within;
  passed = λ k m l n e.
      let old = c.loop-i.invariant.passed k m l n e in
      elim (cases_lt m c.next_place-j.result) [
        | inr b ↦ (old.0, b)
        | inl b ↦
            (let low = c.next_place-j.ensures.below m old.1 b in
            let up = no_descent c.args.first.now c.requires.first c.loop-i.i k old.0 l in
            absurd (omega arith))
      ];
}

pub returns-else-j-second : goal.returns-else-j-second
returns-else-j-second c = none_common c.args.first.now c.args.second.now c.loop-i.i c.loop-i.j (inr (omega arith)) c.loop-i.invariant.passed

pub returns-after-loop-i : goal.returns-after-loop-i
returns-after-loop-i c = none_common c.args.first.now c.args.second.now c.loop-i.i c.loop-i.j (inl (omega arith)) c.loop-i.invariant.passed
