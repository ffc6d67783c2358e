use Rattle.std.proofs.Common.{◌≡◌, ◌∙◌, get_or, inl, inr, length, ap, arith, lt-ltb, ltb-true}
use Rattle.std.proofs.lemmas.Bool.{cases_lt}
use Rattle.std.proofs.lemmas.List.{get_or_default}
use Rattle.work_list.proofs.Chains.{empty_list, some_list}
use Rattle.work_list.proofs.groups.Groups.has.Goals as goal

pub returns-then-place-len : goal.returns-then-place-len
returns-then-place-len c =
    let nodes = c.self.inside.nodes.items in
    let heads = c.self.inside.heads.items in
    let number = c.index.result.now in
    let read : number ≡ get_or heads c.args.context 0 = c.index.ensures ∙ get_or_default heads c.args.context number 0 (omega (arith, c.if-place-len.true, c.len.ensures)) in
    rw (← c.self.view_is) (
      λ some. some_list nodes c.self.inside.free heads c.self.invariant c.args.context (omega (arith, read, ltb-true 0 number some)),
      λ waits. elim (cases_lt 0 number) [
        | inl some ↦ lt-ltb 0 number some
        | inr none ↦ absurd (omega (arith, waits, ap length (empty_list nodes heads c.args.context (omega (arith, read, none)))))
      ],
    )
