use Rattle.std.proofs.Common.{◌≡◌, ◌+◌, ◌-◌, length, map, sym, ap, ◌∙◌, subst, arith, take, if◌then◌else◌}
use Rattle.std.specs.Prelude.{option_and_then, slice_get}
use Rattle.std.proofs.lemmas.List.{length-map}
use Rattle.normalise.specs.Lengths.{IsShorter}
use Rattle.normalise.specs.Spans.{IsListAt}
use Rattle.normalise.proofs.Pairs.{pair_inserted}
use Rattle.normalise.proofs.Keeping.{span_there, longer_old, longer_next}
use Rattle.normalise.proofs.table.Prefixes.longer.Goals as goal

pub place-span-requires-clause-there : goal.place-span-requires-clause-there
place-span-requires-clause-there g c = λ s e.
    let number = g.T.Member.number in let self = c.self.inside in let list = map number c.args.list.now in
    let there = span_there number self.table.keys self.spans.items self.members.items c.self.invariant c.args.shorter list
    (subst (λ v. IsShorter v c.args.shorter list) (sym c.self.view_is) c.requires.shorter) s
    (ap (λ v. option_and_then (slice_get v) c.args.shorter) (sym c.reserve.ensures.items ∙ sym c.deref.ensures.value) ∙ sym c.span_of-before.ensures ∙ e) in
    subst (λ n. IsListAt number c.reserve-2.new.self.items s (take (n - 1) list)) (length-map c.args.list.now number)
    (subst (λ m. IsListAt number m s (take (length list - 1) list)) (sym c.reserve-2.ensures.items) there)

pub returns-then-not-is_new-clause-ok : goal.returns-then-not-is_new-clause-ok
returns-then-not-is_new-clause-ok g c =
    let number = g.T.Member.number in let self = c.self.inside in let list = map number c.args.list.now in
    longer_old number self.table.keys self.spans.items c.reserve.new.self.items self.members.items c.reserve-2.new.self.items c.args.self.now c.self.invariant c.self.view_is c.args.shorter list
    (omega (arith, length-map c.args.list.now number)) c.requires.shorter c.key_of.result c.key_of.ensures c.insert.new.self.keys c.in_ok-number.number
    (pair_inserted c.key_of.result self.table.keys c.insert.new.self.keys c.in_ok-number.number c.in_ok-number.ensures.keys c.in_ok-number.ensures.stored)
    (subst (λ b. length c.insert.new.self.keys ≡ length self.table.keys + (if b then 1 else 0)) c.if-not-is_new.true c.in_ok-number.ensures.count)
    c.reserve.ensures.items c.reserve-2.ensures.items

pub invariant_of-self-2 : goal.invariant_of-self-2
invariant_of-self-2 g c =
    let number = g.T.Member.number in let self = c.self.inside in let list = map number c.args.list.now in
    (longer_next number self.table.keys self.spans.items c.reserve.new.self.items c.push_reserved.new.self.items self.members.items c.reserve-2.new.self.items c.place-span.new.members.items c.place-span.ensures.kept.0 c.args.self.now c.place-span.result c.self.invariant c.self.view_is c.args.shorter list
    (omega (arith, length-map c.args.list.now number)) c.requires.shorter c.key_of.result c.key_of.ensures c.insert.new.self.keys c.in_ok-number.number
    (pair_inserted c.key_of.result self.table.keys c.insert.new.self.keys c.in_ok-number.number c.in_ok-number.ensures.keys c.in_ok-number.ensures.stored)
    (omega (arith, c.if-len.false, c.len.ensures))
    (subst (λ b. length c.insert.new.self.keys ≡ length self.table.keys + (if b then 1 else 0)) c.if-not-is_new.false c.in_ok-number.ensures.count)
    c.reserve.ensures.items c.push_reserved.ensures.items c.reserve-2.ensures.items c.place-span.ensures.kept.1 c.place-span.ensures.placed).0

pub returns-clause-ok : goal.returns-clause-ok
returns-clause-ok g c =
    let number = g.T.Member.number in let self = c.self.inside in let list = map number c.args.list.now in
    (longer_next number self.table.keys self.spans.items c.reserve.new.self.items c.push_reserved.new.self.items self.members.items c.reserve-2.new.self.items c.place-span.new.members.items c.place-span.ensures.kept.0 c.args.self.now c.place-span.result c.self.invariant c.self.view_is c.args.shorter list
    (omega (arith, length-map c.args.list.now number)) c.requires.shorter c.key_of.result c.key_of.ensures c.insert.new.self.keys c.in_ok-number.number
    (pair_inserted c.key_of.result self.table.keys c.insert.new.self.keys c.in_ok-number.number c.in_ok-number.ensures.keys c.in_ok-number.ensures.stored)
    (omega (arith, c.if-len.false, c.len.ensures))
    (subst (λ b. length c.insert.new.self.keys ≡ length self.table.keys + (if b then 1 else 0)) c.if-not-is_new.false c.in_ok-number.ensures.count)
    c.reserve.ensures.items c.push_reserved.ensures.items c.reserve-2.ensures.items c.place-span.ensures.kept.1 c.place-span.ensures.placed).1
