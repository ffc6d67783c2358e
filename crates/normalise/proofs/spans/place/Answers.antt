use Rattle.std.proofs.Common.{refl, ◌-◌, length, map, sym, subst, arith}
use Rattle.std.proofs.lemmas.List.{length-map}
use Rattle.std.proofs.lemmas.Option.{slice_get_read}
use Rattle.lemmas.proofs.Mapped.{slice_get_map}
use Rattle.normalise.specs.Spans.{IsListAt}
use Rattle.normalise.proofs.Placing.{listed_more, all_but_last}
use Rattle.normalise.proofs.spans.place.Goals as goal

pub returns-then-span-len-clause-placed : goal.returns-then-span-len-clause-placed
returns-then-span-len-clause-placed g c =
    let number = g.T.Member.number in let list = c.args.list.now in
    let last = slice_get_map number list (length list - 1) _ (slice_get_read list (length list) (length list - 1) c.index-list-list.result refl (omega arith) c.index-list-list.is) in
    subst (λ items. IsListAt number items (record { start = c.in-Some.span.start; end = c.len-then-span-len.result }) (map number list)) (sym c.push_reserved.ensures.items)
    (subst (IsListAt number _ _) (sym (all_but_last (map number list) (length list - 1) _ (omega (arith, length-map list number)) last))
    (listed_more number c.args.members.now.items c.in-Some.span _ _ _ (omega arith) (omega arith) (c.requires.there c.in-Some.span c.in-Some.is)))
