use Rattle.std.proofs.Common.{◌≡◌, suc, get_or, ◌+◌, ◌^◌, ◌<◌, [], ◌∷◌, ◌++◌, length, sym, ap, ◌∙◌, arith}
use Rattle.facts.proofs.Chaining.{chained_push, chained_same}
use Rattle.facts.proofs.chained.ChainedFacts.push.Goals as goal

pub invariant_of-self-in_err-reserve : goal.invariant_of-self-in_err-reserve
invariant_of-self-in_err-reserve c =
    rw c.reserve.ensures.items
    (chained_same (record { by = c.self.inside.by; facts = c.self.inside.facts.items }) c.self.inside.newest.items c.self.inside.before.items c.extend.new.numbers.items c.extend.ensures.same c.self.invariant)

pub invariant_of-self-in_err-push : goal.invariant_of-self-in_err-push
invariant_of-self-in_err-push c =
    rw (c.reserve.ensures.items, c.in_err-push.ensures.items)
    (chained_same (record { by = c.self.inside.by; facts = c.self.inside.facts.items }) c.self.inside.newest.items c.self.inside.before.items c.extend.new.numbers.items c.extend.ensures.same c.self.invariant)

pub invariant_of-self-2 : goal.invariant_of-self-2
invariant_of-self-2 c =
    let by = c.self.inside.by in
    let facts = c.self.inside.facts.items in
    let before = c.self.inside.before.items in
    let newest = c.extend.new.numbers.items in
    let key = c.key_of-key.result in
    let few : length facts < 4294967295 = rw (← c.self.view_is) at c.requires in
    let short : length facts + 1 < 2 ^ 32 = omega (arith, few) in
    let here : get_or c.put.new.numbers.items key 0 ≡ suc (length facts) =
    omega (arith, c.put.ensures.here c.in_ok-extend.ensures.there, c.len.ensures, c.reserve.ensures.len, c.self.inside.facts.ok.0) in
    let linked : c.push.new.self.items ≡ before ++ get_or newest key 0 ∷ [] =
    c.in_ok-push.ensures.items ∙ ap (λ b. before ++ b ∷ []) (c.at-before.ensures ∙ ap (λ l. get_or l key 0) c.deref.ensures.value) in
    let pushed : c.push_reserved.new.self.items ≡ facts ++ c.args.fact ∷ [] =
    c.push_reserved.ensures.items ∙ ap (λ f. c.reserve.new.self.items ++ f ∷ []) c.new.ensures ∙ ap (λ l. l ++ c.args.fact ∷ []) c.reserve.ensures.items in
    rw pushed (chained_push (record { by = by; facts = facts }) c.args.fact key newest before c.put.new.numbers.items c.push.new.self.items
    (sym c.key_of-key.ensures) short here c.put.ensures.others linked
    (chained_same (record { by = by; facts = facts }) c.self.inside.newest.items before newest c.extend.ensures.same c.self.invariant))
