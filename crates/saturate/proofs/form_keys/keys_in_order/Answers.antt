use Rattle.std.proofs.Common.{List, map, ap, subst, ◌∙◌, arith}
use Rattle.std.specs.List.Sorted.{IsPermutation}
use Rattle.std.proofs.lemmas.List.{take_all}
use Rattle.saturate.specs.FormKeys.{FormKey, form_key}
use Rattle.saturate.proofs.FormKeys.{keys_more, keys_of}
use Rattle.saturate.proofs.form_keys.keys_in_order.Goals as goal

pub loop-number-preserved : goal.loop-number-preserved
loop-number-preserved c = c.in_ok-push.ensures.items ∙ keys_more c.args.forms.now c.loop-number.number c.at.result c.loop-number.keys.items c.form_key.result c.at.ensures c.loop-number.invariant c.form_key.ensures

pub returns : goal.returns
returns c =
    let forms = c.args.forms.now in
    let sorted = c.sort_unstable.new.self.items in
    let all = c.loop-number.invariant ∙ ap (map form_key) (take_all c.loop-number.number forms (omega (arith, c.loop-number-test.false, c.len-number-end.ensures))) in
    (c.sort_unstable.ensures.sorted, keys_of forms sorted (subst (λ (keys : List FormKey). IsPermutation keys sorted) all c.sort_unstable.ensures.permutation))
