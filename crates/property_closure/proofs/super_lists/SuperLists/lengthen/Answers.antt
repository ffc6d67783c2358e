use Rattle.std.proofs.Common.{◌≡◌, ◌+◌, ◌++◌, ◌∷◌, [], List, length, sym, ap, ◌∙◌, subst₂, arith}
use Rattle.std.proofs.lemmas.List.{append_assoc, length-append, length_push}
use Rattle.normal_forms.specs.declared.forms.PropId2.{PropId2}
use Rattle.property_closure.specs.Growth.{IsLengthened, lists_of}
use Rattle.property_closure.specs.Relations.{as_property}
use Rattle.property_closure.proofs.Growing.{one_longer}
use Rattle.property_closure.proofs.super_lists.SuperLists.lengthen.Goals as goal

pub loop-place-preserved : goal.loop-place-preserved
loop-place-preserved c =
    let before = c.loop-place.invariant in
    let start = lists_of c.args.self.now in
    let base = c.loop-place.self.base.value in
    let more = c.loop-place.self.more in
    let n = c.len-base.result + c.loop-place.place in
    let list = as_property n ∷ [] in
    let is : base ++ c.push.new.self ≡ (base ++ more) ++ list ∷ [] = ap (λ (m : List (List PropId2)). base ++ m) c.in_ok-push.ensures ∙ sym (append_assoc base more (list ∷ [])) in
    let long : length (base ++ more) ≡ n = omega (arith, length-append base more, before.long, before.from, ap length before.base) in
    let next : n + 1 ≡ c.len-base.result + (c.loop-place.place + 1) = omega arith in record {
      base = before.base;
      from = before.from;
      long = omega (arith, ap length c.in_ok-push.ensures, length_push more list, before.long);
      most = λ m a b. omega (arith, b, c.loop-place-test.true, c.saturating_sub-place-end.ensures);
      longer = subst₂ (IsLengthened start) (sym is) next (one_longer start (base ++ more) n before.longer long);
    }
