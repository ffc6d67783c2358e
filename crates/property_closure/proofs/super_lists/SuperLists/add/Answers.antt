use Rattle.std.proofs.Common.{◌≡◌, ◌+◌, ◌-◌, ◌<◌, ◌≤◌, length, ap, ◌∙◌, arith}
use Rattle.std.proofs.lemmas.List.{length-append, length-set}
use Rattle.std.proofs.lemmas.Result.{on_ok_weaker}
use Rattle.number_sets.specs.Pieces.{list_at}
use Rattle.property_closure.specs.Growth.{lists_of}
use Rattle.property_closure.proofs.Growing.{all_go, edge_added, one_goes}
use Rattle.property_closure.proofs.super_lists.SuperLists.add.Goals as goal

pub returns-then-is_new-clause-supers : goal.returns-then-is_new-clause-supers
returns-then-is_new-clause-supers c =
    let sub = c.args.sub in
    let sup = c.args.sup in
    let old = c.args.self.now in
    let base = c.lengthen.new.self.base.value in
    let more = c.lengthen.new.self.more in
    let kept = c.in_ok-lengthen.ensures.base in
    let longer = c.in_ok-lengthen.ensures.longer in
    let n = c.max.result + 1 in
    let above = c.deref.result.now in
    let is = c.deref.ensures.value ∙ c.in_ok-above.ensures ∙ c.at.ensures ∙ ap (list_at (lists_of c.lengthen.new.self)) c.index-4.ensures in
    let many : c.len.result ≡ length old.base.value = c.len.ensures ∙ ap length c.as_ref.ensures in
    let behind : length base ≤ sub.0 = omega (arith, ap length kept, c.requires) in
    let sub_low : sub.0 < n = omega (arith, c.max.ensures, c.index-2.ensures, c.index-3.ensures) in
    let sup_low : sup.0 < n = omega (arith, c.max.ensures, c.index-2.ensures, c.index-3.ensures) in
    let place = c.index.result - c.len.result in
    let at : length base + place ≡ sub.0 = omega (arith, many, ap length kept, c.index.ensures, c.requires) in
    let low : place < length more = omega (arith, at, sub_low, longer.enough, length-append base more) in
    let high : length (lists_of old) ≤ sub.0 = omega (arith, length-append old.base.value old.more, c.if-is_new.true, c.len-2.ensures, many, c.index.ensures, c.requires) in
    on_ok_weaker c.widen.result (λ widened forms were.
    let (list, union, set) = widened in
    edge_added forms sub sup base old.base.value old.more more c.widen.new.self above n kept longer behind sub_low sup_low is (ap length set ∙ length-set more place list)
    (λ within now. one_goes (length (lists_of old)) forms sub sup base more c.widen.new.self above list place were.within high at low union set) were) c.widen.ensures

pub returns-clause-most : goal.returns-clause-most
returns-clause-most c =
    let old = c.args.self.now in
    let base = c.lengthen.new.self.base.value in
    let more = c.lengthen.new.self.more in
    on_ok_weaker c.raise.result (λ raised n a b d.
    let longer : length (lists_of c.lengthen.new.self) ≤ n = c.in_ok-lengthen.ensures.longer.most n a (omega (arith, c.max.ensures, c.index-2.ensures, c.index-3.ensures, b, d)) in
    omega (arith, longer, raised.long, length-append base more, length-append base c.raise.new.self)) c.raise.ensures

pub returns-clause-supers : goal.returns-clause-supers
returns-clause-supers c =
    let sub = c.args.sub in
    let sup = c.args.sup in
    let old = c.args.self.now in
    let base = c.lengthen.new.self.base.value in
    let more = c.lengthen.new.self.more in
    let kept = c.in_ok-lengthen.ensures.base in
    let longer = c.in_ok-lengthen.ensures.longer in
    let n = c.max.result + 1 in
    let above = c.deref-else-is_new.result.now in
    let is = c.deref-else-is_new.ensures.value ∙ c.in_ok-above.ensures ∙ c.at.ensures ∙ ap (list_at (lists_of c.lengthen.new.self)) c.index-4.ensures in
    let behind : length base ≤ sub.0 = omega (arith, ap length kept, c.requires) in
    let sub_low : sub.0 < n = omega (arith, c.max.ensures, c.index-2.ensures, c.index-3.ensures) in
    let sup_low : sup.0 < n = omega (arith, c.max.ensures, c.index-2.ensures, c.index-3.ensures) in
    on_ok_weaker c.raise.result (λ raised forms were.
    edge_added forms sub sup base old.base.value old.more more c.raise.new.self above n kept longer behind sub_low sup_low is raised.long
    (λ within now. all_go forms sub sup base more c.raise.new.self above now raised) were) c.raise.ensures
