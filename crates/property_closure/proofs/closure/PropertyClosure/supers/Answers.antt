use Rattle.std.proofs.Common.{◌≡◌, ◌↔◌, ◌<◌, ◌≤◌, ℕ, List, length, slice_get, Some, Contains, sym, ap, ◌∙◌, subst, arith}
use Rattle.std.proofs.lemmas.Bool.{eqb-false, eqb-true}
use Rattle.normal_forms.specs.declared.forms.PropId2.{PropId2}
use Rattle.normal_forms.specs.declared.forms.PropId2.TheVariants.{Property, Partial}
use Rattle.normal_forms.specs.Properties.{IsAtOrBelow}
use Rattle.number_sets.specs.Pieces.{list_at}
use Rattle.property_closure.specs.Growth.{lists_of}
use Rattle.property_closure.specs.Relations.{AreAbove, Tells}
use Rattle.property_closure.specs.PropertyClosures.{Has, known_by}
use Rattle.property_closure.proofs.Keeping.{alone_above, partial_above, only_itself, empty_past, full_within}
use Rattle.property_closure.proofs.closure.PropertyClosure.supers.Goals as goal

pub returns-then-is_empty : goal.returns-then-is_empty
returns-then-is_empty c =
    let w = c.self.invariant.related in
    let id = c.in-Property.id in
    let known = known_by c.self.inside in
    let lists = c.self.inside.related.supers in
    let found = c.at-list.ensures ∙ ap (list_at (lists_of lists)) c.index.ensures in
    let high : length (lists_of lists) ≤ id.0 = empty_past known.forms lists.base.value lists.more id.0 c.at-list.result.now w.supers found (eqb-true (length c.at-list.result.now) 0 (sym c.is_empty.ensures ∙ c.if-is_empty.true)) in
    let list = c.deref.result.now in
    let is = c.deref.ensures.value in
    let at = c.index-then-is_empty.ensures in
    let none : (s : ℕ) → Tells known.forms id.0 s → ⊥ = λ s t. (let l : id.0 < length (lists_of lists) = (w.supers.within id.0 s t).0 in absurd (omega (arith, high, l))) in
    let there = λ (x : PropId2) (g : slice_get list id.0 ≡ Some x). c.alone.ensures.there x (subst (λ (n : ℕ). slice_get list n ≡ Some x) (sym at) g) in
    let past = λ (l : length list ≤ id.0). c.alone.ensures.past (omega (arith, at, l)) in
    let all = only_itself known.forms (Property id) (alone_above known.forms id.0 none) list id.0 c.alone.result.now
    (λ x g. c.self.invariant.properties id.0 x (subst (λ (l : List PropId2). slice_get l id.0 ≡ Some x) is g)) there past in
    rw (← c.self.view_is) (rw (c.in-Property.is) (record {
      ascending = all.0;
      exact = λ q. subst (λ (l : List PropId2). Contains c.alone.result.now q ↔ ((id.0 < length l) × IsAtOrBelow known.forms (Property id) q)) is (all.1 q);
    }))

pub returns-else-is_empty : goal.returns-else-is_empty
returns-else-is_empty c =
    let w = c.self.invariant.related in
    let id = c.in-Property.id in
    let known = known_by c.self.inside in
    let lists = c.self.inside.related.supers in
    let list = c.at-list.result.now in
    let is = c.at-list.ensures ∙ ap (list_at (lists_of lists)) c.index.ensures in
    let low : id.0 < length (lists_of lists) = full_within lists.base.value lists.more id.0 list is (λ (none : length list ≡ 0). absurd (eqb-false (length list) 0 (sym c.is_empty.ensures ∙ c.if-is_empty.false) none)) in
    let up : AreAbove known.forms c.args.p list = subst (λ (p : PropId2). AreAbove known.forms p list) (sym c.in-Property.is) (subst (AreAbove known.forms (Property id)) (sym is) (w.supers.each id.0 low)) in
    let within : Has known c.args.p = subst (Has known) (sym c.in-Property.is) (omega (arith, low, w.covered)) in
    rw (← c.self.view_is) (record {
      ascending = up.ascending;
      exact = λ q. (λ h. (within, (up.exact q).0 h), λ h. (up.exact q).1 h.1);
    })

pub returns-in-Partial : goal.returns-in-Partial
returns-in-Partial c =
    let known = known_by c.self.inside in
    let n = c.in-Partial.number in
    let list = c.deref-in-Partial.result.now in
    let is = c.deref-in-Partial.ensures.value in
    let all = only_itself known.forms (Partial n) (partial_above known.forms n) list n c.alone-in-Partial.result.now
    (λ x g. c.self.invariant.partials n x (subst (λ (l : List PropId2). slice_get l n ≡ Some x) is g)) c.alone-in-Partial.ensures.there c.alone-in-Partial.ensures.past in
    rw (← c.self.view_is) (rw (c.in-Partial.is) (record {
      ascending = all.0;
      exact = λ q. subst (λ (l : List PropId2). Contains c.alone-in-Partial.result.now q ↔ ((n < length l) × IsAtOrBelow known.forms (Partial n) q)) is (all.1 q);
    }))
