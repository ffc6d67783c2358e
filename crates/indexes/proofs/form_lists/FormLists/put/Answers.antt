use Rattle.std.proofs.Common.{◌≡◌, ℕ, List, None, ap, refl, subst, ◌∙◌, arith}
use Rattle.std.proofs.lemmas.Result.{on_ok_weaker}
use Rattle.indexes.specs.ChangedLists.{changed_at, HasKeyFirst}
use Rattle.indexes.specs.FormIndex.{at_key}
use Rattle.indexes.specs.declared.key_lists.KeyLists.{KeyLists}
use Rattle.indexes.specs.declared.keys.Key.{Key}
use Rattle.indexes.proofs.Changing.{first_is}
use Rattle.indexes.proofs.Putting.{ends_still, put_begun, put_changed}
use Rattle.indexes.proofs.form_lists.FormLists.put.Goals as goal

pub invariant_of-self-clause-used : goal.invariant_of-self-clause-used
invariant_of-self-clause-used c = c.insert_at.ensures.used c.args.self.now.used

pub invariant_of-self-clause-ends : goal.invariant_of-self-clause-ends
invariant_of-self-clause-ends c =
    let old = c.args.self.now in
    ends_still old.shared.value old.changed.items c.insert_at.new.changed.items c.args.key old.end c.above.result c.max-self.result old.ends c.insert_at.ensures.elsewhere c.above.ensures (omega (arith, c.max-self.ensures)) (omega (arith, c.max-self.ensures))

pub invariant_of-self-in-None-clause-ends : goal.invariant_of-self-in-None-clause-ends
invariant_of-self-in-None-clause-ends c =
    let old = c.args.self.now in
    ends_still old.shared.value old.changed.items c.begin.new.changed.items c.args.key old.end c.above.result c.max-self.result old.ends c.begin.ensures.elsewhere c.above.ensures (omega (arith, c.max-self.ensures)) (omega (arith, c.max-self.ensures))

pub returns-in-Some : goal.returns-in-Some
returns-in-Some c =
    let h = subst (λ (cs : List (Key × List ℕ)). HasKeyFirst cs c.args.key c.in-Some.place) c.deref.ensures.value c.in-Some.ensures.some in
    on_ok_weaker c.insert_at.result
    (λ changes. put_changed c.args.self.now _ c.args.key c.args.many c.args.number refl c.requires h.items (first_is c.args.self.now.changed.items c.args.key c.in-Some.place h.items h.there h.first) changes)
    c.insert_at.ensures.ok

pub returns-in-None : goal.returns-in-None
returns-in-None c =
    let none = subst (λ (cs : List (Key × List ℕ)). changed_at cs c.args.key ≡ None) c.deref.ensures.value c.in-None.ensures.none in
    on_ok_weaker c.begin.result
    (λ changes. put_begun c.args.self.now _ c.args.key c.args.many c.args.number refl c.requires c.of-numbers.result.now none (c.of-numbers.ensures ∙ ap (λ (l : KeyLists). at_key l c.args.key) c.as_ref.ensures) changes)
    c.begin.ensures.ok
