use Rattle.std.proofs.Common.{◌++◌, List, Contains, sym, subst}
use Rattle.std.proofs.lemmas.List.Elements.{Contains-append_right}
use Rattle.std.proofs.lemmas.Result.{IfOk-weaker}
use Rattle.normal_forms.specs.declared.forms.Form.{Form}
use Rattle.normal_forms.specs.declared.forms.Form.TheVariants.{N5}
use Rattle.property_closure.specs.Growth.{AreSupers}
use Rattle.property_closure.specs.declared.super_lists.SuperLists.{SuperLists}
use Rattle.property_closure.specs.Relations.{as_id}
use Rattle.property_closure.proofs.related.Related.supers_with.Goals as goal

pub with-requires-clause-within : goal.with-requires-clause-within
with-requires-clause-within c = λ r s t.
    let form = N5 (as_id r) (as_id s) in
    c.requires.within r s (subst (λ (fs : List Form). Contains fs form) (sym c.requires.all) (Contains-append_right c.args.self.now.forms.value.items c.args.added.now form t))

pub with-requires-clause-behind : goal.with-requires-clause-behind
with-requires-clause-behind c = c.can_take.ensures.0 c.if-can_take.true

pub returns-then-can_take-clause-supers : goal.returns-then-can_take-clause-supers
returns-then-can_take-clause-supers c =
    let forms = c.args.self.now.forms.value.items in
    let old = c.args.self.now.supers in
    IfOk-weaker c.with.result
    (λ (l : SuperLists). (before : List Form) → AreSupers before old.base.value old.more → AreSupers (before ++ c.args.added.now) l.base.value l.more)
    (λ (l : SuperLists). AreSupers c.args.all.now l.base.value l.more)
    (λ l all. subst (λ (fs : List Form). AreSupers fs l.base.value l.more) (sym c.requires.all) (all forms c.requires.supers)) c.with.ensures.supers
