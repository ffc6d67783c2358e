use Rattle.std.proofs.Common.{◌++◌, ◌≤◌, List, length, take, ◌+◌, refl, sym, ap, ◌∙◌, subst, arith}
use Rattle.std.proofs.lemmas.List.{take_all}
use Rattle.normal_forms.specs.declared.forms.PropId2.{PropId2}
use Rattle.normal_forms.specs.declared.forms.Form.{Form}
use Rattle.normal_forms.specs.declared.forms.Form.TheVariants.{N5}
use Rattle.number_sets.proofs.Members.{member_at}
use Rattle.property_closure.specs.Growth.{AreSupers, IsLengthened, lists_of}
use Rattle.property_closure.specs.declared.super_lists.SuperLists.{SuperLists}
use Rattle.property_closure.proofs.Growing.{as_before, form_added, lengthened}
use Rattle.property_closure.proofs.super_lists.SuperLists.with.Goals as goal
use Rattle.property_closure.proofs.super_lists.SuperLists.with.Goals.{in-N5+in_ok-add, in_default}

pub add-requires : goal.add-requires
add-requires c =
    let sub = c.in-N5.sub in
    let sup = c.in-N5.sup in
    let high : length c.args.self.now.base.value ≤ sub.0 = c.requires.behind sub.0 sup.0 (member_at c.args.forms.now c.loop-form.form-index _ (N5 sub sup) c.loop-form-test.true c.in-N5.is) in
    omega (arith, high, ap length c.loop-form.invariant.base)

pub loop-form-preserved : goal.loop-form-preserved
loop-form-preserved c =
    let forms = c.args.forms.now in
    let k = c.loop-form.form-index in
    let before = c.loop-form.invariant in
    elim c.match-form.branch [
      | in-N5+in_ok-add w ↦
          let sub = w.in-N5.sub in
          let sup = w.in-N5.sup in
          let adds = w.in_ok-add.ensures in
          let within = c.requires.within sub.0 sup.0 (member_at forms k _ (N5 sub sup) c.loop-form-test.true w.in-N5.is) in record {
            base = ap (λ (l : SuperLists). l.base.value) w.lists-is ∙ adds.base ∙ before.base;
            few = subst (λ (l : SuperLists). length (lists_of l) ≤ c.args.properties) (sym w.lists-is) (adds.most c.args.properties before.few within.0 within.1);
            supers = λ first were. subst (λ (l : SuperLists). AreSupers (first ++ take (k + 1) forms) l.base.value l.more) (sym w.lists-is)
                (form_added first forms k _ (N5 sub sup) w.add.new.self.base.value w.add.new.self.more c.loop-form-test.true w.in-N5.is (adds.supers (first ++ take k forms) (before.supers first were)));
          }
      | in_default w ↦ record {
        base = ap (λ (l : SuperLists). l.base.value) w.lists-is ∙ before.base;
        few = subst (λ (l : SuperLists). length (lists_of l) ≤ c.args.properties) (sym w.lists-is) before.few;
        supers = λ first were. subst (λ (l : SuperLists). AreSupers (first ++ take (k + 1) forms) l.base.value l.more) (sym w.lists-is)
            (form_added first forms k _ _ c.loop-form.lists.base.value c.loop-form.lists.more c.loop-form-test.true refl (as_before (first ++ take k forms) _ c.loop-form.lists.base.value c.loop-form.lists.more w.in_default.not-N5 (before.supers first were)));
      }
    ]

pub returns-clause-supers : goal.returns-clause-supers
returns-clause-supers c = λ first were.
    let forms = c.args.forms.now in
    let old = c.loop-form.lists in
    let new = c.lengthen.new.self in
    let kept = c.in_ok-lengthen.ensures.base in
    let all : AreSupers (first ++ forms) old.base.value old.more = subst (λ (fs : List Form). AreSupers (first ++ fs) old.base.value old.more) (take_all c.loop-form.form-index forms c.loop-form-test.false) (c.loop-form.invariant.supers first were) in
    lengthened (first ++ forms) new.base.value old.more new.more c.args.properties (subst (λ (b : List (List PropId2)). AreSupers (first ++ forms) b old.more) (sym kept) all)
    (subst (λ (b : List (List PropId2)). IsLengthened (b ++ old.more) (lists_of new) c.args.properties) (sym kept) c.in_ok-lengthen.ensures.longer)
