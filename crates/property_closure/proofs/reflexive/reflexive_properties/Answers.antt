use Rattle.std.proofs.Common.{ℕ, ◌+◌, ◌<◌, length, sym, ap, ◌∙◌, subst, arith}
use Rattle.normal_forms.specs.declared.forms.PropId2.TheVariants.{Property}
use Rattle.normal_forms.specs.declared.forms.Form.TheVariants.{N7}
use Rattle.number_sets.specs.Pieces.{list_at}
use Rattle.property_closure.specs.Growth.{lists_of}
use Rattle.property_closure.specs.Relations.{AreAbove, ArePlainWithin}
use Rattle.number_sets.proofs.Members.{member_at}
use Rattle.property_closure.proofs.Reflexives.{AreDeclared, declared_more, declared_same, declared_all}
use Rattle.property_closure.proofs.reflexive.reflexive_properties.Goals as goal
use Rattle.property_closure.proofs.reflexive.reflexive_properties.Goals.{in-N7, in_default}

pub loop-form-preserved : goal.loop-form-preserved
loop-form-preserved c =
    let forms = c.args.forms.now in
    let n = c.args.properties in
    let lists = lists_of c.args.supers.now in
    let now = c.loop-form.reflexive in
    let k = c.loop-form.form-index in
    let before = c.loop-form.invariant in
    let plain = subst (λ (m : ℕ). ArePlainWithin m forms) c.requires.covered c.requires.supers.within in
    elim c.match-form.branch [
      | in-N7 w ↦
          let id = w.in-N7.property in
          let within : id.0 < n = c.requires.within id.0 (member_at forms k _ (N7 id) c.loop-form-test.true w.in-N7.is) in
          let list_is = w.at.ensures ∙ ap (list_at lists) w.index.ensures in
          let up = subst (AreAbove forms (Property id)) (sym list_is) (c.requires.supers.each id.0 (omega (arith, within, c.requires.covered))) in record {
            long = ap length w.reflexive-is ∙ w.put_each.ensures.length ∙ before.long;
            each = subst (AreDeclared forms (k + 1)) (sym w.reflexive-is) (declared_more n forms k _ id now w.put_each.new.set w.at.result.now c.loop-form-test.true w.in-N7.is plain within before.long up w.put_each.ensures.length w.put_each.ensures.each before.each);
          }
      | in_default w ↦ record {
        long = ap length w.reflexive-is ∙ before.long;
        each = subst (AreDeclared forms (k + 1)) (sym w.reflexive-is) (declared_same forms k _ now c.loop-form-test.true w.in_default.not-N7 before.each);
      }
    ]

pub returns : goal.returns
returns c = declared_all c.args.forms.now c.loop-form.form-index c.loop-form.reflexive c.loop-form-test.false c.loop-form.invariant.each
