use Rattle.std.proofs.Common.{◌≡◌, ◌+◌, List, length, take, true, sym, ap, ◌∙◌, subst}
use Rattle.std.proofs.lemmas.List.{length-set, take_all}
use Rattle.std.specs.Prelude.{slice_set}
use Rattle.normal_forms.specs.declared.forms.PropId2.{PropId2}
use Rattle.property_closure.specs.Relations.{HasPut}
use Rattle.property_closure.proofs.Reflexives.{put_more, put_same}
use Rattle.property_closure.proofs.reflexive.put_each.Goals as goal
use Rattle.property_closure.proofs.reflexive.put_each.Goals.{in-Property, in_default}

pub loop-property-preserved : goal.loop-property-preserved
loop-property-preserved c =
    let start = c.args.set.now in
    let now = c.loop-property.set in
    let properties = c.args.properties.now in
    let k = c.loop-property.property-index in
    let before = c.loop-property.invariant in
    elim c.match-property.branch [
      | in-Property w ↦
          let id = w.in-Property.id in
          let is : c.match-property.set ≡ slice_set now id.0 true = w.set-is ∙ w.put.ensures.after ∙ ap (λ n. slice_set now n true) w.index.ensures in record {
            long = ap length is ∙ length-set now id.0 true ∙ before.long;
            each = subst (HasPut start (take (k + 1) properties)) (sym is) (put_more start now properties k _ id c.loop-property-test.true w.in-Property.is before.long before.each);
          }
      | in_default w ↦ record {
        long = ap length w.set-is ∙ before.long;
        each = subst (HasPut start (take (k + 1) properties)) (sym w.set-is) (put_same start now properties k _ c.loop-property-test.true w.in_default.not-Property before.each);
      }
    ]

pub returns-clause-each : goal.returns-clause-each
returns-clause-each c =
    subst (λ (list : List PropId2). HasPut c.args.set.now list c.loop-property.set) (take_all c.loop-property.property-index c.args.properties.now c.loop-property-test.false) c.loop-property.invariant.each
