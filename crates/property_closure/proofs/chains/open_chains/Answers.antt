use Rattle.std.proofs.Common.{◌+◌, length, sym, ap, ◌∙◌, subst, subst₂}
use Rattle.normal_forms.specs.declared.forms.Form.TheVariants.{N6}
use Rattle.normal_forms.specs.Properties.{IsPropertyOf}
use Rattle.property_closure.specs.declared.chains.OpenChains.{OpenChains}
use Rattle.number_sets.proofs.Members.{member_at}
use Rattle.property_closure.proofs.ChainLists.{AreChainsUpTo, chains_more, chains_same, chains_of}
use Rattle.property_closure.proofs.chains.open_chains.Goals as goal
use Rattle.property_closure.proofs.chains.open_chains.Goals.{in-N6+in_ok-add, in_default}

pub add-requires : goal.add-requires
add-requires c =
    let before = c.loop-form.invariant in
    let w = c.in-N6 in
    subst₂ (λ a b. IsPropertyOf a b w.first) (sym before.properties) (sym before.partials)
    (c.requires w.first (w.second, w.whole) (member_at c.args.forms.now c.loop-form.form-index _ (N6 w.first w.second w.whole) c.loop-form-test.true w.is))

pub loop-form-preserved : goal.loop-form-preserved
loop-form-preserved c =
    let forms = c.args.forms.now in
    let now = c.loop-form.unsorted in
    let k = c.loop-form.form-index in
    let before = c.loop-form.invariant in
    elim c.match-form.branch [
      | in-N6+in_ok-add w ↦
          let adds = w.in_ok-add.ensures in record {
            properties = ap (λ (o : OpenChains). length o.properties) w.unsorted-is ∙ adds.properties ∙ before.properties;
            partials = ap (λ (o : OpenChains). length o.partials) w.unsorted-is ∙ adds.partials ∙ before.partials;
            each = subst (AreChainsUpTo forms (k + 1)) (sym w.unsorted-is) (chains_more forms k _ w.in-N6.first w.in-N6.second w.in-N6.whole now w.add.new.self c.loop-form-test.true w.in-N6.is adds before.each);
          }
      | in_default w ↦ record {
        properties = ap (λ (o : OpenChains). length o.properties) w.unsorted-is ∙ before.properties;
        partials = ap (λ (o : OpenChains). length o.partials) w.unsorted-is ∙ before.partials;
        each = subst (AreChainsUpTo forms (k + 1)) (sym w.unsorted-is) (chains_same forms k _ now c.loop-form-test.true w.in_default.not-N6 before.each);
      }
    ]

pub returns : goal.returns
returns c = chains_of c.args.forms.now c.loop-form.form-index c.loop-form.unsorted c.loop-form-test.false c.loop-form.invariant.each
