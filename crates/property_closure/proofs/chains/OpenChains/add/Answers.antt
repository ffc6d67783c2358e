use Rattle.std.proofs.Common.{◌<◌, ◌∷◌, [], ◌++◌, length, sym, ap, ◌∙◌, subst}
use Rattle.std.specs.Prelude.{slice_set}
use Rattle.normal_forms.specs.declared.forms.PropId2.{PropId2}
use Rattle.normal_forms.specs.Properties.{IsPropertyOf}
use Rattle.number_sets.specs.Pieces.{list_at}
use Rattle.property_closure.specs.Chains.{AddsChain}
use Rattle.property_closure.proofs.ChainLists.{adds_property, adds_partial}
use Rattle.property_closure.proofs.chains.OpenChains.add.Goals as goal

pub returns-in_ok-push-in-Property : goal.returns-in_ok-push-in-Property
returns-in_ok-push-in-Property c =
    let o = c.args.self.now in
    let id = c.in-Property.id in
    let chain = c.args.chain in
    let within : id.0 < length o.properties = subst (IsPropertyOf (length o.properties) (length o.partials)) c.in-Property.is c.requires in
    let is = c.in_ok-push-in-Property.ensures.ok ∙ ap (λ n. slice_set o.properties n (list_at o.properties n ++ chain ∷ [])) c.index.ensures in
    subst (λ (first : PropId2). AddsChain o (record { properties = c.push.new.self; partials = o.partials }) first chain) (sym c.in-Property.is) (adds_property o c.push.new.self id chain is within)

pub returns-in_ok-push-in-Partial : goal.returns-in_ok-push-in-Partial
returns-in_ok-push-in-Partial c =
    let o = c.args.self.now in
    let number = c.in-Partial.number in
    let chain = c.args.chain in
    let within : number < length o.partials = subst (IsPropertyOf (length o.properties) (length o.partials)) c.in-Partial.is c.requires in
    subst (λ (first : PropId2). AddsChain o (record { properties = o.properties; partials = c.push-in-Partial.new.self }) first chain) (sym c.in-Partial.is) (adds_partial o c.push-in-Partial.new.self number chain c.in_ok-push-in-Partial.ensures.ok within)
