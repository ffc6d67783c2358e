use Rattle.std.proofs.Common.{◌≡◌, ◌∷◌, [], ◌++◌, ◌∙◌, ◌-◌, Some, option_map, take, get_or, length, sym, ap, ap₂, subst₂, arith}
use Rattle.std.proofs.lemmas.Option.{none-some, same_Some}
use Rattle.axioms.specs.declared.ids.PropId.{PropId}
use Rattle.certificate.specs.Certificate.{Edge}
use Rattle.certificate.specs.Certificate.{source_of}
use Rattle.certificate.specs.View.{subject_of}
use Rattle.explain.proofs.Exchanging.{target_follows, used_exchanged}
use Rattle.explain.proofs.Growing.{showing_grown}
use Rattle.explain.proofs.MovedWalks.{all_but_last, last_edge, steps_there, target_shown}
use Rattle.explain.specs.Step.{subject_in}
use Rattle.explain.specs.Uses.{IsAmong, Uses}
use Rattle.facts.specs.declared.contexts.Context.TheVariants.{Individual}
use Rattle.normalise.specs.Problem.{prefixes_of}
use Rattle.explain.proofs.exchange.target_exchanged.Goals as goal

pub unreachable-requires : goal.unreachable-requires
unreachable-requires g c =
    let e = last_edge c.normal.result.now c.args.basis.now.closed.now.saturation.normal c.normal.ensures c.same_line.new.derivation c.args.walk.now c.args.edge.property c.in_ok-steps.steps.items c.in_ok-steps.ensures c.requires.some (record { 0 = 0 }) c.args.edge.ends.source (Individual c.args.exchange.old)
    (showing_grown c.in_ok-same.ensures.longer c.requires.shown) in
    none-some e.ends.source (ap (option_map subject_of) (sym c.in_default.is) ∙ c.source.ensures ∙ ap (option_map source_of) e.ends.at)

pub index-requires : goal.index-requires
index-requires g c =
    let long = steps_there c.normal.result.now c.args.basis.now.closed.now.saturation.normal c.normal.ensures c.args.derivation.now c.args.walk.now c.args.edge.property c.in_ok-steps.steps.items c.in_ok-steps.ensures c.args.edge.ends.source (Individual c.args.exchange.old) c.requires.shown in
    omega (arith, long, c.requires.some, c.in_ok-steps.steps.ok)

pub returns-clause-derivation : goal.returns-clause-derivation
returns-clause-derivation g c =
    let e = last_edge c.normal.result.now c.args.basis.now.closed.now.saturation.normal c.normal.ensures c.same_line.new.derivation c.args.walk.now c.args.edge.property c.in_ok-steps.steps.items c.in_ok-steps.ensures c.requires.some c.index.result.now c.args.edge.ends.source (Individual c.args.exchange.old)
    (showing_grown c.in_ok-same.ensures.longer c.requires.shown) in
    let from : subject_of c.in-Some.before ≡ e.ends.source = same_Some (subject_of c.in-Some.before) e.ends.source (ap (option_map subject_of) (sym c.in-Some.is) ∙ c.source.ensures ∙ ap (option_map source_of) e.ends.at) in
    let step : c.index.result.now.0 ≡ e.ends.last = ap (λ (q : PropId). q.0) c.index.ensures ∙ e.step_is in
    c.in_ok-number.ensures.derivation c.args.basis.now.closed.now.ontology c.in_ok-same.ensures.derivation
    (target_follows c.args.basis.now.closed.now.ontology c.same_line.new.derivation c.in_ok-same.same _ c.args.exchange.new c.args.exchange.old c.in_ok-same.ensures.derivation c.in_ok-same.ensures.says _ _ (e.ends.at ∙ ap₂ (λ x r. Some (Edge x r (subject_in (Individual c.args.exchange.old)))) (sym from) (sym step)))

pub returns-clause-shown : goal.returns-clause-shown
returns-clause-shown g c =
    let e = last_edge c.normal.result.now c.args.basis.now.closed.now.saturation.normal c.normal.ensures c.same_line.new.derivation c.args.walk.now c.args.edge.property c.in_ok-steps.steps.items c.in_ok-steps.ensures c.requires.some c.index.result.now c.args.edge.ends.source (Individual c.args.exchange.old)
    (showing_grown c.in_ok-same.ensures.longer c.requires.shown) in
    let from : subject_of c.in-Some.before ≡ e.ends.source = same_Some (subject_of c.in-Some.before) e.ends.source (ap (option_map subject_of) (sym c.in-Some.is) ∙ c.source.ensures ∙ ap (option_map source_of) e.ends.at) in
    let step : c.index.result.now.0 ≡ e.ends.last = ap (λ (q : PropId). q.0) c.index.ensures ∙ e.step_is in
    target_shown (prefixes_of c.args.basis.now.closed.now.saturation.normal) c.same_line.new.derivation c.followed.new.derivation c.args.walk.now c.push.new.self.items 0 c.in_ok-number.number c.args.exchange.new c.args.exchange.old c.args.edge.property c.args.edge.ends.source
    e.walk_is e.ends c.in_ok-number.ensures.longer (c.in_ok-number.ensures.says ∙ ap₂ (λ x r. Some (Edge x r (subject_in (Individual c.args.exchange.new)))) from step)
    (c.in_ok-push.ensures.ok ∙ ap (λ ns. ns ++ c.in_ok-number.number ∷ []) (c.in_ok-extend_from_slice.ensures.ok ∙ ap (λ ns. ns ++ take (length c.args.walk.now - 1) c.args.walk.now) c.new-numbers.ensures.items))

pub returns-clause-used : goal.returns-clause-used
returns-clause-used g c =
    let list = all_but_last c.args.walk.now 0 c.requires.some in
    let used = used_exchanged c.args.derivation.now c.same_line.new.derivation c.followed.new.derivation c.in_ok-same.same (get_or c.args.walk.now (length c.args.walk.now - 1) 0) c.in_ok-number.number (take (length c.args.walk.now - 1) c.args.walk.now) [] c.in_ok-number.ensures.longer c.in_ok-same.ensures.used c.in_ok-number.ensures.used in
    let numbers : c.push.new.self.items ≡ take (length c.args.walk.now - 1) c.args.walk.now ++ c.in_ok-number.number ∷ [] =
    c.in_ok-push.ensures.ok ∙ ap (λ ns. ns ++ c.in_ok-number.number ∷ []) (c.in_ok-extend_from_slice.ensures.ok ∙ ap (λ ns. ns ++ take (length c.args.walk.now - 1) c.args.walk.now) c.new-numbers.ensures.items) in
    subst₂ (λ ms ns. Uses c.args.derivation.now c.followed.new.derivation (IsAmong ms) ns) (sym list) (sym numbers) used
