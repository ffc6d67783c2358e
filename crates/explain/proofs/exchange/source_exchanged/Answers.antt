use Rattle.std.proofs.Common.{◌≡◌, ◌∷◌, [], ◌++◌, ◌∙◌, Some, drop, get_or, sym, ap, ap₂, subst₂, arith}
use Rattle.axioms.specs.declared.ids.PropId.{PropId}
use Rattle.certificate.specs.Certificate.{Edge}
use Rattle.certificate.specs.View.{subject_of}
use Rattle.explain.proofs.Exchanging.{source_follows, used_exchanged}
use Rattle.explain.proofs.Growing.{showing_grown}
use Rattle.explain.proofs.MovedWalks.{first_edge, head_tail, rest_read, shown_walk, source_shown, steps_there}
use Rattle.explain.specs.LinesOfFacts.{steps_of}
use Rattle.explain.specs.Step.{subject_in}
use Rattle.explain.specs.Uses.{IsAmong, Uses}
use Rattle.facts.specs.declared.contexts.Context.TheVariants.{Individual}
use Rattle.normalise.specs.Problem.{prefixes_of}
use Rattle.explain.proofs.exchange.source_exchanged.Goals as goal

pub first_target-next-requires-clause-walks : goal.first_target-next-requires-clause-walks
first_target-next-requires-clause-walks g c =
    let w = shown_walk (showing_grown c.in_ok-same.ensures.longer c.requires.shown) in
    (_, steps_of w.property, w.walks)

pub index-requires : goal.index-requires
index-requires g c =
    let long = steps_there c.normal.result.now c.args.basis.now.closed.now.saturation.normal c.normal.ensures c.args.derivation.now c.args.walk.now c.args.edge.property c.in_ok-steps.steps.items c.in_ok-steps.ensures (Individual c.args.exchange.old) c.args.edge.ends.target c.requires.shown in
    omega (arith, long, c.requires.some, c.in_ok-steps.steps.ok)

pub returns-clause-derivation : goal.returns-clause-derivation
returns-clause-derivation g c =
    let e = first_edge c.normal.result.now c.args.basis.now.closed.now.saturation.normal c.normal.ensures c.same_line.new.derivation c.args.walk.now c.args.edge.property c.in_ok-steps.steps.items c.in_ok-steps.ensures c.requires.some c.index.result.now (Individual c.args.exchange.old) c.args.edge.ends.target (subject_of c.first_target-next.result)
    (showing_grown c.in_ok-same.ensures.longer c.requires.shown) c.first_target-next.ensures in
    c.in_ok-number.ensures.derivation c.args.basis.now.closed.now.ontology c.in_ok-same.ensures.derivation
    (source_follows c.args.basis.now.closed.now.ontology c.same_line.new.derivation c.in_ok-same.same _ c.args.exchange.new c.args.exchange.old c.in_ok-same.ensures.derivation c.in_ok-same.ensures.says _ _ (e.at ∙ ap (λ (q : PropId). Some (Edge (subject_in (Individual c.args.exchange.old)) q.0 (subject_of c.first_target-next.result))) (sym c.index.ensures)))

pub returns-clause-shown : goal.returns-clause-shown
returns-clause-shown g c =
    let e = first_edge c.normal.result.now c.args.basis.now.closed.now.saturation.normal c.normal.ensures c.same_line.new.derivation c.args.walk.now c.args.edge.property c.in_ok-steps.steps.items c.in_ok-steps.ensures c.requires.some c.index.result.now (Individual c.args.exchange.old) c.args.edge.ends.target (subject_of c.first_target-next.result)
    (showing_grown c.in_ok-same.ensures.longer c.requires.shown) c.first_target-next.ensures in
    source_shown (prefixes_of c.args.basis.now.closed.now.saturation.normal) c.same_line.new.derivation c.followed.new.derivation c.args.walk.now c.extend_from_slice.new.self.items 0 c.in_ok-number.number _ (drop 1 (steps_of e.walk_is.property)) (subject_of c.first_target-next.result)
    c.args.exchange.new c.args.exchange.old c.args.edge.property c.args.edge.ends.target e.walk_is c.in_ok-number.ensures.longer e.steps_are e.at (c.in_ok-number.ensures.says ∙ ap (λ (q : PropId). Some (Edge (subject_in (Individual c.args.exchange.new)) q.0 (subject_of c.first_target-next.result))) c.index.ensures)
    (c.in_ok-extend_from_slice.ensures.ok ∙ ap₂ (λ xs ys. xs ++ ys) (c.in_ok-push.ensures.ok ∙ ap (λ ns. ns ++ c.in_ok-number.number ∷ []) c.new-numbers.ensures.items) (rest_read c.args.walk.now))

pub returns-clause-used : goal.returns-clause-used
returns-clause-used g c =
    let list = head_tail c.args.walk.now 0 c.requires.some in
    let used = used_exchanged c.args.derivation.now c.same_line.new.derivation c.followed.new.derivation c.in_ok-same.same (get_or c.args.walk.now 0 0) c.in_ok-number.number [] (drop 1 c.args.walk.now) c.in_ok-number.ensures.longer c.in_ok-same.ensures.used c.in_ok-number.ensures.used in
    let numbers : c.extend_from_slice.new.self.items ≡ c.in_ok-number.number ∷ drop 1 c.args.walk.now =
    c.in_ok-extend_from_slice.ensures.ok ∙ ap₂ (λ xs ys. xs ++ ys) (c.in_ok-push.ensures.ok ∙ ap (λ ns. ns ++ c.in_ok-number.number ∷ []) c.new-numbers.ensures.items) (rest_read c.args.walk.now) in
    subst₂ (λ ms ns. Uses c.args.derivation.now c.followed.new.derivation (IsAmong ms) ns) (sym list) (sym numbers) used
