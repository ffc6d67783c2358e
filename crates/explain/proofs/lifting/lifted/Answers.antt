use Rattle.std.proofs.Common.{◌≡◌, ◌∙◌, get_or, slice_get, Some, inl, inr, subst, arith}
use Rattle.explain.specs.LinesOfFacts.{AreShowing}
use Rattle.explain.proofs.Growing.{lengthened_twice}
use Rattle.explain.proofs.LiftedEdges.{path_on, stays}
use Rattle.explain.proofs.Used.{used_twice}
use Rattle.explain.specs.Uses.{IsAmong}
use Rattle.facts.specs.declared.contexts.Fact.TheVariants.{Edge}
use Rattle.normal_forms.specs.declared.forms.Form.TheVariants.{N5}
use Rattle.normal_forms.specs.declared.forms.PropId2.{PropId2}
use Rattle.normalise.specs.Problem.{prefixes_of}
use Rattle.explain.proofs.lifting.lifted.Goals as goal
use Rattle.explain.proofs.lifting.lifted.Goals.{in_default-via-in-Property+in_default, in_default-via-in_default}

pub loop-form-preserved : goal.loop-form-preserved
loop-form-preserved g c =
    let (r, to, above, path, shown) = c.loop-form.invariant.shown in
    let (t, at, rest) = path_on c.path.new.self r to c.deref-form-items.result.now c.loop-form.form-index 0 (omega (arith, c.loop-form-test.true)) path in
    record {
      derivation = c.in_ok-lines.ensures.derivation;
      longer = lengthened_twice c.loop-form.invariant.longer c.in_ok-lines.ensures.longer;
      shown = (t, to, above, rest, c.in_ok-lines.ensures.shown r t (record { leads = subst (λ fs. slice_get fs (get_or c.deref-form-items.result.now c.loop-form.form-index 0) ≡ Some (N5 r t)) (c.path.ensures.same ∙ c.requires.paths) at; shown = shown }));
      used = used_twice c.args.derivation.now c.loop-form.derivation c.lifted_by.new.derivation (IsAmong c.args.numbers.items) c.loop-form.lines.items c.in_ok-lines.lines.items c.in_ok-lines.ensures.longer c.loop-form.invariant.used c.in_ok-lines.ensures.used;
    }

pub returns-in_default-clause-shown : goal.returns-in_default-clause-shown
returns-in_default-clause-shown g c =
    let forms = c.args.basis.now.closed.now.saturation.state.problem.forms in
    let same : c.args.edge.property ≡ c.args.above = elim c.in_default.branch [
      | in_default-via-in-Property+in_default w ↦ stays forms w.in_default.field-0-1 c.args.edge.property c.args.above c.requires.below (inr w.in_default.is-1)
      | in_default-via-in_default w ↦ stays forms w.in_default.field-0-0 c.args.edge.property c.args.above c.requires.below (inl w.in_default.is-0)
    ] in
    subst (λ (q : PropId2). AreShowing (prefixes_of c.args.basis.now.closed.now.saturation.normal) c.args.derivation.now c.args.numbers.items (Edge c.args.edge.ends.source q c.args.edge.ends.target)) same c.requires.shown
