use Rattle.std.proofs.Common.{ℕ, List, sym, subst, get_or, take}
use Rattle.std.proofs.lemmas.List.{map_more}
use Rattle.axioms.specs.declared.ids.PropId.{PropId}
use Rattle.axioms.specs.View.{prop_numbers}
use Rattle.interpretation_spec.specs.NamedInterpretation.{HasNumberedPath}
use Rattle.interpretation_spec.proofs.Shapes.{path_more}
use Rattle.interpretation_spec.proofs.interpretation.Interpretation.reached.Goals as goal

pub loop-property-preserved : goal.loop-property-preserved
loop-property-preserved c =
    let n = c.args.self.now in
    let chain = c.args.chain.now in
    let at = c.loop-property.property-index in
    let none : PropId = record { 0 = 0 } in
    let r = (get_or chain at none).0 in
    let so_far = prop_numbers (take at chain) in
    let source = c.args.source in
    let more = map_more (λ (p : PropId). p.0) chain at none c.loop-property-test.true in
    let old = c.loop-property.invariant in
    let new = c.in_ok-reached-2.ensures in
    record {
      long = new.long;
      members = λ y ly.
          let step = path_more n so_far r source y c.requires.source_there ly in (
            λ h.
                let (x, lx, m, t) = (new.members y ly).0 h in
                subst (λ (rs : List ℕ). HasNumberedPath n rs source y) (sym more) (step.1 (x, lx, (old.members x lx).0 m, t)),
            λ h.
                let (x, lx, p, t) = step.0 (subst (λ (rs : List ℕ). HasNumberedPath n rs source y) more h) in
                (new.members y ly).1 (x, lx, (old.members x lx).1 p, t),
          );
    }
