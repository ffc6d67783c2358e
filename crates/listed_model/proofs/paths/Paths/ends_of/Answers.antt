use Rattle.std.proofs.Common.{ℕ, List, map, take, get_or, sym, ap, ◌∙◌, subst}
use Rattle.std.proofs.lemmas.List.{map_more}
use Rattle.axioms.specs.View.{prop_numbers}
use Rattle.axioms.specs.declared.ids.PropId.{PropId}
use Rattle.certificate.specs.View.{pair_row_of}
use Rattle.listed_model.specs.Members.{holds}
use Rattle.listed_model.specs.Rows.{HasListedPath}
use Rattle.listed_model.proofs.Walks.{path_push}
use Rattle.listed_model.proofs.paths.Paths.ends_of.Goals as goal

pub loop-property-preserved : goal.loop-property-preserved
loop-property-preserved c =
    let rows = map pair_row_of c.args.self.now.steps.rows.now in
    let chain = c.args.self.now.chain.now in
    let at = c.loop-property.property-index in
    let none : PropId = record { 0 = 0 } in
    let more = map_more (λ (p : PropId). p.0) chain at none c.loop-property-test.true in
    let so_far = prop_numbers (take at chain) in
    let r = (get_or chain at none).0 in
    record {
      len = c.successors.ensures.len ∙ c.loop-property.invariant.len;
      members = λ y.
          let new = c.in_ok-ends-2.ensures.members y in (
            λ h.
                let (z, m, t) = new.0 h in
                let (x, s, p) = (c.loop-property.invariant.members z).0 (ap (λ xs. holds xs z) (sym c.deref.ensures.value) ∙ m) in
                (x, s, subst (λ (rs : List ℕ). HasListedPath rows rs x y) (sym more) ((path_push rows so_far r x y).1 (z, p, t))),
            λ (x, s, p).
                let (z, q, t) = (path_push rows so_far r x y).0 (subst (λ (rs : List ℕ). HasListedPath rows rs x y) more p) in
                new.1 (z, ap (λ xs. holds xs z) c.deref.ensures.value ∙ (c.loop-property.invariant.members z).1 (x, s, q), t),
          );
    }
