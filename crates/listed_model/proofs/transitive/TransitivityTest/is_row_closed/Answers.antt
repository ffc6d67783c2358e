use Rattle.std.proofs.Common.{◌≡◌, ◌↔◌, Bool, ℕ, map, true, ap, ◌∙◌}
use Rattle.std.specs.Prelude.{IsTrue}
use Rattle.std.proofs.lemmas.Result.{IfOk-weaker}
use Rattle.certificate.specs.View.{pair_row_of, targets_in}
use Rattle.number_sets.specs.Members.{has}
use Rattle.listed_model.specs.Members.{holds}
use Rattle.listed_model.specs.WideRows.{AreClosed, LeadsInto}
use Rattle.listed_model.proofs.Covering.{closed_by_set, wide_has}
use Rattle.listed_model.proofs.transitive.TransitivityTest.is_row_closed.Goals as goal

pub returns-in-Some-clause-closed : goal.returns-in-Some-clause-closed
returns-in-Some-clause-closed c =
    let rows = map pair_row_of c.args.self.now.rows.now in
    let r = c.args.self.now.property.0 in
    let targets = targets_in c.args.row.now.targets in
    let ordered = c.deref.result.now in
    let own = c.in-Some.own.now in
    let (there, p, s) = c.in-Some.ensures in
    let same : (y : ℕ) → holds ordered y ≡ holds targets y =
    λ y. ap (λ xs. holds xs y) c.deref.ensures.value ∙ c.in_ok-ordered.ensures y ∙ ap (λ xs. holds xs y) c.as_slice-targets.ensures in
    let has_own : (y : ℕ) → has own.targets y ≡ holds targets y =
    λ y. wide_has rows _ c.args.self.now.wide.now own r c.args.row.now.source c.requires.wide there (ap (λ q. q.0) p) s y ∙ ap (λ ts. holds ts y) c.requires.row in
    let both = closed_by_set rows r targets ordered own.targets same has_own in
    IfOk-weaker c.lead_into.result (λ (into : Bool). IsTrue into ↔ ((y : ℕ) → holds ordered y ≡ true → LeadsInto rows r own.targets y)) (λ (closed : Bool). IsTrue closed ↔ AreClosed rows r targets)
    (λ b h. (λ t. both.0 (h.0 t), λ a. h.1 (both.1 a))) c.lead_into.ensures
