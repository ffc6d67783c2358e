use Rattle.std.proofs.Common.{sym, ap, ◌∙◌, subst}
use Rattle.std.specs.List.Sorted.{IsStrictlyIncreasing}
use Rattle.std.proofs.lemmas.Result.{IfOk-weaker}
use Rattle.certificate.specs.View.{listed_of}
use Rattle.listed_model.specs.Members.{holds}
use Rattle.listed_model.specs.Rows.{ArePairRows}
use Rattle.listed_model.proofs.Extensions.{target_within}
use Rattle.listed_model.proofs.Given.{pair_rows_given}
use Rattle.listed_model.proofs.tester.Tester.has_domain.Goals as goal

pub sources_of-requires : goal.sources_of-requires
sources_of-requires c = subst ArePairRows (sym c.deref.ensures.value) (pair_rows_given c.args.self.now.ontology.now c.args.self.now.listed.now c.requires.ready.listed)

pub are_in-requires-clause-elements : goal.are_in-requires-clause-elements
are_in-requires-clause-elements c =
    let value = c.deref-2.ensures.value in
    let led = rw c.deref.ensures.value at c.in_ok-sources.ensures.members in
    record {
      ascending = subst IsStrictlyIncreasing (sym value) c.in_ok-sources.ensures.ascending;
      within = λ x h.
          let (y, u) = (led x).0 (ap (λ xs. holds xs x) (sym value) ∙ h) in
          (target_within c.args.self.now.ontology.now c.well_formed-2.ensures (listed_of c.args.self.now.listed.now) c.requires.ready.listed c.args.property.0 x y u).0;
    }

pub returns : goal.returns
returns c =
    let value = c.deref-2.ensures.value in
    let led = rw c.deref.ensures.value at c.in_ok-sources.ensures.members in
    IfOk-weaker c.are_in.result _ _
    (λ v h. (
      λ t x y u. h.0 t x (ap (λ xs. holds xs x) value ∙ (led x).1 (y, u)),
      λ q. h.1 (λ x m. let (y, u) = (led x).0 (ap (λ xs. holds xs x) (sym value) ∙ m) in q x y u),
    ))
    c.are_in.ensures
