use Rattle.std.proofs.Common.{◌↔◌, ℕ, List, Contains, map, subst}
use Rattle.std.proofs.lemmas.Result.{IfOk-weaker}
use Rattle.certificate.specs.View.{class_row_of}
use Rattle.countermodel.specs.Members.{AreRowsBy, HasKey}
use Rattle.countermodel.proofs.MemberKeys.{same_keys}
use Rattle.countermodel.proofs.member_keys.rows_by_keys.Goals as goal

pub returns : goal.returns
returns c =
    let keys = c.in_ok-members.members.items in
    let sorted = c.in_ok-keys.keys.items in
    let same : (n : ℕ) → Contains sorted n ↔ Contains keys n = λ n. subst (λ (ks : List ℕ). Contains sorted n ↔ Contains ks n) c.deref.ensures.value (c.in_ok-keys.ensures.same n) in
    IfOk-weaker c.rows_of.result _ _
    (λ v rows. (
      sorted,
      same_keys c.args.ontology.now c.args.elements.now c.args.facts.now keys sorted same c.in_ok-members.ensures,
      subst (λ (ks : List ℕ). AreRowsBy (HasKey ks) (map class_row_of v.items)) c.deref-2.ensures.value rows,
    ))
    c.rows_of.ensures
