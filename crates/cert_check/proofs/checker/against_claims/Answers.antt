use Rattle.std.proofs.Common.{ℕ, ◌∙◌, List, Option, Some, None, false, length, map, ap, subst}
use Rattle.std.proofs.lemmas.List.{length-replicate}
use Rattle.certificate.specs.View.{claim_of, class_row_of, listed_of}
use Rattle.certificate.specs.declared.listed.Claim.{Claim}
use Rattle.certificate.specs.declared.listed.ClassRow.{ClassRow}
use Rattle.cert_check.specs.Lists.{AreElementClasses, AreClaimed, IsClaimed, ClaimAgrees, ElementAgrees}
use Rattle.cert_check.specs.Verdict.{Each, IsFirstWithout}
use Rattle.cert_check.specs.declared.verdict.Reason.TheVariants.{ClaimDisagrees, IndividualDisagrees}
use Rattle.cert_check.proofs.Claimed.{element_classes_fit}
use Rattle.cert_check.proofs.Judged.{against_lists, unclaimed}
use Rattle.cert_check.proofs.checker.against_claims.Goals as goal

pub returns-in-Some : goal.returns-in-Some
returns-in-Some c =
    let o = c.args.ontology.now in
    let l = listed_of c.args.listed.now in
    unclaimed o c.well_formed-2.ensures l c.requires.listed c.args.above.now c.args.types.now c.in_ok-claimed.claimed.items
    (subst (λ (cs : List Claim). AreClaimed o (map claim_of cs) c.in_ok-claimed.claimed.items) c.deref.ensures.value c.in_ok-claimed.ensures)
    c.in-Some.class.0 (subst (λ (v : List (Option ℕ)). IsFirstWithout (IsClaimed c.args.above.now v) c.in-Some.class.0) c.deref-2.ensures.value c.in-Some.ensures)

pub first_disagreeing_class-requires-clause-holding : goal.first_disagreeing_class-requires-clause-holding
first_disagreeing_class-requires-clause-holding c =
    let o = c.args.ontology.now in
    let l = listed_of c.args.listed.now in
    let rows = subst (λ (rs : List ClassRow). AreElementClasses o l.domain (map class_row_of rs) c.in_ok-holding.holding) c.deref-3.ensures.value c.in_ok-holding.ensures in
    element_classes_fit o c.well_formed-2.ensures l.domain l.classes c.in_ok-holding.holding rows (length c.in_ok-set.set)
    (ap length c.in_ok-set.ensures ∙ length-replicate (length c.classes.result.now) false ∙ c.classes.ensures.count)

pub first_disagreeing_individual-requires-clause-holding : goal.first_disagreeing_individual-requires-clause-holding
first_disagreeing_individual-requires-clause-holding c =
    let o = c.args.ontology.now in
    let l = listed_of c.args.listed.now in
    let rows = subst (λ (rs : List ClassRow). AreElementClasses o l.domain (map class_row_of rs) c.in_ok-holding.holding) c.deref-3.ensures.value c.in_ok-holding.ensures in
    element_classes_fit o c.well_formed-2.ensures l.domain l.classes c.in_ok-holding.holding rows (length c.first_disagreeing_class.new.set)
    (c.first_disagreeing_class.ensures.long ∙ ap length c.in_ok-set.ensures ∙ length-replicate (length c.classes.result.now) false ∙ c.classes.ensures.count)

pub returns-in-Some-first_disagreeing_class : goal.returns-in-Some-first_disagreeing_class
returns-in-Some-first_disagreeing_class c =
    let o = c.args.ontology.now in
    let l = listed_of c.args.listed.now in
    against_lists o c.well_formed-2.ensures l c.requires.listed c.args.above.now c.args.types.now c.in_ok-claimed.claimed.items
    (subst (λ (cs : List Claim). AreClaimed o (map claim_of cs) c.in_ok-claimed.claimed.items) c.deref.ensures.value c.in_ok-claimed.ensures)
    c.in_ok-holding.holding
    (subst (λ (rs : List ClassRow). AreElementClasses o l.domain (map class_row_of rs) c.in_ok-holding.holding) c.deref-3.ensures.value c.in_ok-holding.ensures)
    (Some (ClaimDisagrees c.in-Some-first_disagreeing_class.class)) (
      subst (λ (v : List (Option ℕ)). Each (IsClaimed c.args.above.now v)) c.deref-2.ensures.value c.in_default.ensures,
      subst (λ (v : List (Option ℕ)). IsFirstWithout (ClaimAgrees c.args.above.now v c.in_ok-holding.holding) c.in-Some-first_disagreeing_class.class.0) c.deref-4.ensures.value c.in-Some-first_disagreeing_class.ensures.each,
    )

pub returns-in-Some-first_disagreeing_individual : goal.returns-in-Some-first_disagreeing_individual
returns-in-Some-first_disagreeing_individual c =
    let o = c.args.ontology.now in
    let l = listed_of c.args.listed.now in
    against_lists o c.well_formed-2.ensures l c.requires.listed c.args.above.now c.args.types.now c.in_ok-claimed.claimed.items
    (subst (λ (cs : List Claim). AreClaimed o (map claim_of cs) c.in_ok-claimed.claimed.items) c.deref.ensures.value c.in_ok-claimed.ensures)
    c.in_ok-holding.holding
    (subst (λ (rs : List ClassRow). AreElementClasses o l.domain (map class_row_of rs) c.in_ok-holding.holding) c.deref-3.ensures.value c.in_ok-holding.ensures)
    (Some (IndividualDisagrees c.in-Some-first_disagreeing_individual.individual)) (
      subst (λ (v : List (Option ℕ)). Each (IsClaimed c.args.above.now v)) c.deref-2.ensures.value c.in_default.ensures,
      subst (λ (v : List (Option ℕ)). Each (ClaimAgrees c.args.above.now v c.in_ok-holding.holding)) c.deref-4.ensures.value c.in_default-first_disagreeing_class.ensures.each,
      subst (λ (v : List ℕ). IsFirstWithout (ElementAgrees c.args.types.now v c.in_ok-holding.holding) c.in-Some-first_disagreeing_individual.individual.0) c.deref-5.ensures.value c.in-Some-first_disagreeing_individual.ensures,
    )

pub returns : goal.returns
returns c =
    let o = c.args.ontology.now in
    let l = listed_of c.args.listed.now in
    against_lists o c.well_formed-2.ensures l c.requires.listed c.args.above.now c.args.types.now c.in_ok-claimed.claimed.items
    (subst (λ (cs : List Claim). AreClaimed o (map claim_of cs) c.in_ok-claimed.claimed.items) c.deref.ensures.value c.in_ok-claimed.ensures)
    c.in_ok-holding.holding
    (subst (λ (rs : List ClassRow). AreElementClasses o l.domain (map class_row_of rs) c.in_ok-holding.holding) c.deref-3.ensures.value c.in_ok-holding.ensures)
    None (
      subst (λ (v : List (Option ℕ)). Each (IsClaimed c.args.above.now v)) c.deref-2.ensures.value c.in_default.ensures,
      subst (λ (v : List (Option ℕ)). Each (ClaimAgrees c.args.above.now v c.in_ok-holding.holding)) c.deref-4.ensures.value c.in_default-first_disagreeing_class.ensures.each,
      subst (λ (v : List ℕ). Each (ElementAgrees c.args.types.now v c.in_ok-holding.holding)) c.deref-5.ensures.value c.in_default-first_disagreeing_individual.ensures,
    )
