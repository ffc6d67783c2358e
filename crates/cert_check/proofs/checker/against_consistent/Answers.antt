use Rattle.std.proofs.Common.{subst}
use Rattle.std.proofs.lemmas.Result.{IfOk-weaker}
use Rattle.certificate.specs.View.{listed_of, listing_of}
use Rattle.certificate.specs.Certificate.{Listed}
use Rattle.narrowing.specs.Narrowed.{IsNarrowed}
use Rattle.cert_check.specs.Verdict.{ConsistentAgainstShown}
use Rattle.cert_check.proofs.SameReasons.{narrow_fits, shown_by_narrow}
use Rattle.cert_check.proofs.checker.against_consistent.Goals as goal

pub against_listed-requires-clause-listed : goal.against_listed-requires-clause-listed
against_listed-requires-clause-listed c =
    let o = c.args.ontology.now in
    let w = c.well_formed-2.ensures in
    let l = listing_of c.args.listed in
    let few = listing_of c.in_ok-few.few in
    let m = listed_of c.in_ok-narrow.narrow in
    let n = subst (λ (k : Listed). IsNarrowed k m) c.in_ok-written.ensures c.in_ok-narrow.ensures in
    narrow_fits o w l few m c.requires.listed (c.in_ok-few.ensures.folded o w c.requires.listed) n

pub returns : goal.returns
returns c =
    let o = c.args.ontology.now in
    let w = c.well_formed-2.ensures in
    let t = c.args.taxonomy.now in
    let s = c.args.instances.now in
    let above = c.args.lines.above in
    let types = c.args.lines.types in
    let l = listing_of c.args.listed in
    let few = listing_of c.in_ok-few.few in
    let m = listed_of c.in_ok-narrow.narrow in
    let n = subst (λ (k : Listed). IsNarrowed k m) c.in_ok-written.ensures c.in_ok-narrow.ensures in
    IfOk-weaker c.against_listed.result (ConsistentAgainstShown o t s above types m) (ConsistentAgainstShown o t s above types l)
    (λ reason h. shown_by_narrow o w l few m c.requires.listed (c.in_ok-few.ensures.folded o w c.requires.listed) n t s above types reason h)
    c.against_listed.ensures
