use Rattle.std.proofs.Common.{List, [], ◌∷◌, ℕ, get_or, take, sym, subst}
use Rattle.certificate.specs.declared.listed.Claim.{Claim}
use Rattle.narrowing.specs.Gathered.{claim_elements}
use Rattle.narrowing.proofs.Marking.{IsMarked, marked_more, refused, one_in_range, map_more, map_among}
use Rattle.narrowing.proofs.marks.mark_claims.Goals as goal

abbrev none : Claim
none = record { class = record { 0 = 0 }; element = 0 }

pub returns-then-not-put-clause-in_range : goal.returns-then-not-put-clause-in_range
returns-then-not-put-clause-in_range c =
    let claims = c.args.claims.now in
    let i = c.loop-claim.claim-index in
    let x = (get_or claims i none).element in
    refused c.args.row.now c.loop-claim.row (claim_elements (take i claims)) (x ∷ []) c.put.result c.loop-claim.invariant (one_in_range c.loop-claim.row x c.put.result c.put.ensures.in_range)
    (claim_elements claims) (map_among (λ (claim : Claim). claim.element) claims i none c.loop-claim-test.true) c.if-not-put.true

pub loop-claim-preserved : goal.loop-claim-preserved
loop-claim-preserved c =
    let claims = c.args.claims.now in
    let i = c.loop-claim.claim-index in
    let x = (get_or claims i none).element in
    subst (λ (xs : List ℕ). IsMarked c.args.row.now xs c.put.new.self) (sym (map_more (λ (claim : Claim). claim.element) claims i none c.loop-claim-test.true))
    (marked_more c.args.row.now c.loop-claim.row (claim_elements (take i claims)) (x ∷ []) c.put.result c.loop-claim.invariant (one_in_range c.loop-claim.row x c.put.result c.put.ensures.in_range) c.put.new.self (λ t. c.put.ensures.after) c.if-not-put.false)
