use Rattle.std.proofs.Common.{sym, subst, ap, arith}
use Rattle.certificate.specs.Certificate.{Listed}
use Rattle.certificate.specs.View.{listed_of}
use Rattle.narrowing.specs.Cut.{interval_of}
use Rattle.narrowing.specs.FoldedListing.{FoldsListing}
use Rattle.certificate.specs.Held.{held_listing}
use Rattle.certificate.specs.View.{listing_of}
use Rattle.narrowing.proofs.CutListing.{cut_is_folded}
use Rattle.narrowing.proofs.FewStarts.{few_starts, few_points}
use Rattle.narrowing.proofs.SameListing.{same_is_folded}
use Rattle.narrowing.proofs.cutting.folded.Goals as goal

pub returns-then-in_runs-may_be_in_runs-clause-folded : goal.returns-then-in_runs-may_be_in_runs-clause-folded
returns-then-in_runs-may_be_in_runs-clause-folded c = λ o w fits. (λ x. x, same_is_folded o w (listing_of c.args.listed) fits)

pub returns-clause-folded : goal.returns-clause-folded
returns-clause-folded c = λ o w fits.
    let l = listed_of c.args.listed.rows in
    let starts = c.in_ok-starts.starts.items in
    (interval_of starts, subst (λ (m : Listed). FoldsListing o (held_listing l) (held_listing m) (interval_of starts)) (sym c.cut.ensures) (cut_is_folded o w l starts fits c.in_ok-starts.ensures))

pub returns-clause-few : goal.returns-clause-few
returns-clause-few c =
    let rows = c.args.listed.rows in
    let many = ap (λ (m : Listed). m.domain) c.cut.ensures in
    let starts = few_starts (listed_of rows) c.in_ok-starts.starts.items c.in_ok-starts.ensures in
    let points = few_points rows in
    omega (arith, many, starts, points)
