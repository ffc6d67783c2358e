use Rattle.std.proofs.Common.{List, ℕ, map, subst, subst₂}
use Rattle.certificate.specs.View.{class_row_of, pair_row_of, listed_of}
use Rattle.certificate.specs.declared.listed.ClassRow.{ClassRow}
use Rattle.certificate.specs.declared.listed.PairRow.{PairRow}
use Rattle.interpretation_spec.specs.NumberedInterpretation.{NumberedInterpretation}
use Rattle.cert_check.specs.Additions.{AddsMembers, AddsPairs, IsListedMember, IsListedPair, PutsIndividuals}
use Rattle.cert_check.proofs.ListedRows.{listing_is, listing_made}
use Rattle.cert_check.proofs.listing.interpretation_of.Goals as goal

pub returns : goal.returns
returns c =
    let o = c.args.ontology.now in
    let made = c.in-Ok.ensures.made in
    let first = c.put_classes.new.interpretation in
    let second = c.put_pairs.new.interpretation in
    let third = c.put_individuals.new.interpretation in
    let members = subst₂ (λ (rows : List ClassRow) (i : NumberedInterpretation). AddsMembers (IsListedMember o (map class_row_of rows)) i first) c.deref.ensures.value made.1 c.in_ok-put_classes.ensures in
    let pairs = subst (λ (rows : List PairRow). AddsPairs (IsListedPair (map pair_row_of rows)) first second) c.deref-2.ensures.value c.in_ok-put_pairs.ensures in
    let individuals = subst (λ (xs : List ℕ). PutsIndividuals xs second third) c.deref-3.ensures.value c.in_ok-put_individuals.ensures in
    record {
      made = listing_made o c.well_formed-2.ensures (listed_of c.args.listed.now) c.requires first second third members pairs individuals;
      listing = listing_is o c.well_formed-2.ensures (listed_of c.args.listed.now) c.requires first second third members pairs individuals;
    }
