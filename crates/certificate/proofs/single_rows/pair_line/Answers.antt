use Rattle.std.proofs.Common.{sym, arith}
use Rattle.certificate.specs.Tests.{fits_pairs}
use Rattle.certificate.specs.Text.{pairs_text}
use Rattle.certificate.specs.ListedReading.{fitting_pairs_at}
use Rattle.certificate.specs.View.{held_pair_row}
use Rattle.certificate.proofs.RowLines.{reads_pairs, one_read, none_read_at_all, more_than_that}
use Rattle.certificate.proofs.single_rows.pair_line.Goals as goal

pub returns-then-not-is_empty : goal.returns-then-not-is_empty
returns-then-not-is_empty c =
    let o = c.args.ontology.now in
    let format = c.args.format in
    let d = c.args.domain in
    let last = c.args.last in
    more_than_that (pairs_text format) (fits_pairs o d last) (fitting_pairs_at o format d last) (reads_pairs o format d last (omega (arith, c.ranges.domain.fits)))
    c.args.bytes.now (held_pair_row c.in-Ok.row) c.in-Ok.rest.now c.in-Ok.ensures (sym c.if-not-is_empty.ensures)

pub returns-else-not-is_empty : goal.returns-else-not-is_empty
returns-else-not-is_empty c =
    let o = c.args.ontology.now in
    let format = c.args.format in
    let d = c.args.domain in
    let last = c.args.last in
    one_read (pairs_text format) (fits_pairs o d last) (fitting_pairs_at o format d last) (reads_pairs o format d last (omega (arith, c.ranges.domain.fits)))
    c.args.bytes.now (held_pair_row c.in-Ok.row) c.in-Ok.rest.now c.in-Ok.ensures (sym c.if-not-is_empty.ensures)

pub returns-in-Err-Text : goal.returns-in-Err-Text
returns-in-Err-Text c =
    let o = c.args.ontology.now in
    let format = c.args.format in
    let d = c.args.domain in
    let last = c.args.last in
    none_read_at_all (pairs_text format) (fits_pairs o d last) (fitting_pairs_at o format d last) (reads_pairs o format d last (omega (arith, c.ranges.domain.fits)))
    c.args.bytes.now (rw c.in-Err-Text.field-0-is at c.in-Err-Text.ensures)
