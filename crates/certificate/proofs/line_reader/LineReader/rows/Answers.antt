use Rattle.std.proofs.Common.{arith}
use Rattle.std.proofs.lemmas.Result.{err_from_is_err_and}
use Rattle.certificate.specs.View.{listing_of}
use Rattle.certificate.proofs.ReaderSteps.{row_read, row_stops, rows_refused, less_to_read, row_taken}
use Rattle.certificate.proofs.line_reader.LineReader.rows.Goals as goal

pub returns-in_err-take_row-clause-fault : goal.returns-in_err-take_row-clause-fault
returns-in_err-take_row-clause-fault g c =
    let p = err_from_is_err_and c.from_residual.result c.from_residual.ensures.1 in
    rw (p.1, p.2) (rows_refused _ _ c.args.self.now c.loop-self.self (listing_of c.args.listed.now) (listing_of c.loop-self.listed) c.loop-self.invariant.read)

pub loop-self-smaller : goal.loop-self-smaller
loop-self-smaller g c =
    let l = listing_of c.loop-self.listed in
    let next = listing_of c.take_row.new.listed in
    let taken = row_taken _ c.loop-self.self c.line.result.now l next c.in_ok-take_row.field-0 c.self.view_is c.line.ensures c.if-branch.true c.in_ok-take_row.ensures in
    less_to_read _ _ c.loop-self.self c.let_go.new.self l next taken c.in_ok-let_go.ensures.ok

pub loop-self-preserved : goal.loop-self-preserved
loop-self-preserved g c =
    let l = listing_of c.loop-self.listed in
    let next = listing_of c.take_row.new.listed in
    let taken = row_taken _ c.loop-self.self c.line.result.now l next c.in_ok-take_row.field-0 c.self.view_is c.line.ensures c.if-branch.true c.in_ok-take_row.ensures in
    record {
      read = row_read _ _ _ c.args.self.now c.loop-self.self c.let_go.new.self (listing_of c.args.listed.now) l next c.loop-self.invariant.read taken c.in_ok-let_go.ensures.ok;
      count = omega (arith, c.loop-self.invariant.count, c.in_ok-let_go.ensures.count);
    }

pub returns-in_err-let_go-clause-fault : goal.returns-in_err-let_go-clause-fault
returns-in_err-let_go-clause-fault g c =
    let l = listing_of c.loop-self.listed in
    let next = listing_of c.take_row.new.listed in
    let taken = row_taken _ c.loop-self.self c.line.result.now l next c.in_ok-take_row.field-0 c.self.view_is c.line.ensures c.if-branch.true c.in_ok-take_row.ensures in
    let p = err_from_is_err_and c.from_residual-in_err-let_go.result c.from_residual-in_err-let_go.ensures.1 in
    rw (p.1, p.2) (row_stops _ _ _ c.args.self.now c.loop-self.self (listing_of c.args.listed.now) l next
    c.in_err-let_go.field-0.0 c.in_err-let_go.ensures.bounded c.loop-self.invariant.read taken c.in_err-let_go.ensures.fault)
