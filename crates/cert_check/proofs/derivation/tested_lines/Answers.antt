use Rattle.std.proofs.Common.{◌++◌, ◌∷◌, [], sym, arith}
use Rattle.std.proofs.lemmas.Result.{err_from_is_err_and}
use Rattle.certificate.specs.View.{line_of}
use Rattle.cert_check.proofs.KeptLines.{kept_lines, kept_more}
use Rattle.cert_check.proofs.LinesCome.{all_are_kept, line_fits, next_fewer, next_line, one_more_comes, reads_since, stops_reading}
use Rattle.cert_check.proofs.derivation.tested_lines.Goals as goal

pub returns-in_err-line-clause-fault : goal.returns-in_err-line-clause-fault
returns-in_err-line-clause-fault g c =
    let p = err_from_is_err_and c.from_residual-in_err-line.result c.from_residual-in_err-line.ensures.1 in
    let i = c.loop-premises.invariant in
    rw (p.1, p.2, sym c.requires.ontology) (λ start l. stops_reading c.in_err-line.field-0.0 c.args.reader.now c.loop-premises.reader _ _ _ i.lines i.come c.in_err-line.ensures.fault start l)

pub add-requires : goal.add-requires
add-requires g c =
    let i = c.loop-premises.invariant in
    line_fits c.args.ontology.now c.args.reader.now c.loop-premises.reader c.next.new.self _ _ _ i.lines (line_of c.in-Some.line) c.requires.ontology i.come
    (next_line c.loop-premises.reader c.next.new.self _ _ c.in_ok-line.field-0 c.in-Some.line c.in-Some.is c.in_ok-line.ensures.next)

pub returns-in_err-add-clause-fault : goal.returns-in_err-add-clause-fault
returns-in_err-add-clause-fault g c =
    let p = err_from_is_err_and c.from_residual-in_err-add.result c.from_residual-in_err-add.ensures.1 in
    let i = c.loop-premises.invariant in
    let n = next_line c.loop-premises.reader c.next.new.self _ _ c.in_ok-line.field-0 c.in-Some.line c.in-Some.is c.in_ok-line.ensures.next in
    let come = one_more_comes c.args.reader.now c.loop-premises.reader c.next.new.self _ _ _ i.lines (line_of c.in-Some.line) i.come n in
    rw (p.1, p.2) (λ start l. reads_since c.args.reader.now c.next.new.self _ _ (i.lines ++ n.full ∷ []) come start l)

pub loop-premises-smaller : goal.loop-premises-smaller
loop-premises-smaller g c =
    let i = c.loop-premises.invariant in
    let n = next_line c.loop-premises.reader c.next.new.self _ _ c.in_ok-line.field-0 c.in-Some.line c.in-Some.is c.in_ok-line.ensures.next in
    let (start, l) = c.requires.start in
    next_fewer c.args.reader.now c.loop-premises.reader c.next.new.self _ _ _ i.lines (line_of c.in-Some.line) start l i.come n

pub loop-premises-preserved : goal.loop-premises-preserved
loop-premises-preserved g c =
    let i = c.loop-premises.invariant in
    let n = next_line c.loop-premises.reader c.next.new.self _ _ c.in_ok-line.field-0 c.in-Some.line c.in-Some.is c.in_ok-line.ensures.next in
    record {
      lines = i.lines ++ n.full ∷ [];
      come = one_more_comes c.args.reader.now c.loop-premises.reader c.next.new.self _ _ _ i.lines (line_of c.in-Some.line) i.come n;
      kept = kept_more c.args.ontology.now c.args.reader.now.most_premises c.loop-premises.reader.most_premises c.add.new.self i.lines n.full (line_of c.in-Some.line) i.come.most_premises n.kept
          (c.in_ok-add.ensures (kept_lines c.args.reader.now.most_premises i.lines) i.kept);
      count = omega (arith, i.count, c.in_ok-line.ensures.count);
    }

pub returns-clause-kept : goal.returns-clause-kept
returns-clause-kept g c =
    let i = c.loop-premises.invariant in
    all_are_kept c.args.ontology.now c.args.reader.now c.loop-premises.reader c.next.new.self _ _ _ i.lines c.loop-premises.tested c.in_ok-line.field-0 c.requires.ontology c.requires.enough i.come i.kept
    c.in_default.is c.in_ok-line.ensures.next
