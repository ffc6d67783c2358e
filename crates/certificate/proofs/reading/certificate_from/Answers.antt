use Rattle.std.proofs.Common.{◌≤◌, ℕ, option_map, refl, subst}
use Rattle.std.proofs.lemmas.List.{length-map}
use Rattle.std.proofs.lemmas.Result.{err_from_is_err_and}
use Rattle.certificate.specs.TextLines.{InLines}
use Rattle.certificate.specs.View.{lines_of, line_of, listing_of}
use Rattle.certificate.proofs.ReaderSteps.{read_on, read_to_end}
use Rattle.certificate.proofs.WholeText.{lines_within, next_lines, next_same, less_room, lines_stopped, no_next, lines_read, as_written}
use Rattle.certificate.proofs.reading.certificate_from.Goals as goal

pub returns-in_err-line-clause-fault : goal.returns-in_err-line-clause-fault
returns-in_err-line-clause-fault g c =
    let p = err_from_is_err_and c.from_residual-in_err-line.result c.from_residual-in_err-line.ensures.1 in
    rw (p.1, p.2) (lines_stopped _ _ _ c.loop-lines.reader c.args.ontology.now (lines_of c.loop-lines.lines.items) c.in_err-line.field-0.0 c.loop-lines.invariant.ontology
    c.loop-lines.invariant.read c.in_err-line.ensures.fault)

pub loop-lines-smaller : goal.loop-lines-smaller
loop-lines-smaller g c =
    let i = c.loop-lines.invariant in
    let longer = c.push.new.self.items in
    let next = next_lines _ _ _ c.loop-lines.reader c.next.new.self c.loop-lines.lines.items longer c.in-Some.line c.in_ok-line.field-0 i.whole i.read c.in-Some.is c.in_ok-line.ensures.next
    c.in_ok-push.ensures.items in
    let most = g.S.Source.most c.args.source.now in
    let within = subst (λ (n : ℕ). n ≤ most) (length-map longer line_of) (lines_within _ _ (lines_of longer) c.next.new.self next) in
    less_room most c.loop-lines.lines.items longer c.in-Some.line c.in_ok-push.ensures.items within

pub loop-lines-preserved : goal.loop-lines-preserved
loop-lines-preserved g c =
    let i = c.loop-lines.invariant in
    let same = next_same _ _ c.loop-lines.reader c.next.new.self c.args.ontology.now c.in-Some.line c.in_ok-line.field-0 i.ontology i.whole c.in-Some.is c.in_ok-line.ensures.next in
    record {
      read = next_lines _ _ _ c.loop-lines.reader c.next.new.self c.loop-lines.lines.items c.push.new.self.items c.in-Some.line c.in_ok-line.field-0 i.whole i.read c.in-Some.is
          c.in_ok-line.ensures.next c.in_ok-push.ensures.items;
      ontology = same.0;
      whole = same.1;
    }

pub returns-in_err-push-clause-fault : goal.returns-in_err-push-clause-fault
returns-in_err-push-clause-fault g c =
    let p = err_from_is_err_and c.from_residual-in_err-push.result c.from_residual-in_err-push.ensures.1 in
    let i = c.loop-lines.invariant in
    let next = next_lines _ _ _ c.loop-lines.reader c.next.new.self c.loop-lines.lines.items _ c.in-Some.line c.in_ok-line.field-0 i.whole i.read c.in-Some.is c.in_ok-line.ensures.next refl in
    rw (p.1, p.2) (read_on _ _ (InLines c.next.new.self.format c.next.new.self.is_consistent _) c.next.new.self next.part)

pub returns-in_err-finish-clause-fault : goal.returns-in_err-finish-clause-fault
returns-in_err-finish-clause-fault g c =
    let p = err_from_is_err_and c.from_residual-in_err-finish.result c.from_residual-in_err-finish.ensures.1 in
    let i = c.loop-lines.invariant in
    let lines = lines_of c.loop-lines.lines.items in
    let n = no_next _ _ _ c.loop-lines.reader c.next.new.self c.args.ontology.now lines c.in_ok-line.field-0 i.ontology i.read c.in_default.is c.in_ok-line.ensures.next in
    rw (p.1, p.2) (lines_stopped _ _ _ c.next.new.self c.args.ontology.now lines c.in_err-finish.field-0.0 n.0 n.1 c.in_err-finish.ensures.fault)

pub returns-in_err-listed-clause-fault : goal.returns-in_err-listed-clause-fault
returns-in_err-listed-clause-fault g c =
    let p = err_from_is_err_and c.from_residual-in_err-listed.result c.from_residual-in_err-listed.ensures.1 in
    let i = c.loop-lines.invariant in
    let lines = lines_of c.loop-lines.lines.items in
    let n = no_next _ _ _ c.loop-lines.reader c.next.new.self c.args.ontology.now lines c.in_ok-line.field-0 i.ontology i.read c.in_default.is c.in_ok-line.ensures.next in
    rw (p.1, p.2) (read_to_end _ _ _ _ (lines_read _ _ _ c.next.new.self c.args.ontology.now lines (option_map listing_of c.in_ok-finish.field-0) n.0 n.1 c.in_ok-finish.ensures.listed))

pub returns-clause-found : goal.returns-clause-found
returns-clause-found g c =
    let i = c.loop-lines.invariant in
    let lines = lines_of c.loop-lines.lines.items in
    let n = no_next _ _ _ c.loop-lines.reader c.next.new.self c.args.ontology.now lines c.in_ok-line.field-0 i.ontology i.read c.in_default.is c.in_ok-line.ensures.next in
    as_written _ _ c.args.ontology.now lines _ _ c.in_ok-listed.ensures
    (lines_read _ _ _ c.next.new.self c.args.ontology.now lines (option_map listing_of c.in_ok-finish.field-0) n.0 n.1 c.in_ok-finish.ensures.listed)
