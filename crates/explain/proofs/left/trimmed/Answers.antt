use Rattle.std.proofs.Common.{sym, arith}
use Rattle.std.proofs.lemmas.List.{length-map}
use Rattle.certificate.specs.View.{line_of, lines_of}
use Rattle.exactness.proofs.Trimmed.{trimmed_all}
use Rattle.explain.proofs.Before.{premises_before, line_there}
use Rattle.explain.proofs.HandedOn.{premises_marked}
use Rattle.explain.proofs.Renumbering.{trimmed_from_kept}
use Rattle.explain.proofs.left.trimmed.Goals as goal

pub rests-requires-clause-before : goal.rests-requires-clause-before
rests-requires-clause-before c = premises_before c.requires.derivation.0 (lines_of c.args.lines.now) c.requires.derivation.1

pub kept-requires-clause-marked : goal.kept-requires-clause-marked
kept-requires-clause-marked c =
    premises_marked (lines_of c.args.lines.now) c.args.goal c.in_ok-marks.marks
    (premises_before c.requires.derivation.0 (lines_of c.args.lines.now) c.requires.derivation.1)
    c.in_ok-marks.ensures.exact

pub returns-clause-trimmed : goal.returns-clause-trimmed
returns-clause-trimmed c =
    trimmed_from_kept (lines_of c.args.lines.now) c.args.goal c.in_ok-marks.marks (lines_of c.in_ok-left.left.items)
    (premises_before c.requires.derivation.0 (lines_of c.args.lines.now) c.requires.derivation.1)
    (sym c.in_ok-marks.ensures.long) c.requires.counted
    c.in_ok-marks.ensures.exact
    c.in_ok-left.ensures

pub returns-clause-derivation : goal.returns-clause-derivation
returns-clause-derivation c o derivation =
    let line = line_there (lines_of c.args.lines.now) c.args.goal c.requires.counted (omega (arith, c.requires.there, length-map c.args.lines.now line_of)) in
    (trimmed_all o (lines_of c.args.lines.now) c.args.goal line.0 derivation line.1 (lines_of c.in_ok-left.left.items) (returns-clause-trimmed c)).0

pub returns-clause-last : goal.returns-clause-last
returns-clause-last c line at =
    (trimmed_all c.requires.derivation.0 (lines_of c.args.lines.now) c.args.goal line c.requires.derivation.1 at (lines_of c.in_ok-left.left.items) (returns-clause-trimmed c)).1

pub returns-clause-serves : goal.returns-clause-serves
returns-clause-serves c =
    let line = line_there (lines_of c.args.lines.now) c.args.goal c.requires.counted (omega (arith, c.requires.there, length-map c.args.lines.now line_of)) in
    (trimmed_all c.requires.derivation.0 (lines_of c.args.lines.now) c.args.goal line.0 c.requires.derivation.1 line.1 (lines_of c.in_ok-left.left.items) (returns-clause-trimmed c)).2
