use Rattle.std.proofs.Common.{arith, sym, subst}
use Rattle.cert_check.specs.Derivation.{IsDerivation}
use Rattle.explain.proofs.Adding.{first_shown}
use Rattle.explain.specs.Marks.{IsMarked, ShowMarked}
use Rattle.explain.proofs.shown.add_lines.Goals as goal

pub returns-clause-derivation : goal.returns-clause-derivation
returns-clause-derivation g c = subst (IsDerivation c.args.closed.now.ontology) (sym c.into_sink.ensures) c.in_ok-show_each.ensures.derivation

pub returns-clause-shown : goal.returns-clause-shown
returns-clause-shown g c =
    subst (ShowMarked c.args.closed.now.saturation c.args.marks (IsMarked c.args.marks)) (sym c.into_sink.ensures)
    (first_shown c.args.closed.now.saturation c.args.marks c.mark_older.new.marks c.show_each.new.derivation c.mark_older.ensures.kept c.mark_older.ensures.only c.in_ok-show_each.ensures.shown)

pub mark_older-requires-clause-few : goal.mark_older-requires-clause-few
mark_older-requires-clause-few g c = omega (arith, c.requires.within, c.well_formed-2.ensures.saturated.few)

pub show_each-requires-clause-few : goal.show_each-requires-clause-few
show_each-requires-clause-few g c = omega (arith, c.requires.within, c.well_formed-2.ensures.saturated.few, c.mark_older.ensures.long)
