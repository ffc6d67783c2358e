use Rattle.std.proofs.Common.{◌++◌, ◌∷◌, [], Some, sym, subst}
use Rattle.short_names.specs.Found.{IsFound, pair_of}
use Rattle.short_names.specs.declared.finding.ShortName.{ShortName}
use Rattle.short_names.proofs.Choosing.{found_one, without}
use Rattle.short_names.proofs.finding.with_prefix.Goals as goal

pub returns-in-None : goal.returns-in-None
returns-in-None c = λ ps h. without ps (pair_of c.args.prefix.now) c.args.inside.now c.args.best c.in-None.ensures.none h

pub returns-in-Some : goal.returns-in-Some
returns-in-Some c = λ ps h.
    subst (λ (s : ShortName). IsFound (ps ++ pair_of c.args.prefix.now ∷ []) c.args.inside.now (Some s)) (sym c.shortest.ensures)
    (found_one ps c.args.prefix.now.iri.items c.args.inside.now c.args.best (record { prefix = c.args.prefix.now.name; local = c.in-Some.local }) c.in-Some.ensures.some h)
