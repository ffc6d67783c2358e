use Rattle.std.proofs.Common.{Result, refl, subst, sym}
use Rattle.std.specs.declared.hash.RandomState.{RandomState}
use Rattle.std.specs.declared.io.Error.{Error}
use Rattle.receiving.specs.Starts.{IsUnstartedTold}
use Rattle.receiving.proofs.starting.begin.Goals as goal

pub returns-in-Err-clause-told : goal.returns-in-Err-clause-told
returns-in-Err-clause-told g c =
    let P : Result RandomState Error → Type 0 = λ seed. IsUnstartedTold g.E.Sink seed c.args.startup.now.words c.args.err.now c.print.new.sink c.print.result in
    subst P (sym c.in-Err.is) (refl, refl, c.print.ensures)
