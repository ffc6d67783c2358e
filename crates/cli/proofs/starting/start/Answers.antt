use Rattle.std.proofs.Common.{List, ap, map, subst, sym, ℕ}
use Rattle.clap.specs.Words.{Text}
use Rattle.receiving.proofs.Started.{started}
use Rattle.cli.specs.Runs.{Performs}
use Rattle.receiving.specs.Starts.{StartsSeeded}
use Rattle.cli.proofs.starting.start.Goals as goal

pub returns-in-Ok : goal.returns-in-Ok
returns-in-Ok g c =
    let P : ℕ → Type 0 = λ status. StartsSeeded g.E.Sink (Performs g.F.Files g.O.Sink g.E.Sink) c.args.startup.now.state c.args.startup.now.words (c.args.files.now, c.args.out.now, c.args.err.now) (c.perform-status.new.files, c.perform-status.new.out, c.perform-status.new.err) status in
    let Q : List Text → Type 0 = λ words. Performs g.F.Files g.O.Sink g.E.Sink words (c.args.files.now, c.args.out.now, c.args.err.now) (c.perform-status.new.files, c.perform-status.new.out, c.perform-status.new.err) c.perform-status.result in
    let words : List Text = map (λ w. w.now) c.deref.result.now in
    let run = subst (λ err. Performs g.F.Files g.O.Sink g.E.Sink words (c.args.files.now, c.args.out.now, err) (c.perform-status.new.files, c.perform-status.new.out, c.perform-status.new.err) c.perform-status.result) c.in-Ok.ensures.quiet c.perform-status.ensures.performed in
    subst P (sym c.from.ensures)
    (started g.E.Sink (Performs g.F.Files g.O.Sink g.E.Sink) c.in-Ok.run'.means.state c.args.startup.now.state c.args.startup.now.words (map (λ w. w.now) c.in-Ok.run'.words.items)
    (c.args.files.now, c.args.out.now, c.args.err.now) (c.perform-status.new.files, c.perform-status.new.out, c.perform-status.new.err) c.perform-status.result c.in-Ok.ensures.seed c.in-Ok.ensures.words (subst Q (ap (map (λ w. w.now)) c.deref.ensures.value) run))
