use Rattle.std.proofs.Common.{◌≡◌, ◌∙◌, false, true, ap, subst, sym}
use Rattle.command_line.specs.declared.receiver.Request.{Request}
use Rattle.receiving.proofs.receiver.perform_request.Goals as goal
use Rattle.receiving.specs.Files.{store}
use Rattle.receiving.specs.Receiver.{IsRequestRun, is_conversion}
use Rattle.telling.proofs.Telling.{nothing_told}
use Rattle.telling.specs.Printing.{BehindProgress, outputs}

pub returns-in-Check-clause-performed : goal.returns-in-Check-clause-performed
returns-in-Check-clause-performed g c =
    let task = c.args.task.now in
    let call = c.perform_check in
    let old = outputs g.O.Sink g.E.Sink c.args.out.now c.args.err.now in
    let new = outputs g.O.Sink g.E.Sink call.new.out call.new.err in
    let files = g.F.Files in
    let content = files.content c.args.files.now in
    let P : Request → Type 0 = λ request. BehindProgress task.progress old (λ begun. IsRequestRun request task.limits (store files c.args.files.now c.args.files.now) content content begun new call.result) in
    subst P (sym c.in-Check.is) call.ensures

pub returns-in-Convert-clause-performed : goal.returns-in-Convert-clause-performed
returns-in-Convert-clause-performed g c =
    let task = c.args.task.now in
    let call = c.perform_convert in
    let old = outputs g.O.Sink g.E.Sink c.args.out.now c.args.err.now in
    let new = outputs g.O.Sink g.E.Sink call.new.out call.new.err in
    let files = g.F.Files in
    let P : Request → Type 0 = λ request. IsRequestRun request task.limits (store files c.args.files.now call.new.files) (files.content c.args.files.now) (files.content call.new.files) old new call.result in
    nothing_told task.progress old _ (subst P (sym c.in-Convert.is) call.ensures)

pub returns-in-Convert-clause-untouched : goal.returns-in-Convert-clause-untouched
returns-in-Convert-clause-untouched g c none =
    let bad : true ≡ false = sym (ap is_conversion c.in-Convert.is) ∙ none in
    absurd (cc)
