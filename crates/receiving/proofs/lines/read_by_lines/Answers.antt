use Rattle.std.proofs.Common.{◌≡◌, IfOk, List, ℕ, string_bytes, subst}
use Rattle.profile.specs.Messages.{status_of}
use Rattle.receiving.specs.Places.{IsLinedText}
use Rattle.telling.proofs.Telling.{told}
use Rattle.telling.specs.Devices.{seen}
use Rattle.receiving.proofs.lines.read_by_lines.Goals as goal

pub returns-in-Err-clause-told : goal.returns-in-Err-clause-told
returns-in-Err-clause-told g c =
    let path = c.args.reading.now.path.now in
    let most = c.args.reading.now.limits.max_bytes in
    let fault = c.in-Err.refusal.fault in
    let bytes = c.in-Err.refusal.bytes.items in
    let made = c.lined_message-message in
    let P : List ℕ → Type 0 = λ b. IfOk made.result (λ m. IsLinedText path most b fault (string_bytes m.text) × (m.status ≡ status_of fault)) in
    record {
      fault = fault;
      bytes = bytes;
      faulty = c.in-Err.ensures.0;
      blames = c.in-Err.ensures.1;
      told = told (seen g.E.Sink c.args.err.now) (seen g.E.Sink c.tell.new.err) made.result (IsLinedText path most bytes fault) (status_of fault) c.tell.result (subst P c.deref.ensures.value made.ensures) c.tell.ensures;
    }
