use Rattle.std.proofs.Common.{◌∙◌, List, ℕ, OnOk, OnErr, ap, subst}
use Rattle.std.specs.Fmt.{decimal}
use Rattle.telling.specs.Devices.{FailsIn, Takes, seen}
use Rattle.speech.proofs.Replying.{too_large_text}
use Rattle.speech.proofs.reply.write_too_large.Goals as goal

pub returns-clause-whole : goal.returns-clause-whole
returns-clause-whole g c =
    let P : List ℕ → Type 0 = λ text. OnOk c.write_pieces.result (Takes (seen g.W.Sink c.args.sink.now) (seen g.W.Sink c.write_pieces.new.sink) text) in
    subst P (too_large_text c.args.room c.as_slice.result.now c.as_bytes-code.result.now c.as_slice-2.result.now c.as_bytes-len.result.now c.as_slice-3.result.now c.as_bytes-most.result.now c.as_slice-4.result.now
    c.as_slice.ensures (c.as_bytes-code.ensures.value ∙ c.format.ensures.text ∙ ap decimal c.code.ensures) c.as_slice-2.ensures (c.as_bytes-len.ensures.value ∙ c.format-3.ensures.text)
    c.as_slice-3.ensures (c.as_bytes-most.ensures.value ∙ c.format-2.ensures.text) c.as_slice-4.ensures) c.write_pieces.ensures.whole

pub returns-clause-begun : goal.returns-clause-begun
returns-clause-begun g c =
    let P : List ℕ → Type 0 = λ text. OnErr c.write_pieces.result (FailsIn (seen g.W.Sink c.args.sink.now) (seen g.W.Sink c.write_pieces.new.sink) text) in
    subst P (too_large_text c.args.room c.as_slice.result.now c.as_bytes-code.result.now c.as_slice-2.result.now c.as_bytes-len.result.now c.as_slice-3.result.now c.as_bytes-most.result.now c.as_slice-4.result.now
    c.as_slice.ensures (c.as_bytes-code.ensures.value ∙ c.format.ensures.text ∙ ap decimal c.code.ensures) c.as_slice-2.ensures (c.as_bytes-len.ensures.value ∙ c.format-3.ensures.text)
    c.as_slice-3.ensures (c.as_bytes-most.ensures.value ∙ c.format-2.ensures.text) c.as_slice-4.ensures) c.write_pieces.ensures.begun
