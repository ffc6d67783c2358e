use Rattle.std.proofs.Common.{◌≡◌, ◌∙◌, ◌+◌, ◌-◌, ◌++◌, Bool, false, Some, ap, subst, sym, length, take, drop, min}
use Rattle.std.proofs.lemmas.List.{take_rest}
use Rattle.device.specs.Device.{Reads}
use Rattle.system_files.proofs.Rests.{reads_on}
use Rattle.system_files.specs.Contents.{left_of, most_of}
use Rattle.system_files.proofs.memory.MemorySourceSource.read.Goals as goal

pub returns-clause-ok : goal.returns-clause-ok
returns-clause-ok c =
    let bytes = c.args.self.now.bytes.items in
    let at = c.args.self.now.at in
    let rest : take (length c.deref.result.now - at) (drop at c.deref.result.now) ≡ drop at bytes = take_rest c.deref.result.now at ∙ ap (drop at) c.deref.ensures.value in
    let n : c.min-n.result ≡ min (length c.args.buffer.now) (length (drop at bytes)) = c.min-n.ensures ∙ ap (λ r. min (length c.args.buffer.now) (length r)) rest in
    let piece = c.copy_from_slice.ensures.after ∙ ap (take c.min-n.result) rest in
    let there : c.args.self.now.is_missing ≡ false = c.if-self.false in
    let P : Bool → Type 0 = λ missing. Reads (Some (left_of missing (drop at bytes))) (Some (left_of missing (drop (at + c.min-n.result) bytes))) (most_of missing (drop at bytes)) (most_of missing (drop (at + c.min-n.result) bytes)) (c.copy_from_slice.new.self ++ drop c.min-n.result c.args.buffer.now) c.min-n.result in
    subst P (sym there) (reads_on bytes c.args.buffer.now c.copy_from_slice.new.self at c.min-n.result n piece)
