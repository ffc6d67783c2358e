use Rattle.std.proofs.Common.{◌<◌, ◌∙◌, map, length, get_or, Some, sym, ap}
use Rattle.std.proofs.lemmas.Option.{slice_get-get_or}
use Rattle.std.specs.String.{string_bytes}
use Rattle.lemmas.proofs.Mapped.{slice_get_map}
use Rattle.answers.proofs.Naming.{name_is, named_more}
use Rattle.answers.proofs.names.named.Goals as goal

pub loop-n-preserved : goal.loop-n-preserved
loop-n-preserved c =
    let names = map string_bytes c.args.names.now in
    let numbers = c.args.numbers.now in
    let k = c.loop-n.n-index in
    let n = get_or numbers k 0 in
    let at = slice_get-get_or numbers k 0 c.loop-n-test.true in
    let low : n < length c.args.names.now = c.requires.within k 0 c.loop-n-test.true in
    let s = c.index-names-n.result in
    let here = slice_get_map string_bytes c.args.names.now n s (slice_get-get_or c.args.names.now n s low ∙ ap (λ x. Some x) (sym c.index-names-n.is)) in
    named_more names numbers k n c.loop-n.found.items c.push.new.self.items c.as_str.result at c.in_ok-push.ensures.items (c.as_str.ensures.value ∙ sym (name_is names n (string_bytes s) here)) c.loop-n.invariant
