use Rattle.std.proofs.Common.{◌≡◌, ◌∙◌, sym, ap}
use Rattle.std.specs.Fmt.{decimal}
use Rattle.std.proofs.lemmas.Fmt.{parse-decimal}
use Rattle.std.proofs.lemmas.Slice.Eq.{bytes_eq-Decides}
use Rattle.speech.proofs.sizes.size_of_word.Goals as goal

pub returns-in-Err-clause-none : goal.returns-in-Err-clause-none
returns-in-Err-clause-none c = λ n small e.
    let parsed = parse-decimal 64 n c.args.word.now c.parse.result small small (sym e) c.parse.ensures.value.0 in
    cc (parsed, c.in-Err.is)

pub returns-else-eq-clause-none : goal.returns-else-eq-clause-none
returns-else-eq-clause-none c = λ n small e.
    let parsed = parse-decimal 64 n c.args.word.now c.parse.result small small (sym e) c.parse.ensures.value.0 in
    let same : c.in-Ok.size ≡ n = cc (parsed, c.in-Ok.is) in
    let equal = (bytes_eq-Decides c.format.result.now c.args.word.now).1 (c.format.ensures.text ∙ ap decimal same ∙ e) in
    cc (equal, c.eq.ensures, c.if-eq.false)
