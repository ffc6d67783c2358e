use Rattle.std.proofs.Common.{sym, ◌∙◌}
use Rattle.fs_parser.proofs.Steps.{same_bytes, other_bytes, same_brackets}
use Rattle.fs_parser.proofs.Documents.{standard_one}
use Rattle.fs_parser.proofs.document.new_iri.Goals as goal

pub returns-then-eq-clause-allowed : goal.returns-then-eq-clause-allowed
returns-then-eq-clause-allowed c =
    λ other k.
    let e = same_bytes c.in-Some-standard_iri.standard.now c.in-Some.iri.now c.eq.result c.eq.ensures c.if-eq.true in
    sym e ∙ standard_one c.args.name.now c.in-Some-standard_iri.standard.now other c.in-Some-standard_iri.ensures.some k

pub returns-else-eq-clause-refused : goal.returns-else-eq-clause-refused
returns-else-eq-clause-refused c =
    λ iri b stands.
    let same = same_brackets c.in-Some.iri.now iri c.args.token.now.text.now c.in-Some.ensures.some b in
    let e = stands c.in-Some-standard_iri.standard.now c.in-Some-standard_iri.ensures.some in
    other_bytes c.in-Some-standard_iri.standard.now c.in-Some.iri.now c.eq.result c.eq.ensures c.if-eq.false (sym e ∙ same)

pub returns-in-None-clause-allowed : goal.returns-in-None-clause-allowed
returns-in-None-clause-allowed c = λ other k. absurd (c.in-None.ensures.none other k)
