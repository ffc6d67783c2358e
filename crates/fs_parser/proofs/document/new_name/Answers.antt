use Rattle.std.proofs.Common.{refl}
use Rattle.fs_parser.specs.KnownPrefixes.{known_of}
use Rattle.fs_parser.specs.View.{prefixes_of_code}
use Rattle.fs_parser.proofs.Faults.{name_taken_before}
use Rattle.fs_parser.proofs.Steps.{name_taken}
use Rattle.fs_parser.proofs.document.new_name.Goals as goal

pub returns-in-Some-iri-clause-refused : goal.returns-in-Some-iri-clause-refused
returns-in-Some-iri-clause-refused c =
    name_taken (known_of c.args.known.now) c.args.token.now.text.now c.in-Some.name.now c.in-Some-iri.field-0.now c.in-Some.ensures.some c.in-None.ensures.none c.in-Some-iri.ensures.some

pub returns-in-Some-iri-clause-said : goal.returns-in-Some-iri-clause-said
returns-in-Some-iri-clause-said c =
    let taken = name_taken_before (prefixes_of_code c.args.known.now.declared.items) c.in-Some.name.now c.in-Some-iri.field-0.now c.in-None.ensures.none c.in-Some-iri.ensures.some in
    (refl, c.in-Some.name.now, c.in-Some.ensures.some, taken)
