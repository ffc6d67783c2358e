use Rattle.std.proofs.Common.{List, ◌++◌, ap, sym, subst, ◌∙◌}
use Rattle.fs_parser.specs.Name.{StandForOne, standard_prefixes}
use Rattle.fs_parser.specs.View.{document_of, prefixes_of_code}
use Rattle.fs_parser.specs.declared.prefix.Prefix.{Prefix}
use Rattle.profile.proofs.Readings.{listed_opens, listed_taken}
use Rattle.profile.proofs.document.listed_text.Goals as goal

pub of-requires : goal.of-requires
of-requires c =
    let written = c.in-Ok.ensures.written in
    let one = c.tokens_are_one_document.ensures.prefixes (document_of c.in-Ok.document) written.tokens written.written in
    subst (λ (ps : List Prefix). StandForOne (standard_prefixes ++ prefixes_of_code ps)) (sym c.deref.ensures.value) one

pub returns-in-Ok-accept-clause-read : goal.returns-in-Ok-accept-clause-read
returns-in-Ok-accept-clause-read c =
    listed_opens c.args.version c.args.text.now (document_of c.in-Ok.document) c.in-Ok.ensures.written c.in-Ok-accept.ontology c.in-Ok-accept.ensures.read c.well_formed-in-Ok-accept.ensures c.in-Ok-of.prefixes
    (c.in-Ok-of.ensures ∙ ap (λ (ps : List Prefix). standard_prefixes ++ prefixes_of_code ps) c.deref.ensures.value)

pub returns-in-Ok-accept-clause-taken : goal.returns-in-Ok-accept-clause-taken
returns-in-Ok-accept-clause-taken c =
    listed_taken c.args.version c.args.text.now (document_of c.in-Ok.document) c.in-Ok.ensures.written c.in-Ok-accept.ontology c.in-Ok-accept.ensures.read c.well_formed-in-Ok-accept.ensures
