use Rattle.std.proofs.Common.{List, sym, subst}
use Rattle.fs_lexer.specs.Spelling.{Spells}
use Rattle.fs_lexer.specs.declared.token.Token.{Token}
use Rattle.fs_parser.specs.View.{tokens_of}
use Rattle.profile.specs.declared.fault.DocumentFault.{DocumentFault}
use Rattle.profile.specs.Faults.{IsOfForms, Refuses}
use Rattle.profile.proofs.Readings.{of_forms, parse_fault}
use Rattle.profile.proofs.document.listed_document.Goals as goal

pub returns-clause-refused : goal.returns-clause-refused
returns-clause-refused c version =
    let text = c.args.text.now in
    let spelled : Spells text (tokens_of c.deref.result.now) =
    subst (λ (ts : List Token). Spells text (tokens_of ts)) (sym c.deref.ensures.value) c.in-Ok.ensures.found in
    let refuses = parse_fault text (tokens_of c.deref.result.now) c.utf8.text spelled version c.in-Err-forms.fault c.in-Err-forms.ensures.refused c.in-Err-forms.ensures.placed in
    subst (λ (e : DocumentFault). Refuses version e text) (sym c.from-in-Err-forms.ensures) refuses

pub returns-clause-kind : goal.returns-clause-kind
returns-clause-kind c = subst IsOfForms (sym c.from-in-Err-forms.ensures) (of_forms c.in-Err-forms.fault)
