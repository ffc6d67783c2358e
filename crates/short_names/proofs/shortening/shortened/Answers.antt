use Rattle.std.proofs.Common.{◌≡◌, List, ap, subst, ◌∙◌}
use Rattle.std.proofs.lemmas.Result.{IfOk-weaker}
use Rattle.fs_parser.specs.Name.{Prefixes}
use Rattle.short_names.specs.Found.{pairs_of, written_prefixes}
use Rattle.short_names.specs.ShortNames.{IsShortened}
use Rattle.short_names.specs.Spellings.{written_in}
use Rattle.short_names.specs.declared.finding.WrittenPrefix.{WrittenPrefix}
use Rattle.fs_parser.specs.View.{prefixes_of_code}
use Rattle.fs_parser.specs.declared.prefix.Prefix.{Prefix}
use Rattle.short_names.proofs.Written.{keeps_locals, text_of_written}
use Rattle.short_names.proofs.shortening.shortened.Goals as goal

pub returns : goal.returns
returns c =
    let written = written_in c.args.graph in
    let listed : prefixes_of_code c.deref.result.now ≡ c.args.prefixes.now = ap (λ (ps : List Prefix). prefixes_of_code ps) c.deref.ensures.value ∙ c.in_ok-listed.ensures in
    let pairs : pairs_of c.deref-2.result.now ≡ written_prefixes written c.args.prefixes.now =
    ap (λ (ps : List WrittenPrefix). pairs_of ps) c.deref-2.ensures.value ∙ c.in_ok-list.ensures ∙ ap (written_prefixes written) listed in
    IfOk-weaker c.shortened_by.result _ _ (λ v h.
    text_of_written written (keeps_locals c.args.graph) c.args.prefixes.now c.args.text.now v.items
    (subst (λ (ps : Prefixes). IsShortened ps (λ iri. iri) c.args.text.now v.items) pairs h)) c.shortened_by.ensures
