use Rattle.std.proofs.Common.{◌≡◌, ◌++◌, ◌∷◌, [], ap, sym, ◌∙◌, subst, arith}
use Rattle.std.proofs.lemmas.Result.{IfOk-weaker}
use Rattle.std.specs.Option.{IfSome}
use Rattle.fs_parser.specs.Document.{IsDocument}
use Rattle.fs_parser.specs.Name.{Prefixes}
use Rattle.fs_parser.specs.Stream.{IsHeader}
use Rattle.fs_parser.specs.Tree.{Empty}
use Rattle.fs_parser.specs.View.{document_of, prefixes_of_code, tokens_of}
use Rattle.fs_parser.proofs.Streams.{header_is, no_trees, ok_some}
use Rattle.fs_parser.proofs.stream.declared_by.Goals as goal

pub returns-then-is_empty : goal.returns-then-is_empty
returns-then-is_empty c =
    let document = c.in_ok-document.document in
    let last = c.in_ok-closed.ensures.0 in
    let header = tokens_of c.args.header.items in
    let found = ok_some c.forms.result c.ok.result (λ d. IsDocument (document_of d) (tokens_of c.deref.result.now)) c.ok.ensures.value c.forms.ensures.found in
    let written = subst (λ o. IfSome o (λ d. IsDocument (document_of d) (tokens_of c.deref.result.now))) c.in_ok-document.was found in
    let same : tokens_of c.deref.result.now ≡ header ++ last ∷ [] = ap tokens_of c.deref.ensures.value ∙ c.in_ok-closed.ensures.1 in
    let empty : (document_of document).trees ≡ Empty = no_trees document.trees.items (grind arith) in
    let h = header_is (document_of document) header last empty (subst (IsDocument (document_of document)) same written) in
    ok_some c.of.result c.ok-then-is_empty.result (λ known. IsHeader (prefixes_of_code known.declared.items) header) c.ok-then-is_empty.ensures.value
    (IfOk-weaker c.of.result _ _ (λ known e. subst (λ (ps : Prefixes). IsHeader ps header) (sym (e ∙ ap prefixes_of_code c.deref-then-is_empty.ensures.value)) h) c.of.ensures)
