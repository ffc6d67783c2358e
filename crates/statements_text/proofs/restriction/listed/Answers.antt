use Rattle.std.proofs.Common.{List, subst}
use Rattle.fs_parser.specs.View.{document_of, trees_of}
use Rattle.fs_parser.specs.declared.tree.Tree as parsed
use Rattle.statements_text.specs.Restricting.{IsWhole}
use Rattle.statements_text.proofs.KeptText.{no_forms}
use Rattle.statements_text.proofs.restriction.listed.Goals as goal

pub returns-in-Ok-taken-clause-whole : goal.returns-in-Ok-taken-clause-whole
returns-in-Ok-taken-clause-whole c =
    let made = c.in-Ok-taken.made in
    record {
      document = document_of c.in-Ok.document;
      text = c.in-Ok.ensures.written;
      whole = subst (λ (ts : List parsed.Tree). IsWhole c.args.version (trees_of ts) made) c.deref.ensures.value c.in-Ok-taken.ensures;
    }

pub returns-in-Err-clause-refused : goal.returns-in-Err-clause-refused
returns-in-Err-clause-refused c =
    no_forms c.args.version c.in-Err.fault c.args.text.now (c.in-Err.ensures.refused c.args.version) c.in-Err.ensures.kind
