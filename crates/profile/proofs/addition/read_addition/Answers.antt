use Rattle.std.proofs.Common.{List, subst, sym}
use Rattle.fs_parser.specs.View.{trees_of}
use Rattle.fs_parser.specs.declared.tree.Tree.{Tree}
use Rattle.profile.specs.AddedTexts.{AreStatementsOf}
use Rattle.profile.proofs.Sayable.{grown_taken}
use Rattle.profile.proofs.addition.read_addition.Goals as goal

pub returns-in-Err-clause-refused : goal.returns-in-Err-clause-refused
returns-in-Err-clause-refused c = c.in-Err.ensures.refused c.args.version c.args.ontology.now

pub returns-in-Ok-accept_statements-clause-taken : goal.returns-in-Ok-accept_statements-clause-taken
returns-in-Ok-accept_statements-clause-taken c =
    let prefixes = c.args.prefixes.now in
    let text = c.args.text.now in
    let text_is = subst (λ (ts : List Tree). AreStatementsOf prefixes text (trees_of ts)) (sym c.deref.ensures.value) c.in-Ok.ensures.found in
    grown_taken c.args.version prefixes text c.args.ontology.now c.accept_statements.new.ontology c.utf8.text c.stand_for_spelled.ensures c.requires c.well_formed-in-Ok-accept_statements.ensures
    (record { trees = trees_of c.deref.result.now; text_is = text_is; added = c.in-Ok-accept_statements.ensures.added })
