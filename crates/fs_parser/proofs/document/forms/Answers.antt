use Rattle.std.proofs.Common.{sym, ◌∙◌}
use Rattle.std.proofs.lemmas.Bool.{false≢true}
use Rattle.std.proofs.lemmas.Result.{err_from_is_err_and}
use Rattle.fs_parser.specs.View.{prefix_of, prefixes_of_code, trees_of}
use Rattle.fs_parser.proofs.Documents.{nothing_read, one_read, none_declared, document_read, none_read, allowed_one}
use Rattle.fs_parser.proofs.Faults.{placed_there}
use Rattle.fs_parser.proofs.document.forms.Goals as goal

pub declarations-init : goal.declarations-init
declarations-init c = nothing_read c.args.tokens.now (prefixes_of_code c.new-known.result.declared.items) c.new-known.ensures

pub declarations-preserved : goal.declarations-preserved
declarations-preserved c =
    one_read c.args.tokens.now c.declarations.read (prefixes_of_code c.declarations.known.declared.items) (prefixes_of_code c.in_ok-known.known.declared.items)
    (prefix_of c.in_ok-prefix.prefix) c.declarations.invariant c.in_ok-prefix.ensures.found c.in_ok-prefix.ensures.allowed c.in_ok-known.ensures

pub returns-in_err-prefix-clause-refused : goal.returns-in_err-prefix-clause-refused
returns-in_err-prefix-clause-refused c =
    let p = err_from_is_err_and c.from_residual.result c.from_residual.ensures.1 in
    rw p.1 (λ _. none_declared c.args.tokens.now c.declarations.read (prefixes_of_code c.declarations.known.declared.items) c.declarations.invariant
    (c.begins_with.ensures.0 c.declarations-test.true) c.in_err-prefix.ensures.refused)

pub ontology-requires : goal.ontology-requires
ontology-requires c = allowed_one (prefixes_of_code c.declarations.known.declared.items) c.declarations.invariant.2

pub returns-in_err-trees-clause-refused : goal.returns-in_err-trees-clause-refused
returns-in_err-trees-clause-refused c =
    let p = err_from_is_err_and c.from_residual-in_err-trees.result c.from_residual-in_err-trees.ensures.1 in
    rw (p.1, p.2) (none_read c.args.tokens.now c.declarations.read (prefixes_of_code c.declarations.known.declared.items) c.in_err-trees.field-0.0 c.declarations.invariant
    (λ b. false≢true (sym c.declarations-test.false ∙ c.begins_with.ensures.1 b)) c.in_err-trees.ensures.only)

pub returns-clause-found : goal.returns-clause-found
returns-clause-found c =
    document_read c.args.tokens.now c.declarations.read (prefixes_of_code c.declarations.known.declared.items) (trees_of c.in_ok-trees.trees.items) c.declarations.invariant c.in_ok-trees.ensures.found

pub returns-in_err-prefix-clause-placed : goal.returns-in_err-prefix-clause-placed
returns-in_err-prefix-clause-placed c =
    let p = err_from_is_err_and c.from_residual.result c.from_residual.ensures.1 in
    rw (p.1, p.2) (placed_there c.args.tokens.now c.declarations.read c.end_of-here.result (prefixes_of_code c.declarations.known.declared.items) c.in_err-prefix.field-0.0 c.declarations.invariant
    c.end_of-here.ensures c.in_err-prefix.ensures.said)

pub returns-in_err-trees-clause-placed : goal.returns-in_err-trees-clause-placed
returns-in_err-trees-clause-placed c =
    let p = err_from_is_err_and c.from_residual-in_err-trees.result c.from_residual-in_err-trees.ensures.1 in
    rw (p.1, p.2) (placed_there c.args.tokens.now c.declarations.read c.end_of-here.result (prefixes_of_code c.declarations.known.declared.items) c.in_err-trees.field-0.0 c.declarations.invariant
    c.end_of-here.ensures c.in_err-trees.ensures.said)
