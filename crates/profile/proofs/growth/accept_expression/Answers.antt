use Rattle.std.proofs.Common.{◌≡◌, ◌∙◌, Err, length, arith, subst, sym}
use Rattle.std.proofs.lemmas.Bool.Decides.{nat_tests}
use Rattle.axioms.specs.declared.fault.BuildFault.{BuildFault}
use Rattle.fs_parser.specs.View.{tree_of}
use Rattle.profile.specs.Additions.{ClassRead}
use Rattle.profile.specs.Statements.{class_of}
use Rattle.profile.proofs.KnownNames.{expression_added, is_class, no_overflow}
use Rattle.profile.proofs.Takings.{none_found}
use Rattle.profile.proofs.growth.accept_expression.Goals as goal

pub class_expression-requires : goal.class_expression-requires
class_expression-requires c =
    let none : length c.in-Ok.found.items ≡ 0 = grind (arith, nat_tests, c.is_empty.ensures) in
    is_class c.args.version c.args.ontology.now (tree_of c.args.tree.now) c.well_formed-2.ensures (sym c.in-Ok.ensures ∙ none_found c.in-Ok.found.items none)

pub returns-in-Ok-class_expression-clause-added : goal.returns-in-Ok-class_expression-clause-added
returns-in-Ok-class_expression-clause-added c =
    let none : length c.in-Ok.found.items ≡ 0 = grind (arith, nat_tests, c.is_empty.ensures) steps 9000000 in
    expression_added c.args.version c.args.ontology.now (tree_of c.args.tree.now) c.well_formed-2.ensures (sym c.in-Ok.ensures ∙ none_found c.in-Ok.found.items none)
    c.from-builder.result c.class_expression.new.builder c.finish.result c.in-Ok-class_expression.number.0 (c.from-builder.ensures ∙ c.in-Ok-copy.ensures) c.finish.ensures c.in-Ok-class_expression.ensures.read

pub returns-in-Err-TooManyNames-clause-refused : goal.returns-in-Err-TooManyNames-clause-refused
returns-in-Err-TooManyNames-clause-refused c =
    let none : length c.in-Ok.found.items ≡ 0 = grind (arith, nat_tests, c.is_empty.ensures) in
    let t = tree_of c.args.tree.now in
    no_overflow c.args.version c.args.ontology.now t c.well_formed-2.ensures (sym c.in-Ok.ensures ∙ none_found c.in-Ok.found.items none) c.from-builder.result c.bounded.ensures (c.from-builder.ensures ∙ c.in-Ok-copy.ensures)
    (subst (λ (f : BuildFault). ClassRead (Err f) (class_of t) c.from-builder.result c.class_expression.new.builder) c.in-Err-TooManyNames.field-0-is c.in-Err-TooManyNames.ensures.read)
