use Rattle.std.proofs.Common.{List, sym, subst}
use Rattle.axioms.specs.Expression.{Iri}
use Rattle.fs_parser.specs.View.{tree_of}
use Rattle.shapes.proofs.Stating.{no_form}
use Rattle.profile.specs.Additions.{PropertiesRead}
use Rattle.profile.proofs.PropertyForms.{one_chain}
use Rattle.profile.proofs.properties.chain.Goals as goal

pub returns-in_default-clause-read : goal.returns-in_default-clause-read
returns-in_default-clause-read c =
    subst (λ (rs : List Iri). PropertiesRead c.one_property.result rs c.args.builder.now c.one_property.new.builder)
    (sym (one_chain (tree_of c.args.tree.now) (no_form c.args.tree.now c.in_default.not-Form) c.requires)) c.one_property.ensures.read
