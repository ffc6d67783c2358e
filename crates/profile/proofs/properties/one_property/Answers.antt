use Rattle.fs_parser.specs.View.{tree_of}
use Rattle.profile.specs.Statements.{iri_of}
use Rattle.profile.proofs.PropertyForms.{one_property_read, one_property_refused}
use Rattle.profile.proofs.properties.one_property.Goals as goal

pub returns-in-Err-clause-read : goal.returns-in-Err-clause-read
returns-in-Err-clause-read c = one_property_refused (iri_of (tree_of c.args.tree.now)) c.args.builder.now c.property.new.builder c.in-Err.fault c.in-Err.ensures.read

pub returns-in-Ok-push-clause-read : goal.returns-in-Ok-push-clause-read
returns-in-Ok-push-clause-read c =
    one_property_read (iri_of (tree_of c.args.tree.now)) c.args.builder.now c.property.new.builder c.in-Ok.property c.in-Ok.ensures.read c.new-properties.result.items c.push.new.self.items c.new-properties.ensures.items c.in-Ok-push.ensures.items
