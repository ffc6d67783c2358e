use Rattle.axioms.specs.View.{prop_numbers}
use Rattle.fs_parser.specs.View.{tree_of}
use Rattle.profile.specs.Statements.{chain_of, iri_of}
use Rattle.profile.proofs.AxiomReading.{chain_refused, sub_property_fits, sub_property_read, super_refused}
use Rattle.axioms.proofs.Fronts.{extends_both}
use Rattle.profile.proofs.axiom_forms.sub_property.Goals as goal

pub returns-in-Err-clause-read : goal.returns-in-Err-clause-read
returns-in-Err-clause-read c = chain_refused (chain_of (tree_of c.args.first.now)) (iri_of (tree_of c.args.second.now)) c.args.builder.now c.chain.new.builder c.in-Err.fault c.in-Err.ensures.read

pub returns-in-Err-property-clause-read : goal.returns-in-Err-property-clause-read
returns-in-Err-property-clause-read c =
    super_refused (chain_of (tree_of c.args.first.now)) (iri_of (tree_of c.args.second.now)) c.args.builder.now c.chain.new.builder c.property.new.builder (prop_numbers c.in-Ok.steps.items) c.in-Ok.ensures.read c.in-Err-property.fault c.in-Err-property.ensures.read

pub state-requires : goal.state-requires
state-requires c =
    sub_property_fits (chain_of (tree_of c.args.first.now)) (iri_of (tree_of c.args.second.now)) c.args.builder.now c.chain.new.builder c.property.new.builder (prop_numbers c.in-Ok.steps.items) c.in-Ok-property.whole.0 c.in-Ok.ensures.read c.in-Ok-property.ensures.read c.requires

pub returns-clause-read : goal.returns-clause-read
returns-clause-read c =
    sub_property_read (chain_of (tree_of c.args.first.now)) (iri_of (tree_of c.args.second.now)) c.args.builder.now c.chain.new.builder c.property.new.builder (prop_numbers c.in-Ok.steps.items) c.in-Ok-property.whole.0 c.in-Ok.ensures.read c.in-Ok-property.ensures.read c.state.new.builder c.state.result c.state.ensures.read

pub returns-in-Err-property-clause-kept : goal.returns-in-Err-property-clause-kept
returns-in-Err-property-clause-kept c = extends_both c.args.builder.now c.chain.new.builder c.property.new.builder c.in-Ok.ensures.kept c.in-Err-property.ensures.kept

pub returns-clause-kept : goal.returns-clause-kept
returns-clause-kept c = extends_both c.args.builder.now c.property.new.builder c.state.new.builder (extends_both c.args.builder.now c.chain.new.builder c.property.new.builder c.in-Ok.ensures.kept c.in-Ok-property.ensures.kept) c.state.ensures.kept
