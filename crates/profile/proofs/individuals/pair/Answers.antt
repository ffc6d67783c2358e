use Rattle.fs_parser.specs.View.{tree_of}
use Rattle.profile.specs.Statements.{iri_of}
use Rattle.profile.proofs.AxiomReading.{pair_property_refused, pair_read, pair_source_refused, pair_target_refused}
use Rattle.axioms.proofs.Fronts.{extends_both}
use Rattle.profile.proofs.individuals.pair.Goals as goal

pub returns-in-Err-clause-read : goal.returns-in-Err-clause-read
returns-in-Err-clause-read c = pair_property_refused (iri_of (tree_of c.args.first.now)) (iri_of (tree_of c.args.second.now)) (iri_of (tree_of c.args.third.now)) c.args.builder.now c.property.new.builder c.in-Err.fault c.in-Err.ensures.read

pub returns-in-Err-individual-clause-read : goal.returns-in-Err-individual-clause-read
returns-in-Err-individual-clause-read c =
    pair_source_refused (iri_of (tree_of c.args.first.now)) (iri_of (tree_of c.args.second.now)) (iri_of (tree_of c.args.third.now)) c.args.builder.now c.property.new.builder c.individual.new.builder c.in-Ok.property.0 c.in-Ok.ensures.read c.in-Err-individual.fault c.in-Err-individual.ensures.read

pub returns-in-Err-individual-2-clause-read : goal.returns-in-Err-individual-2-clause-read
returns-in-Err-individual-2-clause-read c =
    pair_target_refused (iri_of (tree_of c.args.first.now)) (iri_of (tree_of c.args.second.now)) (iri_of (tree_of c.args.third.now)) c.args.builder.now c.property.new.builder c.individual.new.builder c.individual-2.new.builder c.in-Ok.property.0 c.in-Ok-individual.source.0 c.in-Ok.ensures.read c.in-Ok-individual.ensures.read c.in-Err-individual-2.fault c.in-Err-individual-2.ensures.read

pub returns-clause-read : goal.returns-clause-read
returns-clause-read c =
    pair_read (iri_of (tree_of c.args.first.now)) (iri_of (tree_of c.args.second.now)) (iri_of (tree_of c.args.third.now)) c.args.builder.now c.property.new.builder c.individual.new.builder c.individual-2.new.builder c.in-Ok.property.0 c.in-Ok-individual.source.0 c.in-Ok-individual-2.target.0 c.in-Ok.ensures.read c.in-Ok-individual.ensures.read c.in-Ok-individual-2.ensures.read

pub returns-in-Err-individual-clause-kept : goal.returns-in-Err-individual-clause-kept
returns-in-Err-individual-clause-kept c = extends_both c.args.builder.now c.property.new.builder c.individual.new.builder c.in-Ok.ensures.kept c.in-Err-individual.ensures.kept

pub returns-in-Err-individual-2-clause-kept : goal.returns-in-Err-individual-2-clause-kept
returns-in-Err-individual-2-clause-kept c = extends_both c.args.builder.now c.individual.new.builder c.individual-2.new.builder (extends_both c.args.builder.now c.property.new.builder c.individual.new.builder c.in-Ok.ensures.kept c.in-Ok-individual.ensures.kept) c.in-Err-individual-2.ensures.kept

pub returns-clause-kept : goal.returns-clause-kept
returns-clause-kept c = extends_both c.args.builder.now c.individual.new.builder c.individual-2.new.builder (extends_both c.args.builder.now c.property.new.builder c.individual.new.builder c.in-Ok.ensures.kept c.in-Ok-individual.ensures.kept) c.in-Ok-individual-2.ensures.kept
