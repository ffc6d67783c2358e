use Rattle.fs_parser.specs.View.{iri_of}
use Rattle.profile.proofs.Named.{individual_answer, individual_refused}
use Rattle.profile.proofs.names.individual.Goals as goal

pub returns-in-Individual-clause-read : goal.returns-in-Individual-clause-read
returns-in-Individual-clause-read c =
    individual_answer c.args.builder.now c.declare.new.self (iri_of c.args.iri.now) c.well_formed-2.ensures c.in-Ok.name c.in-Individual.individual c.in-Individual.is c.in-Ok.ensures.room c.in-Ok.ensures.ok

pub returns-in-Err-clause-read : goal.returns-in-Err-clause-read
returns-in-Err-clause-read c =
    individual_refused c.args.builder.now c.declare.new.self (iri_of c.args.iri.now) c.well_formed-2.ensures c.in-Err.fault c.in-Err.ensures.full
