use Rattle.fs_parser.specs.View.{iri_of}
use Rattle.profile.proofs.Named.{property_answer, property_refused}
use Rattle.profile.proofs.names.property.Goals as goal

pub returns-in-Property-clause-read : goal.returns-in-Property-clause-read
returns-in-Property-clause-read c =
    property_answer c.args.builder.now c.declare.new.self (iri_of c.args.iri.now) c.well_formed-2.ensures c.in-Ok.name c.in-Property.property c.in-Property.is c.in-Ok.ensures.room c.in-Ok.ensures.ok

pub returns-in-Err-clause-read : goal.returns-in-Err-clause-read
returns-in-Err-clause-read c =
    property_refused c.args.builder.now c.declare.new.self (iri_of c.args.iri.now) c.well_formed-2.ensures c.in-Err.fault c.in-Err.ensures.full
