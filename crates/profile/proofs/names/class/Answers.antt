use Rattle.fs_parser.specs.View.{iri_of}
use Rattle.profile.proofs.Named.{class_answer, class_refused}
use Rattle.profile.proofs.names.class.Goals as goal

pub returns-in-Class-clause-read : goal.returns-in-Class-clause-read
returns-in-Class-clause-read c =
    class_answer c.args.builder.now c.declare.new.self (iri_of c.args.iri.now) c.well_formed-2.ensures c.well_formed-3.ensures c.in-Ok.name c.in-Class.field-0 c.in-Class.expression c.in-Class.is c.in-Ok.ensures.room c.in-Ok.ensures.ok

pub returns-in-Err-clause-read : goal.returns-in-Err-clause-read
returns-in-Err-clause-read c =
    class_refused c.args.builder.now c.declare.new.self (iri_of c.args.iri.now) c.well_formed-2.ensures c.in-Err.fault c.in-Err.ensures.full
