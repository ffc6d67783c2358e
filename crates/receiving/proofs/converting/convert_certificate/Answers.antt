use Rattle.std.proofs.Common.{ℕ, Err, sym, subst}
use Rattle.std.specs.Global.{Vec}
use Rattle.receiving.proofs.Converted.{unread_source, untaken}
use Rattle.receiving.specs.Conversions.{IsConversionAnswer, IsUntaken}
use Rattle.receiving.specs.declared.fault.ConversionFault.{ConversionFault}
use Rattle.telling.specs.Devices.{Device, FailsIn, Takes}
use Rattle.source_lines.specs.Sources.{SourceState, source_state}
use Rattle.receiving.proofs.converting.convert_certificate.Goals as goal

pub returns-in-Err-bytes_of-clause-answered : goal.returns-in-Err-bytes_of-clause-answered
returns-in-Err-bytes_of-clause-answered g c =
    let limits = c.args.limits.now in
    let format = c.args.format in
    let document = g.D.Source.left c.args.document.now in
    let certificate = g.C.Source.left c.args.certificate.now in
    let sink : Device = (g.S.Sink.taken c.args.converted.now, g.S.Sink.failures c.args.converted.now) in
    let old : SourceState = source_state g.C.Source c.args.certificate.now in
    let new : SourceState = source_state g.C.Source c.bytes_of.new.source in
    let P : ConversionFault → Type 0 = λ fault. IsConversionAnswer {X = Unit {0}} limits.version limits.max_bytes format document certificate (Takes sink sink) (FailsIn sink sink) (IsUntaken sink sink) (Err fault) in
    subst P (sym c.conversion_fault.ensures)
    (unread_source (Unit {0}) (Vec ℕ) limits.version limits.max_bytes format document certificate (Takes sink sink) (FailsIn sink sink) (IsUntaken sink sink) c.in-Ok.ontology 2 old new c.in-Err-bytes_of.fault c.in-Ok.ensures.read c.well_formed-2.ensures c.in-Err-bytes_of.ensures.read (untaken sink))
