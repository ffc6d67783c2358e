use Rattle.std.proofs.Common.{◌<◌, sym, subst}
use Rattle.std.proofs.lemmas.Result.{IfOk-weaker}
use Rattle.interpretation_spec.specs.NamedInterpretation.{interpretation_of}
use Rattle.interpretation_spec.proofs.Names.{stands_well, size_of}
use Rattle.generated_part.proofs.generating.generated.Goals as goal

pub generated_of-requires : goal.generated_of-requires
generated_of-requires c =
    let names = c.args.ontology.now.names in
    let n = c.args.interpretation.now in
    record {
      rows = (interpretation_of names n, stands_well c.args.ontology.now c.well_formed-2.ensures n c.well_formed-3.ensures, c.in_ok-rows.ensures, subst (λ k. c.args.from < k) (sym (size_of names n)) c.requires.there);
    }

pub returns-clause-generated : goal.returns-clause-generated
returns-clause-generated c =
    let n = c.args.interpretation.now in
    IfOk-weaker c.generated_of.result _ _
    (λ part h. h (interpretation_of c.args.ontology.now.names n) (stands_well c.args.ontology.now c.well_formed-2.ensures n c.well_formed-3.ensures) c.in_ok-rows.ensures)
    c.generated_of.ensures.generated
