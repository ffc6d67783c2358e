use Rattle.std.proofs.Common.{◌≡◌, ◌∙◌, ap}
use Rattle.std.specs.Prelude.{codes}
use Rattle.receiving.proofs.Reasons.{named_printed, reason_printed}
use Rattle.telling.specs.Devices.{Device}
use Rattle.receiving.specs.Messages.{name_at}
use Rattle.receiving.proofs.printing.print_reason.Goals as goal

pub returns-in-BadText : goal.returns-in-BadText
returns-in-BadText g c =
    let old : Device = (g.O.Sink.taken c.args.out.now, g.O.Sink.failures c.args.out.now) in
    let new : Device = (g.O.Sink.taken c.print_numbered.new.out, g.O.Sink.failures c.print_numbered.new.out) in
    reason_printed c.args.ontology.now c.args.reason.now _ old new c.print_numbered.result c.in-BadText.is c.print_numbered.ensures

pub returns-in-BadLine : goal.returns-in-BadLine
returns-in-BadLine g c =
    let old : Device = (g.O.Sink.taken c.args.out.now, g.O.Sink.failures c.args.out.now) in
    let new : Device = (g.O.Sink.taken c.print_numbered-in-BadLine.new.out, g.O.Sink.failures c.print_numbered-in-BadLine.new.out) in
    reason_printed c.args.ontology.now c.args.reason.now _ old new c.print_numbered-in-BadLine.result c.in-BadLine.is c.print_numbered-in-BadLine.ensures

pub returns-in-AxiomFails : goal.returns-in-AxiomFails
returns-in-AxiomFails g c =
    let old : Device = (g.O.Sink.taken c.args.out.now, g.O.Sink.failures c.args.out.now) in
    let new : Device = (g.O.Sink.taken c.print_numbered-in-AxiomFails.new.out, g.O.Sink.failures c.print_numbered-in-AxiomFails.new.out) in
    reason_printed c.args.ontology.now c.args.reason.now _ old new c.print_numbered-in-AxiomFails.result c.in-AxiomFails.is c.print_numbered-in-AxiomFails.ensures

pub returns-in-ClaimMissing : goal.returns-in-ClaimMissing
returns-in-ClaimMissing g c =
    let old : Device = (g.O.Sink.taken c.args.out.now, g.O.Sink.failures c.args.out.now) in
    let new : Device = (g.O.Sink.taken c.print_named.new.out, g.O.Sink.failures c.print_named.new.out) in
    let names = c.args.ontology.now.names.classes in
    let same : c.name_of.result.now ≡ name_at names c.in-ClaimMissing.class.0 = c.name_of.ensures ∙ ap (λ ns. name_at ns c.index.result) c.classes.ensures.names ∙ ap (name_at names) c.index.ensures in
    reason_printed c.args.ontology.now c.args.reason.now _ old new c.print_named.result c.in-ClaimMissing.is (named_printed (codes "C4 <") _ _ old new c.print_named.result same c.print_named.ensures)

pub returns-in-ClaimDisagrees : goal.returns-in-ClaimDisagrees
returns-in-ClaimDisagrees g c =
    let old : Device = (g.O.Sink.taken c.args.out.now, g.O.Sink.failures c.args.out.now) in
    let new : Device = (g.O.Sink.taken c.print_named-in-ClaimDisagrees.new.out, g.O.Sink.failures c.print_named-in-ClaimDisagrees.new.out) in
    let names = c.args.ontology.now.names.classes in
    let same : c.name_of-in-ClaimDisagrees.result.now ≡ name_at names c.in-ClaimDisagrees.class.0 = c.name_of-in-ClaimDisagrees.ensures ∙ ap (λ ns. name_at ns c.index-in-ClaimDisagrees.result) c.classes-in-ClaimDisagrees.ensures.names ∙ ap (name_at names) c.index-in-ClaimDisagrees.ensures in
    reason_printed c.args.ontology.now c.args.reason.now _ old new c.print_named-in-ClaimDisagrees.result c.in-ClaimDisagrees.is (named_printed (codes "C5 <") _ _ old new c.print_named-in-ClaimDisagrees.result same c.print_named-in-ClaimDisagrees.ensures)

pub returns-in-IndividualDisagrees : goal.returns-in-IndividualDisagrees
returns-in-IndividualDisagrees g c =
    let old : Device = (g.O.Sink.taken c.args.out.now, g.O.Sink.failures c.args.out.now) in
    let new : Device = (g.O.Sink.taken c.print_named-in-IndividualDisagrees.new.out, g.O.Sink.failures c.print_named-in-IndividualDisagrees.new.out) in
    let names = c.args.ontology.now.names.individuals in
    let same : c.name_of-in-IndividualDisagrees.result.now ≡ name_at names c.in-IndividualDisagrees.individual.0 = c.name_of-in-IndividualDisagrees.ensures ∙ ap (λ ns. name_at ns c.index-in-IndividualDisagrees.result) c.individuals.ensures.names ∙ ap (name_at names) c.index-in-IndividualDisagrees.ensures in
    reason_printed c.args.ontology.now c.args.reason.now _ old new c.print_named-in-IndividualDisagrees.result c.in-IndividualDisagrees.is (named_printed (codes "C6 <") _ _ old new c.print_named-in-IndividualDisagrees.result same c.print_named-in-IndividualDisagrees.ensures)

pub returns-in-NoContradiction : goal.returns-in-NoContradiction
returns-in-NoContradiction g c =
    let old : Device = (g.O.Sink.taken c.args.out.now, g.O.Sink.failures c.args.out.now) in
    let new : Device = (g.O.Sink.taken c.print.new.sink, g.O.Sink.failures c.print.new.sink) in
    reason_printed c.args.ontology.now c.args.reason.now _ old new c.print.result c.in-NoContradiction.is c.print.ensures

pub returns-in-TaxonomyDiffers : goal.returns-in-TaxonomyDiffers
returns-in-TaxonomyDiffers g c =
    let old : Device = (g.O.Sink.taken c.args.out.now, g.O.Sink.failures c.args.out.now) in
    let new : Device = (g.O.Sink.taken c.print_numbered-in-TaxonomyDiffers.new.out, g.O.Sink.failures c.print_numbered-in-TaxonomyDiffers.new.out) in
    reason_printed c.args.ontology.now c.args.reason.now _ old new c.print_numbered-in-TaxonomyDiffers.result c.in-TaxonomyDiffers.is c.print_numbered-in-TaxonomyDiffers.ensures

pub returns-in-InstancesDiffer : goal.returns-in-InstancesDiffer
returns-in-InstancesDiffer g c =
    let old : Device = (g.O.Sink.taken c.args.out.now, g.O.Sink.failures c.args.out.now) in
    let new : Device = (g.O.Sink.taken c.print_numbered-in-InstancesDiffer.new.out, g.O.Sink.failures c.print_numbered-in-InstancesDiffer.new.out) in
    reason_printed c.args.ontology.now c.args.reason.now _ old new c.print_numbered-in-InstancesDiffer.result c.in-InstancesDiffer.is c.print_numbered-in-InstancesDiffer.ensures
