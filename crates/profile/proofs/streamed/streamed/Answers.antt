use Rattle.std.proofs.Common.{Result, refl, subst, sym}
use Rattle.axioms.specs.Ontology.{Ontology}
use Rattle.profile.specs.declared.acceptance.Refusal.{Refusal}
use Rattle.profile.specs.declared.fault.DocumentFault.{DocumentFault}
use Rattle.profile.specs.Faults.{Refuses}
use Rattle.profile.specs.Streams.{IsAnswerTo}
use Rattle.profile.proofs.OneByOne.{streamed_opens, streamed_refused, streamed_taken}
use Rattle.profile.proofs.streamed.streamed.Goals as goal

pub returns-in-Ok-2-clause-read : goal.returns-in-Ok-2-clause-read
returns-in-Ok-2-clause-read c =
    let left = c.in_ok-trees.trees in
    let answer = subst (λ (r : Result Ontology Refusal). IsAnswerTo c.args.version left r) c.in-Ok-2.is c.in_ok-ontology.ensures in
    streamed_opens c.args.version c.args.text.now c.utf8.text left c.in_ok-trees.ensures c.in-Ok-2.ontology c.in-Ok.prefixes _ c.in-Ok.ensures refl answer c.well_formed-in-Ok-2.ensures

pub returns-in-Ok-2-clause-taken : goal.returns-in-Ok-2-clause-taken
returns-in-Ok-2-clause-taken c =
    let left = c.in_ok-trees.trees in
    let answer = subst (λ (r : Result Ontology Refusal). IsAnswerTo c.args.version left r) c.in-Ok-2.is c.in_ok-ontology.ensures in
    streamed_taken c.args.version c.args.text.now c.utf8.text left c.in_ok-trees.ensures c.in-Ok-2.ontology answer c.well_formed-in-Ok-2.ensures

pub returns-in-Err-2-clause-refused : goal.returns-in-Err-2-clause-refused
returns-in-Err-2-clause-refused c =
    let text = c.args.text.now in
    let left = c.in_ok-trees.trees in
    let answer = subst (λ (r : Result Ontology Refusal). IsAnswerTo c.args.version left r) c.in-Err-2.is c.in_ok-ontology.ensures in
    subst (λ (e : DocumentFault). Refuses c.args.version e text) (sym c.from.ensures) (streamed_refused c.args.version text c.utf8.text left c.in_ok-trees.ensures c.in-Err-2.refusal answer)
