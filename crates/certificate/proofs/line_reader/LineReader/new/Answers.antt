use Rattle.std.proofs.Common.{ℕ, List, Some, None, false, refl, ap, subst, ◌∙◌}
use Rattle.std.proofs.lemmas.Result.{err_from_is_err_and}
use Rattle.certificate.specs.Certificate.{One}
use Rattle.certificate.specs.LineValues.{IsFirstLine}
use Rattle.certificate.specs.SourceReading.{Reading}
use Rattle.certificate.proofs.Progress.{begins, no_beginning}
use Rattle.certificate.proofs.ReaderSteps.{first_read, first_stops, no_first_stops}
use Rattle.certificate.proofs.line_reader.LineReader.new.Goals as goal

pub returns-in_err-let_go-clause-fault : goal.returns-in_err-let_go-clause-fault
returns-in_err-let_go-clause-fault g c =
    let first : Reading = record { ontology = c.args.ontology.now; most_premises = c.args.most_premises; format = One; is_consistent = false; count = 0; at = 0; hand = c.new.result } in
    let p = err_from_is_err_and c.from_residual.result c.from_residual.ensures.1 in
    rw (p.1, p.2) (no_beginning first _ _ c.in_err-let_go.field-0.0 c.in_err-let_go.ensures.bounded c.new.ensures.line c.new.ensures.ahead c.in_err-let_go.ensures.fault)

pub returns-in_default-clause-fault : goal.returns-in_default-clause-fault
returns-in_default-clause-fault g c =
    let first : Reading = record { ontology = c.args.ontology.now; most_premises = c.args.most_premises; format = One; is_consistent = false; count = 0; at = 0; hand = c.new.result } in
    let begun = begins first c.let_go.new.self _ _ refl c.new.ensures.line c.new.ensures.ahead c.in_ok-let_go.ensures.ok in
    let none = subst (λ (bytes : List ℕ). IsFirstLine bytes None) c.line.ensures c.in_default.ensures in
    no_first_stops _ _ c.let_go.new.self c.args.ontology.now c.bad_text.result c.in_ok-let_go.ensures.ok.ontology begun none c.bad_text.ensures

pub returns-in_err-let_go-2-clause-fault : goal.returns-in_err-let_go-2-clause-fault
returns-in_err-let_go-2-clause-fault g c =
    let first : Reading = record { ontology = c.args.ontology.now; most_premises = c.args.most_premises; format = One; is_consistent = false; count = 0; at = 0; hand = c.new.result } in
    let begun = begins first c.let_go.new.self _ _ refl c.new.ensures.line c.new.ensures.ahead c.in_ok-let_go.ensures.ok in
    let i = c.reader.inside in
    let seen : Reading = record { ontology = i.ontology.now; most_premises = i.most_premises; format = i.format; is_consistent = i.is_consistent; count = i.count; at = i.at; hand = i.lines } in
    let some = subst (λ (bytes : List ℕ). IsFirstLine bytes (Some (c.in-Some.format, c.in-Some.is_consistent))) c.line.ensures c.in-Some.ensures in
    let p = err_from_is_err_and c.from_residual-in_err-let_go-2.result c.from_residual-in_err-let_go-2.ensures.1 in
    rw (p.1, p.2) (first_stops _ _ _ seen c.let_go.new.self c.args.ontology.now c.in-Some.format c.in-Some.is_consistent c.in_err-let_go-2.field-0.0 c.reader.view_is c.in_ok-let_go.ensures.ok.ontology
    c.in_err-let_go-2.ensures.bounded begun some c.in_err-let_go-2.ensures.fault)

pub returns-clause-start : goal.returns-clause-start
returns-clause-start g c =
    let first : Reading = record { ontology = c.args.ontology.now; most_premises = c.args.most_premises; format = One; is_consistent = false; count = 0; at = 0; hand = c.new.result } in
    let begun = begins first c.let_go.new.self _ _ refl c.new.ensures.line c.new.ensures.ahead c.in_ok-let_go.ensures.ok in
    let i = c.reader.inside in
    let seen : Reading = record { ontology = i.ontology.now; most_premises = i.most_premises; format = i.format; is_consistent = i.is_consistent; count = i.count; at = i.at; hand = i.lines } in
    let some = subst (λ (bytes : List ℕ). IsFirstLine bytes (Some (c.in-Some.format, c.in-Some.is_consistent))) c.line.ensures c.in-Some.ensures in
    let went = c.in_ok-let_go-2.ensures.ok in (
      went.ontology ∙ ap (λ (r : Reading). r.ontology) c.reader.view_is ∙ c.in_ok-let_go.ensures.ok.ontology,
      went.most_premises ∙ ap (λ (r : Reading). r.most_premises) c.reader.view_is ∙ c.in_ok-let_go.ensures.ok.most_premises,
      first_read _ _ _ seen c.let_go.new.self c.let_go-2.new.self c.in-Some.format c.in-Some.is_consistent c.reader.view_is c.in_ok-let_go.ensures.ok.count begun some went,
    )
