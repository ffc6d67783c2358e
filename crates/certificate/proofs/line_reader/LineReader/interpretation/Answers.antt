use Rattle.std.proofs.Common.{length, ap, sym, ◌∙◌}
use Rattle.std.proofs.lemmas.Result.{err_from_is_err_and}
use Rattle.certificate.specs.SourceReading.{Reading}
use Rattle.certificate.specs.View.{listing_of}
use Rattle.certificate.proofs.ReaderSteps.{listed_read, rows_stop, rows_finished, last_row_stops, individuals_stop}
use Rattle.certificate.proofs.line_reader.LineReader.interpretation.Goals as goal

pub returns-in_err-rows-clause-fault : goal.returns-in_err-rows-clause-fault
returns-in_err-rows-clause-fault g c =
    let p = err_from_is_err_and c.from_residual-in_err-rows.result c.from_residual-in_err-rows.ensures.1 in
    rw (p.1, p.2) (rows_stop _ _ _ c.args.self.now c.domain.new.self c.in_ok-domain.domain (listing_of c.without_rows-listed.result) c.in_err-rows.field-0.0
    c.in_ok-domain.ensures.domain c.without_rows-listed.ensures c.in_err-rows.ensures.fault)

pub returns-then-len-individuals-clause-fault : goal.returns-then-len-individuals-clause-fault
returns-then-len-individuals-clause-fault g c =
    let l = listing_of c.rows.new.listed in
    let listed = listed_read _ _ _ c.args.self.now c.domain.new.self c.rows.new.self c.in_ok-domain.domain (listing_of c.without_rows-listed.result) l c.in_ok-domain.ensures.domain
    c.without_rows-listed.ensures c.in_ok-rows.ensures.rows in
    let count = c.len.ensures ∙ c.rows.new.listed.rows.individuals.ok.0 in
    let names = c.individuals.ensures.count ∙ ap (λ (r : Reading). length r.ontology.names.individuals) c.self.view_is in
    individuals_stop _ _ c.args.self.now c.rows.new.self l c.bad_text.result listed
    c.in_ok-rows.ensures.none (λ e. c.if-len-individuals.true (count ∙ e ∙ sym names)) c.bad_text.ensures

pub returns-in_err-last-clause-fault : goal.returns-in_err-last-clause-fault
returns-in_err-last-clause-fault g c =
    let p = err_from_is_err_and c.from_residual-in_err-last.result c.from_residual-in_err-last.ensures.1 in
    let l = listing_of c.rows.new.listed in
    let listed = listed_read _ _ _ c.args.self.now c.domain.new.self c.rows.new.self c.in_ok-domain.domain (listing_of c.without_rows-listed.result) l c.in_ok-domain.ensures.domain
    c.without_rows-listed.ensures c.in_ok-rows.ensures.rows in
    let count = c.len.ensures ∙ c.rows.new.listed.rows.individuals.ok.0 in
    let names = c.individuals.ensures.count ∙ ap (λ (r : Reading). length r.ontology.names.individuals) c.self.view_is in
    rw (p.1, p.2) (last_row_stops _ _ _ c.args.self.now c.rows.new.self l c.in_err-last.field-0.0 listed
    c.in_ok-rows.ensures.none (sym count ∙ c.if-len-individuals.false ∙ names) c.in_err-last.ensures.fault)

pub returns-clause-listed : goal.returns-clause-listed
returns-clause-listed g c =
    let l = listing_of c.rows.new.listed in
    let listed = listed_read _ _ _ c.args.self.now c.domain.new.self c.rows.new.self c.in_ok-domain.domain (listing_of c.without_rows-listed.result) l c.in_ok-domain.ensures.domain
    c.without_rows-listed.ensures c.in_ok-rows.ensures.rows in
    let count = c.len.ensures ∙ c.rows.new.listed.rows.individuals.ok.0 in
    let names = c.individuals.ensures.count ∙ ap (λ (r : Reading). length r.ontology.names.individuals) c.self.view_is in
    rows_finished _ _ _ c.args.self.now c.rows.new.self l listed
    c.in_ok-rows.ensures.none (sym count ∙ c.if-len-individuals.false ∙ names) c.in_ok-last.ensures.last
