use Rattle.std.proofs.Common.{◌≡◌, ◌+◌, ap, ◌∙◌, arith}
use Rattle.std.proofs.lemmas.Result.{err_from_is_err_and}
use Rattle.certificate.specs.SourceReading.{Reading}
use Rattle.certificate.specs.View.{line_of}
use Rattle.certificate.proofs.ReaderSteps.{next_read, next_counted, next_stops, line_derived}
use Rattle.certificate.proofs.line_reader.LineReader.next.Goals as goal

pub returns-in_err-let_go-in-Some-line-clause-fault : goal.returns-in_err-let_go-in-Some-line-clause-fault
returns-in_err-let_go-in-Some-line-clause-fault g c =
    let count : c.in-Some.number ≡ c.self.inside.count + 1 = omega (arith, c.in-Some.ensures) in
    let number = count ∙ ap (λ (r : Reading). r.count + 1) c.self.view_is in
    let p = err_from_is_err_and c.from_residual-in_err-let_go-in-Some-line.result c.from_residual-in_err-let_go-in-Some-line.ensures.1 in
    let derived = line_derived _ c.args.self.now c.in-Some.number c.line.result.now c.in-Some-line.line c.in_ok-line.line c.self.view_is number c.line.ensures c.in-Some-line.is c.in_ok-line.ensures in
    rw (p.1, p.2) (next_stops _ _ c.args.self.now (line_of c.in-Some-line.line) c.in_err-let_go-in-Some-line.field-0.0 c.in_err-let_go-in-Some-line.ensures.bounded derived
    c.in_err-let_go-in-Some-line.ensures.fault)

pub returns-in_ok-let_go-in-Some-line-clause-next : goal.returns-in_ok-let_go-in-Some-line-clause-next
returns-in_ok-let_go-in-Some-line-clause-next g c =
    let count : c.in-Some.number ≡ c.self.inside.count + 1 = omega (arith, c.in-Some.ensures) in
    let number = count ∙ ap (λ (r : Reading). r.count + 1) c.self.view_is in
    let derived = line_derived _ c.args.self.now c.in-Some.number c.line.result.now c.in-Some-line.line c.in_ok-line.line c.self.view_is number c.line.ensures c.in-Some-line.is c.in_ok-line.ensures in
    let i = c.self-in-Some-line.inside in
    let seen : Reading
    = record { ontology = i.ontology.now; most_premises = i.most_premises; format = i.format; is_consistent = i.is_consistent; count = i.count; at = i.at; hand = i.lines } in
    next_counted _ _ c.args.self.now seen c.let_go.new.self c.in-Some.number (line_of c.in-Some-line.line) c.self-in-Some-line.view_is number
    (next_read _ _ c.args.self.now c.let_go.new.self (line_of c.in-Some-line.line) derived c.in_ok-let_go-in-Some-line.ensures.ok)
