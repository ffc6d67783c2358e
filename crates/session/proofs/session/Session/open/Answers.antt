use Rattle.std.proofs.Common.{◌≡◌, ◌+◌, ◌≤◌, length, arith}
use Rattle.profile.proofs.Readings.{opened_read}
use Rattle.profile.specs.Documents.{IsTaken}
use Rattle.profile.specs.Faults.{OpensKnown, ReadsKnown}
use Rattle.profile.specs.declared.opened.Opened.{Opened}
use Rattle.std.specs.Io.KnownBytes.{IsAtEnd}
use Rattle.session.proofs.SessionOpened.{of_read, for_memory, not_io, not_too_large, on_ok}
use Rattle.session.proofs.session.Session.open.Goals as goal

pub returns-in-Ok-clause-read : goal.returns-in-Ok-clause-read
returns-in-Ok-clause-read g c =
    let left = g.S.Source.left c.args.source.now in
    let most = c.args.limits.now.max_bytes in
    let version = c.args.limits.now.version in
    let P : Opened → Type 0 = λ d. ReadsKnown version left most d.ontology in
    of_read P c.in-Ok.opened c.begun.result (opened_read version left most c.in-Ok.opened c.in-Ok.ensures.read) c.begun.ensures.read

pub returns-in-Ok-clause-taken : goal.returns-in-Ok-clause-taken
returns-in-Ok-clause-taken g c =
    let P : Opened → Type 0 = λ d. IsTaken d.ontology in
    of_read P c.in-Ok.opened c.begun.result c.in-Ok.ensures.taken c.begun.ensures.read

pub returns-in-Ok-clause-axioms : goal.returns-in-Ok-clause-axioms
returns-in-Ok-clause-axioms g c =
    let P : Opened → Type 0 = λ d. length d.ontology.axioms ≤ c.args.limits.now.max_bytes in
    of_read P c.in-Ok.opened c.begun.result (omega (arith, c.in-Ok.ensures.axioms, c.in-Ok.ensures.within)) c.begun.ensures.read

pub returns-in-Ok-clause-opened : goal.returns-in-Ok-clause-opened
returns-in-Ok-clause-opened g c =
    let P : Opened → Type 0 = OpensKnown c.args.limits.now.version (g.S.Source.left c.args.source.now) c.args.limits.now.max_bytes in
    of_read P c.in-Ok.opened c.begun.result c.in-Ok.ensures.read c.begun.ensures.read

pub returns-in-Ok-clause-bytes : goal.returns-in-Ok-clause-bytes
returns-in-Ok-clause-bytes g c =
    let P : Opened → Type 0 = λ d. g.S.Source.most c.read_opened.new.source + d.bytes ≡ g.S.Source.most c.args.source.now in
    of_read P c.in-Ok.opened c.begun.result c.in-Ok.ensures.bytes c.begun.ensures.read

pub returns-in-Ok-clause-version : goal.returns-in-Ok-clause-version
returns-in-Ok-clause-version g c =
    let P : Opened → Type 0 = λ d. d.version ≡ c.args.limits.now.version in
    of_read P c.in-Ok.opened c.begun.result c.in-Ok.ensures.version c.begun.ensures.read

pub returns-in-Ok-clause-refused : goal.returns-in-Ok-clause-refused
returns-in-Ok-clause-refused g c = for_memory _ _ _ c.begun.result c.begun.ensures.memory

pub returns-in-Ok-clause-end : goal.returns-in-Ok-clause-end
returns-in-Ok-clause-end g c = on_ok c.begun.result (IsAtEnd (g.S.Source.left c.read_opened.new.source)) c.in-Ok.ensures.end

pub returns-in-Ok-clause-failed : goal.returns-in-Ok-clause-failed
returns-in-Ok-clause-failed g c = λ told. absurd (not_io c.begun.result c.begun.ensures.memory told)

pub returns-in-Ok-clause-beyond : goal.returns-in-Ok-clause-beyond
returns-in-Ok-clause-beyond g c = λ told. absurd (not_too_large c.begun.result c.begun.ensures.memory told)
