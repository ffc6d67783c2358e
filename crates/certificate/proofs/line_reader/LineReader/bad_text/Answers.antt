use Rattle.std.proofs.Common.{ℕ, sym, ap, subst}
use Rattle.axioms.specs.Growth.{IsBounded}
use Rattle.certificate.specs.SourceReading.{Reading, GivesNoText}
use Rattle.certificate.proofs.Progress.{no_text}
use Rattle.certificate.proofs.line_reader.LineReader.bad_text.Goals as goal

pub returns : goal.returns
returns c start now part h cannot incomplete =
    let r = c.args.self.now in
    let b : IsBounded r.ontology = subst (λ (v : Reading). IsBounded v.ontology) c.self.view_is c.bounded.ensures in
    subst (λ (at : ℕ). GivesNoText r.ontology start now at) (ap (λ (v : Reading). v.at) (sym c.self.view_is)) (no_text start part r now b h cannot incomplete)
