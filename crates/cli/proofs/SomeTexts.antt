-- The texts of a classification are not empty.
use Rattle.std.proofs.Common.{ℕ, List, Option, Some, None, MatchOption}
use Rattle.axioms.specs.Ontology.{Ontology}
use Rattle.cert_check.specs.Acceptance.{IsAcceptable, IsConsistentShown, IsContradictionShown}
use Rattle.certificate.specs.Certificate.{Line, Listed}
use Rattle.cli.proofs.Stored.{AreSome}
use Rattle.receiving.proofs.Stored.{IsSome}
use Rattle.session.specs.WrittenTexts.{Texts}
use Rattle.receiving.proofs.Spelled.{some, spelled}

shown : (o : Ontology) (t i : List ℕ) (lines : List Line) (listed : Option Listed) → MatchOption listed (IsContradictionShown t i lines) (IsConsistentShown o t i lines) → IsSome t × IsSome i
shown o t i lines None h = (some _ t h.taxonomy_is tt, some _ i h.instances_is tt)
shown o t i lines (Some l) h = (some _ t h.taxonomy_is tt, some _ i h.instances_is tt)

pub acceptable_are_some : (o : Ontology) (texts : Texts) → IsAcceptable o texts.taxonomy texts.instances texts.certificate → AreSome texts
acceptable_are_some o texts a =
    let two = shown o texts.taxonomy texts.instances a.certificate.lines a.certificate.listed a.shows in
    record {
      taxonomy_is = two.0;
      instances_is = two.1;
      certificate_is = some _ texts.certificate a.text_is.1.spelled (spelled a.text_is.0 a.certificate);
    }
