-- The texts of a session and of a classification, and what their closures list.
use Rattle.std.proofs.Common.{◌≡◌, [], subst}
use Rattle.axioms.specs.Ontology.{Ontology}
use Rattle.cert_check.proofs.Determined.{accepted_once}
use Rattle.cert_check.specs.Acceptance.{IsAcceptable}
use Rattle.exactness.proofs.Listed.{determined}
use Rattle.exactness.specs.ListedInterpretation.{IsListedInterpretation}
use Rattle.telling.proofs.OneOntology.{one_ontology}
use Rattle.session.specs.Edits.{ListedIsThatOfOneDocument, TextsAreThoseOfOneDocument}

pub same_texts : TextsAreThoseOfOneDocument
same_texts s summary texts document version classifying format other_format most_bytes most_facts other others whole made reads classified =
    let same : classified.ontology ≡ s.ontology = one_ontology classifying version document classified.ontology s.ontology classified.reads.0 reads in
    let P : Ontology → Type 0 = λ o. IsAcceptable o others.taxonomy others.instances others.certificate in
    accepted_once s.ontology whole.taken.well_formed others.taxonomy others.instances others.certificate texts.taxonomy texts.instances texts.certificate
    (subst P same classified.acceptable) made.acceptable

pub same_listed : ListedIsThatOfOneDocument
same_listed s document version other_version o xs ys i j whole reads others consistent listed other =
    let same : o ≡ s.ontology = one_ontology other_version version document o s.ontology others reads in
    determined s.ontology [] xs ys i j whole.taken.well_formed consistent listed (subst (λ p. IsListedInterpretation p [] ys j) same other)
