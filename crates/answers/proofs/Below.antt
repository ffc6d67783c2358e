-- What lies below what: an order of classes, up to those that are the same.
use Rattle.std.proofs.Common.{◌∙◌, sym}
use Rattle.axioms.specs.Expression.{Iri, owl_nothing}
use Rattle.axioms.specs.Ontology.{Ontology}
use Rattle.answers.specs.Entailment.{LiesBelow}
use Rattle.answers.specs.Neighbours.{AreSame, LiesStrictlyBelow}
use Rattle.std.proofs.lemmas.Bool.{false≢true}

module _ (o : Ontology) where
  pub below_itself : (c : Iri) → LiesBelow o c c
  below_itself c = λ i m x low is. is

  pub below_all : (c d e : Iri) → LiesBelow o c d → LiesBelow o d e → LiesBelow o c e
  below_all c d e h k = λ i m x low is. k i m x low (h i m x low is)

  pub same_itself : (c : Iri) → AreSame o c c
  same_itself c = (below_itself c, below_itself c)

  pub same_back : (c d : Iri) → AreSame o c d → AreSame o d c
  same_back c d (h, k) = (k, h)

  pub same_all : (c d e : Iri) → AreSame o c d → AreSame o d e → AreSame o c e
  same_all c d e h k = (below_all c d e h.0 k.0, below_all e d c k.1 h.1)

  pub strictly_same_left : (c c' d : Iri) → AreSame o c c' → LiesStrictlyBelow o c d → LiesStrictlyBelow o c' d
  strictly_same_left c c' d same (h, k) = (below_all c' c d same.1 h, λ up. k (below_all d c' c up same.1))

  pub strictly_same_right : (c d d' : Iri) → AreSame o d d' → LiesStrictlyBelow o c d → LiesStrictlyBelow o c d'
  strictly_same_right c d d' same (h, k) = (below_all c d d' h same.0, λ up. k (below_all d d' c same.0 up))

  -- owl:Nothing lies below all
  pub nothing_below : (c : Iri) → LiesBelow o owl_nothing c
  nothing_below c = λ i m x low is. absurd (false≢true (sym (m.interpretation.nothing x low) ∙ is))
