-- What a session says of a text of axioms.
use Rattle.std.proofs.Common.{◌≡◌, ◌↔◌, ◌++◌, Bool, true, ℕ, List, Result, Ok, Err, IfOk, OnOk}
use Rattle.axioms.specs.Axiom.{Axiom}
use Rattle.axioms.specs.Ontology.{Ontology, axiom_trees}
use Rattle.engine.specs.Saturations.{IsFinished}
use Rattle.entailment.specs.Entailment.{Entails}
use Rattle.entailment.specs.Testers.{IsWithinLimit}
use Rattle.profile.specs.AddedTexts.{IsAddedText}
use Rattle.session.specs.Additions.{IsWithin}
use Rattle.session.specs.Entailments.{IsEntailment}
use Rattle.session.specs.Sessions.{Opened}
use Rattle.session.specs.declared.entails_fault.EntailsFault.{EntailsFault}

module _ (s : Opened) (text : List ℕ) (new : Ontology) (finished : IsFinished s.saturation) (within : IsWithin s text) (is : IsAddedText s.version s.prefixes text s.ontology new) where
  pub entailment : (r : Result Bool EntailsFault) → OnOk r (new.names ≡ s.ontology.names)
      → IfOk r (λ b. (others : List Axiom) → axiom_trees new ≡ axiom_trees s.ontology ++ others → (b ≡ true) ↔ Entails (axiom_trees s.ontology) others) → (most : ℕ) → OnOk r (IsWithinLimit s.ontology new most) → IfOk r (IsEntailment s text most)
  entailment (Ok b) known exact most few = record {
    finished = finished;
    within = within;
    stated = _;
    states = record { new = new; text_is = is; known = known; axioms = is.added.adds.grows.axioms_grow };
    exact = exact _ is.added.adds.grows.axioms_grow;
    few = few;
  }
  entailment (Err fault) known exact most few = tt
