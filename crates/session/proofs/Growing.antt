-- What an ontology keeps that a text is added to.
use Rattle.std.proofs.Common.{◌≡◌, ℕ, List, ap, sym, subst}
use Rattle.axioms.proofs.Fronts.{front_is}
use Rattle.axioms.specs.Fronts.{front_of, lengths_of}
use Rattle.axioms.specs.Ontology.{Ontology}
use Rattle.axioms.specs.WellFormedness.{IsOntology}
use Rattle.axioms.specs.declared.lengths.Lengths.{Lengths}
use Rattle.engine.specs.Saturations.{Continues, IsSound, Saturating}
use Rattle.fs_parser.specs.Name.{Prefixes}
use Rattle.profile.proofs.Extending.{extends_of}
use Rattle.profile.proofs.Trees.{keeps_append}
use Rattle.profile.specs.AddedTexts.{IsAddedText}
use Rattle.program.specs.declared.version.Version.{Version}

module _ (version : Version) (prefixes : Prefixes) (text : List ℕ) (old new : Ontology) (is : IsAddedText version prefixes text old new) (lengths : Lengths) (long : lengths ≡ lengths_of old) (whole : IsOntology old) where
  -- names, expressions and axioms keep their numbers
  pub grown_from : (s : Saturating) → IsSound old s → Continues s lengths new
  grown_from s sound =
      let kept = is.added.kept in
      let more = is.added.adds.grows in
      let nodes = keeps_append old.nodes new.nodes kept.nodes.0 kept.nodes.1 in
      record {
        old = old;
        whole = whole;
        sound = sound;
        grows = record { nodes = nodes; axioms = keeps_append old.axioms new.axioms kept.axioms.0 kept.axioms.1; new_from = ap (λ (l : Lengths). l.axioms) long };
        names = record {
          nodes = nodes;
          names = record {
            classes = keeps_append old.names.classes new.names.classes more.classes_grow.rest more.classes_grow.keeps;
            individuals = keeps_append old.names.individuals new.names.individuals more.individuals_grow.rest more.individuals_grow.keeps;
          };
          new_classes = ap (λ (l : Lengths). l.classes) long;
          new_individuals = ap (λ (l : Lengths). l.individuals) long;
        };
      }

  -- and it is the old ontology again where it is taken back
  pub back : front_of lengths new ≡ old
  back = subst (λ (l : Lengths). front_of l new ≡ old) (sym long) (front_is old new (extends_of _ _ _ _ old new is.added.adds))

  pub back_whole : IsOntology (front_of lengths new)
  back_whole = subst IsOntology (sym back) whole
