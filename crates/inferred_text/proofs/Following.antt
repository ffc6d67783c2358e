-- Relations that are what follows from the axioms of an ontology: they are closed, and in each model it is as they say.
use Rattle.std.proofs.Common.{◌≡◌, ℕ, ◌<◌, Bool, true, not, ◌&&◌, length}
use Rattle.std.proofs.lemmas.Bool.{and_parts}
use Rattle.std.proofs.lemmas.Option.{slice_get_within}
use Rattle.axioms.specs.Expression.{owl_nothing, owl_thing}
use Rattle.axioms.specs.Ontology.{Names, Ontology, axiom_trees, name_at}
use Rattle.axioms.specs.WellFormedness.{IsOntology}
use Rattle.interpretation_spec.specs.Interpretation.{Interpretation, IsModel, IsWithin}
use Rattle.taxonomy.specs.Following.{AreWhatFollows, class_at}
use Rattle.taxonomy.specs.Superclasses.{is_among}
use Rattle.taxonomy.specs.Texts.{group, groups, in_byte_order, is_same, is_strictly_above, nothing_class, some_below}
use Rattle.inferred_text.proofs.Alike.{AreAlike, within_itself, within_through}
use Rattle.inferred_text.proofs.Among.{filtered_from}
use Rattle.inferred_text.proofs.Closed.{AreClosed}
use Rattle.inferred_text.proofs.Orders.{low_in_order, of_among}
use Rattle.inferred_text.proofs.Distinct.{groups_within}
use Rattle.inferred_text.proofs.Names.{name_is}
use Rattle.inferred_text.proofs.Told.{IsTold}

module _ (o : Ontology) (w : IsOntology o) (r belongs : ℕ → ℕ → Bool) (follows : AreWhatFollows o r belongs) where
  abbrev names : Names
  names = o.names

  abbrev n : ℕ
  n = length o.names.classes

  -- the relations are closed
  pub closed : AreClosed o.names r belongs
  closed = record {
    two = slice_get_within o.names.classes 1 owl_nothing w.nothing_name;
    thing = name_is o.names.classes 0 owl_thing w.thing_name;
    nothing = name_is o.names.classes 1 owl_nothing w.nothing_name;
    reflexive = λ c l. (follows.below c c l l).1 (λ i m. within_itself i (class_at names c));
    transitive = λ c d e lc ld le f g.
        (follows.below c e lc le).1 (λ i m. within_through i (class_at names c) (class_at names d) (class_at names e)
        ((follows.below c d lc ld).0 f i m) ((follows.below d e ld le).0 g i m));
    upward = λ a c d la lc ld b f.
        (follows.members a d la ld).1 (λ i m.
        (follows.below c d lc ld).0 f i m (i.individual (name_at names.individuals a)) (m.interpretation.individuals (name_at names.individuals a)) ((follows.members a c la lc).0 b i m));
  }

  module _ (i : Interpretation) (m : IsModel i (axiom_trees o)) where
    within : (c d : ℕ) → c < n → d < n → r c d ≡ true → IsWithin i (class_at names c) (class_at names d)
    within c d lc ld e = (follows.below c d lc ld).0 e i m

    low : (g c : ℕ) → is_among (group r (in_byte_order names.classes) g) c ≡ true → (c < n) × (r g c ≡ true) × (r c g ≡ true)
    low g c e =
        let v = filtered_from (is_same r g) (in_byte_order names.classes) c e in
        let parts = and_parts (r g c) (r c g) v.1 in
        (low_in_order names.classes c v.0, parts.0, parts.1)

    -- the classes of a group are the same
    grouped : (g : ℕ) → g < n → AreAlike i names (group r (in_byte_order names.classes) g)
    grouped g l c d e f =
        let u = low g c e in
        let v = low g d f in (
          within c d u.0 v.0 (closed.transitive c g d u.0 l v.0 u.2 v.1),
          within d c v.0 u.0 (closed.transitive d g c v.0 l u.0 v.2 u.1),
        )

    leading_low : (g : ℕ) → is_among (groups r (in_byte_order names.classes)) g ≡ true → g < n
    leading_low g e = of_among (λ k. k < n) (groups r (in_byte_order names.classes)) (groups_within r names.classes) g e

    -- in a model it is as the axioms say that were found
    pub told_in_model : IsTold i names r belongs
    told_in_model = record {
      alike = λ g e b. grouped g (leading_low g e);
      above = λ g h eg b eh d t.
          let strict = (and_parts (is_strictly_above r g h) (not (some_below n (λ k. is_strictly_above r g k && is_strictly_above r k h))) d).0 in
          within g h (leading_low g eg) (leading_low h eh) (and_parts (r g h) (not (r h g)) strict).0;
      bottom = grouped nothing_class closed.two;
      types = λ a g la e least t.
          (follows.members a g la (leading_low g e)).0 (and_parts (belongs a g) (not (some_below n (λ k. belongs a k && is_strictly_above r k g))) least).0 i m;
    }
