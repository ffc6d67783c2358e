-- Rows that are read, with what they hold of their elements.
use Rattle.std.proofs.Common.{◌≡◌, ℕ, true, ltb, List, length, codes, Option, Some, refl, sym, ap}
use Rattle.std.proofs.lemmas.Bool.{and_parts}
use Rattle.axioms.specs.Ontology.{Ontology}
use Rattle.certificate.specs.Certificate.{Format, One, Two}
use Rattle.certificate.specs.Held.{held_in, held_class, held_pairs}
use Rattle.certificate.specs.HeldReading.{read_in}
use Rattle.certificate.specs.Reading.{after}
use Rattle.certificate.specs.LineReading.{small_at}
use Rattle.certificate.specs.ListedReading.{element_at, elements_at, class_row_at, fitting_class_at, pair_row_at, fitting_pairs_at}
use Rattle.certificate.specs.Tests.{ascend, are_elements, fits_class, fits_pairs}
use Rattle.certificate.specs.Text.{line_feed}
use Rattle.certificate.proofs.RunReading.{held_ascending}

-- what is read in a format and passes as elements is what the list holds
held_as_read : (format : Format) (d : ℕ) (xs : List ℕ) → are_elements d (read_in format xs) ≡ true → read_in format xs ≡ held_in xs
held_as_read One d xs t = sym (held_ascending d xs (and_parts (ltb 0 (length xs)) (ascend d Option.None xs) t).1)
held_as_read Two d xs t = refl

module _ (o : Ontology) (format : Format) (d : ℕ) (bytes a b r s : List ℕ) (xs : List ℕ) (elements : elements_at format d b ≡ Some (read_in format xs, r)) (end : after line_feed r ≡ Some s) where
  pub class_read : (last : Option ℕ) (class : ℕ) → after (codes "class e") bytes ≡ Some a → small_at a ≡ Some (class, b) → fits_class o d last (class, read_in format xs) ≡ true
      → fitting_class_at o format d last bytes ≡ Some (held_class (class, xs), s)
  unfolding fitting_class_at class_row_at
  class_read last class word number t =
      rw (word, number, elements, end, t) (ap (λ (ys : List ℕ). Some ((class, ys), s)) (held_as_read format d xs (and_parts _ (are_elements d (read_in format xs)) t).1))

module _ (o : Ontology) (format : Format) (d : ℕ) (bytes a b c r s : List ℕ) (xs : List ℕ) (elements : elements_at format d c ≡ Some (read_in format xs, r)) (end : after line_feed r ≡ Some s) where
  pub pairs_read : (last : Option (ℕ × ℕ)) (property source : ℕ) → after (codes "succ p") bytes ≡ Some a → small_at a ≡ Some (property, b) → element_at b ≡ Some (source, c)
      → fits_pairs o d last (property, source, read_in format xs) ≡ true → fitting_pairs_at o format d last bytes ≡ Some (held_pairs (property, source, xs), s)
  unfolding fitting_pairs_at pair_row_at
  pairs_read last property source word number element t =
      rw (word, number, element, elements, end, t) (ap (λ (ys : List ℕ). Some ((property, source, ys), s)) (held_as_read format d xs (and_parts _ (are_elements d (read_in format xs)) t).1))
