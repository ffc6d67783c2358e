-- Names of an ontology are told apart by their numbers.
use Rattle.std.proofs.Common.{◌≡◌, ℕ, ◌<◌, List, [], length, map, slice_get, Some, Contains, true, eqb, sym, ap, ◌∙◌}
use Rattle.std.specs.Option.{unwrap_or}
use Rattle.std.specs.Prelude.{◌↔◌}
use Rattle.std.specs.Str.{bytes_eq}
use Rattle.std.proofs.lemmas.Bool.{eq-eqb, eqb-true}
use Rattle.std.proofs.lemmas.Option.{slice_get_within}
use Rattle.std.proofs.lemmas.Slice.Eq.{bytes_eq-Decides}
use Rattle.lemmas.proofs.Mapped.{slice_get_map, slice_get_map_from}
use Rattle.lemmas.proofs.Members.{Contains-from_slice_get, slice_get-from_Contains}
use Rattle.lemmas.proofs.Places.{slice_get_there}
use Rattle.axioms.specs.Expression.{Iri}
use Rattle.axioms.specs.Ontology.{name_at}
use Rattle.axioms.specs.WellFormedness.{AreDistinct}
use Rattle.taxonomy.specs.Superclasses.{is_among}
use Rattle.taxonomy.proofs.Once.{same_truth}
use Rattle.inferred_text.proofs.Orders.{among_there}
use Rattle.inferred_text.proofs.Places.{at_place, place}

-- the name at a place
pub name_is : (names : List Iri) (n : ℕ) (x : Iri) → slice_get names n ≡ Some x → name_at names n ≡ x
name_is names n x e = ap (λ o. unwrap_or o []) e

pub one_number : (names : List Iri) → AreDistinct names → (m n : ℕ) → m < length names → n < length names → name_at names m ≡ name_at names n → m ≡ n
one_number names distinct m n l k e =
    let (x, gx) = slice_get_there names m l in
    let (y, gy) = slice_get_there names n k in
    let same : x ≡ y = sym (name_is names m x gx) ∙ e ∙ name_is names n y gy in
    distinct m n x gx (gy ∙ ap Some (sym same))

pub told_apart : (names : List Iri) → AreDistinct names → (m n : ℕ) → m < length names → n < length names → bytes_eq (name_at names m) (name_at names n) ≡ eqb n m
told_apart names distinct m n l k =
    let decides = bytes_eq-Decides (name_at names m) (name_at names n) in
    same_truth (bytes_eq (name_at names m) (name_at names n)) (eqb n m)
    (λ t. eq-eqb n m (sym (one_number names distinct m n l k (decides.0 t))))
    (λ t. decides.1 (ap (name_at names) (sym (eqb-true n m t))))

-- the names of all their numbers, in any order, are the same
pub same_names : (names : List Iri) (order : List ℕ) → ((k : ℕ) → k < length names → is_among order k ≡ true) → ((k : ℕ) → is_among order k ≡ true → k < length names) → (name : Iri) → Contains names name ↔ Contains (map (name_at names) order) name
same_names names order all low name = (
  λ c.
      let (n, g) = slice_get-from_Contains names name c in
      let here = at_place order n (all n (slice_get_within names n name g)) in
      Contains-from_slice_get (map (name_at names) order) (place order n) name (slice_get_map (name_at names) order (place order n) n here ∙ ap Some (name_is names n name g)),
  λ c.
      let (m, g) = slice_get-from_Contains (map (name_at names) order) name c in
      let (k, gk, e) = slice_get_map_from (name_at names) order m name g in
      let (x, gx) = slice_get_there names k (low k (among_there order m k gk)) in
      Contains-from_slice_get names k name (gx ∙ ap Some (sym (name_is names k x gx) ∙ e)),
)
