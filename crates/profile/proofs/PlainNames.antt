-- Names of trees without faults may be those of what they name.
use Rattle.std.proofs.Common.{◌≡◌, ℕ, Bool, true, false, not, List, [], ◌∷◌, refl, sym, ◌∙◌}
use Rattle.std.proofs.lemmas.Bool.{false≢true}
use Rattle.axioms.specs.Expression.{Iri}
use Rattle.fs_parser.specs.Tree.{Tree, Name}
use Rattle.program.specs.declared.version.Version.{Version}
use Rattle.shapes.specs.Faults.{ReservedName, faults}
use Rattle.shapes.specs.Names.{is_allowed, is_class_name, is_reserved, may_be_name}
use Rattle.shapes.specs.declared.expected.Expected.{Expected}
use Rattle.shapes.specs.declared.expected.Expected.TheVariants.{Class as ClassName, Individual, Property}
use Rattle.profile.specs.Statements.{iri_of}
use Rattle.profile.proofs.NameTrees.{IsName, class_named, individual_name, property_name}

pub not_none : {A : Type 0} (x : A) (xs : List A) → x ∷ xs ≡ [] → ⊥
not_none x xs h = cc

pub unreserved : (iri : Iri) → not (is_reserved iri) ≡ true → is_reserved iri ≡ false
unreserved iri h = go (is_reserved iri) h
  where
    go : (b : Bool) → not b ≡ true → b ≡ false
    go true h = absurd (false≢true h)
    go false h = refl

module _ (version : Version) where
  pub allowed : (expected : Expected) → may_be_name expected ≡ true → (at : ℕ) (iri : Iri) → faults version expected (Name at iri) ≡ [] → is_allowed expected iri ≡ true
  allowed expected may at iri h = go (is_allowed expected iri) refl
    where
      go : (b : Bool) → is_allowed expected iri ≡ b → is_allowed expected iri ≡ true
      go true e = e
      go false e = let is : faults version expected (Name at iri) ≡ ReservedName at ∷ [] = rw (may, e) refl in absurd (not_none (ReservedName at) [] (sym is ∙ h))

  plain_name : (expected : Expected) → may_be_name expected ≡ true → ((iri : Iri) → is_allowed expected iri ≡ true → is_reserved iri ≡ false) → (t : Tree) → IsName t →
      faults version expected t ≡ [] → is_reserved (iri_of t) ≡ false
  plain_name expected may free (Name at iri) n h = free iri (allowed expected may at iri h)
  plain_name expected may free _ n h = absurd n

  pub property_plain : (t : Tree) → faults version Property t ≡ [] → is_reserved (iri_of t) ≡ false
  property_plain t h = plain_name Property refl unreserved t (property_name version t h) h

  pub individual_plain : (t : Tree) → faults version Individual t ≡ [] → is_reserved (iri_of t) ≡ false
  individual_plain t h = plain_name Individual refl unreserved t (individual_name version t h) h

  -- where a class is to be named
  pub class_name_sound : (t : Tree) → faults version ClassName t ≡ [] → is_class_name (iri_of t) ≡ true
  class_name_sound t h = go t (class_named version t h) h
    where
      go : (t : Tree) → IsName t → faults version ClassName t ≡ [] → is_class_name (iri_of t) ≡ true
      go (Name at iri) n h = allowed ClassName refl at iri h
      go _ n h = absurd n
