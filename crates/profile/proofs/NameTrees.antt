-- Trees without faults that are names, and lists and chains of them.
use Rattle.std.proofs.Common.{◌≡◌, ℕ, ◌≤◌, Bool, true, false, List, [], Some, None, length, codes, refl, sym, ap, ◌∙◌, arith, bytes_eq}
use Rattle.std.proofs.lemmas.Bool.{ltb-true}
use Rattle.std.proofs.lemmas.Option.{none-some, same_Some}
use Rattle.std.proofs.lemmas.Slice.Eq.{bytes_eq-Decides}
use Rattle.fs_parser.specs.Tree.{Tree, Trees, Name, PlainLiteral, TaggedLiteral, TypedLiteral, Anonymous, Number, Group, Form, Empty, Then}
use Rattle.program.specs.declared.version.Version.{Version}
use Rattle.shapes.specs.Faults.{count_of, faults, faults_in, literal_faults}
use Rattle.shapes.specs.Shapes.{Operands, Many, fits_count, operands_of}
use Rattle.shapes.specs.declared.expected.Expected.{Expected}
use Rattle.shapes.specs.declared.expected.Expected.TheVariants.{Class, Individual, Property, PropertyOrChain}
use Rattle.profile.specs.ClassTrees.{IsChain}
use Rattle.profile.specs.Statements.{iris_of}
use Rattle.profile.proofs.Faultless.{AreOperandsOf, form_operands}

abbrev pub IsName : Tree → Type 0
IsName (Name at iri) = Unit {0}
IsName _ = ⊥

-- as many names as trees
pub count_of_names : (ts : Trees) → length (iris_of ts) ≡ count_of ts
count_of_names Empty = refl
count_of_names (Then t ts) = omega (arith, count_of_names ts)

pub many_trees : (distinct : Bool) (expected : Expected) (ts : Trees) → fits_count (Many distinct expected) (count_of ts) ≡ true → 2 ≤ count_of ts
many_trees distinct expected ts h = ltb-true 1 (count_of ts) h

module _ (version : Version) where
  -- where no form and no literal may stand
  name_only : (expected : Expected) → ((keyword : List ℕ) → operands_of version expected keyword ≡ None) → ((at : ℕ) → literal_faults expected at ≡ [] → ⊥) → (t : Tree) → faults version expected t ≡ [] → IsName t
  name_only expected shapeless literal (Name at iri) h = tt
  name_only expected shapeless literal (PlainLiteral at text) h = absurd (literal at h)
  name_only expected shapeless literal (TaggedLiteral at text tag) h = absurd (literal at h)
  name_only expected shapeless literal (TypedLiteral at text type) h = absurd (literal at h)
  name_only expected shapeless literal (Anonymous at label) h = cc
  name_only expected shapeless literal (Number at digits) h = cc
  name_only expected shapeless literal (Group at trees) h = cc
  name_only expected shapeless literal (Form at keyword trees) h =
      let are = form_operands version expected at keyword trees h in
      absurd (none-some are.operands (sym (shapeless keyword) ∙ are.shape))

  pub property_name : (t : Tree) → faults version Property t ≡ [] → IsName t
  property_name = name_only Property (λ k. refl) (λ at h. cc)

  -- where a class is to be named
  pub class_named : (t : Tree) → faults version Class t ≡ [] → IsName t
  class_named = name_only Class (λ k. refl) (λ at h. cc)

  pub individual_name : (t : Tree) → faults version Individual t ≡ [] → IsName t
  individual_name = name_only Individual (λ k. refl) (λ at h. cc)

  -- ---- chains

  chain_operands : (keyword : List ℕ) (operands : Operands) → operands_of version PropertyOrChain keyword ≡ Some operands → Many false Property ≡ operands
  chain_operands keyword operands h = go (bytes_eq (codes "ObjectPropertyChain") keyword) refl
    where
      go : (b : Bool) → bytes_eq (codes "ObjectPropertyChain") keyword ≡ b → Many false Property ≡ operands
      go true e = let is : operands_of version PropertyOrChain keyword ≡ Some (Many false Property) = rw e refl in same_Some (Many false Property) operands (sym is ∙ h)
      go false e = let is : operands_of version PropertyOrChain keyword ≡ None = rw e refl in absurd (none-some operands (sym is ∙ h))

  -- properties of a chain, of which there are two or more
  chain_names : (keyword : List ℕ) (ts : Trees) → AreOperandsOf version PropertyOrChain keyword ts → 1 ≤ length (iris_of ts)
  chain_names keyword ts are =
      let many = chain_operands keyword are.operands are.shape in
      let count : fits_count (Many false Property) (count_of ts) ≡ true = ap (λ (o : Operands). fits_count o (count_of ts)) many ∙ are.count in
      omega (arith, count_of_names ts, many_trees false Property ts count)

  pub property_chain : (t : Tree) → faults version PropertyOrChain t ≡ [] → IsChain t
  property_chain (Name at iri) h = omega arith
  property_chain (PlainLiteral at text) h = cc
  property_chain (TaggedLiteral at text tag) h = cc
  property_chain (TypedLiteral at text type) h = cc
  property_chain (Anonymous at label) h = cc
  property_chain (Number at digits) h = cc
  property_chain (Group at trees) h = cc
  property_chain (Form at keyword trees) h = chain_names keyword trees (form_operands version PropertyOrChain at keyword trees h)

  -- as a form
  pub record IsChainForm (k : List ℕ) (ts : Trees) : Type 0 where
    pub word : k ≡ codes "ObjectPropertyChain"
    pub many : 2 ≤ length (iris_of ts)
    pub faultless : faults_in version false [] (Many false Property) ts ≡ []

  pub chain_form : (at : ℕ) (k : List ℕ) (ts : Trees) → faults version PropertyOrChain (Form at k ts) ≡ [] → IsChainForm k ts
  chain_form at k ts h = go (bytes_eq (codes "ObjectPropertyChain") k) refl
    where
      are : AreOperandsOf version PropertyOrChain k ts
      are = form_operands version PropertyOrChain at k ts h

      go : (b : Bool) → bytes_eq (codes "ObjectPropertyChain") k ≡ b → IsChainForm k ts
      go true e =
          let is : operands_of version PropertyOrChain k ≡ Some (Many false Property) = rw e refl in
          let same = same_Some (Many false Property) are.operands (sym is ∙ are.shape) in
          let count : fits_count (Many false Property) (count_of ts) ≡ true = ap (λ (o : Operands). fits_count o (count_of ts)) same ∙ are.count in
          record {
            word = sym ((bytes_eq-Decides (codes "ObjectPropertyChain") k).0 e);
            many = omega (arith, count_of_names ts, many_trees false Property ts count);
            faultless = ap (λ (o : Operands). faults_in version false [] o ts) same ∙ are.faultless;
          }
      go false e = let is : operands_of version PropertyOrChain k ≡ None = rw e refl in absurd (none-some are.operands (sym is ∙ are.shape))
