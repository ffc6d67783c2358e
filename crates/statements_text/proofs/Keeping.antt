-- Trees that are kept: without faults, and with something that they state.
use Rattle.std.proofs.Common.{◌≡◌, ◌∙◌, ◌&&◌, ℕ, suc, Bool, true, false, not, List, [], ◌∷◌, ◌++◌, Option, None, Some, codes, length, map, refl, sym, ap, subst, if◌then◌else◌, bytes_eq, inl, inr}
use Rattle.std.specs.Option.{is_some}
use Rattle.std.proofs.lemmas.Slice.Eq.{bytes_eq-Decides}
use Rattle.axioms.specs.Numbering.{Statement}
use Rattle.fs_parser.specs.Tree.{Tree, Trees, Form, Empty, Then}
use Rattle.fs_parser.specs.View.{trees_from}
use Rattle.profile.specs.Statements.{statement_of, statements}
use Rattle.program.specs.declared.version.Version.{Version}
use Rattle.program.specs.declared.version.Version.TheVariants.{One, Two}
use Rattle.shapes.specs.Faults.{Fault, behind_annotations, count_of, document_faults, each_faults, faults, is_annotation, is_name}
use Rattle.shapes.specs.Places.{faults_at}
use Rattle.shapes.specs.Shapes.{Says, fits_count, form_of, row}
use Rattle.shapes.specs.TreeStatements.{Stated, axiom_by, entity_by, entity_in, meaning, said, stated_by, statement_in}
use Rattle.shapes.specs.declared.expected.Expected.TheVariants.{Axiom, Entity}
use Rattle.shapes.specs.declared.form.Form as shapes
use Rattle.shapes.specs.declared.form.Form.TheVariants as forms
use Rattle.shapes.specs.declared.place.Place.{Place}
use Rattle.shapes.specs.declared.place.Place.TheVariants.{Front, Axioms}
use Rattle.fs_parser.specs.Document.{Document}
use Rattle.profile.specs.Documents.{AreTextOf}
use Rattle.statements_text.specs.Sound.{AllSayable, IsSayable}
use Rattle.statements_text.specs.Terms.{Term, statement_term, statement_terms}
use Rattle.statements_text.specs.TreeTerms.{IsAmong, bare_term}
use Rattle.statements_text.proofs.Sayable.{trees_said}
use Rattle.statements_text.proofs.StatedSaid.{stated_said}
use Rattle.statements_text.specs.Restrictions.{has_none, is_kept, kept_statements, kept_trees}

-- ---- conditions

pub none_is : {A : Type 0} (xs : List A) → has_none xs ≡ true → xs ≡ []
none_is [] h = refl
none_is (x ∷ xs) h = absurd (let bad : false ≡ true = h in cc)

both_true : (a b : Bool) → (a && b) ≡ true → (a ≡ true) × (b ≡ true)
both_true true b h = (refl, h)
both_true false b h = absurd (let bad : false ≡ true = h in cc)

turned : (b : Bool) → not b ≡ true → b ≡ false
turned true h = absurd (let bad : false ≡ true = h in cc)
turned false h = refl

and_none : (b : Bool) → (b && false) ≡ false
and_none true = refl
and_none false = refl

-- ---- what a tree states

-- it says something where it states anything
abbrev pub Tells : Option Stated → Type 0
Tells o = is_some o ≡ not (has_none (meaning o))

form_tells : (f : shapes.Form) (ts : Trees) → Tells (stated_by f ts)
form_tells f ts = go (row f).2 (fits_count (row f).1 (count_of ts)) refl
  where
    go : (r : Says) (b : Bool) → (row f).2 ≡ r → Tells (if is_some r && b then Some (f, ts) else None)
    go None b e = refl
    go (Some says) true e = rw e refl
    go (Some says) false e = refl

entity_tells : (version : Version) (t : Tree) → Tells (entity_in version t)
entity_tells version (Form at k ts) = go (form_of version Entity k)
  where
    go : (o : Option shapes.Form) → Tells (entity_by o ts)
    go None = refl
    go (Some f) = form_tells f ts
entity_tells version _ = refl

axiom_tells : (version : Version) (f : shapes.Form) (ts : Trees) → Tells (axiom_by version (Some f) ts)
axiom_tells version forms.Declaration Empty = form_tells forms.Declaration Empty
axiom_tells version forms.Declaration (Then t Empty) = entity_tells version t
axiom_tells version forms.Declaration (Then t (Then u ts)) = form_tells forms.Declaration (Then t (Then u ts))
axiom_tells version f ts = form_tells f ts

pub tree_tells : (version : Version) (t : Tree) → Tells (statement_in version t)
tree_tells version (Form at k ts) = go (form_of version Axiom k)
  where
    go : (o : Option shapes.Form) → Tells (axiom_by version o (behind_annotations ts))
    go None = refl
    go (Some f) = axiom_tells version f (behind_annotations ts)
tree_tells version _ = refl

-- it states one thing at most
one_of : (o : Option Stated) → has_none (meaning o) ≡ false → (s : Statement) × (meaning o ≡ s ∷ [])
one_of None h = absurd (let bad : true ≡ false = h in cc)
one_of (Some x) h = go (row x.0).2 h
  where
    go : (r : Says) → has_none (said r x.1) ≡ false → (s : Statement) × (said r x.1 ≡ s ∷ [])
    go None h = absurd (let bad : true ≡ false = h in cc)
    go (Some says) h = (says x.1, refl)

no_annotation : (version : Version) (ts : Trees) → has_none (meaning (axiom_by version (form_of version Axiom (codes "Annotation")) ts)) ≡ true
no_annotation One ts = refl
no_annotation Two ts = refl

-- what states something is no name and no annotation
pub plain_tree : (version : Version) (t : Tree) → has_none (statement_of version t) ≡ false → (is_name t ≡ false) × (is_annotation t ≡ false)
plain_tree version (Form at k ts) h = (refl, go (bytes_eq k (codes "Annotation")) refl)
  where
    go : (b : Bool) → bytes_eq k (codes "Annotation") ≡ b → b ≡ false
    go false e = refl
    go true e =
        let same : k ≡ codes "Annotation" = (bytes_eq-Decides k (codes "Annotation")).0 e in
        let none : has_none (statement_of version (Form at k ts)) ≡ true =
        subst (λ (w : List ℕ). has_none (meaning (axiom_by version (form_of version Axiom w) (behind_annotations ts))) ≡ true) (sym same) (no_annotation version (behind_annotations ts)) in
        absurd (let bad : true ≡ false = sym none ∙ h in cc)
plain_tree version _ h = absurd (let bad : true ≡ false = h in cc)

-- ---- trees that are kept

pub record IsSound (version : Version) (t : Tree) : Type 0 where
  pub faultless : faults version Axiom t ≡ []
  pub statement : Statement
  pub stated : statement_of version t ≡ statement ∷ []

pub kept_is : (version : Version) (t : Tree) → is_kept version t ≡ true → IsSound version t
kept_is version t h =
    let both = both_true (has_none (faults version Axiom t)) (not (has_none (statement_of version t))) h in
    let one = one_of (statement_in version t) (turned (has_none (statement_of version t)) both.1) in
    record { faultless = none_is (faults version Axiom t) both.0; statement = one.0; stated = one.1 }

-- at each place those are kept that have no fault there and state something
pub kept_at : (version : Version) (place : Place) (t : Tree) → (has_none (faults_at version None place t) && not (has_none (statement_of version t))) ≡ is_kept version t
kept_at version place t = go (has_none (statement_of version t)) refl
  where
    at_place : (place : Place) → (is_name t ≡ false) × (is_annotation t ≡ false) → faults_at version None place t ≡ faults version Axiom t
    at_place (Front count) p = rw (p.0, p.1) refl
    at_place Axioms p = refl

    go : (b : Bool) → has_none (statement_of version t) ≡ b → (has_none (faults_at version None place t) && not b) ≡ (has_none (faults version Axiom t) && not b)
    go true e = and_none (has_none (faults_at version None place t)) ∙ sym (and_none (has_none (faults version Axiom t)))
    go false e = ap (λ (fs : List Fault). has_none fs && true) (at_place place (plain_tree version t e))

-- ---- of all kept trees

abbrev pub AllSound : Version → List Tree → Type 0
AllSound version [] = Unit {0}
AllSound version (t ∷ ts) = IsSound version t × AllSound version ts

pub all_sound : (version : Version) (ts : Trees) → AllSound version (kept_trees version ts)
all_sound version Empty = tt
all_sound version (Then t ts) = go (is_kept version t) refl (all_sound version ts)
  where
    go : (b : Bool) → is_kept version t ≡ b → AllSound version (kept_trees version ts) → AllSound version (if b then t ∷ kept_trees version ts else kept_trees version ts)
    go true e more = (kept_is version t e, more)
    go false e more = more

each_faultless : (version : Version) (ts : List Tree) → AllSound version ts → each_faults version None Axiom (trees_from ts) ≡ []
each_faultless version [] h = refl
each_faultless version (t ∷ ts) h = rw (h.0.faultless, each_faultless version ts h.1) refl

some_stated : (version : Version) (t : Tree) → IsSound version t → has_none (statement_of version t) ≡ false
some_stated version t h = ap has_none h.stated

-- they are a document without faults
pub kept_faultless : (version : Version) (ts : List Tree) → AllSound version ts → document_faults version (trees_from ts) ≡ []
kept_faultless version [] h = refl
kept_faultless version (t ∷ ts) h = let p = plain_tree version t (some_stated version t h.0) in rw (p.0, p.1) (each_faultless version (t ∷ ts) h)

-- ---- what they state can be said

abbrev AllOf : (Tree → Type 0) → List Tree → Type 0
AllOf P [] = Unit {0}
AllOf P (t ∷ ts) = P t × AllOf P ts

all_among : (version : Version) (ts : Trees) (P : Tree → Type 0) → ((t : Tree) → IsAmong ts t → P t) → AllOf P (kept_trees version ts)
all_among version Empty P h = tt
all_among version (Then t ts) P h = go (is_kept version t) (all_among version ts P (λ u i. h u (inr i)))
  where
    go : (b : Bool) → AllOf P (kept_trees version ts) → AllOf P (if b then t ∷ kept_trees version ts else kept_trees version ts)
    go true more = (h t (inl refl), more)
    go false more = more

-- of a document's kept trees
module _ (version : Version) (bytes : List ℕ) (d : Document) (text : AreTextOf bytes d) where
  abbrev Said : Tree → Type 0
  Said t = (s : Statement) → faults version Axiom t ≡ [] → statement_of version t ≡ s ∷ [] → IsSayable version s

  all_said : (ts : List Tree) → AllSound version ts → AllOf Said ts → AllSayable version (statements version (trees_from ts))
  all_said [] h k = tt
  all_said (t ∷ ts) h k =
      let more = all_said ts h.1 k.1 in
      let this = k.0 h.0.statement h.0.faultless h.0.stated in
      subst (λ (ss : List Statement). AllSayable version (ss ++ statements version (trees_from ts))) (sym h.0.stated) (this, more)

  pub kept_said : AllSayable version (kept_statements version d.trees)
  kept_said =
      all_said (kept_trees version d.trees) (all_sound version d.trees)
      (all_among version d.trees Said (λ t i s faultless stated. stated_said version bytes d t s text i faultless stated))

-- the terms of kept trees are those of what they state
pub kept_terms : (version : Version) (ts : List Tree) → AllSound version ts → map bare_term ts ≡ statement_terms (statements version (trees_from ts))
kept_terms version [] h = refl
kept_terms version (t ∷ ts) h =
    let term : bare_term t ≡ statement_term h.0.statement = (trees_said version t h.0.statement h.0.faultless h.0.stated).0 in
    rw (h.0.stated, term) (ap (λ (us : List Term). statement_term h.0.statement ∷ us) (kept_terms version ts h.1))

-- each states one thing
pub kept_count : (version : Version) (ts : List Tree) → AllSound version ts → length (statements version (trees_from ts)) ≡ length ts
kept_count version [] h = refl
kept_count version (t ∷ ts) h = ap (λ (ss : List Statement). length (ss ++ statements version (trees_from ts))) h.0.stated ∙ ap suc (kept_count version ts h.1)
