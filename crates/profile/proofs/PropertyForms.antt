-- Trees that are properties.
use Rattle.std.proofs.Common.{◌≡◌, ℕ, zero, suc, ◌+◌, ◌<◌, ◌≤◌, List, [], ◌∷◌, ◌++◌, length, map, take, drop, get_or, Some, Err, refl, sym, ap, ◌∙◌, subst, arith}
use Rattle.std.proofs.lemmas.List.{map-append, take_all}
use Rattle.std.proofs.lemmas.Option.{slice_get-get_or}
use Rattle.lemmas.proofs.Places.{take_push}
use Rattle.axioms.specs.Expression.{Iri}
use Rattle.axioms.specs.Ontology.{Ontology}
use Rattle.axioms.specs.View.{prop_numbers}
use Rattle.axioms.specs.WellFormedness.{IsOntology}
use Rattle.axioms.specs.declared.fault.BuildFault.{BuildFault}
use Rattle.axioms.specs.declared.fault.BuildFault.TheVariants.{TooManyNames, Memory}
use Rattle.axioms.specs.declared.ids.PropId.{PropId}
use Rattle.fs_parser.specs.Tree.{Tree, Name, PlainLiteral, TaggedLiteral, TypedLiteral, Anonymous, Number, Group, Form}
use Rattle.fs_parser.specs.View.{tree_of, trees_of}
use Rattle.fs_parser.specs.declared.tree.Tree as code
use Rattle.profile.specs.Additions.{PropertiesRead, PropertyRead, ReadsProperties, ReadsProperty}
use Rattle.shapes.proofs.Stating.{IsNoForm}
use Rattle.profile.specs.ClassTrees.{IsChain}
use Rattle.profile.specs.Statements.{chain_of, iri_of, iris_of}
use Rattle.profile.proofs.ClassReading.{numbers_kept, numbers_push}
use Rattle.profile.proofs.Overflowing.{overflow_more, overflow_later}
use Rattle.profile.proofs.Steps.{adds_join, adds_nothing, keeps_of}

abbrev pub tree_name : code.Tree → Iri
tree_name t = iri_of (tree_of t)

pub iris_are : (ts : List code.Tree) → iris_of (trees_of ts) ≡ map tree_name ts
iris_are [] = refl
iris_are (t ∷ ts) = ap (λ rs. tree_name t ∷ rs) (iris_are ts)

pub no_property : (o : Ontology) → IsOntology o → (ps : List PropId) → ps ≡ [] → ReadsProperties [] o o (prop_numbers ps)
no_property o whole ps is = let P : List PropId → Type 0 = λ xs. ReadsProperties [] o o (prop_numbers xs) in subst P (sym is) (record { adds = adds_nothing o whole; at = refl })

one_more : (rs : List Iri) (r : Iri) (o p q : Ontology) (ns : List ℕ) (n : ℕ) → ReadsProperties rs o p ns → ReadsProperty r p q n → ReadsProperties (rs ++ r ∷ []) o q (ns ++ n ∷ [])
one_more rs r o p q ns n read more =
    let keeps = keeps_of [] (r ∷ []) [] [] p q more.0 in
    record {
      adds = adds_join [] [] rs (r ∷ []) [] [] [] [] o p q read.adds more.0;
      at = numbers_push q.names.properties ns rs n r (numbers_kept p.names.properties q.names.properties keeps.kept_properties ns rs read.at) more.1;
    }

pub one_name_more : (ts : List code.Tree) (n : ℕ) (t : code.Tree) → n < length ts → t ≡ get_or ts n t → map tree_name (take (n + 1) ts) ≡ map tree_name (take n ts) ++ tree_name t ∷ []
one_name_more ts n t within item = ap (map tree_name) (take_push ts n t (slice_get-get_or ts n t within ∙ ap Some (sym item))) ∙ map-append tree_name (take n ts) (t ∷ [])

pub property_pushed : (ts : List code.Tree) (n : ℕ) (t : code.Tree) (o p q : Ontology) (ps : List PropId) (r : PropId) (qs : List PropId) → qs ≡ ps ++ r ∷ [] → ReadsProperties (map tree_name (take n ts)) o p (prop_numbers ps) → n < length ts → t ≡ get_or ts n t → ReadsProperty (tree_name t) p q r.0 →
    ReadsProperties (map tree_name (take (n + 1) ts)) o q (prop_numbers qs)
property_pushed ts n t o p q ps r qs is read within item more =
    let P : List ℕ → Type 0 = λ ns. ReadsProperties (map tree_name (take (n + 1) ts)) o q ns in
    let Q : List Iri → Type 0 = λ rs. ReadsProperties rs o q (prop_numbers ps ++ r.0 ∷ []) in
    subst P (sym (ap prop_numbers is ∙ map-append (λ (x : PropId). x.0) ps (r ∷ []))) (subst Q (sym (one_name_more ts n t within item)) (one_more (map tree_name (take n ts)) (tree_name t) o p q (prop_numbers ps) r.0 read more))

pub all_properties : (ts : List code.Tree) (n : ℕ) (o p : Ontology) (ns : List ℕ) → ReadsProperties (map tree_name (take n ts)) o p ns → length ts ≤ n → ReadsProperties (iris_of (trees_of ts)) o p ns
all_properties ts n o p ns read all =
    let P : List Iri → Type 0 = λ rs. ReadsProperties rs o p ns in
    subst P (ap (map tree_name) (take_all n ts all) ∙ sym (iris_are ts)) read

pub split_at : (ts : List code.Tree) (n : ℕ) (t : code.Tree) → n < length ts → t ≡ get_or ts n t → map tree_name ts ≡ map tree_name (take n ts) ++ (tree_name t ∷ map tree_name (drop (suc n) ts))
split_at [] n t within is = absurd (omega arith)
split_at (u ∷ ts) zero t within is = ap (λ x. tree_name x ∷ map tree_name ts) (sym is)
split_at (u ∷ ts) (suc n) t within is = ap (λ xs. tree_name u ∷ xs) (split_at ts n t (omega arith) is)

pub property_refused : (ts : List code.Tree) (n : ℕ) (t : code.Tree) (o p q : Ontology) (ns : List ℕ) → ReadsProperties (map tree_name (take n ts)) o p ns → n < length ts → t ≡ get_or ts n t → (fault : BuildFault) → PropertyRead (Err fault) (tree_name t) p q → PropertiesRead (Err fault) (iris_of (trees_of ts)) o q
property_refused ts n t o p q ns read within is TooManyNames h =
    let P : List Iri → Type 0 = λ rs. PropertiesRead (Err TooManyNames) rs o q in
    let rest = map tree_name (drop (suc n) ts) in
    subst P (sym (iris_are ts ∙ split_at ts n t within is))
    (overflow_later [] [] (map tree_name (take n ts)) (tree_name t ∷ rest) [] [] [] o p read.adds (overflow_more [] [] (tree_name t ∷ []) rest [] [] p h))
property_refused ts n t o p q ns read within is Memory h = tt

-- ---- chains

pub one_property_read : (r : Iri) (o p : Ontology) (n : PropId) → ReadsProperty r o p n.0 → (es fs : List PropId) → es ≡ [] → fs ≡ es ++ n ∷ [] → ReadsProperties (r ∷ []) o p (prop_numbers fs)
one_property_read r o p n read es fs none is =
    let P : List PropId → Type 0 = λ xs. ReadsProperties (r ∷ []) o p (prop_numbers xs) in
    subst P (sym (is ∙ ap (λ xs. xs ++ n ∷ []) none)) (record { adds = read.0; at = ap (λ x. x ∷ []) read.1 })

pub one_property_refused : (r : Iri) (o p : Ontology) (fault : BuildFault) → PropertyRead (Err fault) r o p → PropertiesRead (Err fault) (r ∷ []) o p
one_property_refused r o p TooManyNames h = h
one_property_refused r o p Memory h = tt

-- what is no form is a chain of itself, where it is one
pub one_chain : (t : Tree) → IsNoForm t → IsChain t → chain_of t ≡ iri_of t ∷ []
one_chain (Name at iri) other h = refl
one_chain (Form at keyword trees) other h = absurd other
one_chain (PlainLiteral at text) other h = absurd (omega arith)
one_chain (TaggedLiteral at text tag) other h = absurd (omega arith)
one_chain (TypedLiteral at text type) other h = absurd (omega arith)
one_chain (Anonymous at label) other h = absurd (omega arith)
one_chain (Number at digits) other h = absurd (omega arith)
one_chain (Group at trees) other h = absurd (omega arith)
