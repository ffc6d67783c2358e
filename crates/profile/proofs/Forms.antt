-- The code's trees as those of the definitions.
use Rattle.std.proofs.Common.{◌≡◌, ℕ, zero, suc, ◌+◌, ◌<◌, ◌≤◌, List, [], ◌∷◌, ◌++◌, length, map, take, drop, get_or, Some, Err, refl, sym, ap, ◌∙◌, subst, subst₂, arith}
use Rattle.std.specs.List.{flat_map}
use Rattle.std.proofs.lemmas.List.{map-append, take_all}
use Rattle.std.proofs.lemmas.Option.{slice_get-get_or}
use Rattle.lemmas.proofs.Places.{take_push}
use Rattle.axioms.specs.Expression.{ClassExpression, Named, SomeValues}
use Rattle.axioms.specs.Ontology.{Ontology, Exists, intersection, trees, tree_of as node_tree}
use Rattle.axioms.specs.View.{expr_numbers}
use Rattle.axioms.specs.WellFormedness.{IsNodeOf, IsOntology}
use Rattle.axioms.specs.declared.fault.BuildFault.{BuildFault}
use Rattle.axioms.specs.declared.fault.BuildFault.TheVariants.{TooManyNames, Memory}
use Rattle.axioms.specs.declared.ids.ExprId.{ExprId}
use Rattle.axioms.specs.Numbering.{parts, properties_in}
use Rattle.fs_parser.specs.Tree.{Tree, Form}
use Rattle.fs_parser.specs.View.{tree_of, trees_of}
use Rattle.fs_parser.specs.declared.tree.Tree as code
use Rattle.shapes.proofs.Stating.{IsNoForm}
use Rattle.profile.specs.Additions.{ClassRead, ClassesRead, HasAdded, Overflows, PropertyRead, ReadsClass, ReadsClasses, ReadsProperty}
use Rattle.profile.specs.ClassTrees.{IsClassTree, AreClassTrees, AreSomeTrees}
use Rattle.profile.specs.Statements.{class_of, classes_of, iri_of, some_values}
use Rattle.profile.proofs.ClassReading.{no_classes, one_more, one_overflows, and_overflow, property_overflow, filler_overflow, some_parts, some_read, some_fits}

abbrev pub tree_class : code.Tree → ClassExpression
tree_class t = class_of (tree_of t)

pub classes_are : (ts : List code.Tree) → classes_of (trees_of ts) ≡ map tree_class ts
classes_are [] = refl
classes_are (t ∷ ts) = ap (λ cs. tree_class t ∷ cs) (classes_are ts)

-- a tree at a place is a class expression where all are
pub class_at : (ts : List code.Tree) (n : ℕ) (t : code.Tree) → AreClassTrees (trees_of ts) → n < length ts → t ≡ get_or ts n t → IsClassTree (tree_of t)
class_at [] n t all within is = absurd (omega arith)
class_at (u ∷ ts) zero t all within is = let P : code.Tree → Type 0 = λ x. IsClassTree (tree_of x) in subst P (sym is) all.0
class_at (u ∷ ts) (suc n) t all within is = class_at ts n t all.1 (omega arith) is

-- ---- a property and a class expression

pub two_trees : (ts : List code.Tree) → AreSomeTrees (trees_of ts) → length ts ≡ 2
two_trees [] h = absurd h
two_trees (t ∷ []) h = absurd h
two_trees (t ∷ u ∷ []) h = refl
two_trees (t ∷ u ∷ v ∷ ts) h = absurd h

pub record IsSomeOf (ts : List code.Tree) (t u : code.Tree) : Type 0 where
  pub filler : IsClassTree (tree_of u)
  pub class : some_values (trees_of ts) (classes_of (trees_of ts)) ≡ SomeValues (iri_of (tree_of t)) (tree_class u)

pub some_of : (ts : List code.Tree) (t u : code.Tree) → AreSomeTrees (trees_of ts) → t ≡ get_or ts 0 t → u ≡ get_or ts 1 u → IsSomeOf ts t u
some_of [] t u h first second = absurd h
some_of (a ∷ []) t u h first second = absurd h
some_of (a ∷ b ∷ []) t u h first second =
    let P : code.Tree → code.Tree → Type 0 = IsSomeOf (a ∷ b ∷ []) in
    subst₂ P (sym first) (sym second) (record { filler = h; class = refl })
some_of (a ∷ b ∷ c ∷ ts) t u h first second = absurd h

module _ (ts : List code.Tree) (t u : code.Tree) (is : IsSomeOf ts t u) (o p q : Ontology) where
  abbrev some_class : ClassExpression
  some_class = some_values (trees_of ts) (classes_of (trees_of ts))

  pub some_property_refused : (fault : BuildFault) → PropertyRead (Err fault) (iri_of (tree_of t)) o p → ClassRead (Err fault) some_class o p
  some_property_refused TooManyNames h = let P : ClassExpression → Type 0 = λ c. ClassRead (Err TooManyNames) c o p in subst P (sym is.class) (property_overflow (iri_of (tree_of t)) (tree_class u) o h)
  some_property_refused Memory h = tt

  pub some_filler_refused : (n : ℕ) → ReadsProperty (iri_of (tree_of t)) o p n → (fault : BuildFault) → ClassRead (Err fault) (tree_class u) p q → ClassRead (Err fault) some_class o q
  some_filler_refused n property TooManyNames h = let P : ClassExpression → Type 0 = λ c. ClassRead (Err TooManyNames) c o q in subst P (sym is.class) (filler_overflow (iri_of (tree_of t)) (tree_class u) o p n property h)
  some_filler_refused n property Memory h = tt

  pub some_values_read : (s : Ontology) (n e f : ℕ) → ReadsProperty (iri_of (tree_of t)) o p n → ReadsClass (tree_class u) p q e → HasAdded q s f (node_tree q.names (trees q) (Exists n e)) → ReadsClass some_class o s f
  some_values_read s n e f property class added =
      let r = iri_of (tree_of t) in
      let P : ClassExpression → Type 0 = λ c. ReadsClass c o s f in
      subst P (sym is.class) (some_read r (tree_class u) o p q s n e f (some_parts r (tree_class u) o p q n e property class) added)

  pub some_values_fits : (n e : ℕ) → ReadsProperty (iri_of (tree_of t)) o p n → ReadsClass (tree_class u) p q e → IsNodeOf q (length q.nodes) (Exists n e)
  some_values_fits n e property class =
      let r = iri_of (tree_of t) in
      some_fits r (tree_class u) o p q n e (some_parts r (tree_class u) o p q n e property class)

-- ---- names

-- what is no form is the class of its name
pub class_named : (t : Tree) → IsNoForm t → Named (iri_of t) ≡ class_of t
class_named (Form at keyword trees) other = absurd other
class_named _ other = refl

-- ---- intersections

pub and_refused : (cs : List ClassExpression) (o p : Ontology) → 2 ≤ length cs → (fault : BuildFault) → ClassesRead (Err fault) cs o p → ClassRead (Err fault) (intersection cs) o p
and_refused cs o p many TooManyNames h = and_overflow cs o many h
and_refused cs o p many Memory h = tt

-- ---- trees so far

pub read_none : (o : Ontology) → IsOntology o → (es : List ExprId) → es ≡ [] → ReadsClasses [] o o (expr_numbers es)
read_none o whole es is = let P : List ExprId → Type 0 = λ xs. ReadsClasses [] o o (expr_numbers xs) in subst P (sym is) (no_classes o whole)

pub read_all : (ts : List code.Tree) (n : ℕ) (o p : Ontology) (ns : List ℕ) → ReadsClasses (map tree_class (take n ts)) o p ns → length ts ≤ n → ReadsClasses (classes_of (trees_of ts)) o p ns
read_all ts n o p ns read all =
    let P : List ClassExpression → Type 0 = λ cs. ReadsClasses cs o p ns in
    subst P (ap (map tree_class) (take_all n ts all) ∙ sym (classes_are ts)) read

pub read_more : (ts : List code.Tree) (n : ℕ) (t : code.Tree) (o p q : Ontology) (ns : List ℕ) (e : ℕ) → ReadsClasses (map tree_class (take n ts)) o p ns → n < length ts → t ≡ get_or ts n t → ReadsClass (tree_class t) p q e →
    ReadsClasses (map tree_class (take (n + 1) ts)) o q (ns ++ e ∷ [])
read_more ts n t o p q ns e read within is more =
    let P : List ClassExpression → Type 0 = λ cs. ReadsClasses cs o q (ns ++ e ∷ []) in
    let pushed : map tree_class (take (n + 1) ts) ≡ map tree_class (take n ts) ++ tree_class t ∷ [] =
    ap (map tree_class) (take_push ts n t (slice_get-get_or ts n t within ∙ ap Some (sym is))) ∙ map-append tree_class (take n ts) (t ∷ []) in
    subst P (sym pushed) (one_more (map tree_class (take n ts)) (tree_class t) o p q ns e read more)

pub read_pushed : (ts : List code.Tree) (n : ℕ) (t : code.Tree) (o p q : Ontology) (es : List ExprId) (e : ExprId) (fs : List ExprId) → fs ≡ es ++ e ∷ [] → ReadsClasses (map tree_class (take n ts)) o p (expr_numbers es) → n < length ts → t ≡ get_or ts n t → ReadsClass (tree_class t) p q e.0 →
    ReadsClasses (map tree_class (take (n + 1) ts)) o q (expr_numbers fs)
read_pushed ts n t o p q es e fs is read within item more =
    let P : List ℕ → Type 0 = λ ns. ReadsClasses (map tree_class (take (n + 1) ts)) o q ns in
    subst P (sym (ap expr_numbers is ∙ map-append (λ (x : ExprId). x.0) es (e ∷ []))) (read_more ts n t o p q (expr_numbers es) e.0 read within item more)

split_at : (ts : List code.Tree) (n : ℕ) (t : code.Tree) → n < length ts → t ≡ get_or ts n t → map tree_class ts ≡ map tree_class (take n ts) ++ (tree_class t ∷ map tree_class (drop (suc n) ts))
split_at [] n t within is = absurd (omega arith)
split_at (u ∷ ts) zero t within is = ap (λ x. tree_class x ∷ map tree_class ts) (sym is)
split_at (u ∷ ts) (suc n) t within is = ap (λ xs. tree_class u ∷ xs) (split_at ts n t (omega arith) is)

-- too many names of one are too many of all
pub read_overflows : (ts : List code.Tree) (n : ℕ) (t : code.Tree) (o p : Ontology) (ns : List ℕ) → ReadsClasses (map tree_class (take n ts)) o p ns → n < length ts → t ≡ get_or ts n t → Overflows (parts (tree_class t)) (properties_in (tree_class t)) [] p →
    Overflows (flat_map parts (classes_of (trees_of ts))) (flat_map properties_in (classes_of (trees_of ts))) [] o
read_overflows ts n t o p ns read within is many =
    let P : List ClassExpression → Type 0 = λ cs. Overflows (flat_map parts cs) (flat_map properties_in cs) [] o in
    subst P (sym (classes_are ts ∙ split_at ts n t within is)) (one_overflows (map tree_class (take n ts)) (tree_class t) (map tree_class (drop (suc n) ts)) o p ns read many)

pub read_refused : (ts : List code.Tree) (n : ℕ) (t : code.Tree) (o p q : Ontology) (ns : List ℕ) → ReadsClasses (map tree_class (take n ts)) o p ns → n < length ts → t ≡ get_or ts n t → (fault : BuildFault) → ClassRead (Err fault) (tree_class t) p q → ClassesRead (Err fault) (classes_of (trees_of ts)) o q
read_refused ts n t o p q ns read within is TooManyNames h = read_overflows ts n t o p ns read within is h
read_refused ts n t o p q ns read within is Memory h = tt
