-- The trees of statements state these.
use Rattle.std.proofs.Common.{◌≡◌, ℕ, ◌+◌, ◌≤◌, false, List, [], ◌∷◌, Option, Some, length, refl, ap, ◌∙◌, arith}
use Rattle.std.specs.Prelude.{codes}
use Rattle.std.proofs.lemmas.Bool.{false≢true}
use Rattle.axioms.specs.Axiom.{SubClassOf, EquivalentClasses, DisjointClasses, SubPropertyOf, EquivalentProperties, PropertyDomain, TransitiveProperty, ReflexiveProperty, ClassAssertion, PropertyAssertion, SameIndividuals, DifferentIndividuals, NegativePropertyAssertion}
use Rattle.axioms.specs.Expression.{ClassExpression, Named, Intersection, SomeValues, Iri}
use Rattle.axioms.specs.Numbering.{Statement, DeclaresClass, DeclaresProperty, DeclaresIndividual, States}
use Rattle.fs_parser.specs.Tree.{Tree, Trees, Form, Empty, Then}
use Rattle.profile.specs.Statements.{statement_of, statements}
use Rattle.program.specs.declared.version.Version.{Version}
use Rattle.program.specs.declared.version.Version.TheVariants.{One, Two}
use Rattle.shapes.specs.Faults.{behind_annotations, count_of, is_annotation}
use Rattle.shapes.specs.Shapes.{form_of}
use Rattle.shapes.specs.TreeStatements.{axiom_by, meaning}
use Rattle.shapes.specs.declared.expected.Expected.TheVariants.{Axiom as AnAxiom}
use Rattle.shapes.specs.declared.form.Form as form_type
use Rattle.shapes.specs.declared.form.Form.TheVariants as forms
use Rattle.statements_text.specs.Terms.{Word, IsWritable, AllWritable, term_text, line_text, term_tree, later_trees, lines_trees, words, class_term, class_terms, chain_term, axiom_term, statement_term, statement_terms}
use Rattle.statements_text.proofs.Faultless.{two_fit}
use Rattle.statements_text.proofs.Meant.{class_again, classes_again, iris_again, chain_again}

-- ---- what comes first is no annotation

pub plain_class : (c : ClassExpression) (at : ℕ) → is_annotation (term_tree at (class_term c)) ≡ false
plain_class (Named c) at = refl
plain_class (Intersection os) at = refl
plain_class (SomeValues r c) at = refl

pub plain_chain : (rs : List Iri) (at : ℕ) → is_annotation (term_tree at (chain_term rs)) ≡ false
plain_chain [] at = refl
plain_chain (r ∷ []) at = refl
plain_chain (r ∷ s ∷ rs) at = refl

behind : (first : Tree) (rest : Trees) → is_annotation first ≡ false → behind_annotations (Then first rest) ≡ Then first rest
behind first rest e = rw e refl

by_form : (version : Version) (at : ℕ) (keyword : List ℕ) (first : Tree) (rest : Trees) (form : form_type.Form) → form_of version AnAxiom keyword ≡ Some form → is_annotation first ≡ false →
    statement_of version (Form at keyword (Then first rest)) ≡ meaning (axiom_by version (Some form) (Then first rest))
by_form version at keyword first rest form is plain =
    ap (λ (ts : Trees). meaning (axiom_by version (form_of version AnAxiom keyword) ts)) (behind first rest plain)
    ∙ ap (λ (f : Option form_type.Form). meaning (axiom_by version f (Then first rest))) is

-- ---- each form

sub_class : (version : Version) (c d : ClassExpression) (at : ℕ) → statement_of version (term_tree at (axiom_term (SubClassOf c d))) ≡ States (SubClassOf c d) ∷ []
sub_class version c d at =
    let front = at + 11 in
    let next = front + length (term_text (class_term c)) + 1 in
    let a = class_again c front in
    let b = class_again d next in
    by_form version at (codes "SubClassOf") (term_tree front (class_term c)) (Then (term_tree next (class_term d)) Empty) forms.SubClassOf (is version) (plain_class c front) ∙ rw (a, b) refl
  where
    is : (version : Version) → form_of version AnAxiom (codes "SubClassOf") ≡ Some forms.SubClassOf
    is One = refl
    is Two = refl

equivalent : (version : Version) (cs : List ClassExpression) (at : ℕ) → 2 ≤ length cs → statement_of version (term_tree at (axiom_term (EquivalentClasses cs))) ≡ States (EquivalentClasses cs) ∷ []
equivalent version [] at h = absurd (omega (arith, h))
equivalent version (c ∷ []) at h = absurd (omega (arith, h))
equivalent version (c ∷ d ∷ cs) at h =
    let front = at + 18 in
    let next = front + length (term_text (class_term c)) + 1 in
    let rest = later_trees (next + length (term_text (class_term d))) (class_terms cs) in
    by_form version at (codes "EquivalentClasses") (term_tree front (class_term c)) (Then (term_tree next (class_term d)) rest) forms.EquivalentClasses (is version) (plain_class c front)
    ∙ rw (two_fit (count_of rest)) (ap (λ (es : List ClassExpression). States (EquivalentClasses es) ∷ []) (classes_again (c ∷ d ∷ cs) front))
  where
    is : (version : Version) → form_of version AnAxiom (codes "EquivalentClasses") ≡ Some forms.EquivalentClasses
    is One = refl
    is Two = refl

disjoint : (version : Version) (cs : List ClassExpression) (at : ℕ) → 2 ≤ length cs → statement_of version (term_tree at (axiom_term (DisjointClasses cs))) ≡ States (DisjointClasses cs) ∷ []
disjoint version [] at h = absurd (omega (arith, h))
disjoint version (c ∷ []) at h = absurd (omega (arith, h))
disjoint version (c ∷ d ∷ cs) at h =
    let front = at + 16 in
    let next = front + length (term_text (class_term c)) + 1 in
    let rest = later_trees (next + length (term_text (class_term d))) (class_terms cs) in
    by_form version at (codes "DisjointClasses") (term_tree front (class_term c)) (Then (term_tree next (class_term d)) rest) forms.DisjointClasses (is version) (plain_class c front)
    ∙ rw (two_fit (count_of rest)) (ap (λ (es : List ClassExpression). States (DisjointClasses es) ∷ []) (classes_again (c ∷ d ∷ cs) front))
  where
    is : (version : Version) → form_of version AnAxiom (codes "DisjointClasses") ≡ Some forms.DisjointClasses
    is One = refl
    is Two = refl

equivalent_properties : (version : Version) (rs : List Iri) (at : ℕ) → 2 ≤ length rs → statement_of version (term_tree at (axiom_term (EquivalentProperties rs))) ≡ States (EquivalentProperties rs) ∷ []
equivalent_properties version [] at h = absurd (omega (arith, h))
equivalent_properties version (r ∷ []) at h = absurd (omega (arith, h))
equivalent_properties version (r ∷ s ∷ rs) at h =
    let front = at + 27 in
    let next = front + length (term_text (Word r)) + 1 in
    let rest = later_trees (next + length (term_text (Word s))) (words rs) in
    by_form version at (codes "EquivalentObjectProperties") (term_tree front (Word r)) (Then (term_tree next (Word s)) rest) forms.EquivalentObjectProperties (is version) refl
    ∙ rw (two_fit (count_of rest)) (ap (λ (es : List Iri). States (EquivalentProperties es) ∷ []) (iris_again (r ∷ s ∷ rs) front))
  where
    is : (version : Version) → form_of version AnAxiom (codes "EquivalentObjectProperties") ≡ Some forms.EquivalentObjectProperties
    is One = refl
    is Two = refl

same : (rs : List Iri) (at : ℕ) → 2 ≤ length rs → statement_of Two (term_tree at (axiom_term (SameIndividuals rs))) ≡ States (SameIndividuals rs) ∷ []
same [] at h = absurd (omega (arith, h))
same (r ∷ []) at h = absurd (omega (arith, h))
same (r ∷ s ∷ rs) at h =
    let front = at + 15 in
    let next = front + length (term_text (Word r)) + 1 in
    let rest = later_trees (next + length (term_text (Word s))) (words rs) in
    by_form Two at (codes "SameIndividual") (term_tree front (Word r)) (Then (term_tree next (Word s)) rest) forms.SameIndividual refl refl
    ∙ rw (two_fit (count_of rest)) (ap (λ (es : List Iri). States (SameIndividuals es) ∷ []) (iris_again (r ∷ s ∷ rs) front))

different : (rs : List Iri) (at : ℕ) → 2 ≤ length rs → statement_of Two (term_tree at (axiom_term (DifferentIndividuals rs))) ≡ States (DifferentIndividuals rs) ∷ []
different [] at h = absurd (omega (arith, h))
different (r ∷ []) at h = absurd (omega (arith, h))
different (r ∷ s ∷ rs) at h =
    let front = at + 21 in
    let next = front + length (term_text (Word r)) + 1 in
    let rest = later_trees (next + length (term_text (Word s))) (words rs) in
    by_form Two at (codes "DifferentIndividuals") (term_tree front (Word r)) (Then (term_tree next (Word s)) rest) forms.DifferentIndividuals refl refl
    ∙ rw (two_fit (count_of rest)) (ap (λ (es : List Iri). States (DifferentIndividuals es) ∷ []) (iris_again (r ∷ s ∷ rs) front))

chain : (version : Version) (rs : List Iri) (s : Iri) (at : ℕ) → statement_of version (term_tree at (axiom_term (SubPropertyOf rs s))) ≡ States (SubPropertyOf rs s) ∷ []
chain version rs s at =
    let front = at + 20 in
    let a = chain_again rs front in
    by_form version at (codes "SubObjectPropertyOf") (term_tree front (chain_term rs)) (Then (term_tree (front + length (term_text (chain_term rs)) + 1) (Word s)) Empty) forms.SubObjectPropertyOf
    (is version) (plain_chain rs front) ∙ rw a refl
  where
    is : (version : Version) → form_of version AnAxiom (codes "SubObjectPropertyOf") ≡ Some forms.SubObjectPropertyOf
    is One = refl
    is Two = refl

domain : (version : Version) (r : Iri) (c : ClassExpression) (at : ℕ) → statement_of version (term_tree at (axiom_term (PropertyDomain r c))) ≡ States (PropertyDomain r c) ∷ []
domain One r c at = ap (λ (d : ClassExpression). States (PropertyDomain r d) ∷ []) (class_again c _)
domain Two r c at = ap (λ (d : ClassExpression). States (PropertyDomain r d) ∷ []) (class_again c _)

assertion : (version : Version) (c : ClassExpression) (i : Iri) (at : ℕ) → statement_of version (term_tree at (axiom_term (ClassAssertion c i))) ≡ States (ClassAssertion c i) ∷ []
assertion version c i at =
    let front = at + 15 in
    let a = class_again c front in
    by_form version at (codes "ClassAssertion") (term_tree front (class_term c)) (Then (term_tree (front + length (term_text (class_term c)) + 1) (Word i)) Empty) forms.ClassAssertion
    (is version) (plain_class c front) ∙ rw a refl
  where
    is : (version : Version) → form_of version AnAxiom (codes "ClassAssertion") ≡ Some forms.ClassAssertion
    is One = refl
    is Two = refl

-- what a statement's tree states is the statement
pub stated : (version : Version) (s : Statement) (at : ℕ) → IsWritable version s → statement_of version (term_tree at (statement_term s)) ≡ s ∷ []
stated One (DeclaresClass c) at h = refl
stated One (DeclaresProperty r) at h = refl
stated One (DeclaresIndividual a) at h = refl
stated version (States (SubClassOf c d)) at h = sub_class version c d at
stated version (States (EquivalentClasses cs)) at h = equivalent version cs at h.operands
stated version (States (DisjointClasses cs)) at h = disjoint version cs at h.operands
stated version (States (SubPropertyOf rs s)) at h = chain version rs s at
stated version (States (EquivalentProperties rs)) at h = equivalent_properties version rs at h.operands
stated version (States (PropertyDomain r c)) at h = domain version r c at
stated One (States (TransitiveProperty r)) at h = refl
stated One (States (ReflexiveProperty r)) at h = refl
stated version (States (ClassAssertion c a)) at h = assertion version c a at
stated One (States (PropertyAssertion r a b)) at h = refl
stated One (States (SameIndividuals xs)) at h = absurd (false≢true h.taken)
stated Two (States (SameIndividuals xs)) at h = same xs at h.operands
stated One (States (DifferentIndividuals xs)) at h = absurd (false≢true h.taken)
stated Two (States (DifferentIndividuals xs)) at h = different xs at h.operands
stated One (States (NegativePropertyAssertion r a b)) at h = absurd (false≢true h.taken)
stated _ _ at h = refl

-- what the trees of statements state are the statements
pub all_stated : (version : Version) (ss : List Statement) (at : ℕ) → AllWritable version ss → statements version (lines_trees at (statement_terms ss)) ≡ ss
all_stated version [] at h = refl
all_stated version (s ∷ ss) at h =
    let a = stated version s at h.0 in
    let b = all_stated version ss (at + length (line_text (statement_term s))) h.1 in
    rw (a, b) refl
