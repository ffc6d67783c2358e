-- The trees of statements whose names and operands are as they have to be have no fault.
use Rattle.std.proofs.Common.{◌≡◌, ℕ, ◌+◌, ◌≤◌, true, false, List, [], ◌∷◌, ◌++◌, length, refl, sym, subst, arith}
use Rattle.std.specs.Str.{bytes_eq}
use Rattle.std.proofs.lemmas.Bool.{false≢true}
use Rattle.axioms.specs.Axiom.{SubClassOf, EquivalentClasses, DisjointClasses, SubPropertyOf, EquivalentProperties, PropertyDomain, ClassAssertion, PropertyAssertion, SameIndividuals, DifferentIndividuals, NegativePropertyAssertion}
use Rattle.axioms.specs.Expression.{ClassExpression, Iri}
use Rattle.axioms.specs.Numbering.{Statement, States, same_expression}
use Rattle.fs_parser.specs.Tree.{Tree, Name}
use Rattle.program.specs.declared.version.Version.{Version}
use Rattle.program.specs.declared.version.Version.TheVariants.{One, Two}
use Rattle.shapes.specs.Faults.{count_of, faults, faults_in}
use Rattle.shapes.specs.Shapes.{Many, takes}
use Rattle.shapes.specs.declared.expected.Expected.TheVariants.{Axiom as AnAxiom, ClassExpression as AnExpression, Property, PropertyOrChain, Individual}
use Rattle.statements_text.specs.Sound.{AllPlain, AllSound, AreApart, IsSoundStatement}
use Rattle.statements_text.specs.Terms.{Word, HasNoFault, since, term_text, term_tree, terms_trees, later_trees, words, class_term, class_terms, chain_term, axiom_term}
use Rattle.statements_text.proofs.Faultless.{AreFaultless, classes_are, inside, later_is, same_class, sound_class, two_fit, words_are}
use Rattle.statements_text.proofs.Stated.{plain_class, plain_chain}

-- ---- lists

classes_inside : (version : Version) (cs : List ClassExpression) (at : ℕ) → AllSound cs → AreApart same_expression [] cs →
    faults_in version false [] (Many true AnExpression) (terms_trees at (class_terms cs)) ≡ []
classes_inside version cs at h apart =
    subst (λ ts. faults_in version false [] (Many true AnExpression) (terms_trees at ts) ≡ []) (sym (classes_are cs))
    (inside version AnExpression class_term same_expression same_class cs [] at apart (all cs h))
  where
    all : (cs : List ClassExpression) → AllSound cs → AreFaultless version AnExpression class_term same_expression same_class cs
    all [] h = tt
    all (c ∷ cs) h = ((λ at. sound_class version c at h.0), all cs h.1)

same_word : (a b : Iri) (at to : ℕ) → bytes_eq a b ≡ bytes_eq a b
same_word a b at to = refl

properties_inside : (version : Version) (rs : List Iri) (at : ℕ) → AllPlain rs → AreApart bytes_eq [] rs → faults_in version false [] (Many true Property) (terms_trees at (words rs)) ≡ []
properties_inside version rs at h apart =
    subst (λ ts. faults_in version false [] (Many true Property) (terms_trees at ts) ≡ []) (sym (words_are rs)) (inside version Property Word bytes_eq same_word rs [] at apart (all rs h))
  where
    all : (rs : List Iri) → AllPlain rs → AreFaultless version Property Word bytes_eq same_word rs
    all [] h = tt
    all (r ∷ rs) h = ((λ at. rw h.0 refl), all rs h.1)

individuals_inside : (version : Version) (rs : List Iri) (at : ℕ) → AllPlain rs → AreApart bytes_eq [] rs → faults_in version false [] (Many true Individual) (terms_trees at (words rs)) ≡ []
individuals_inside version rs at h apart =
    subst (λ ts. faults_in version false [] (Many true Individual) (terms_trees at ts) ≡ []) (sym (words_are rs)) (inside version Individual Word bytes_eq same_word rs [] at apart (all rs h))
  where
    all : (rs : List Iri) → AllPlain rs → AreFaultless version Individual Word bytes_eq same_word rs
    all [] h = tt
    all (r ∷ rs) h = ((λ at. rw h.0 refl), all rs h.1)

-- properties of a chain may be equal
chain_inside : (version : Version) (rs : List Iri) (earlier : List Tree) (at : ℕ) → AllPlain rs → faults_in version false earlier (Many false Property) (terms_trees at (words rs)) ≡ []
chain_inside version [] earlier at h = refl
chain_inside version (r ∷ rs) earlier at h =
    let l = later_is (words rs) (at + length (term_text (Word r))) in
    let m = chain_inside version rs (earlier ++ Name at r ∷ []) (at + length (term_text (Word r)) + 1) h.1 in
    rw (h.0, l) m

chain_sound : (version : Version) (rs : List Iri) (at : ℕ) → 1 ≤ length rs → AllPlain rs → faults version PropertyOrChain (term_tree at (chain_term rs)) ≡ []
chain_sound version [] at few h = absurd (omega (arith, few))
chain_sound version (r ∷ []) at few h = rw h.0 refl
chain_sound One (r ∷ s ∷ rs) at few h =
    let front = at + 20 in
    let n = two_fit (count_of (later_trees (front + length (term_text (Word r)) + 1 + length (term_text (Word s))) (words rs))) in
    let i = chain_inside One (r ∷ s ∷ rs) [] front h in
    rw n i
chain_sound Two (r ∷ s ∷ rs) at few h =
    let front = at + 20 in
    let n = two_fit (count_of (later_trees (front + length (term_text (Word r)) + 1 + length (term_text (Word s))) (words rs))) in
    let i = chain_inside Two (r ∷ s ∷ rs) [] front h in
    rw n i

-- ---- statements

equivalent : (version : Version) (cs : List ClassExpression) (at : ℕ) → 2 ≤ length cs → AllSound cs → AreApart same_expression [] cs → faults version AnAxiom (term_tree at (axiom_term (EquivalentClasses cs))) ≡ []
equivalent version [] at few h apart = absurd (omega (arith, few))
equivalent version (c ∷ []) at few h apart = absurd (omega (arith, few))
equivalent One (c ∷ d ∷ cs) at few h apart =
    let front = at + 18 in
    let n = two_fit (count_of (later_trees (front + length (term_text (class_term c)) + 1 + length (term_text (class_term d))) (class_terms cs))) in
    let p = plain_class c front in
    let i = classes_inside One (c ∷ d ∷ cs) front h apart in
    rw (p, n) i
equivalent Two (c ∷ d ∷ cs) at few h apart =
    let front = at + 18 in
    let n = two_fit (count_of (later_trees (front + length (term_text (class_term c)) + 1 + length (term_text (class_term d))) (class_terms cs))) in
    let p = plain_class c front in
    let i = classes_inside Two (c ∷ d ∷ cs) front h apart in
    rw (p, n) i

disjoint : (version : Version) (cs : List ClassExpression) (at : ℕ) → 2 ≤ length cs → AllSound cs → AreApart same_expression [] cs → faults version AnAxiom (term_tree at (axiom_term (DisjointClasses cs))) ≡ []
disjoint version [] at few h apart = absurd (omega (arith, few))
disjoint version (c ∷ []) at few h apart = absurd (omega (arith, few))
disjoint One (c ∷ d ∷ cs) at few h apart =
    let front = at + 16 in
    let n = two_fit (count_of (later_trees (front + length (term_text (class_term c)) + 1 + length (term_text (class_term d))) (class_terms cs))) in
    let p = plain_class c front in
    let i = classes_inside One (c ∷ d ∷ cs) front h apart in
    rw (p, n) i
disjoint Two (c ∷ d ∷ cs) at few h apart =
    let front = at + 16 in
    let n = two_fit (count_of (later_trees (front + length (term_text (class_term c)) + 1 + length (term_text (class_term d))) (class_terms cs))) in
    let p = plain_class c front in
    let i = classes_inside Two (c ∷ d ∷ cs) front h apart in
    rw (p, n) i

equivalent_properties : (version : Version) (rs : List Iri) (at : ℕ) → 2 ≤ length rs → AllPlain rs → AreApart bytes_eq [] rs → faults version AnAxiom (term_tree at (axiom_term (EquivalentProperties rs))) ≡ []
equivalent_properties version [] at few h apart = absurd (omega (arith, few))
equivalent_properties version (r ∷ []) at few h apart = absurd (omega (arith, few))
equivalent_properties One (r ∷ s ∷ rs) at few h apart =
    let front = at + 27 in
    let n = two_fit (count_of (later_trees (front + length (term_text (Word r)) + 1 + length (term_text (Word s))) (words rs))) in
    let i = properties_inside One (r ∷ s ∷ rs) front h apart in
    rw n i
equivalent_properties Two (r ∷ s ∷ rs) at few h apart =
    let front = at + 27 in
    let n = two_fit (count_of (later_trees (front + length (term_text (Word r)) + 1 + length (term_text (Word s))) (words rs))) in
    let i = properties_inside Two (r ∷ s ∷ rs) front h apart in
    rw n i

same : (rs : List Iri) (at : ℕ) → 2 ≤ length rs → AllPlain rs → AreApart bytes_eq [] rs → faults Two AnAxiom (term_tree at (axiom_term (SameIndividuals rs))) ≡ []
same [] at few h apart = absurd (omega (arith, few))
same (r ∷ []) at few h apart = absurd (omega (arith, few))
same (r ∷ s ∷ rs) at few h apart =
    let front = at + 15 in
    let n = two_fit (count_of (later_trees (front + length (term_text (Word r)) + 1 + length (term_text (Word s))) (words rs))) in
    let i = individuals_inside Two (r ∷ s ∷ rs) front h apart in
    rw n i

different : (rs : List Iri) (at : ℕ) → 2 ≤ length rs → AllPlain rs → AreApart bytes_eq [] rs → faults Two AnAxiom (term_tree at (axiom_term (DifferentIndividuals rs))) ≡ []
different [] at few h apart = absurd (omega (arith, few))
different (r ∷ []) at few h apart = absurd (omega (arith, few))
different (r ∷ s ∷ rs) at few h apart =
    let front = at + 21 in
    let n = two_fit (count_of (later_trees (front + length (term_text (Word r)) + 1 + length (term_text (Word s))) (words rs))) in
    let i = individuals_inside Two (r ∷ s ∷ rs) front h apart in
    rw n i

-- a statement whose names and operands are as they have to be has no fault in a version that takes it
pub sound_statement : (version : Version) (s : Statement) → takes version (since s) ≡ true → IsSoundStatement s → HasNoFault version s
sound_statement One (States (SubClassOf c d)) t h at =
    let front = at + 11 in
    let p = plain_class c front in
    let a = sound_class One c front h.0 in
    let b = sound_class One d (front + length (term_text (class_term c)) + 1) h.1 in
    rw (p, a, b) refl
sound_statement One (States (EquivalentClasses cs)) t h at = equivalent One cs at h.0 h.1 h.2
sound_statement One (States (DisjointClasses cs)) t h at = disjoint One cs at h.0 h.1 h.2
sound_statement One (States (SubPropertyOf rs s)) t h at =
    let p = plain_chain rs (at + 20) in
    let a = chain_sound One rs (at + 20) h.0 h.1 in
    let b = h.2 in
    rw (p, a, b) refl
sound_statement One (States (EquivalentProperties rs)) t h at = equivalent_properties One rs at h.0 h.1 h.2
sound_statement One (States (PropertyDomain r c)) t h at =
    let a = sound_class One c (at + 21 + length (term_text (Word r)) + 1) h.1 in
    let b = h.0 in
    rw (b, a) refl
sound_statement One (States (ClassAssertion c i)) t h at =
    let p = plain_class c (at + 15) in
    let a = sound_class One c (at + 15) h.0 in
    let b = h.1 in
    rw (p, a, b) refl
sound_statement One (States (PropertyAssertion r a b)) t h at = let x = h.0 in let y = h.1 in let z = h.2 in rw (x, y, z) refl
sound_statement One (States (SameIndividuals xs)) t h at = absurd (false≢true t)
sound_statement One (States (DifferentIndividuals xs)) t h at = absurd (false≢true t)
sound_statement One (States (NegativePropertyAssertion r a b)) t h at = absurd (false≢true t)
sound_statement Two (States (SubClassOf c d)) t h at =
    let front = at + 11 in
    let p = plain_class c front in
    let a = sound_class Two c front h.0 in
    let b = sound_class Two d (front + length (term_text (class_term c)) + 1) h.1 in
    rw (p, a, b) refl
sound_statement Two (States (EquivalentClasses cs)) t h at = equivalent Two cs at h.0 h.1 h.2
sound_statement Two (States (DisjointClasses cs)) t h at = disjoint Two cs at h.0 h.1 h.2
sound_statement Two (States (SubPropertyOf rs s)) t h at =
    let p = plain_chain rs (at + 20) in
    let a = chain_sound Two rs (at + 20) h.0 h.1 in
    let b = h.2 in
    rw (p, a, b) refl
sound_statement Two (States (EquivalentProperties rs)) t h at = equivalent_properties Two rs at h.0 h.1 h.2
sound_statement Two (States (PropertyDomain r c)) t h at =
    let a = sound_class Two c (at + 21 + length (term_text (Word r)) + 1) h.1 in
    let b = h.0 in
    rw (b, a) refl
sound_statement Two (States (ClassAssertion c i)) t h at =
    let p = plain_class c (at + 15) in
    let a = sound_class Two c (at + 15) h.0 in
    let b = h.1 in
    rw (p, a, b) refl
sound_statement Two (States (PropertyAssertion r a b)) t h at = let x = h.0 in let y = h.1 in let z = h.2 in rw (x, y, z) refl
sound_statement Two (States (SameIndividuals xs)) t h at = same xs at h.0 h.1 h.2
sound_statement Two (States (DifferentIndividuals xs)) t h at = different xs at h.0 h.1 h.2
sound_statement Two (States (NegativePropertyAssertion r a b)) t h at = let x = h.0 in let y = h.1 in let z = h.2 in rw (x, y, z) refl
sound_statement _ _ t h at = rw h refl
