-- The faults of small documents' trees.
use Rattle.std.specs.Prelude.{◌≡◌, [], ◌∷◌, codes}
use Rattle.fs_parser.specs.Tree.{Tree, Trees, Name, Anonymous, Group, Form, Empty, Then}
use Rattle.shapes.specs.Faults.{RefusedConstruct, UnknownKeyword, WrongShape, RepeatedOperand, ReservedName, AnonymousIndividual, document_faults}
use Rattle.program.specs.declared.version.Version.TheVariants.{One, Two}

abbrev pub one : Tree → Trees
one t = Then t Empty

abbrev pub two : Tree → Tree → Trees
two t u = Then t (Then u Empty)

-- Ontology(HasKey(<x:A> (<x:p>) ()) SubClassOf(_:b <x:B>) Frobnicate() ): each fault is told
abbrev pub EveryFaultIsTold : Type 0
EveryFaultIsTold =
    document_faults One
    (Then (Form 9 (codes "HasKey") (Then (Name 16 (codes "x:A")) (two (Group 22 (one (Name 23 (codes "x:p")))) (Group 30 Empty))))
    (two (Form 34 (codes "SubClassOf") (two (Anonymous 45 (codes "_:b")) (Name 49 (codes "x:B")))) (Form 56 (codes "Frobnicate") Empty)))
    ≡ RefusedConstruct 9 (codes "HasKey") ∷ AnonymousIndividual 45 ∷ UnknownKeyword 56 (codes "Frobnicate") ∷ []

-- EquivalentClasses(A A), where the second A stands at byte 45
abbrev pub RepeatedOperandIsTold : Type 0
RepeatedOperandIsTold =
    document_faults One (one (Form 24 (codes "EquivalentClasses") (two (Name 42 (codes "x:A")) (Name 45 (codes "x:A"))))) ≡ RepeatedOperand 45 ∷ []

-- three names, an axiom about a reserved individual, and an annotation behind it
abbrev pub OrderIsTold : Type 0
OrderIsTold =
    document_faults One
    (Then (Name 1 (codes "x:o")) (Then (Name 2 (codes "x:v")) (Then (Name 3 (codes "x:w"))
    (two (Form 4 (codes "ClassAssertion") (two (Name 5 (codes "http://www.w3.org/2002/07/owl#Thing")) (Name 6 (codes "http://www.w3.org/2002/07/owl#a"))))
    (Form 7 (codes "Annotation") (two (Name 8 (codes "x:p")) (Name 9 (codes "x:q"))))))))
    ≡ WrongShape 3 ∷ ReservedName 6 ∷ WrongShape 7 ∷ []

-- DifferentIndividuals(:a :b) NegativeObjectPropertyAssertion(:r :a :b): the first version has neither
abbrev pub differing : Trees
differing =
    two (Form 24 (codes "DifferentIndividuals") (two (Name 45 (codes "x:a")) (Name 48 (codes "x:b"))))
    (Form 52 (codes "NegativeObjectPropertyAssertion") (Then (Name 84 (codes "x:r")) (two (Name 87 (codes "x:a")) (Name 90 (codes "x:b")))))

abbrev pub EachVersionHasItsOwn : Type 0
EachVersionHasItsOwn =
    (document_faults One differing ≡ RefusedConstruct 24 (codes "DifferentIndividuals") ∷ RefusedConstruct 52 (codes "NegativeObjectPropertyAssertion") ∷ [])
    × (document_faults Two differing ≡ [])
