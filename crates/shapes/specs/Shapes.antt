-- The table of shapes of the profile: which operands each keyword takes, and what a form of it says (OWL 2 Profiles, sections
-- 2.2.1 to 2.2.5; OWL 2 Structural Specification, sections 3.1, 3.5, 5.8, 8.1.1, 8.2.1, 9 and 10).
use Rattle.std.specs.Prelude.{ℕ, List, [], ◌∷◌, Bool, true, false, Option, Some, None, ◌&&◌, if◌then◌else◌, codes, length, map, nat_lt, option_map, ◌==◌}
use Rattle.std.specs.Str.{bytes_eq}
use Rattle.axioms.specs.Axiom as axioms
use Rattle.axioms.specs.Numbering.{Statement, DeclaresClass, DeclaresProperty, DeclaresIndividual, States}
use Rattle.fs_parser.specs.Tree.{Trees}
use Rattle.shapes.specs.declared.expected.Expected.{Expected}
use Rattle.shapes.specs.declared.expected.Expected.TheVariants.{Axiom, Annotation, Entity, ClassExpression, Class, Property, PropertyOrChain, Individual, AnyName, NameOrLiteral}
use Rattle.shapes.specs.declared.form.Form.{Form}
use Rattle.shapes.specs.declared.form.Form.TheVariants as forms
use Rattle.program.specs.declared.version.Version.{Version}
use Rattle.program.specs.declared.version.Version.TheVariants.{One, Two}
use Rattle.shapes.specs.Meanings.{operand, class_of, classes_of, iri_of, iris_of, chain_of}

-- these operands, or two or more of one kind, of which no two may be equal where it says so
pub data Operands : Type 0 where
  Each : List Expected → Operands
  Many : (distinct : Bool) (operand : Expected) → Operands

-- what a form says of its operands, if it says something by itself
abbrev pub Says : Type 0
Says = Option (Trees → Statement)

-- a row: the keyword of a form, the operands that it takes, and what it says of them
abbrev pub Row : Type 0
Row = List ℕ × Operands × Says

abbrev pub row : Form → Row
-- axioms (Structural Specification, sections 9.1, 9.2 and 9.6)
row forms.SubClassOf =
    (codes "SubClassOf", Each (ClassExpression ∷ ClassExpression ∷ []), Some (λ ts. States (axioms.SubClassOf (class_of (operand ts 0)) (class_of (operand ts 1)))))
row forms.EquivalentClasses = (codes "EquivalentClasses", Many true ClassExpression, Some (λ ts. States (axioms.EquivalentClasses (classes_of ts))))
row forms.DisjointClasses = (codes "DisjointClasses", Many true ClassExpression, Some (λ ts. States (axioms.DisjointClasses (classes_of ts))))
row forms.SubObjectPropertyOf =
    (codes "SubObjectPropertyOf", Each (PropertyOrChain ∷ Property ∷ []), Some (λ ts. States (axioms.SubPropertyOf (chain_of (operand ts 0)) (iri_of (operand ts 1)))))
row forms.EquivalentObjectProperties =
    (codes "EquivalentObjectProperties", Many true Property, Some (λ ts. States (axioms.EquivalentProperties (iris_of ts))))
row forms.ObjectPropertyDomain =
    (codes "ObjectPropertyDomain", Each (Property ∷ ClassExpression ∷ []), Some (λ ts. States (axioms.PropertyDomain (iri_of (operand ts 0)) (class_of (operand ts 1)))))
row forms.TransitiveObjectProperty =
    (codes "TransitiveObjectProperty", Each (Property ∷ []), Some (λ ts. States (axioms.TransitiveProperty (iri_of (operand ts 0)))))
row forms.ReflexiveObjectProperty =
    (codes "ReflexiveObjectProperty", Each (Property ∷ []), Some (λ ts. States (axioms.ReflexiveProperty (iri_of (operand ts 0)))))
row forms.ClassAssertion =
    (codes "ClassAssertion", Each (ClassExpression ∷ Individual ∷ []), Some (λ ts. States (axioms.ClassAssertion (class_of (operand ts 0)) (iri_of (operand ts 1)))))
row forms.ObjectPropertyAssertion =
    (codes "ObjectPropertyAssertion", Each (Property ∷ Individual ∷ Individual ∷ []), Some (λ ts. States (axioms.PropertyAssertion (iri_of (operand ts 0)) (iri_of (operand ts 1)) (iri_of (operand ts 2)))))
row forms.SameIndividual = (codes "SameIndividual", Many true Individual, Some (λ ts. States (axioms.SameIndividuals (iris_of ts))))
row forms.DifferentIndividuals = (codes "DifferentIndividuals", Many true Individual, Some (λ ts. States (axioms.DifferentIndividuals (iris_of ts))))
row forms.NegativeObjectPropertyAssertion =
    (codes "NegativeObjectPropertyAssertion", Each (Property ∷ Individual ∷ Individual ∷ []), Some (λ ts. States (axioms.NegativePropertyAssertion (iri_of (operand ts 0)) (iri_of (operand ts 1)) (iri_of (operand ts 2)))))
-- declarations (section 5.8.1), which say what their operand says, and what is declared (section 5.8)
row forms.Declaration = (codes "Declaration", Each (Entity ∷ []), None)
row forms.Class = (codes "Class", Each (Class ∷ []), Some (λ ts. DeclaresClass (iri_of (operand ts 0))))
row forms.ObjectProperty = (codes "ObjectProperty", Each (Property ∷ []), Some (λ ts. DeclaresProperty (iri_of (operand ts 0))))
row forms.NamedIndividual = (codes "NamedIndividual", Each (Individual ∷ []), Some (λ ts. DeclaresIndividual (iri_of (operand ts 0))))
row forms.AnnotationProperty = (codes "AnnotationProperty", Each (AnyName ∷ []), None)
-- axioms of annotations (section 10.2), and annotations (section 10.1)
row forms.AnnotationAssertion = (codes "AnnotationAssertion", Each (AnyName ∷ AnyName ∷ NameOrLiteral ∷ []), None)
row forms.SubAnnotationPropertyOf = (codes "SubAnnotationPropertyOf", Each (AnyName ∷ AnyName ∷ []), None)
row forms.AnnotationPropertyDomain = (codes "AnnotationPropertyDomain", Each (AnyName ∷ AnyName ∷ []), None)
row forms.AnnotationPropertyRange = (codes "AnnotationPropertyRange", Each (AnyName ∷ AnyName ∷ []), None)
row forms.Annotation = (codes "Annotation", Each (AnyName ∷ NameOrLiteral ∷ []), None)
-- class expressions other than names (sections 8.1.1 and 8.2.1), and chains of properties (section 9.2.1)
row forms.ObjectIntersectionOf = (codes "ObjectIntersectionOf", Many true ClassExpression, None)
row forms.ObjectSomeValuesFrom = (codes "ObjectSomeValuesFrom", Each (Property ∷ ClassExpression ∷ []), None)
row forms.ObjectPropertyChain = (codes "ObjectPropertyChain", Many false Property, None)

-- the first version that takes the form
abbrev pub since : Form → Version
since forms.SameIndividual = Two
since forms.DifferentIndividuals = Two
since forms.NegativeObjectPropertyAssertion = Two
since _ = One

-- whether the version takes what has been taken since that one: each takes what an earlier one does
abbrev pub takes : Version → Version → Bool
takes version One = true
takes One Two = false
takes Two Two = true

abbrev pub axiom_forms : List Form
axiom_forms =
    forms.SubClassOf ∷ forms.EquivalentClasses ∷ forms.DisjointClasses ∷ forms.SubObjectPropertyOf ∷ forms.EquivalentObjectProperties
    ∷ forms.ObjectPropertyDomain ∷ forms.TransitiveObjectProperty ∷ forms.ReflexiveObjectProperty ∷ forms.ClassAssertion
    ∷ forms.ObjectPropertyAssertion ∷ forms.SameIndividual ∷ forms.DifferentIndividuals ∷ forms.NegativeObjectPropertyAssertion
    ∷ forms.Declaration ∷ forms.AnnotationAssertion ∷ forms.SubAnnotationPropertyOf ∷ forms.AnnotationPropertyDomain ∷ forms.AnnotationPropertyRange ∷ []

abbrev pub entity_forms : List Form
entity_forms = forms.Class ∷ forms.ObjectProperty ∷ forms.NamedIndividual ∷ forms.AnnotationProperty ∷ []

-- the forms that may stand where such a tree is expected
abbrev pub forms_of : Expected → List Form
forms_of Axiom = axiom_forms
forms_of Annotation = forms.Annotation ∷ []
forms_of Entity = entity_forms
forms_of ClassExpression = forms.ObjectIntersectionOf ∷ forms.ObjectSomeValuesFrom ∷ []
forms_of PropertyOrChain = forms.ObjectPropertyChain ∷ []
forms_of _ = []

-- a form with its keyword and operands, and its first version
abbrev pub Shape : Type 0
Shape = Form × List ℕ × Operands × Version

abbrev pub shape : Form → Shape
shape form = (form, (row form).0, (row form).1, since form)

-- the forms that may stand where such a tree is expected, each with its keyword and operands, and its first version
abbrev pub shapes_of : Expected → List Shape
shapes_of expected = map shape (forms_of expected)

-- the row of that keyword, if the version has one
abbrev pub shape_in : Version → List Shape → List ℕ → Option Shape
shape_in version [] keyword = None
shape_in version (shape ∷ shapes) keyword = if takes version shape.3 && bytes_eq shape.1 keyword then Some shape else shape_in version shapes keyword

-- the row of that keyword where such a tree is expected, if the version has one
abbrev pub shape_of : Version → Expected → List ℕ → Option Shape
shape_of version expected keyword = shape_in version (shapes_of expected) keyword

abbrev pub operands_of : Version → Expected → List ℕ → Option Operands
operands_of version expected keyword = option_map (λ (s : Shape). s.2) (shape_of version expected keyword)

abbrev pub form_of : Version → Expected → List ℕ → Option Form
form_of version expected keyword = option_map (λ (s : Shape). s.0) (shape_of version expected keyword)

-- axioms and annotations may begin with annotations (section 10.1)
abbrev pub may_be_annotated : Expected → Bool
may_be_annotated Axiom = true
may_be_annotated Annotation = true
may_be_annotated _ = false

-- as many operands as the shape takes
abbrev pub fits_count : Operands → ℕ → Bool
fits_count (Each expected) n = n == length expected
fits_count (Many distinct operand) n = nat_lt 1 n

-- what is expected of the next operand, and of those behind it
abbrev pub next_expected : Operands → Expected
next_expected (Each []) = AnyName
next_expected (Each (e ∷ es)) = e
next_expected (Many distinct operand) = operand

abbrev pub later_expected : Operands → Operands
later_expected (Each []) = Each []
later_expected (Each (e ∷ es)) = Each es
later_expected (Many distinct operand) = Many distinct operand

abbrev pub wants_distinct : Operands → Bool
wants_distinct (Each es) = false
wants_distinct (Many distinct operand) = distinct
