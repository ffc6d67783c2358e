-- What trees state: which row of the table of shapes, of which operands (OWL 2 Structural Specification, sections 5.8, 9.1, 9.2
-- and 9.6). Annotations state nothing, nor do declarations of annotation properties.
use Rattle.std.specs.Prelude.{List, [], ◌∷◌, ◌&&◌, Option, Some, None, if◌then◌else◌}
use Rattle.std.specs.Option.{is_some}
use Rattle.axioms.specs.Numbering as numbering
use Rattle.fs_parser.specs.Tree.{Tree, Trees, Empty, Then}
use Rattle.fs_parser.specs.Tree as trees
use Rattle.fs_parser.specs.View.{trees_of}
use Rattle.shapes.specs.declared.expected.Expected.TheVariants.{Axiom, Entity}
use Rattle.shapes.specs.declared.form.Form.{Form}
use Rattle.shapes.specs.declared.form.Form.TheVariants as forms
use Rattle.shapes.specs.declared.statement.Statement.{Statement}
use Rattle.shapes.specs.declared.statement.Statement.TheVariants as statements
use Rattle.program.specs.declared.version.Version.{Version}
use Rattle.shapes.specs.Faults.{behind_annotations, count_of}
use Rattle.shapes.specs.Shapes.{Says, fits_count, form_of, row}

-- a form, and its operands
abbrev pub Stated : Type 0
Stated = Form × Trees

-- a form states what its row says, where it says something and has as many operands as it takes
abbrev pub stated_by : Form → Trees → Option Stated
stated_by form operands = if is_some (row form).2 && fits_count (row form).1 (count_of operands) then Some (form, operands) else None

abbrev pub entity_by : Option Form → Trees → Option Stated
entity_by None operands = None
entity_by (Some form) operands = stated_by form operands

-- what a declaration of this tree states
abbrev pub entity_in : Version → Tree → Option Stated
entity_in version (trees.Form at keyword operands) = entity_by (form_of version Entity keyword) operands
entity_in version _ = None

-- a declaration states what its operand does
abbrev pub axiom_by : Version → Option Form → Trees → Option Stated
axiom_by version (Some forms.Declaration) (Then declared Empty) = entity_in version declared
axiom_by version (Some form) operands = stated_by form operands
axiom_by version None operands = None

-- what a tree states
abbrev pub statement_in : Version → Tree → Option Stated
statement_in version (trees.Form at keyword operands) = axiom_by version (form_of version Axiom keyword) (behind_annotations operands)
statement_in version _ = None

-- what operands state in words of their names and class expressions, where the form says something by itself
abbrev pub said : Says → Trees → List numbering.Statement
said None operands = []
said (Some says) operands = says operands ∷ []

abbrev pub meaning : Option Stated → List numbering.Statement
meaning None = []
meaning (Some stated) = said (row stated.0).2 stated.1

-- ---- the code's statements

abbrev pub form_stated : Statement → Form
form_stated (statements.SubClassOf sub superclass) = forms.SubClassOf
form_stated (statements.EquivalentClasses classes) = forms.EquivalentClasses
form_stated (statements.DisjointClasses classes) = forms.DisjointClasses
form_stated (statements.SubPropertyOf chain property) = forms.SubObjectPropertyOf
form_stated (statements.EquivalentProperties properties) = forms.EquivalentObjectProperties
form_stated (statements.Domain property class) = forms.ObjectPropertyDomain
form_stated (statements.Transitive property) = forms.TransitiveObjectProperty
form_stated (statements.Reflexive property) = forms.ReflexiveObjectProperty
form_stated (statements.ClassAssertion class individual) = forms.ClassAssertion
form_stated (statements.PropertyAssertion property source target) = forms.ObjectPropertyAssertion
form_stated (statements.SameIndividuals individuals) = forms.SameIndividual
form_stated (statements.DifferentIndividuals individuals) = forms.DifferentIndividuals
form_stated (statements.NegativePropertyAssertion property source target) = forms.NegativeObjectPropertyAssertion
form_stated (statements.DeclareClass name) = forms.Class
form_stated (statements.DeclareProperty name) = forms.ObjectProperty
form_stated (statements.DeclareIndividual name) = forms.NamedIndividual

abbrev pub trees_stated : Statement → Trees
trees_stated (statements.SubClassOf sub superclass) = trees_of (sub.now ∷ superclass.now ∷ [])
trees_stated (statements.EquivalentClasses classes) = trees_of classes.now
trees_stated (statements.DisjointClasses classes) = trees_of classes.now
trees_stated (statements.SubPropertyOf chain property) = trees_of (chain.now ∷ property.now ∷ [])
trees_stated (statements.EquivalentProperties properties) = trees_of properties.now
trees_stated (statements.Domain property class) = trees_of (property.now ∷ class.now ∷ [])
trees_stated (statements.Transitive property) = trees_of (property.now ∷ [])
trees_stated (statements.Reflexive property) = trees_of (property.now ∷ [])
trees_stated (statements.ClassAssertion class individual) = trees_of (class.now ∷ individual.now ∷ [])
trees_stated (statements.PropertyAssertion property source target) = trees_of (property.now ∷ source.now ∷ target.now ∷ [])
trees_stated (statements.SameIndividuals individuals) = trees_of individuals.now
trees_stated (statements.DifferentIndividuals individuals) = trees_of individuals.now
trees_stated (statements.NegativePropertyAssertion property source target) = trees_of (property.now ∷ source.now ∷ target.now ∷ [])
trees_stated (statements.DeclareClass name) = trees_of (name.now ∷ [])
trees_stated (statements.DeclareProperty name) = trees_of (name.now ∷ [])
trees_stated (statements.DeclareIndividual name) = trees_of (name.now ∷ [])

-- its form, and its trees
abbrev pub stated : Statement → Stated
stated s = (form_stated s, trees_stated s)
