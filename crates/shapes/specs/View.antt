-- What the code's values are as the definitions': without where their texts lie in memory.
use Rattle.std.specs.Prelude.{◌≡◌, List, [], ◌++◌, false, ◌||◌, Option, map, option_map, string_bytes}
use Rattle.std.specs.Global.{Vec}
use Rattle.std.specs.List.{list_any}
use Rattle.axioms.specs.Ontology.{Names}
use Rattle.shapes.specs.declared.context.Context as code_context
use Rattle.shapes.specs.declared.fault.Fault as code
use Rattle.shapes.specs.declared.fault.Fault.TheVariants as faults
use Rattle.shapes.specs.declared.expected.Operands as code_operands
use Rattle.shapes.specs.declared.expected.Operands.TheVariants as operands
use Rattle.shapes.specs.declared.keywords.Shape as code_shape
use Rattle.shapes.specs.declared.operand.Operand as code_operand
use Rattle.fs_parser.specs.Tree.{Tree}
use Rattle.fs_parser.specs.View.{tree_of, trees_of}
use Rattle.fs_parser.specs.declared.tree.Tree as code_tree
use Rattle.shapes.specs.declared.expected.Expected.{Expected}
use Rattle.shapes.specs.Faults.{Fault, RefusedConstruct, UnknownKeyword, WrongShape, RepeatedOperand, ReservedName, AnonymousIndividual, UnknownName, faults_among, faults_inside}
use Rattle.shapes.specs.TreeEquality.{same_tree}
use Rattle.shapes.specs.Shapes.{Operands, Each, Many, Shape}

abbrev pub fault_of : code.Fault → Fault
fault_of (faults.RefusedConstruct at keyword) = RefusedConstruct at (string_bytes keyword)
fault_of (faults.UnknownKeyword at keyword) = UnknownKeyword at (string_bytes keyword)
fault_of (faults.WrongShape at) = WrongShape at
fault_of (faults.RepeatedOperand at) = RepeatedOperand at
fault_of (faults.ReservedName at) = ReservedName at
fault_of (faults.Anonymous at) = AnonymousIndividual at
fault_of (faults.UnknownName at) = UnknownName at

abbrev pub faults_of : List code.Fault → List Fault
faults_of = map fault_of

-- behind the faults that were found these are told
abbrev pub AreTold : Vec code.Fault → Vec code.Fault → List Fault → Type 0
AreTold old new faults = faults_of new.items ≡ faults_of old.items ++ faults

abbrev pub operands_view : code_operands.Operands → Operands
operands_view (operands.Each expected) = Each expected.now
operands_view (operands.Many distinct operand) = Many distinct operand

abbrev pub shape_view : code_shape.Shape → Shape
shape_view s = (s.form, s.keyword.now, operands_view s.operands, s.since)

abbrev pub operand_tree : code_operand.Operand → Tree
operand_tree o = tree_of o.tree.now

abbrev pub operand_trees : List code_operand.Operand → List Tree
operand_trees = map operand_tree

-- the table holds what it held, and the tree
abbrev pub HoldsAlso : Tree → List code_operand.Operand → List code_operand.Operand → Type 0
HoldsAlso tree old new = (t : Tree) → list_any (same_tree t) (operand_trees new) ≡ (list_any (same_tree t) (operand_trees old) || same_tree t tree)

-- the names that may stand in what is walked: any, or those of an ontology
abbrev pub names_of : code_context.Context → Option Names
names_of c = option_map (λ o. o.now.names) c.ontology

-- the faults of a tree where one is expected
abbrev pub tree_faults : code_context.Context → Expected → Tree → List Fault
tree_faults c expected tree = faults_among c.version (names_of c) expected tree

-- the faults of the operands behind the annotations in front
abbrev pub operand_faults : code_context.Context → Operands → List code_tree.Tree → List Fault
operand_faults c operands trees = faults_inside c.version (names_of c) false [] operands (trees_of trees)
