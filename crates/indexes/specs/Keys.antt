-- The keys of a form: one for each table.
use Rattle.std.specs.Prelude.{Option, Some, None}
use Rattle.axioms.specs.declared.ids.IndId.{IndId}
use Rattle.normal_forms.specs.declared.forms.Class2.{Class2}
use Rattle.normal_forms.specs.declared.forms.Class2.TheVariants as class
use Rattle.normal_forms.specs.declared.forms.PropId2.{PropId2}
use Rattle.normal_forms.specs.declared.forms.PropId2.TheVariants as property
use Rattle.normal_forms.specs.declared.forms.Form.{Form}
use Rattle.normal_forms.specs.declared.forms.Form.TheVariants.{N1, N2, N3, N4, N5, N6, N7, N8, N9, N10, N12}
use Rattle.indexes.specs.declared.keys.Key.{Key}
use Rattle.indexes.specs.declared.keys.Key.TheVariants as key

abbrev pub class_key : Class2 → Key
class_key (class.Expr e) = key.Whole e.0
class_key (class.Partial n) = key.Partial n

abbrev pub property_key : PropId2 → Key
property_key (property.Property p) = key.Whole p.0
property_key (property.Partial n) = key.Partial n

abbrev pub individual_key : IndId → Key
individual_key a = key.Whole a.0

-- 0 where the form gives a fact from none, 1 where it makes a property reflexive
abbrev pub by_kind : Form → Option Key
by_kind (N7 _) = Some (key.Whole 1)
by_kind (N8 _ _) = Some (key.Whole 0)
by_kind (N9 _ _ _) = Some (key.Whole 0)
by_kind _ = None

-- the class that it needs alone
abbrev pub by_alone : Form → Option Key
by_alone (N1 a _) = Some (class_key a)
by_alone (N3 a _ _) = Some (class_key a)
by_alone _ = None

-- the first class of an intersection
abbrev pub by_first : Form → Option Key
by_first (N2 a _ _) = Some (class_key a)
by_first _ = None

-- its second class
abbrev pub by_second : Form → Option Key
by_second (N2 _ b _) = Some (class_key b)
by_second _ = None

-- the class that a restriction needs at the target of an edge
abbrev pub by_filler : Form → Option Key
by_filler (N4 _ a _) = Some (class_key a)
by_filler _ = None

-- its property
abbrev pub by_restricted : Form → Option Key
by_restricted (N4 r _ _) = Some (key.Whole r.0)
by_restricted _ = None

-- the first property of a chain
abbrev pub by_chain : Form → Option Key
by_chain (N6 r _ _) = Some (property_key r)
by_chain _ = None

-- the second property of a chain
abbrev pub by_end : Form → Option Key
by_end (N6 _ s _) = Some (property_key s)
by_end _ = None

-- the property that it puts below another, and no chain
abbrev pub by_plain : Form → Option Key
by_plain (N5 r _) = Some (key.Whole r.0)
by_plain _ = None

-- the first of the individuals that it makes one
abbrev pub by_linked_first : Form → Option Key
by_linked_first (N10 a _) = Some (individual_key a)
by_linked_first _ = None

-- the second of the individuals that it makes one
abbrev pub by_linked_second : Form → Option Key
by_linked_second (N10 _ b) = Some (individual_key b)
by_linked_second _ = None

-- the source of the pair that it denies
abbrev pub by_denied : Form → Option Key
by_denied (N12 a _ _) = Some (individual_key a)
by_denied _ = None

-- the target of that pair
abbrev pub by_target : Form → Option Key
by_target (N12 _ _ b) = Some (individual_key b)
by_target _ = None
