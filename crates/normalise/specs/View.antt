-- The code's forms as those of the definitions: a fresh name stands for the list that has its number.
use Rattle.std.specs.Prelude.{◌≡◌, ℕ, ◌<◌, ◌≤◌, ◌⊎◌, List, [], ◌∷◌, length, slice_get, Some, None}
use Rattle.std.specs.declared.option.Option.{Option}
use Rattle.axioms.specs.WellFormedness.{AreDistinct}
use Rattle.normal_forms.specs.declared.forms.Class2 as code_class
use Rattle.normal_forms.specs.declared.forms.Class2.TheVariants as classes
use Rattle.normal_forms.specs.declared.forms.PropId2 as code_property
use Rattle.normal_forms.specs.declared.forms.PropId2.TheVariants as properties
use Rattle.normal_forms.specs.declared.forms.Form as code_form
use Rattle.normal_forms.specs.declared.forms.Form.TheVariants as forms
use Rattle.normal_forms.specs.declared.forms.Origin.{Origin}
use Rattle.normal_forms.specs.Forms.{Class2, Property2, Form, Whole, Prefix, Property, Steps, N1, N2, N3, N4, N5, N6, N7, N8, N9, N10, N12}
use Rattle.normalise.specs.Apart.{Apartness, AreNumbered, IsOfList, different_individuals, disjoint_classes}
use Rattle.normalise.specs.declared.entries.Entry.{Entry}
use Rattle.normalise.specs.declared.made.Made.{Made}

-- the lists that fresh names stand for, by number
abbrev pub Lists : Type 0
Lists = List (List ℕ)

abbrev pub SaysClass : Lists → code_class.Class2 → Class2 → Type 0
SaysClass operands (classes.Expr e) c = c ≡ Whole e.0
SaysClass operands (classes.Partial n) c = (ds : List ℕ) × (slice_get operands n ≡ Some ds) × (c ≡ Prefix ds)

abbrev pub SaysProperty : Lists → code_property.PropId2 → Property2 → Type 0
SaysProperty steps (properties.Property p) q = q ≡ Property p.0
SaysProperty steps (properties.Partial n) q = (rs : List ℕ) × (slice_get steps n ≡ Some rs) × (q ≡ Steps rs)

-- by the lists of operands and of steps, the form is g
abbrev pub Says : Lists → Lists → code_form.Form → Form → Type 0
Says t u (forms.N1 a b) g = (x : Class2) × (y : Class2) × SaysClass t a x × SaysClass t b y × (g ≡ N1 x y)
Says t u (forms.N2 a b c) g = (x : Class2) × (y : Class2) × (z : Class2) × SaysClass t a x × SaysClass t b y × SaysClass t c z × (g ≡ N2 x y z)
Says t u (forms.N3 a r b) g = (x : Class2) × SaysClass t a x × (g ≡ N3 x r.0 b.0)
Says t u (forms.N4 r a b) g = (x : Class2) × (y : Class2) × SaysClass t a x × SaysClass t b y × (g ≡ N4 r.0 x y)
Says t u (forms.N5 r s) g = g ≡ N5 r.0 s.0
Says t u (forms.N6 p q r) g = (x : Property2) × (y : Property2) × (z : Property2) × SaysProperty u p x × SaysProperty u q y × SaysProperty u r z × (g ≡ N6 x y z)
Says t u (forms.N7 r) g = g ≡ N7 r.0
Says t u (forms.N8 i a) g = (x : Class2) × SaysClass t a x × (g ≡ N8 i.0 x)
Says t u (forms.N9 a r b) g = g ≡ N9 a.0 r.0 b.0
Says t u (forms.N10 a b) g = g ≡ N10 a.0 b.0
Says t u (forms.N12 a r b) g = g ≡ N12 a.0 r.0 b.0

-- the n-th form is g, of that origin
abbrev pub IsAt : List Entry → Lists → Lists → ℕ → Origin → Form → Type 0
IsAt entries operands steps n o g = (f : code_form.Form) × (slice_get entries n ≡ Some (record { form = f; origin = o })) × Says operands steps f g

-- each element of the first list stands in the second too, at its place
abbrev pub Keeps : {X : Type 0} → List X → List X → Type 0
Keeps {X} xs ys = (n : ℕ) (x : X) → slice_get xs n ≡ Some x → slice_get ys n ≡ Some x

-- the second list keeps each element of the first at its place, and nothing stands twice in it, where nothing does in the first
pub record Lengthens {X : Type 0} (xs ys : List X) : Type 0 where
  pub keeps : Keeps xs ys
  pub distinct : AreDistinct xs → AreDistinct ys

-- the second has the lists of the first, with the same numbers and axioms; each list that the first has not has an axiom, too; and there are
-- as many axioms as lists, where there are in the first
pub record KeepsApart (a b : Apartness) : Type 0 where
  pub classes : Keeps a.lists.classes b.lists.classes
  pub individuals : Keeps a.lists.individuals b.lists.individuals
  pub disjoint_axioms : Keeps a.disjoint_axioms b.disjoint_axioms
  pub different_axioms : Keeps a.different_axioms b.different_axioms
  pub classes_numbered : (l : ℕ) → length a.lists.classes ≤ l → l < length b.lists.classes → (n : ℕ) × (slice_get b.disjoint_axioms l ≡ Some n)
  pub individuals_numbered : (l : ℕ) → length a.lists.individuals ≤ l → l < length b.lists.individuals → (n : ℕ) × (slice_get b.different_axioms l ≡ Some n)
  pub numbered : AreNumbered a.lists a.disjoint_axioms a.different_axioms → AreNumbered b.lists b.disjoint_axioms b.different_axioms

-- ---- what is made

-- where a form can stand: as the entry of that number, or as two members, by their places, of the list of that number
pub data Place : Type 0 where
  AtEntry : (number : ℕ) → Place
  AtClasses : (list first second : ℕ) → Place
  AtIndividuals : (list first second : ℕ) → Place

-- g, of that origin, is held at the place
abbrev pub Listed : Made → Place → Origin → Form → Type 0
Listed s (AtEntry n) o g = IsAt s.entries s.operands s.steps n o g
Listed s (AtClasses l m n) o g = IsOfList disjoint_classes s.apart.lists.classes s.apart.disjoint_axioms l m n o g
Listed s (AtIndividuals l m n) o g = IsOfList different_individuals s.apart.lists.individuals s.apart.different_axioms l m n o g

-- the place is behind all entries, or behind all lists of its kind
abbrev pub IsBehind : Made → Place → Type 0
IsBehind s (AtEntry n) = length s.entries ≤ n
IsBehind s (AtClasses l _ _) = length s.apart.lists.classes ≤ l
IsBehind s (AtIndividuals l _ _) = length s.apart.lists.individuals ≤ l

-- one of the forms has the prefix last
abbrev pub HasClass : (Origin → Form → Type 0) → List ℕ → Type 0
HasClass G ds = (o : Origin) × (a : Class2) × (b : Class2) × G o (N2 a b (Prefix ds))

abbrev pub HasProperty : (Origin → Form → Type 0) → List ℕ → Type 0
HasProperty G rs = (o : Origin) × (p : Property2) × (q : Property2) × G o (N6 p q (Steps rs))

-- t is s with more forms, by entries or by lists of what is apart: those that G has, and no others, each once; and with more fresh names,
-- each of what one of these forms has last
pub record Adds (s t : Made) (G : Origin → Form → Type 0) : Type 0 where
  pub entries : Keeps s.entries t.entries
  pub apart : KeepsApart s.apart t.apart
  pub operands : Lengthens s.operands t.operands
  pub steps : Lengthens s.steps t.steps
  pub says : (n : ℕ) → length s.entries ≤ n → n < length t.entries → (o : Origin) × ((g : Form) × Listed t (AtEntry n) o g)
  pub each : (p : Place) (o : Origin) (g : Form) → IsBehind s p → Listed t p o g → G o g
  pub all : (o : Origin) (g : Form) → G o g → (p : Place) × IsBehind s p × Listed t p o g
  pub once : (p q : Place) (o : Origin) (g : Form) → IsBehind s p → IsBehind s q → Listed t p o g → Listed t q o g → p ≡ q
  pub classes : (n : ℕ) (ds : List ℕ) → slice_get t.operands n ≡ Some ds → (slice_get s.operands n ≡ Some ds) ⊎ HasClass G ds
  pub properties : (n : ℕ) (rs : List ℕ) → slice_get t.steps n ≡ Some rs → (slice_get s.steps n ≡ Some rs) ⊎ HasProperty G rs

-- a form alone
abbrev pub IsOne : Origin → Form → Origin → Form → Type 0
IsOne p f o g = (o ≡ p) × (g ≡ f)

-- what F says of that origin
abbrev pub From : Origin → (Form → Type 0) → Origin → Form → Type 0
From p F o g = (o ≡ p) × F g

-- what F says of a number below k
abbrev pub Below : (ℕ → Form → Type 0) → ℕ → Form → Type 0
Below F k g = (n : ℕ) × (n < k) × F n g

-- the class is that of the first operands, which are one, or two or more
abbrev pub StartsClass : Lists → code_class.Class2 → List ℕ → Type 0
StartsClass operands (classes.Expr e) ds = ds ≡ e.0 ∷ []
StartsClass operands (classes.Partial n) ds = (slice_get operands n ≡ Some ds) × (2 ≤ length ds)

abbrev pub StartsProperty : Lists → code_property.PropId2 → List ℕ → Type 0
StartsProperty steps (properties.Property p) rs = rs ≡ p.0 ∷ []
StartsProperty steps (properties.Partial n) rs = (slice_get steps n ≡ Some rs) × (2 ≤ length rs)

-- the number of a fresh name
abbrev pub class_number : code_class.Class2 → Option ℕ
class_number (classes.Expr e) = None
class_number (classes.Partial n) = Some n

abbrev pub property_number : code_property.PropId2 → Option ℕ
property_number (properties.Property p) = None
property_number (properties.Partial n) = Some n
