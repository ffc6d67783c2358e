-- What names and operands have to be, so that what is written has no fault (OWL 2 Structural Specification, sections 2.4, 5.1,
-- 5.3, 5.6, 8 and 9; OWL 2 Profiles, section 2.2).
use Rattle.std.specs.Prelude.{◌≡◌, ◌≤◌, List, [], ◌∷◌, ◌++◌, Bool, true, false, length}
use Rattle.std.specs.List.{list_any}
use Rattle.std.specs.Str.{bytes_eq}
use Rattle.axioms.specs.Axiom.{SubClassOf, EquivalentClasses, DisjointClasses, SubPropertyOf, EquivalentProperties, PropertyDomain, TransitiveProperty, ReflexiveProperty, ClassAssertion, PropertyAssertion, SameIndividuals, DifferentIndividuals, NegativePropertyAssertion}
use Rattle.axioms.specs.Expression.{ClassExpression, Operands, Named, Intersection, SomeValues, Pair, Before, Iri, operand_list}
use Rattle.axioms.specs.Numbering.{Statement, DeclaresClass, DeclaresProperty, DeclaresIndividual, States, same_expression}
use Rattle.program.specs.declared.version.Version.{Version}
use Rattle.shapes.specs.Shapes.{takes}
use Rattle.statements_text.specs.Terms.{HasSpelling, since, statement_term, term_depth}
use Rattle.shapes.specs.Names.{is_class_name, is_reserved}

-- none is the same as one before it
abbrev pub AreApart : {A : Type 0} → (A → A → Bool) → List A → List A → Type 0
AreApart same earlier [] = Unit {0}
AreApart same earlier (x ∷ xs) = (list_any (same x) earlier ≡ false) × AreApart same (earlier ++ x ∷ []) xs

-- its names may be those of classes and properties, and operands of intersections differ
abbrev mutual
  pub IsSound : ClassExpression → Type 0
  IsSound (Named c) = is_class_name c ≡ true
  IsSound (Intersection os) = AreSound os × AreApart same_expression [] (operand_list os)
  IsSound (SomeValues r c) = (is_reserved r ≡ false) × IsSound c

  pub AreSound : Operands → Type 0
  AreSound (Pair c d) = IsSound c × IsSound d
  AreSound (Before c rest) = IsSound c × AreSound rest

-- each of them is so
abbrev pub AllSound : List ClassExpression → Type 0
AllSound [] = Unit {0}
AllSound (c ∷ cs) = IsSound c × AllSound cs

-- none of the names is reserved
abbrev pub AllPlain : List Iri → Type 0
AllPlain [] = Unit {0}
AllPlain (r ∷ rs) = (is_reserved r ≡ false) × AllPlain rs

-- the statement's names may be those of what they name, operands are as many as they have to be, and they differ
abbrev pub IsSoundStatement : Statement → Type 0
IsSoundStatement (DeclaresClass c) = is_class_name c ≡ true
IsSoundStatement (DeclaresProperty r) = is_reserved r ≡ false
IsSoundStatement (DeclaresIndividual a) = is_reserved a ≡ false
IsSoundStatement (States (SubClassOf c d)) = IsSound c × IsSound d
IsSoundStatement (States (EquivalentClasses cs)) = (2 ≤ length cs) × AllSound cs × AreApart same_expression [] cs
IsSoundStatement (States (DisjointClasses cs)) = (2 ≤ length cs) × AllSound cs × AreApart same_expression [] cs
IsSoundStatement (States (SubPropertyOf chain s)) = (1 ≤ length chain) × AllPlain chain × (is_reserved s ≡ false)
IsSoundStatement (States (EquivalentProperties rs)) = (2 ≤ length rs) × AllPlain rs × AreApart bytes_eq [] rs
IsSoundStatement (States (PropertyDomain r c)) = (is_reserved r ≡ false) × IsSound c
IsSoundStatement (States (TransitiveProperty r)) = is_reserved r ≡ false
IsSoundStatement (States (ReflexiveProperty r)) = is_reserved r ≡ false
IsSoundStatement (States (ClassAssertion c a)) = IsSound c × (is_reserved a ≡ false)
IsSoundStatement (States (PropertyAssertion r a b)) = (is_reserved r ≡ false) × (is_reserved a ≡ false) × (is_reserved b ≡ false)
IsSoundStatement (States (SameIndividuals xs)) = (2 ≤ length xs) × AllPlain xs × AreApart bytes_eq [] xs
IsSoundStatement (States (DifferentIndividuals xs)) = (2 ≤ length xs) × AllPlain xs × AreApart bytes_eq [] xs
IsSoundStatement (States (NegativePropertyAssertion r a b)) = (is_reserved r ≡ false) × (is_reserved a ≡ false) × (is_reserved b ≡ false)

-- ---- what can be said

-- the statement can be written so that it is read in the version: its names can be spelled, names and operands are as they have
-- to be, the version takes it, and in it at most 64 parentheses are open at once
pub record IsSayable (version : Version) (s : Statement) : Type 0 where
  pub spelled : HasSpelling (statement_term s)
  pub taken : takes version (since s) ≡ true
  pub sound : IsSoundStatement s
  pub shallow : term_depth (statement_term s) ≤ 64

-- each of them can be said
abbrev pub AllSayable : Version → List Statement → Type 0
AllSayable version [] = Unit {0}
AllSayable version (s ∷ ss) = IsSayable version s × AllSayable version ss
