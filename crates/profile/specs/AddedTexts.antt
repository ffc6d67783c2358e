-- Texts that stand alone, with the prefixes of a document: axioms and declarations by which an ontology grows, and class
-- expressions over its names.
use Rattle.std.specs.Prelude.{ℕ, List}
use Rattle.axioms.specs.Ontology.{Ontology}
use Rattle.fs_lexer.specs.Spelling.{Token, Spells}
use Rattle.fs_parser.specs.FaultMeanings.{IsSaidOfTrees}
use Rattle.fs_parser.specs.Faults.{last_place}
use Rattle.fs_parser.specs.Name.{Prefixes}
use Rattle.fs_parser.specs.State.{IsRefusal}
use Rattle.fs_parser.specs.Tree.{Tree, Trees, AreShallow, IsShallow}
use Rattle.fs_parser.specs.declared.fault.ParseFault.{ParseFault}
use Rattle.program.specs.declared.version.Version.{Version}
use Rattle.profile.specs.Faults.{SpellNoTokens}
use Rattle.profile.specs.Growth.{AreAddedAs, IsAddedAs, RefusesExpression, RefusesStatements}
use Rattle.profile.specs.declared.acceptance.Refusal.{Refusal}
use Rattle.profile.specs.declared.acceptance.Refusal.TheVariants as refusing
use Rattle.profile.specs.declared.fault.DocumentFault.{DocumentFault}
use Rattle.profile.specs.declared.fault.DocumentFault.TheVariants.{NotUtf8, TooLarge, Io, Lex, Parse, Faults, TooManyNames, Memory}

-- ---- axioms and declarations

-- the text is these trees and nothing else, in which at most 64 parentheses are open at once
pub record AreStatementsOf (prefixes : Prefixes) (text : List ℕ) (trees : Trees) : Type 0 where
  pub tokens : List Token
  pub spelled : Spells text tokens
  pub are : AreShallow 64 prefixes trees tokens

-- the text is trees that are added to the old ontology
pub record IsAddedText (version : Version) (prefixes : Prefixes) (text : List ℕ) (old new : Ontology) : Type 0 where
  pub trees : Trees
  pub text_is : AreStatementsOf prefixes text trees
  pub added : AreAddedAs version old trees new

-- the tokens of the text are no such trees, and what the fault says of its place in the text holds
pub record AreNoStatements (prefixes : Prefixes) (text : List ℕ) (fault : ParseFault) : Type 0 where
  pub refusal : IsRefusal fault
  pub tokens : List Token
  pub spelled : Spells text tokens
  pub none : (trees : Trees) → AreShallow 64 prefixes trees tokens → ⊥
  pub said : IsSaidOfTrees 64 (last_place tokens) prefixes tokens fault

-- the text is trees that cannot be added to the old ontology, for what the refusal says
pub record IsNotAdded (version : Version) (prefixes : Prefixes) (text : List ℕ) (old : Ontology) (refusal : Refusal) : Type 0 where
  pub trees : Trees
  pub text_is : AreStatementsOf prefixes text trees
  pub refused : RefusesStatements version refusal old trees

-- what the fault says of the text that was to be added. There is none of the source, nor of the number of bytes
abbrev pub RefusesAddition : Version → Prefixes → List ℕ → Ontology → DocumentFault → Type 0
RefusesAddition version prefixes text old (Lex fault) = SpellNoTokens text fault
RefusesAddition version prefixes text old (Parse fault) = AreNoStatements prefixes text fault
RefusesAddition version prefixes text old (Faults found) = IsNotAdded version prefixes text old (refusing.Faults found)
RefusesAddition version prefixes text old TooManyNames = IsNotAdded version prefixes text old refusing.TooManyNames
RefusesAddition version prefixes text old Memory = Unit {0}
RefusesAddition version prefixes text old (NotUtf8 at) = ⊥
RefusesAddition version prefixes text old TooLarge = ⊥
RefusesAddition version prefixes text old Io = ⊥

-- ---- a class expression

-- the text is this tree and nothing else, in which at most 63 parentheses are open at once
pub record IsExpressionOf (prefixes : Prefixes) (text : List ℕ) (tree : Tree) : Type 0 where
  pub tokens : List Token
  pub spelled : Spells text tokens
  pub is : IsShallow 63 prefixes tree tokens

-- the text is a class expression over names of the old ontology, and has this number in the new one, which has it and no new
-- name or axiom
pub record IsReadExpression (version : Version) (prefixes : Prefixes) (text : List ℕ) (old new : Ontology) (number : ℕ) : Type 0 where
  pub tree : Tree
  pub text_is : IsExpressionOf prefixes text tree
  pub added : IsAddedAs version old tree new number

-- the tokens of the text are no such tree, and what the fault says of its place in the text holds
pub record IsNoExpression (prefixes : Prefixes) (text : List ℕ) (fault : ParseFault) : Type 0 where
  pub refusal : IsRefusal fault
  pub tokens : List Token
  pub spelled : Spells text tokens
  pub none : (tree : Tree) → IsShallow 63 prefixes tree tokens → ⊥
  pub said : IsSaidOfTrees 63 (last_place tokens) prefixes tokens fault

-- the text is a tree that is no class expression over names of the old ontology, for what the refusal says
pub record IsNotRead (version : Version) (prefixes : Prefixes) (text : List ℕ) (old : Ontology) (refusal : Refusal) : Type 0 where
  pub tree : Tree
  pub text_is : IsExpressionOf prefixes text tree
  pub refused : RefusesExpression version refusal old tree

-- what the fault says of the text that was to be read. An expression brings no name, so there are not too many
abbrev pub RefusesReading : Version → Prefixes → List ℕ → Ontology → DocumentFault → Type 0
RefusesReading version prefixes text old (Lex fault) = SpellNoTokens text fault
RefusesReading version prefixes text old (Parse fault) = IsNoExpression prefixes text fault
RefusesReading version prefixes text old (Faults found) = IsNotRead version prefixes text old (refusing.Faults found)
RefusesReading version prefixes text old Memory = Unit {0}
RefusesReading version prefixes text old TooManyNames = ⊥
RefusesReading version prefixes text old (NotUtf8 at) = ⊥
RefusesReading version prefixes text old TooLarge = ⊥
RefusesReading version prefixes text old Io = ⊥
