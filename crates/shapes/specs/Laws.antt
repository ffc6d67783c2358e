-- What holds of keywords and trees.
use Rattle.std.specs.Prelude.{◌≡◌, ℕ, List, [], ◌∷◌, ◌&&◌, not, true, false, codes}
use Rattle.fs_parser.specs.Tree.{Tree}
use Rattle.shapes.specs.Keywords.{is_known, is_one_of, is_refused, refused_keywords}
use Rattle.shapes.specs.TreeEquality.{same_tree}
use Rattle.program.specs.declared.version.Version.{Version}
use Rattle.program.specs.declared.version.Version.TheVariants.{One, Two}

-- no keyword is both refused and known
abbrev pub KeywordsAreApart : Type 0
KeywordsAreApart = (version : Version) (keyword : List ℕ) → is_refused version keyword ≡ true → is_known version keyword ≡ false

-- the first version refuses each of the list
abbrev pub TheFirstRefusesAll : Type 0
TheFirstRefusesAll = (keyword : List ℕ) → is_refused One keyword ≡ is_one_of refused_keywords keyword

-- the keywords that the second version has and the first has not
abbrev pub second_keywords : List (List ℕ)
second_keywords = codes "SameIndividual" ∷ codes "DifferentIndividuals" ∷ codes "NegativeObjectPropertyAssertion" ∷ []

-- the second version refuses each of the list but these
abbrev pub TheSecondRefusesAllOthers : Type 0
TheSecondRefusesAllOthers = (keyword : List ℕ) → is_refused Two keyword ≡ (is_one_of refused_keywords keyword && not (is_one_of second_keywords keyword))

-- a tree equals itself
abbrev pub EachTreeIsItself : Type 0
EachTreeIsItself = (t : Tree) → same_tree t t ≡ true
