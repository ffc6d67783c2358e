-- Reading all tokens.
use Rattle.std.proofs.Common.{ℕ, Bool, true, false, List, [], ◌∷◌, Option, Some, None}
use Rattle.fs_lexer.specs.Spelling.{Token}
use Rattle.fs_parser.specs.Name.{Prefixes}
use Rattle.fs_parser.specs.Tree.{Tree}
use Rattle.fs_parser.specs.Machine.{State, start, step, ends, finish}
use Rattle.fs_parser.proofs.Names.{name_of}

abbrev pub then_run : Option State → (State → Option (List Tree)) → Option (List Tree)
then_run None f = None
then_run (Some s) f = f s

abbrev pub run : ℕ → Prefixes → List Token → State → Option (List Tree)
run limit prefixes [] s = finish s
run limit prefixes (t ∷ ts) s = then_run (step limit (name_of prefixes t) s t) (run limit prefixes ts)

-- the trees of a list of tokens, in which at most so many parentheses are open at once
abbrev pub read : ℕ → Prefixes → List Token → Option (List Tree)
read limit prefixes tokens = run limit prefixes tokens start

-- the trees at a closing parenthesis, with which the tokens have to end; where it does not stand, the other
abbrev pub closed_or : Bool → List Token → State → Option (List Tree) → Option (List Tree)
closed_or true [] s other = finish s
closed_or true (t ∷ ts) s other = None
closed_or false ts s other = other

abbrev pub inside : ℕ → Prefixes → List Token → State → Option (List Tree)
inside limit prefixes [] s = None
inside limit prefixes (t ∷ ts) s = closed_or (ends s t) ts s (then_run (step limit (name_of prefixes t) s t) (inside limit prefixes ts))
