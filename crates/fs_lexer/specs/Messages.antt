-- How a fault is printed.
use Rattle.std.specs.Prelude.{ℕ, List, ◌++◌, codes}
use Rattle.std.specs.Fmt.{decimal}
use Rattle.fs_lexer.specs.declared.token.LexFault.{LexFault}
use Rattle.fs_lexer.specs.declared.token.LexFault.TheVariants.{BadByte, OpenString, OpenIri, WordsTouch, Memory}

-- its code and its place
abbrev pub fault_text : LexFault → List ℕ
fault_text (BadByte at) = codes "X1 at byte " ++ decimal at
fault_text (OpenString at) = codes "X2 at byte " ++ decimal at
fault_text (OpenIri at) = codes "X3 at byte " ++ decimal at
fault_text (WordsTouch at) = codes "X4 at byte " ++ decimal at
fault_text Memory = codes "out of memory"
