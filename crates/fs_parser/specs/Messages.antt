-- How a fault is printed.
use Rattle.std.specs.Prelude.{ℕ, List, ◌++◌, codes}
use Rattle.std.specs.Fmt.{decimal}
use Rattle.fs_parser.specs.declared.fault.ParseFault.{ParseFault}
use Rattle.fs_parser.specs.declared.fault.ParseFault.TheVariants.{Unexpected, UnexpectedEnd, UnknownPrefix, PrefixTwice, StandardPrefixChanged, TooDeep, Memory}

-- its code and its place
abbrev pub fault_text : ParseFault → List ℕ
fault_text (Unexpected at) = codes "P1 at byte " ++ decimal at
fault_text (UnexpectedEnd at) = codes "P2 at byte " ++ decimal at
fault_text (UnknownPrefix at) = codes "P3 at byte " ++ decimal at
fault_text (PrefixTwice at) = codes "P4 at byte " ++ decimal at
fault_text (StandardPrefixChanged at) = codes "P5 at byte " ++ decimal at
fault_text (TooDeep at) = codes "P6 at byte " ++ decimal at
fault_text Memory = codes "out of memory"
