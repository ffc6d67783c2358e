-- How a fault is printed.
use Rattle.std.specs.Prelude.{ℕ, List, ◌++◌, codes}
use Rattle.std.specs.Fmt.{decimal}
use Rattle.shapes.specs.Faults.{Fault, RefusedConstruct, UnknownKeyword, WrongShape, RepeatedOperand, ReservedName, AnonymousIndividual, UnknownName}

-- its code and its place, and the keyword where that is wrong
abbrev pub fault_text : Fault → List ℕ
fault_text (RefusedConstruct at keyword) = codes "F1 at byte " ++ (decimal at ++ (codes ": " ++ keyword))
fault_text (UnknownKeyword at keyword) = codes "F2 at byte " ++ (decimal at ++ (codes ": " ++ keyword))
fault_text (WrongShape at) = codes "F3 at byte " ++ decimal at
fault_text (RepeatedOperand at) = codes "F4 at byte " ++ decimal at
fault_text (ReservedName at) = codes "F5 at byte " ++ decimal at
fault_text (AnonymousIndividual at) = codes "F6 at byte " ++ decimal at
fault_text (UnknownName at) = codes "F8 at byte " ++ decimal at
