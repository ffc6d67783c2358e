-- How a fault is printed, and the status that goes with it.
use Rattle.std.specs.Prelude.{ℕ, List, [], ◌∷◌, ◌++◌, codes, flat_map}
use Rattle.std.specs.Fmt.{decimal}
use Rattle.profile.specs.declared.fault.DocumentFault.{DocumentFault}
use Rattle.profile.specs.declared.fault.DocumentFault.TheVariants.{NotUtf8, TooLarge, Io, Lex, Parse, Faults, TooManyNames, Memory}
use Rattle.fs_lexer.specs.Messages as lexer
use Rattle.fs_parser.specs.Messages as parser
use Rattle.program.specs.declared.status.Status.{Status}
use Rattle.program.specs.declared.status.Status.TheVariants as statuses
use Rattle.shapes.specs.Messages as shapes
use Rattle.shapes.specs.View.{fault_of}
use Rattle.shapes.specs.declared.fault.Fault.{Fault}

-- behind a line of a fault, that of the next
abbrev pub later_line : Fault → List ℕ
later_line fault = codes "\n" ++ shapes.fault_text (fault_of fault)

-- faults of a document's trees, each on a line of its own
abbrev pub lines : List Fault → List ℕ
lines [] = []
lines (first ∷ later) = shapes.fault_text (fault_of first) ++ flat_map later_line later

-- a code, and a place where there is one
abbrev pub fault_text : DocumentFault → List ℕ
fault_text (NotUtf8 at) = codes "U1 at byte " ++ decimal at
fault_text TooLarge = codes "U2"
fault_text Io = codes "U3"
fault_text (Lex fault) = lexer.fault_text fault
fault_text (Parse fault) = parser.fault_text fault
fault_text (Faults found) = lines found.items
fault_text TooManyNames = codes "A2"
fault_text Memory = codes "out of memory"

abbrev pub status_of : DocumentFault → Status
status_of TooLarge = statuses.Limit
status_of TooManyNames = statuses.Limit
status_of Io = statuses.File
status_of Memory = statuses.Memory
status_of fault = statuses.Refused
