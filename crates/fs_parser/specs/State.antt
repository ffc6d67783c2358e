-- The code's state as the machine's, and what a step of the code says of one of the machine.
use Rattle.std.specs.Prelude.{◌≡◌, ℕ, List, [], ◌∷◌, ◌++◌, Option, Some, None, map, Result, Ok, Err}
use Rattle.std.specs.Borrow.{Bor}
use Rattle.fs_parser.specs.declared.fault.ParseFault.{ParseFault}
use Rattle.fs_parser.specs.declared.fault.ParseFault.TheVariants as faults
use Rattle.fs_parser.specs.declared.reader.Pending as code_pending
use Rattle.fs_parser.specs.declared.reader.Pending.TheVariants as pendings
use Rattle.fs_parser.specs.declared.reader.Frame as code_frame
use Rattle.fs_parser.specs.declared.reader.State as code_state
use Rattle.fs_parser.specs.declared.iri.Iri as code_iri
use Rattle.fs_parser.specs.Machine as machine
use Rattle.fs_parser.specs.Tree.{Tree}
use Rattle.fs_parser.specs.View.{iri_of, tree_of}

abbrev pub keyword_of : Option (Bor (List ℕ)) → Option (List ℕ)
keyword_of None = None
keyword_of (Some k) = Some k.now

abbrev pub name_of_code : Option code_iri.Iri → Option (List ℕ)
name_of_code None = None
name_of_code (Some i) = Some (iri_of i)

abbrev pub pending_of : code_pending.Pending → machine.Pending
pending_of pendings.Nothing = machine.Nothing
pending_of (pendings.Word at keyword) = machine.Word at keyword.now
pending_of (pendings.Text at text) = machine.Text at text.now
pending_of (pendings.Typed at text) = machine.Typed at text.now

abbrev pub frame_of : code_frame.Frame → machine.Frame
frame_of f = record { at = f.at; keyword = keyword_of f.keyword; before = map tree_of f.before.items }

-- the newest first
abbrev pub frames_of : List code_frame.Frame → List machine.Frame
frames_of [] = []
frames_of (f ∷ fs) = frames_of fs ++ frame_of f ∷ []

abbrev pub frames_in : code_state.State → List machine.Frame
frames_in s = frames_of s.frames.items

abbrev pub trees_in : code_state.State → List Tree
trees_in s = map tree_of s.done.items

abbrev pub state_of : code_state.State → machine.State
state_of s = machine.state (frames_in s) (trees_in s) (pending_of s.pending)

-- any fault but that memory ran out
abbrev pub IsRefusal : ParseFault → Type 0
IsRefusal faults.Memory = ⊥
IsRefusal _ = Unit {0}

-- What a call returned, seen by view, is what the machine gives, unless memory ran out.
abbrev pub Fails : {Y : Type 0} → ParseFault → Option Y → Type 0
Fails faults.Memory o = Unit {0}
Fails _ o = o ≡ None

abbrev pub Gives : {X Y : Type 0} → (X → Y) → Result X ParseFault → Option Y → Type 0
Gives view (Ok x) o = o ≡ Some (view x)
Gives view (Err e) o = Fails e o

-- the call left the state that the machine gives, unless memory ran out
abbrev pub Leaves : code_state.State → Result (Unit {0}) ParseFault → Option machine.State → Type 0
Leaves s result o = Gives (λ _. state_of s) result o

abbrev pub whole_of : ℕ → Option (List ℕ) → List Tree → Tree
whole_of = machine.whole
