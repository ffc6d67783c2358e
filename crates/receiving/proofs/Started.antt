-- A run of a program as it is started.
use Rattle.std.proofs.Common.{◌≡◌, ℕ, List, Result, Ok, Err, subst, inl}
use Rattle.std.specs.Global.{Global, Vec}
use Rattle.std.specs.declared.io.Error.{Error}
use Rattle.std.specs.declared.string.String.{String}
use Rattle.clap.specs.Words.{Text}
use Rattle.device.specs.declared.device.Sink as sinks
use Rattle.receiving.specs.Starts.{AreWordsOf, IsStarted, RunBy, StartsSeeded}

by_words : {F O E : Type 0} (E-sink : sinks.Ghosts E) (Run : RunBy F O E) (words : Result (Vec (String Global)) Error) (given : List Text) (old new : F × O × E) (status : ℕ) → AreWordsOf words given → Run given old new status → IsStarted E-sink Run words old new status
by_words E-sink Run (Ok words) given old new status are run = let P : List Text → Type 0 = λ by. Run by old new status in inl (subst P are run)
by_words E-sink Run (Err fault) given old new status are run = absurd are

-- where there is a seed, a run by the words that the program was called with
pub started : {F O E S : Type 0} (E-sink : sinks.Ghosts E) (Run : RunBy F O E) (state : S) (seed : Result S Error) (words : Result (Vec (String Global)) Error) (given : List Text) (old new : F × O × E) (status : ℕ) → seed ≡ Ok state → AreWordsOf words given → Run given old new status → StartsSeeded E-sink Run seed words old new status
started E-sink Run state (Ok other) words given old new status seeded are run = by_words E-sink Run words given old new status are run
started E-sink Run state (Err fault) words given old new status seeded are run = absurd (cc)
