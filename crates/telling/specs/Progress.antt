-- Progress that is told, a line for each stage.
use Rattle.std.specs.Prelude.{◌≡◌, ◌⊎◌, ◌++◌, ℕ, List, [], ◌∷◌, Bool, true, false, codes}
use Rattle.std.specs.Fmt.{decimal}
use Rattle.telling.specs.Devices.{Device, FailsIn, Takes}
use Rattle.telling.specs.declared.progress.Stage.{Stage}
use Rattle.telling.specs.declared.progress.Stage.TheVariants.{Drawn, Made, Read, TextsRead, Written}

-- two numbers, with words before, between and behind them
abbrev pub counted : (before : List ℕ) (first : ℕ) (between : List ℕ) (second : ℕ) (behind : List ℕ) → List ℕ
counted before first between second behind = before ++ (decimal first ++ (between ++ (decimal second ++ behind)))

-- the line of a stage
abbrev pub stage_text : Stage → List ℕ
stage_text (Read bytes axioms) = counted (codes "read: bytes ") bytes (codes " axioms ") axioms (codes "\n")
stage_text (Drawn facts pending) = counted (codes "drawn: facts ") facts (codes " pending ") pending (codes "\n")
stage_text (Made lines bytes) = counted (codes "made: certificate lines ") lines (codes " bytes ") bytes (codes "\n")
stage_text (Written taxonomy certificate) = counted (codes "written: taxonomy bytes ") taxonomy (codes " certificate bytes ") certificate (codes "\n")
stage_text (TextsRead taxonomy instances) = counted (codes "read: taxonomy bytes ") taxonomy (codes " instances bytes ") instances (codes "\n")

-- where progress is told, the line of the stage goes out, or the sink fails in it; where it is not, nothing goes out
abbrev pub IsStageTold : (told : Bool) → Stage → (old new : Device) → Type 0
IsStageTold false stage old new = new ≡ old
IsStageTold true stage old new = Takes old new (stage_text stage) ⊎ FailsIn old new (stage_text stage)

-- the stages are told one behind the other
abbrev pub AreStagesTold : List Stage → (old new : Device) → Type 0
AreStagesTold [] old new = new ≡ old
AreStagesTold (stage ∷ stages) old new = (mid : Device) × IsStageTold true stage old mid × AreStagesTold stages mid new

-- where progress is told, the lines of some stages go out, and nothing else; where it is not, nothing
abbrev pub IsProgress : (told : Bool) → (old new : Device) → Type 0
IsProgress false old new = new ≡ old
IsProgress true old new = (stages : List Stage) × AreStagesTold stages old new
