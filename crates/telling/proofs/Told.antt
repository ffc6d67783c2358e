-- Progress that is told in parts.
use Rattle.std.proofs.Common.{◌∙◌, List, [], ◌∷◌, ◌++◌, Bool, true, false, refl, subst}
use Rattle.telling.specs.Devices.{Device}
use Rattle.telling.specs.Progress.{AreStagesTold, IsProgress, IsStageTold}
use Rattle.telling.specs.declared.progress.Stage.{Stage}

-- nothing that goes out is progress
pub untold : (told : Bool) (d : Device) → IsProgress told d d
untold false d = refl
untold true d = ([], refl)

-- a stage that is told is progress
pub one_stage : (told : Bool) (stage : Stage) (old new : Device) → IsStageTold told stage old new → IsProgress told old new
one_stage false stage old new is = is
one_stage true stage old new is = (stage ∷ [], (new, is, refl))

-- stages behind others
stages_behind : (first second : List Stage) (old mid new : Device) → AreStagesTold first old mid → AreStagesTold second mid new → AreStagesTold (first ++ second) old new
stages_behind [] second old mid new same told = let P : Device → Type 0 = λ d. AreStagesTold second d new in subst P same told
stages_behind (stage ∷ first) second old mid new told later = (told.0, told.1, stages_behind first second told.0 mid new told.2 later)

-- progress behind progress is progress
pub progress_behind : (told : Bool) (old mid new : Device) → IsProgress told old mid → IsProgress told mid new → IsProgress told old new
progress_behind false old mid new first second = second ∙ first
progress_behind true old mid new first second = (first.0 ++ second.0, stages_behind first.0 second.0 old mid new first.1 second.1)
