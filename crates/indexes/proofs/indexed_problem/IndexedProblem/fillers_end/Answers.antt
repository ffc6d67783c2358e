use Rattle.std.proofs.Common.{ℕ, List, Contains, ⊎_elim, subst}
use Rattle.std.proofs.lemmas.Bool.{cases_lt}
use Rattle.lemmas.proofs.Members.{Contains-none}
use Rattle.indexes.proofs.indexed_problem.IndexedProblem.fillers_end.Goals as goal

pub returns : goal.returns
returns c = λ e n. rw (← c.self.view_is) (λ under. ⊎_elim
    (λ low. low)
    (λ ge. absurd (Contains-none n (subst (λ (list : List ℕ). Contains list n) (c.end.ensures e.0 ge) ((c.self.invariant.index.listed.fillers _ n).1 under))))
    (cases_lt e.0 c.end.result))
