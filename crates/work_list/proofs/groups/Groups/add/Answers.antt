use Rattle.std.proofs.Common.{◌∙◌, Result, Ok, Err, OnErr}
use Rattle.work_list.proofs.groups.Groups.add.Goals as goal

in_any_case : {A E P : Type 0} (r : Result A E) → P → OnErr r P
in_any_case (Ok x) h = tt
in_any_case (Err e) h = h

pub returns-in_err-make_free-clause-err : goal.returns-in_err-make_free-clause-err
returns-in_err-make_free-clause-err c = in_any_case c.from_residual.result ((c.make_free.ensures.chains c.self.inside.heads.items c.self.invariant).1 ∙ c.self.view_is)

pub returns-clause-ok : goal.returns-clause-ok
returns-clause-ok c =
    rw (← c.self.view_is) rw (← (c.make_free.ensures.chains c.self.inside.heads.items c.self.invariant).1) c.put.ensures.list
