use Rattle.std.proofs.lemmas.Option.{MatchOption-at_some}
use Rattle.saturate.specs.FormKeys.{AreKeysOf}
use Rattle.saturate.proofs.earlier_forms.EarlierForms.has.Goals as goal

pub returns-in-Some : goal.returns-in-Some
returns-in-Some c =
    let form = c.args.form in
    let keys = c.in-Some.keys.items in
    let are_keys : AreKeysOf c.self.inside.problem.now.forms keys = MatchOption-at_some _ _ c.in-Some.keys c.in-Some.is c.self.invariant in
    let found = rw c.deref.ensures.value at c.has_key.ensures in
    rw (← c.self.view_is) (
      λ yes. (are_keys.1 form).0 (found.0 yes),
      λ there. found.1 ((are_keys.1 form).1 there),
    )
