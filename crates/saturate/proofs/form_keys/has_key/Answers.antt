use Rattle.std.proofs.Common.{◌↔◌, IsTrue, subst}
use Rattle.std.specs.List.{Contains}
use Rattle.std.specs.Result.{is_ok}
use Rattle.saturate.specs.FormKeys.{FormKey}
use Rattle.saturate.proofs.FormKeys.{found_there}
use Rattle.saturate.proofs.form_keys.has_key.Goals as goal

pub returns : goal.returns
returns c =
    let there = found_there c.args.keys.now c.form_key.result c.binary_search.result c.requires c.binary_search.ensures.bound c.binary_search.ensures.position in
    rw c.is_ok.ensures.value (subst (λ (key : FormKey). IsTrue (is_ok c.binary_search.result) ↔ Contains c.args.keys.now key) c.form_key.ensures there)
