use Rattle.std.proofs.Common.{◌<◌, ℕ, List, All, length, get_or, sym, subst, arith}
use Rattle.std.proofs.lemmas.Option.{slice_get-get_or}
use Rattle.std.proofs.lemmas.Result.{IfOk-weaker}
use Rattle.lemmas.proofs.Members.{Contains-from_slice_get}
use Rattle.answers.proofs.Grouping.{group_is}
use Rattle.answers.proofs.groups.group_of.Goals as goal

pub names_of-requires-clause-within : goal.names_of-requires-clause-within
names_of-requires-clause-within c =
    let classes = c.args.ontology.now.names.classes in
    let same = c.in_ok-same.same.items in
    let each : (k d : ℕ) → k < length same → get_or same k d < length c.classes.result.now = λ k d low.
    let there = Contains-from_slice_get same k (get_or same k d) (slice_get-get_or same k d low) in
    let within = c.requires.within c.in-Some.class (get_or same k d) ((c.in_ok-same.ensures.exact (get_or same k d)).0 there).0 in
    omega (arith, within, c.requires.long, c.classes.ensures.count) in
    subst (λ (xs : List ℕ). All (λ n. n < length c.classes.result.now) xs) (sym c.deref.ensures.value) each

pub returns : goal.returns
returns c =
    IfOk-weaker c.names_of.result _ _
    (λ v those. group_is c.args.ontology.now c.args.lists.now c.args.name.now c.in-Some.class c.in-Some.ensures c.requires.tells c.in_ok-same.same.items c.in_ok-same.ensures.exact _ c.classes.ensures.names c.deref.result.now c.deref.ensures.value _ those)
    c.names_of.ensures
