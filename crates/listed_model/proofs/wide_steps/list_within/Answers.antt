use Rattle.std.proofs.Common.{get_or, sym, ◌∙◌, refl, true≢false}
use Rattle.std.proofs.lemmas.List.Elements.{Contains-get_or}
use Rattle.number_sets.specs.Members.{has}
use Rattle.listed_model.proofs.Extensions.{list_all_member, list_all_from}
use Rattle.listed_model.proofs.Members.{holds_from_Contains, Contains_from_holds}
use Rattle.listed_model.proofs.wide_steps.list_within.Goals as goal

pub returns-then-not-are_in-clause-within : goal.returns-then-not-are_in-clause-within
returns-then-not-are_in-clause-within c =
    let ends = c.args.ends.now in (
      λ e. absurd (true≢false (sym e)),
      λ h. sym c.if-not-are_in.true ∙ c.are_in.ensures ∙ list_all_from (has c.args.members.now) ends (λ k d l. h (get_or ends k d) (holds_from_Contains ends (get_or ends k d) (Contains-get_or ends k d l))),
    )

pub returns-then-covering-clause-within : goal.returns-then-covering-clause-within
returns-then-covering-clause-within c = (
  λ _ y t. list_all_member (has c.args.members.now) c.args.ends.now y (Contains_from_holds c.args.ends.now y t) (sym c.are_in.ensures ∙ c.if-not-are_in.false),
  λ _. refl,
)

pub returns-else-covering-clause-within : goal.returns-else-covering-clause-within
returns-else-covering-clause-within c = (
  λ _ y t. list_all_member (has c.args.members.now) c.args.ends.now y (Contains_from_holds c.args.ends.now y t) (sym c.are_in.ensures ∙ c.if-not-are_in.false),
  λ _. refl,
)
