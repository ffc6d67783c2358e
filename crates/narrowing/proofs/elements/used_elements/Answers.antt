use Rattle.std.proofs.Common.{ℕ, List, Contains, sym, subst}
use Rattle.narrowing.proofs.Ordered.{Ascends-from_pairs}
use Rattle.narrowing.proofs.Standing.{stands_from, stands_to}
use Rattle.narrowing.proofs.elements.used_elements.Goals as goal

pub returns-clause-ascend : goal.returns-clause-ascend
returns-clause-ascend c = Ascends-from_pairs c.sort_ascending.new.list.items c.sort_ascending.ensures.ascending

pub returns-clause-exact : goal.returns-clause-exact
returns-clause-exact c = λ x.
    let gathered = c.in_ok-elements.ensures in
    let same = c.sort_ascending.ensures.same x in (
      λ h. stands_from c.args.listed.now x (subst (λ (xs : List ℕ). Contains xs x) gathered (same.0 h)),
      λ h. same.1 (subst (λ (xs : List ℕ). Contains xs x) (sym gathered) (stands_to c.args.listed.now x h)),
    )
