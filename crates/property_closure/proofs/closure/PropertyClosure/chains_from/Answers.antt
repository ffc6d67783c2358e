use Rattle.std.proofs.Common.{List, Contains, ◌↔◌, sym, ap, ◌∙◌, subst}
use Rattle.std.specs.List.{AllPairs}
use Rattle.normal_forms.specs.Properties.{ChainComesBefore, IsChainFrom}
use Rattle.property_closure.specs.Chains.{chains_at}
use Rattle.property_closure.specs.PropertyClosures.{known_by}
use Rattle.property_closure.specs.declared.chains.Chains.{Chains}
use Rattle.property_closure.proofs.ChainLists.{Chain}
use Rattle.property_closure.proofs.Keeping.{chains_within, none_there}
use Rattle.property_closure.proofs.closure.PropertyClosure.chains_from.Goals as goal

pub returns : goal.returns
returns c =
    let related = c.self.inside.related in
    let p = c.args.p in
    let w = c.self.invariant.related in
    let is = c.from.ensures ∙ ap (λ (chains : Chains). chains_at chains p) c.as_ref.ensures in
    let known = known_by c.self.inside in
    rw (← c.self.view_is) (record {
      ascending = subst (AllPairs ChainComesBefore) (sym is) (w.chains p).ascending;
      exact = λ x. subst (λ (list : List Chain). Contains list x ↔ IsChainFrom known.forms p x) (sym is) ((w.chains p).exact x);
      out = λ no. is ∙ none_there _ (λ x h. no (chains_within known.properties known.partials known.forms w.within p x (((w.chains p).exact x).0 h)));
    })
