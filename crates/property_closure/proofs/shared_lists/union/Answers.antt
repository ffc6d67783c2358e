use Rattle.std.proofs.Common.{◌++◌, inl, inr, List, Contains, get_or, sym, ap, ◌∙◌, subst}
use Rattle.std.proofs.lemmas.List.Elements.{Contains-append_cases, Contains-append_left, Contains-append_right}
use Rattle.normal_forms.specs.declared.forms.PropId2.{PropId2}
use Rattle.property_closure.proofs.ChainLists.{less_before}
use Rattle.property_closure.proofs.shared_lists.union.Goals as goal

pub returns : goal.returns
returns c =
    let first = c.args.first.now in
    let second = c.args.second.now in
    let list = c.sort_ascending.new.list.items in
    let is = c.in_ok-extend_from_slice-2.ensures.items ∙ ap (λ (l : List PropId2). l ++ first) (c.in_ok-extend_from_slice.ensures.items ∙ ap (λ (l : List PropId2). l ++ second) c.in_ok-list.ensures.items) in record {
      ascending = λ i j d l k. less_before (get_or list i d) (get_or list j d) (c.sort_ascending.ensures.ascending i j d l k);
      exact = λ q. (
        λ h. elim (Contains-append_cases second first q (subst (λ (l : List PropId2). Contains l q) is ((c.sort_ascending.ensures.same q).0 h))) [ inl b ↦ inr b | inr a ↦ inl a ],
        λ h. (c.sort_ascending.ensures.same q).1 (subst (λ (l : List PropId2). Contains l q) (sym is) (elim h [
          | inl a ↦ Contains-append_right second first q a
          | inr b ↦ Contains-append_left second first q b
        ])),
      );
    }
