-- Of each group of individuals the least leads.
use Rattle.std.proofs.Common.{◌≡◌, ◌↔◌, ℕ, ◌≤◌, Bool, true, false, List, [], ◌∷◌, cond, refl, sym, ap, subst, arith}
use Rattle.std.specs.List.{filter}
use Rattle.axioms.specs.Ontology.{Ontology}
use Rattle.axioms.specs.declared.ids.IndId.{IndId}
use Rattle.normal_forms.specs.declared.forms.Form.{Form}
use Rattle.facts.specs.Closure as numbered
use Rattle.facts.specs.Closure.{Problem}
use Rattle.closure.specs.Closure.{Context, Expression, Individual}
use Rattle.closure.specs.Denotations.{Prefixes, IsProblemOf}
use Rattle.closure.specs.Groups.{least_same}
use Rattle.closure.proofs.Groups.{and_then, turned, same_as_least, is_least}
use Rattle.closure.proofs.Said.{same_said, same_sayer}
use Rattle.exactness.specs.ListedInterpretation.{Leads}
use Rattle.indexes.specs.Groups.{is_link, links}
use Rattle.indexes.proofs.Grouping.{links_suffice}
use Rattle.countermodel.specs.Leading.{AreGroupsOf, LeadsBy}

-- what was left out once is left out
again : (p : Form → Bool) (xs : List Form) → filter p xs ≡ filter p (filter p xs)
again p [] = refl
again p (x ∷ xs) = go (p x) refl (again p xs)
  where
    go : (b : Bool) → p x ≡ b → filter p xs ≡ filter p (filter p xs) → cond b (x ∷ filter p xs) (filter p xs) ≡ filter p (cond b (x ∷ filter p xs) (filter p xs))
    go true h rest = rw h (ap (λ ys. x ∷ ys) rest)
    go false h rest = rest

pub are_groups : (o : Ontology) (asked : List ℕ) (b : Prefixes) (k : Problem) → IsProblemOf o asked b k → (groups : List Form) → groups ≡ links k.forms → AreGroupsOf o asked groups
are_groups o asked b k problem groups is = subst (AreGroupsOf o asked) (sym is) (record {
  links = again is_link k.forms;
  same = λ i j. (let all = links_suffice k.forms i j in (λ s. same_said o asked b k problem (all.0 s), λ s. all.1 (same_sayer o asked b k problem s)));
})

-- ---- the least of a group

-- the least of the group of an individual
pub record IsLeastBy (groups : List Form) (a least : IndId) : Type 0 where
  pub same : numbered.AreSame groups a least
  pub low : (b : IndId) → numbered.AreSame groups a b → least.0 ≤ b.0

-- an individual leads where it is that
pub leads_itself : (groups : List Form) (a least : IndId) → IsLeastBy groups a least → (least.0 ≡ a.0) ↔ LeadsBy groups (Individual a.0)
leads_itself groups a least is = (
  λ e b same. omega (arith, is.low b same, e),
  λ leads. omega (arith, is.low a numbered.itself, leads least is.same),
)

module _ (o : Ontology) (asked : List ℕ) (groups : List Form) (of : AreGroupsOf o asked groups) where
  pub leads_by : (x : Context) → LeadsBy groups x ↔ Leads o asked x
  leads_by (Expression e) = (λ h. tt, λ h. tt)
  leads_by (Individual a) = (
    λ h b same. h (record { 0 = b }) ((of.same (record { 0 = a }) (record { 0 = b })).1 same),
    λ h b same. h b.0 ((of.same (record { 0 = a }) b).0 same),
  )

  pub least_is : (a least : IndId) → IsLeastBy groups a least → least.0 ≡ least_same o a.0
  least_is a least is =
      let other : IndId = record { 0 = least_same o a.0 } in
      let above : least.0 ≤ least_same o a.0 = is.low other ((of.same a other).1 (same_as_least o asked a.0)) in
      let below : least_same o a.0 ≤ least.0 = is_least o asked a.0 least.0 (and_then (turned (same_as_least o asked a.0)) ((of.same a least).0 is.same)) in
      omega (arith, above, below)
