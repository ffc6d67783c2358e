-- What rows say of facts.
use Rattle.std.proofs.Common.{◌≡◌, ◌↔◌, ℕ, ◌<◌, ◌≤◌, List, length, get_or, slice_get, Some, All, Contains, refl, sym, ap, ◌∙◌, subst}
use Rattle.std.proofs.lemmas.List.Elements.{Contains-get_or}
use Rattle.std.proofs.lemmas.Option.{same_Some, slice_get-get_or, slice_get_within}
use Rattle.axioms.specs.Ontology.{Ontology}
use Rattle.certificate.specs.Writability.{AreElements, Ascends, IsNamedClass}
use Rattle.cert_check.proofs.ListedRows.{HasMember, listed_member}
use Rattle.closure.specs.Closure.{Context, In, IsFact}
use Rattle.closure.specs.Denotations.{Prefixes, context_of}
use Rattle.engine.specs.Saturations.{SayTheClosure}
use Rattle.facts.specs.declared.contexts.Fact as code_fact
use Rattle.facts.specs.declared.contexts.Fact.TheVariants as facts
use Rattle.normal_forms.specs.declared.forms.Class2.TheVariants as classes
use Rattle.normal_forms.specs.Forms.{Whole}
use Rattle.countermodel.proofs.Facts.{code_of, code_of-is, whole_said}
use Rattle.countermodel.proofs.Listing.{same_code}
use Rattle.countermodel.specs.Members.{IsOwnClass, AreRowsBy, SayMembers, expr_id}
use Rattle.countermodel.specs.MemberRows.{AreClassRows}

module _ (o : Ontology) (asked : List ℕ) (b : Prefixes) (elements : List Context) (list : List code_fact.Fact) (says : SayTheClosure o asked b list) (Has : ℕ → ℕ → Type 0) (members : SayMembers o elements list Has) where
  -- the elements are those whose contexts have the class
  listed_fact : (e m : ℕ) (x : Context) → IsOwnClass o e → slice_get elements m ≡ Some x → Has e m ↔ IsFact o asked (In (Whole e) x)
  listed_fact e m x own at = (
    λ c.
        let (fact, there, (_, (y, is, at_y))) = (members e m).0 c in
        let same : y ≡ code_of x = same_code y (code_of x) (same_Some (context_of y) x (sym at_y ∙ at) ∙ sym (code_of-is x)) in
        let said : fact ≡ facts.In (classes.Expr (expr_id e)) (code_of x) = is ∙ ap (facts.In (classes.Expr (expr_id e))) same in
        (whole_said o asked b list says (expr_id e) x).0 (subst (Contains list) said there),
    λ f.
        let there = (whole_said o asked b list says (expr_id e) x).1 f in
        (members e m).1 (facts.In (classes.Expr (expr_id e)) (code_of x), there, (own, (code_of x, refl, at ∙ ap Some (sym (code_of-is x))))),
  )

  within_elements : (e m : ℕ) → Has e m → IsOwnClass o e × (m < length elements)
  within_elements e m c =
      let (fact, there, (own, (y, is, at))) = (members e m).0 c in
      (own, slice_get_within elements m (context_of y) at)

  pub rows_are : (rows : List (ℕ × List ℕ)) → AreRowsBy Has rows → AreClassRows o asked elements rows
  rows_are rows are = record {
    within = λ k d l. row_within (get_or rows k d) (are.each k (get_or rows k d) (slice_get-get_or rows k d l));
    ascend = are.ascend;
    exact = λ c e m x node high at.
        let fact = listed_fact e m x (high, (c, node)) at in
        let in_rows = listed_member rows are.ascend e m in
        let in_list = has_member e m in
        (λ h. fact.0 (in_list.0 (in_rows.0 h)), λ f. in_rows.1 (in_list.1 (fact.1 f)));
  }
    where
      row_within : (row : ℕ × List ℕ) → (0 < length row.1) × Ascends row.1 × ((m : ℕ) → Contains row.1 m ↔ Has row.0 m) → IsNamedClass o row.0 × (2 ≤ row.0) × AreElements (length elements) row.1
      row_within row (some, up, same) =
          let first = within_elements row.0 (get_or row.1 0 0) ((same (get_or row.1 0 0)).0 (Contains-get_or row.1 0 0 some)) in
          let inside : All (λ m. m < length elements) row.1 = λ k d l. (within_elements row.0 (get_or row.1 k d) ((same (get_or row.1 k d)).0 (Contains-get_or row.1 k d l))).1 in
          (first.0.1, first.0.0, record { some = some; within = inside; ascend = up })

      has_member : (e m : ℕ) → HasMember rows e m ↔ Has e m
      has_member e m = (
        λ (k, row, at, (key, c)). subst (λ i. Has i m) key (((are.each k row at).2 m).0 c),
        λ c.
            let (k, row, at, key) = are.all e m c in
            (k, row, at, (key, ((are.each k row at).2 m).1 (subst (λ i. Has i m) (sym key) c))),
      )
