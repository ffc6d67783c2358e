use Rattle.std.proofs.Common.{◌≡◌, ◌++◌, ℕ, List, OnOk, ap, ◌∙◌, sym, subst}
use Rattle.std.specs.List.{flat_map}
use Rattle.std.proofs.lemmas.List.{append-nil}
use Rattle.inferred_text.specs.Inferred.{contradiction, inferred_axioms}
use Rattle.statements_text.specs.Texts.{statement_line}
use Rattle.inferred_text.proofs.inferred.push_outcome.Goals as goal

pub returns-in-Inconsistent : goal.returns-in-Inconsistent
returns-in-Inconsistent c =
    let push = c.push_contradiction in
    subst (λ (t : List ℕ). OnOk push.result (push.new.out.items ≡ c.args.out.now.items ++ t))
    (sym (append-nil (statement_line contradiction)) ∙ ap (λ o. flat_map statement_line (inferred_axioms c.args.ontology.now.names o)) (sym c.in-Inconsistent.is)) push.ensures
