use Rattle.std.proofs.Common.{◌≡◌, ◌++◌, ℕ, List, ap, sym, ◌∙◌}
use Rattle.std.specs.Prelude.{codes}
use Rattle.std.proofs.lemmas.Result.{on_ok_weaker}
use Rattle.certificate.specs.Certificate.{Individual}
use Rattle.certificate.specs.View.{conclusion_of}
use Rattle.answer_texts.specs.Proof as text
use Rattle.answer_texts.proofs.Expressions.{four_pieces}
use Rattle.answer_texts.proofs.proof.push_conclusion.Goals as goal

pub returns-in_ok-extend_from_slice-in-Same-2 : goal.returns-in_ok-extend_from_slice-in-Same-2
returns-in_ok-extend_from_slice-in-Same-2 c =
    let o = c.args.ontology.now in
    let out = c.args.out.now.items in
    let first = text.subject_text o (Individual c.in-Same.first.0) in
    let second = text.subject_text o (Individual c.in-Same.second.0) in
    let one : c.push_subject-in-Same.new.out.items ≡ (out ++ codes "same ") ++ first =
    c.in_ok-push_subject-in-Same.ensures ∙ ap (λ (x : List ℕ). x ++ first) c.in_ok-extend_from_slice-in-Same.ensures.items in
    let behind : c.extend_from_slice-in-Same-2.new.self.items ≡ ((out ++ codes "same ") ++ first) ++ codes " " =
    c.in_ok-extend_from_slice-in-Same-2.ensures.items ∙ ap (λ (x : List ℕ). x ++ codes " ") one in
    let whole : c.extend_from_slice-in-Same-2.new.self.items ++ second ≡ out ++ text.conclusion_text o (conclusion_of c.args.conclusion) =
    ap (λ (x : List ℕ). x ++ second) behind
    ∙ four_pieces out (codes "same ") first (codes " ") second
    ∙ ap (λ conclusion. out ++ text.conclusion_text o (conclusion_of conclusion)) (sym c.in-Same.is) in
    on_ok_weaker c.push_subject-in-Same-2.result (λ e. e ∙ whole) c.push_subject-in-Same-2.ensures
