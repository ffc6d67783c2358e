use Rattle.std.proofs.Common.{◌≡◌, ◌++◌, ℕ, List, ap, ap₂, sym, ◌∙◌}
use Rattle.std.specs.Prelude.{codes}
use Rattle.std.specs.Fmt.{decimal}
use Rattle.std.proofs.lemmas.List.{append-nil}
use Rattle.axioms.specs.Ontology.{name_at}
use Rattle.answer_texts.specs.Names.{name_text, line_feed}
use Rattle.answer_texts.specs.Refutation as text
use Rattle.answer_texts.proofs.Expressions.{four_pieces}
use Rattle.answer_texts.proofs.More.{on_ok}
use Rattle.answer_texts.proofs.refutation.push_individual.Goals as goal

pub returns : goal.returns
returns c =
    let names = c.args.ontology.now.names in
    let out = c.args.out.now.items in
    let begin = codes "individual " in
    let name = name_text (name_at names.individuals c.args.individual) in
    let number = codes " " ++ decimal c.args.element in
    let two : c.push_name.new.out.items ≡ (out ++ begin) ++ name =
    c.in_ok-push_name.ensures
    ∙ ap₂ (λ (x : List ℕ) (ns : List (List ℕ)). x ++ name_text (name_at ns c.args.individual)) c.in_ok-extend_from_slice.ensures.items c.individuals.ensures.names in
    let three : c.push_number.new.out.items ≡ ((out ++ begin) ++ name) ++ number = c.in_ok-push_number.ensures ∙ ap (λ (x : List ℕ). x ++ number) two in
    let whole : c.push_number.new.out.items ++ line_feed ≡ out ++ text.individual_text names (c.args.individual, c.args.element) =
    ap (λ (x : List ℕ). x ++ line_feed) three
    ∙ four_pieces out begin name number line_feed
    ∙ ap (λ (t : List ℕ). out ++ (((begin ++ name) ++ t) ++ line_feed)) (sym (append-nil number)) in
    on_ok c.extend_from_slice-2.result c.extend_from_slice-2.new.self.items c.push_number.new.out.items line_feed
    (out ++ text.individual_text names (c.args.individual, c.args.element)) c.extend_from_slice-2.ensures.items whole
