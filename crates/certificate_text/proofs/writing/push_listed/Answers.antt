use Rattle.std.proofs.Common.{◌≡◌, List, ℕ, ◌++◌, map, ap, sym, ◌∙◌, append_assoc}
use Rattle.std.specs.List.{flat_map, enumerate_from}
use Rattle.std.specs.Prelude.{codes}
use Rattle.std.proofs.lemmas.List.Folds.{flat_map-map}
use Rattle.std.proofs.lemmas.Result.{on_ok_weaker}
use Rattle.certificate.specs.Text.{line_feed, lettered_number, class_text, pairs_text, individual_text, claim_text}
use Rattle.certificate.specs.View.{class_row_of, pair_row_of, claim_of}
use Rattle.certificate_text.proofs.writing.push_listed.Goals as goal

each_seen : {X Y : Type 0} (text : Y → List ℕ) (seen : X → Y) (found rows : List X) → found ≡ rows → flat_map (λ x. text (seen x)) found ≡ flat_map text (map seen rows)
each_seen text seen found rows e = ap (flat_map (λ x. text (seen x))) e ∙ sym (flat_map-map text seen rows)

regrouped : (start d cs ps is ks : List ℕ) → ((((start ++ d) ++ cs) ++ ps) ++ is) ++ ks ≡ start ++ ((((d ++ cs) ++ ps) ++ is) ++ ks)
regrouped start d cs ps is ks = simp append_assoc

-- each part stands behind those before it
in_turn : (start a b c e f d cs ps is ks : List ℕ) → a ≡ start ++ d → b ≡ a ++ cs → c ≡ b ++ ps → e ≡ c ++ is → f ≡ e ++ ks → f ≡ start ++ ((((d ++ cs) ++ ps) ++ is) ++ ks)
in_turn start a b c e f d cs ps is ks domain classes pairs individuals claims =
    claims ∙ ap (λ s. s ++ ks) (individuals ∙ ap (λ s. s ++ is) (pairs ∙ ap (λ s. s ++ ps) (classes ∙ ap (λ s. s ++ cs) domain))) ∙ regrouped start d cs ps is ks

pub returns : goal.returns
returns c =
    let l = c.args.listed.now in
    let format = c.args.format in
    let behind : List ℕ → List ℕ → List ℕ = λ before text. before ++ text in
    on_ok_weaker c.push_each.result
    (λ last. in_turn c.args.out.now.items c.push_domain.new.out.items c.push_class_rows.new.out.items c.push_pair_rows.new.out.items c.push_individuals.new.out.items c.push_each.new.out.items
    (lettered_number (codes "domain ") l.domain ++ line_feed) (flat_map (class_text format) (map class_row_of l.classes.items)) (flat_map (pairs_text format) (map pair_row_of l.pairs.items))
    (flat_map individual_text (enumerate_from 0 l.individuals.items)) (flat_map claim_text (map claim_of l.claims.items))
    c.in_ok-push_domain.ensures
    (c.in_ok-push_class_rows.ensures ∙ ap (λ xs. c.push_domain.new.out.items ++ flat_map (class_text format) (map class_row_of xs)) c.deref.ensures.value)
    (c.in_ok-push_pair_rows.ensures ∙ ap (λ xs. c.push_class_rows.new.out.items ++ flat_map (pairs_text format) (map pair_row_of xs)) c.deref-2.ensures.value)
    (c.in_ok-push_individuals.ensures ∙ ap (λ (xs : List ℕ). c.push_pair_rows.new.out.items ++ flat_map individual_text (enumerate_from 0 xs)) c.deref-3.ensures.value)
    (last ∙ ap (behind c.push_individuals.new.out.items) (each_seen claim_text claim_of c.deref-4.result.now l.claims.items c.deref-4.ensures.value)))
    c.push_each.ensures
