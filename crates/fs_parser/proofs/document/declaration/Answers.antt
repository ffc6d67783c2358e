use Rattle.std.proofs.Common.{◌≡◌, ◌∷◌, [], List, ap, ◌∙◌, refl, inr, arith}
use Rattle.std.proofs.lemmas.Result.{err_from_is_err_and}
use Rattle.fs_lexer.specs.Spelling.{Token}
use Rattle.fs_lexer.specs.Views.{token_of}
use Rattle.fs_parser.specs.Faults.{closes}
use Rattle.fs_parser.specs.KnownPrefixes.{known_of}
use Rattle.fs_parser.specs.View.{tokens_of, prefixes_of_code}
use Rattle.fs_parser.proofs.Documents.{allowed_from, declared_iri}
use Rattle.fs_parser.proofs.Faults.{plain_said, name_said, iri_said, open_behind}
use Rattle.fs_parser.proofs.TokenNames.{bracket_run}
use Rattle.fs_parser.proofs.document.declaration.Goals as goal

pub returns-in_err-iri-clause-refused : goal.returns-in_err-iri-clause-refused
returns-in_err-iri-clause-refused c =
    let p = err_from_is_err_and c.from_residual-in_err-iri.result c.from_residual-in_err-iri.ensures.1 in
    let t : Token = c.in_ok-rest.ensures.found.token in
    let u : Token = token_of c.in_ok-_opening._opening in
    let v : Token = token_of c.in_ok-name_token.name_token in
    let w : Token = token_of c.in_ok-_equals._equals in
    let x : Token = token_of c.in_ok-iri_token.iri_token in
    let e : tokens_of c.args.tokens.now ≡ t ∷ u ∷ v ∷ w ∷ x ∷ tokens_of c.in_ok-iri_token.rest.now =
    c.in_ok-rest.ensures.found.tokens_are ∙ ap (λ (z : List Token). t ∷ z) (c.in_ok-_opening.ensures.found ∙ ap (λ (z : List Token). u ∷ z) (c.in_ok-name_token.ensures.found
    ∙ ap (λ (z : List Token). v ∷ z) (c.in_ok-_equals.ensures.found ∙ ap (λ (z : List Token). w ∷ z) c.in_ok-iri_token.ensures.found))) in
    rw p.1 (λ d rest h a.
    let k = declared_iri (prefixes_of_code c.args.known.now.declared.items) d (tokens_of c.args.tokens.now) rest t u v w x (tokens_of c.in_ok-iri_token.rest.now) c.in_ok-name.name.now e c.in_ok-name.ensures.found h a in
    c.in_err-iri.ensures.refused d.1 k.0 k.1)

pub returns-clause-allowed : goal.returns-clause-allowed
returns-clause-allowed c = allowed_from (known_of c.args.known.now) c.in_ok-name.name.now c.in_ok-iri.iri.now c.in_ok-name.ensures.allowed c.in_ok-iri.ensures.allowed

pub returns-in_err-_opening-clause-said : goal.returns-in_err-_opening-clause-said
returns-in_err-_opening-clause-said c =
    let p = err_from_is_err_and c.from_residual-in_err-_opening.result c.from_residual-in_err-_opening.ensures.1 in
    let t : Token = c.in_ok-rest.ensures.found.token in
    let e : tokens_of c.args.tokens.now ≡ t ∷ tokens_of c.in_ok-rest.rest.now = c.in_ok-rest.ensures.found.tokens_are in
    rw (p.1, p.2) (plain_said c.args.here (prefixes_of_code c.args.known.now.declared.items) (t ∷ []) (tokens_of c.in_ok-rest.rest.now) (tokens_of c.args.tokens.now)
    c.in_err-_opening.field-0.0 e (inr (omega arith)) c.in_err-_opening.ensures.said)

pub returns-in_err-name_token-clause-said : goal.returns-in_err-name_token-clause-said
returns-in_err-name_token-clause-said c =
    let p = err_from_is_err_and c.from_residual-in_err-name_token.result c.from_residual-in_err-name_token.ensures.1 in
    let t : Token = c.in_ok-rest.ensures.found.token in
    let u : Token = token_of c.in_ok-_opening._opening in
    let e : tokens_of c.args.tokens.now ≡ t ∷ u ∷ tokens_of c.in_ok-_opening.rest.now = c.in_ok-rest.ensures.found.tokens_are ∙ ap (λ (z : List Token). t ∷ z) c.in_ok-_opening.ensures.found in
    rw (p.1, p.2) (plain_said c.args.here (prefixes_of_code c.args.known.now.declared.items) (t ∷ u ∷ []) (tokens_of c.in_ok-_opening.rest.now) (tokens_of c.args.tokens.now)
    c.in_err-name_token.field-0.0 e (open_behind t u [] c.in_ok-rest.ensures.found.kind c.in_ok-_opening.ensures.kind refl) c.in_err-name_token.ensures.said)

pub returns-in_err-name-clause-said : goal.returns-in_err-name-clause-said
returns-in_err-name-clause-said c =
    let p = err_from_is_err_and c.from_residual-in_err-name.result c.from_residual-in_err-name.ensures.1 in
    let t : Token = c.in_ok-rest.ensures.found.token in
    let u : Token = token_of c.in_ok-_opening._opening in
    let v : Token = token_of c.in_ok-name_token.name_token in
    let e : tokens_of c.args.tokens.now ≡ t ∷ u ∷ v ∷ tokens_of c.in_ok-name_token.rest.now = c.in_ok-rest.ensures.found.tokens_are ∙ ap (λ (z : List Token). t ∷ z) (c.in_ok-_opening.ensures.found ∙ ap (λ (z : List Token). u ∷ z) c.in_ok-name_token.ensures.found) in
    let word = c.in_ok-rest.ensures.found in
    rw (p.1, p.2) (name_said c.args.here (prefixes_of_code c.args.known.now.declared.items) (tokens_of c.args.tokens.now) t u v (tokens_of c.in_ok-name_token.rest.now)
    c.in_err-name.field-0.0 e (word.kind, word.text) c.in_ok-_opening.ensures.kind c.in_ok-name_token.ensures.kind c.in_err-name.ensures.said)

pub returns-in_err-_equals-clause-said : goal.returns-in_err-_equals-clause-said
returns-in_err-_equals-clause-said c =
    let p = err_from_is_err_and c.from_residual-in_err-_equals.result c.from_residual-in_err-_equals.ensures.1 in
    let t : Token = c.in_ok-rest.ensures.found.token in
    let u : Token = token_of c.in_ok-_opening._opening in
    let v : Token = token_of c.in_ok-name_token.name_token in
    let e : tokens_of c.args.tokens.now ≡ t ∷ u ∷ v ∷ tokens_of c.in_ok-name_token.rest.now = c.in_ok-rest.ensures.found.tokens_are ∙ ap (λ (z : List Token). t ∷ z) (c.in_ok-_opening.ensures.found ∙ ap (λ (z : List Token). u ∷ z) c.in_ok-name_token.ensures.found) in
    rw (p.1, p.2) (plain_said c.args.here (prefixes_of_code c.args.known.now.declared.items) (t ∷ u ∷ v ∷ []) (tokens_of c.in_ok-name_token.rest.now) (tokens_of c.args.tokens.now)
    c.in_err-_equals.field-0.0 e (open_behind t u (v ∷ []) c.in_ok-rest.ensures.found.kind c.in_ok-_opening.ensures.kind (let a : closes v.kind ≡ 0 = ap closes c.in_ok-name_token.ensures.kind in omega arith)) c.in_err-_equals.ensures.said)

pub returns-in_err-iri_token-clause-said : goal.returns-in_err-iri_token-clause-said
returns-in_err-iri_token-clause-said c =
    let p = err_from_is_err_and c.from_residual-in_err-iri_token.result c.from_residual-in_err-iri_token.ensures.1 in
    let t : Token = c.in_ok-rest.ensures.found.token in
    let u : Token = token_of c.in_ok-_opening._opening in
    let v : Token = token_of c.in_ok-name_token.name_token in
    let w : Token = token_of c.in_ok-_equals._equals in
    let e : tokens_of c.args.tokens.now ≡ t ∷ u ∷ v ∷ w ∷ tokens_of c.in_ok-_equals.rest.now = c.in_ok-rest.ensures.found.tokens_are ∙ ap (λ (z : List Token). t ∷ z) (c.in_ok-_opening.ensures.found ∙ ap (λ (z : List Token). u ∷ z) (c.in_ok-name_token.ensures.found ∙ ap (λ (z : List Token). v ∷ z) c.in_ok-_equals.ensures.found)) in
    rw (p.1, p.2) (plain_said c.args.here (prefixes_of_code c.args.known.now.declared.items) (t ∷ u ∷ v ∷ w ∷ []) (tokens_of c.in_ok-_equals.rest.now) (tokens_of c.args.tokens.now)
    c.in_err-iri_token.field-0.0 e (open_behind t u (v ∷ w ∷ []) c.in_ok-rest.ensures.found.kind c.in_ok-_opening.ensures.kind (let a : closes v.kind ≡ 0 = ap closes c.in_ok-name_token.ensures.kind in let b : closes w.kind ≡ 0 = ap closes c.in_ok-_equals.ensures.kind in omega arith)) c.in_err-iri_token.ensures.said)

pub returns-in_err-iri-clause-said : goal.returns-in_err-iri-clause-said
returns-in_err-iri-clause-said c =
    let p = err_from_is_err_and c.from_residual-in_err-iri.result c.from_residual-in_err-iri.ensures.1 in
    let t : Token = c.in_ok-rest.ensures.found.token in
    let u : Token = token_of c.in_ok-_opening._opening in
    let v : Token = token_of c.in_ok-name_token.name_token in
    let w : Token = token_of c.in_ok-_equals._equals in
    let x : Token = token_of c.in_ok-iri_token.iri_token in
    let e : tokens_of c.args.tokens.now ≡ t ∷ u ∷ v ∷ w ∷ x ∷ tokens_of c.in_ok-iri_token.rest.now = c.in_ok-rest.ensures.found.tokens_are ∙ ap (λ (z : List Token). t ∷ z) (c.in_ok-_opening.ensures.found ∙ ap (λ (z : List Token). u ∷ z) (c.in_ok-name_token.ensures.found ∙ ap (λ (z : List Token). v ∷ z) (c.in_ok-_equals.ensures.found ∙ ap (λ (z : List Token). w ∷ z) c.in_ok-iri_token.ensures.found))) in
    let word = c.in_ok-rest.ensures.found in
    rw (p.1, p.2) (iri_said c.args.here (prefixes_of_code c.args.known.now.declared.items) (tokens_of c.args.tokens.now) t u v w x (tokens_of c.in_ok-iri_token.rest.now) c.in_ok-name.name.now
    c.in_err-iri.field-0.0 e (word.kind, word.text) c.in_ok-_opening.ensures.kind (c.in_ok-name_token.ensures.kind, c.in_ok-name.ensures.found) c.in_ok-_equals.ensures.kind
    c.in_ok-iri_token.ensures.kind c.in_err-iri.ensures.said)

pub returns-in_err-_closing-clause-said : goal.returns-in_err-_closing-clause-said
returns-in_err-_closing-clause-said c =
    let p = err_from_is_err_and c.from_residual-in_err-_closing.result c.from_residual-in_err-_closing.ensures.1 in
    let t : Token = c.in_ok-rest.ensures.found.token in
    let u : Token = token_of c.in_ok-_opening._opening in
    let v : Token = token_of c.in_ok-name_token.name_token in
    let w : Token = token_of c.in_ok-_equals._equals in
    let x : Token = token_of c.in_ok-iri_token.iri_token in
    let e : tokens_of c.args.tokens.now ≡ t ∷ u ∷ v ∷ w ∷ x ∷ tokens_of c.in_ok-iri_token.rest.now = c.in_ok-rest.ensures.found.tokens_are ∙ ap (λ (z : List Token). t ∷ z) (c.in_ok-_opening.ensures.found ∙ ap (λ (z : List Token). u ∷ z) (c.in_ok-name_token.ensures.found ∙ ap (λ (z : List Token). v ∷ z) (c.in_ok-_equals.ensures.found ∙ ap (λ (z : List Token). w ∷ z) c.in_ok-iri_token.ensures.found))) in
    rw (p.1, p.2) (plain_said c.args.here (prefixes_of_code c.args.known.now.declared.items) (t ∷ u ∷ v ∷ w ∷ x ∷ []) (tokens_of c.in_ok-iri_token.rest.now) (tokens_of c.args.tokens.now)
    c.in_err-_closing.field-0.0 e (open_behind t u (v ∷ w ∷ x ∷ []) c.in_ok-rest.ensures.found.kind c.in_ok-_opening.ensures.kind (let a : closes v.kind ≡ 0 = ap closes c.in_ok-name_token.ensures.kind in let b : closes w.kind ≡ 0 = ap closes c.in_ok-_equals.ensures.kind in let d : closes x.kind ≡ 0 = ap closes c.in_ok-iri_token.ensures.kind in omega arith)) c.in_err-_closing.ensures.said)

pub returns-in_err-rest-clause-said : goal.returns-in_err-rest-clause-said
returns-in_err-rest-clause-said c =
    let p = err_from_is_err_and c.from_residual.result c.from_residual.ensures.1 in
    rw (p.1, p.2) (plain_said c.args.here (prefixes_of_code c.args.known.now.declared.items) [] (tokens_of c.args.tokens.now) (tokens_of c.args.tokens.now)
    c.in_err-rest.field-0.0 refl (inr (omega arith)) c.in_err-rest.ensures.said)

pub invariant_of-result : goal.invariant_of-result
invariant_of-result c =
    let token = c.in_ok-iri_token.iri_token in
    let iri = c.in_ok-iri.iri.now in
    let run = bracket_run token.kind token.text.now iri token.of_kind c.in_ok-iri_token.ensures.kind c.in_ok-iri.ensures.found in
    record { spelled = ∣ record { spelled = run; utf8 = c.in_ok-iri.ensures.utf8 } ∣₁ }
