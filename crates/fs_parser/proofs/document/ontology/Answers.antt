use Rattle.std.proofs.Common.{◌≡◌, ◌∷◌, [], List, ap, ◌∙◌, refl, inr, arith}
use Rattle.std.proofs.lemmas.Result.{err_from_is_err_and, IfErr-weaker}
use Rattle.fs_lexer.specs.Spelling.{Token}
use Rattle.fs_lexer.specs.Views.{token_of}
use Rattle.fs_parser.specs.KnownPrefixes.{known_of}
use Rattle.fs_parser.specs.FaultMeanings.{IsSaid, IsSaidOfTrees}
use Rattle.fs_parser.specs.View.{tokens_of, prefixes_of_code}
use Rattle.fs_parser.proofs.Faults.{plain_said, trees_said}
use Rattle.fs_parser.proofs.document.ontology.Goals as goal

pub returns-in_err-_opening-clause-said : goal.returns-in_err-_opening-clause-said
returns-in_err-_opening-clause-said c =
    let p = err_from_is_err_and c.from_residual-in_err-_opening.result c.from_residual-in_err-_opening.ensures.1 in
    let found = c.in_ok-rest.ensures.found in
    rw (p.1, p.2) (plain_said c.args.here (prefixes_of_code c.args.known.now.declared.items) (found.token ∷ []) (tokens_of c.in_ok-rest.rest.now) (tokens_of c.args.tokens.now)
    c.in_err-_opening.field-0.0 found.tokens_are (inr (omega arith)) c.in_err-_opening.ensures.said)

pub returns-clause-said : goal.returns-clause-said
returns-clause-said c =
    let declared = prefixes_of_code c.args.known.now.declared.items in
    let all = tokens_of c.args.tokens.now in
    let inside = tokens_of c.in_ok-_opening.rest.now in
    let found = c.in_ok-rest.ensures.found in
    let t : Token = found.token in
    let u : Token = token_of c.in_ok-_opening._opening in
    let e : all ≡ t ∷ u ∷ inside = found.tokens_are ∙ ap (λ (z : List Token). t ∷ z) c.in_ok-_opening.ensures.found in
    IfErr-weaker c.trees_inside.result (IsSaidOfTrees 64 c.args.here (known_of c.args.known.now) inside) (IsSaid c.args.here declared all)
    (λ f s. trees_said c.args.here declared all t u inside f e (found.kind, found.text) c.in_ok-_opening.ensures.kind s) c.trees_inside.ensures.said

pub returns-in_err-rest-clause-said : goal.returns-in_err-rest-clause-said
returns-in_err-rest-clause-said c =
    let p = err_from_is_err_and c.from_residual.result c.from_residual.ensures.1 in
    rw (p.1, p.2) (plain_said c.args.here (prefixes_of_code c.args.known.now.declared.items) [] (tokens_of c.args.tokens.now) (tokens_of c.args.tokens.now)
    c.in_err-rest.field-0.0 refl (inr (omega arith)) c.in_err-rest.ensures.said)
