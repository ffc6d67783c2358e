use Rattle.std.proofs.Common.{ℕ, List, ◌++◌, ◌∷◌, [], ap, ◌∙◌}
use Rattle.std.proofs.lemmas.List.{map-append}
use Rattle.std.proofs.lemmas.List.Elements.{same_from_all_zip}
use Rattle.certificate.specs.View.{line_of, lines_of}
use Rattle.explain.proofs.sink.VecLineLineSink.add.Goals as goal

pub returns-clause-added : goal.returns-clause-added
returns-clause-added c =
    let line = line_of c.args.line.now in
    let copied = same_from_all_zip _ line.premises c.in_ok-premises.premises.items c.in_ok-premises.ensures.cases.0 (λ n m same. same) in
    ap lines_of c.in_ok-push.ensures.items ∙ map-append line_of c.args.self.now.items _ ∙ ap (λ (ns : List ℕ). lines_of c.args.self.now.items ++ record line { premises = ns } ∷ []) copied
