use Rattle.std.proofs.Common.{◌∙◌, ap}
use Rattle.std.specs.Prelude.{option_map}
use Rattle.fs_parser.specs.View.{prefixes_of_code}
use Rattle.fs_parser.proofs.Indexed.{found_some, found_none}
use Rattle.fs_parser.proofs.known.Known.declared_iri.Goals as goal

pub returns-clause-some : goal.returns-clause-some
returns-clause-some c =
    let e = ap (option_map (λ i. i.now)) (c.copied.ensures ∙ c.get.ensures.value) ∙ c.args.self.now.indexed c.args.name.now in
    found_some (prefixes_of_code c.args.self.now.declared.items) c.args.name.now c.copied.result e

pub returns-clause-none : goal.returns-clause-none
returns-clause-none c =
    let e = ap (option_map (λ i. i.now)) (c.copied.ensures ∙ c.get.ensures.value) ∙ c.args.self.now.indexed c.args.name.now in
    found_none (prefixes_of_code c.args.self.now.declared.items) c.args.name.now c.copied.result e
