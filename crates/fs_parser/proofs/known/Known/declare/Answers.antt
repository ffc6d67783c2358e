use Rattle.std.proofs.Common.{◌∙◌, ap, sym}
use Rattle.std.proofs.lemmas.List.{map_push}
use Rattle.fs_parser.specs.Index.{last_iri}
use Rattle.fs_parser.specs.Name.{Prefixes}
use Rattle.fs_parser.specs.View.{prefix_of, prefixes_of_code}
use Rattle.fs_parser.proofs.Indexed.{indexed_more}
use Rattle.fs_parser.proofs.known.Known.declare.Goals as goal

pub invariant_of-result : goal.invariant_of-result
invariant_of-result c =
    let ps = c.args.self.declared.items in
    let p = c.args.prefix in
    let items = ap prefixes_of_code c.in_ok-push.ensures.items ∙ map_push prefix_of ps p in
    record {
      indexed = λ name.
          indexed_more c.args.self.index c.insert.new.self (prefixes_of_code ps) p.name p.iri c.in_ok-insert.ensures.updates c.args.self.indexed name
          ∙ sym (ap (λ (qs : Prefixes). last_iri qs name) items);
    }
