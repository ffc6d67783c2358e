use Rattle.std.proofs.Common.{List, ◌++◌, ◌∷◌, [], map, ap, sym, subst, ◌∙◌}
use Rattle.std.proofs.lemmas.List.{map_push}
use Rattle.certificate.specs.Certificate.{Conclusion}
use Rattle.certificate.specs.View.{line_of}
use Rattle.cert_check.specs.View.{said_of}
use Rattle.cert_check.specs.Tests.{AreTested}
use Rattle.cert_check.proofs.OneMore.{shown_more}
use Rattle.cert_check.proofs.derivation.TestedLines.add.Goals as goal

pub returns : goal.returns
returns c = λ lines k.
    let o = c.args.ontology.now in
    let old = c.args.self.now in
    let line = c.args.line.now in
    let same = ap (map said_of) c.in_ok-push.ensures.items ∙ map_push said_of old.said.items c.of.result ∙ ap (λ (a : Conclusion). map said_of old.said.items ++ a ∷ []) c.of.ensures in
    record {
      tested = subst (λ (said : List Conclusion). AreTested o (lines ++ line_of line ∷ []) said c.in_ok-self.field-0) (sym same) (c.in_ok-self.ensures lines k.tested);
      shown = shown_more o lines (line_of line) old.is_contradictory c.is_contradictory_with-self.result old.above c.put_below.new.lists old.types c.put_into.new.lists k.shown
          (c.is_contradictory_with-self.ensures lines k.shown.contradiction) c.in_ok-put_below.ensures c.in_ok-put_into.ensures;
    }
