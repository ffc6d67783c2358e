-- What trees without faults state can be said.
use Rattle.std.proofs.Common.{◌≤◌, ap, ◌∙◌, subst}
use Rattle.shapes.specs.Shapes.{takes}
use Rattle.statements_text.specs.Terms.{Term, HasSpelling, term_depth}
use Rattle.statements_text.specs.Theorems.{TreesCanBeSaid}
use Rattle.statements_text.proofs.Rows.{stated_is}

pub trees_said : TreesCanBeSaid
trees_said version t s h e =
    let i = stated_is version t h s e in (
      i.said_is.term_is,
      λ spelled shallow. record {
        spelled = subst HasSpelling i.said_is.term_is spelled;
        taken = ap (takes version) i.said_is.since_is ∙ i.taken;
        sound = i.said_is.sound;
        shallow = subst (λ (x : Term). term_depth x ≤ 64) i.said_is.term_is shallow;
      },
    )
