use Rattle.std.proofs.Common.{sym, subst}
use Rattle.axioms.specs.Fronts.{front_of}
use Rattle.axioms.specs.WellFormedness.{IsOntology}
use Rattle.axioms.specs.declared.ontology.Ontology.TheInside.{Inside}
use Rattle.axioms.proofs.Fronts.{cut_is, cut_kept}
use Rattle.axioms.proofs.ontology.Ontology.truncate.Goals as goal
use Rattle.axioms.proofs.ontology.Ontology.truncate.Goals.{After-truncate-6}

abbrev cut : (c : After-truncate-6) → Inside
cut c = record c.self.inside {
  classes = c.truncate.new.self;
  properties = c.truncate-2.new.self;
  individuals = c.truncate-3.new.self;
  expressions = c.truncate-4.new.self;
  class_expressions = c.truncate-5.new.self;
  axioms = c.truncate-6.new.self;
}

pub invariant_of-self : goal.invariant_of-self
invariant_of-self c =
    cut_kept c.args.lengths c.self.inside (cut c) c.truncate.ensures c.truncate-2.ensures c.truncate-3.ensures c.truncate-4.ensures c.truncate-6.ensures.items c.self.invariant c.truncate-5.ensures.items
    (subst (λ o. IsOntology (front_of c.args.lengths o)) (sym c.self.view_is) c.requires)

pub returns : goal.returns
returns c =
    rw (← c.self.view_is)
    (cut_is c.args.lengths c.self.inside (cut c) c.truncate.ensures c.truncate-2.ensures c.truncate-3.ensures c.truncate-4.ensures c.truncate-6.ensures.items)
