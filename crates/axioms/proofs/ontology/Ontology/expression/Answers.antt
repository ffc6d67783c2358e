use Rattle.std.proofs.Common.{length, map, sym, subst, arith}
use Rattle.std.proofs.lemmas.List.{length-map}
use Rattle.axioms.specs.Growth.{Numbers}
use Rattle.axioms.specs.Fields.{kept_ontology}
use Rattle.axioms.specs.View.{node_of}
use Rattle.axioms.specs.WellFormedness.{IsNodeOf}
use Rattle.axioms.specs.contracts.terms.ExprPartialEq.TheImpl.{ghosts}
use Rattle.axioms.proofs.Growing.{grown_node, keeps_numbers}
use Rattle.axioms.proofs.Keeping.{number_below}
use Rattle.axioms.proofs.Insertions.{inserted, same_expr}
use Rattle.axioms.proofs.ontology.Ontology.expression.Goals as goal
use Rattle.axioms.proofs.ontology.Ontology.expression.Goals.{In_ok-number}

numbers : (c : In_ok-number) → Numbers (map node_of c.self.inside.expressions.keys) (node_of c.args.expr) (map node_of c.insert.new.self.keys) c.in_ok-number.number
numbers c = inserted ghosts.eq node_of same_expr c.args.expr c.self.inside.expressions.keys _ c.in_ok-number.number c.in_ok-number.ensures.keys c.in_ok-number.ensures.stored

pub invariant_of-self-2 : goal.invariant_of-self-2
invariant_of-self-2 c =
    let o = kept_ontology c.self.inside in
    let fits = subst (λ p. IsNodeOf p (length p.nodes) (node_of c.args.expr)) (sym c.self.view_is) c.requires in
    record {
      ontology = grown_node o c.self.invariant.ontology (node_of c.args.expr) fits _ c.in_ok-number.number (numbers c);
      bounded = record {
        classes = c.self.invariant.bounded.classes;
        properties = c.self.invariant.bounded.properties;
        individuals = c.self.invariant.bounded.individuals;
        expressions = omega (arith, (number_below o.nodes (node_of c.args.expr) _ c.in_ok-number.number (numbers c)).1, length-map c.self.inside.expressions.keys node_of);
        axioms = c.self.invariant.bounded.axioms;
      };
      long = c.self.invariant.long;
      each = λ k e g. keeps_numbers o.nodes (node_of c.args.expr) _ c.in_ok-number.number (numbers c) e.0 _ (c.self.invariant.each k e g);
    }

pub returns-clause-ok : goal.returns-clause-ok
returns-clause-ok c = rw (← c.self.view_is) (numbers c)
