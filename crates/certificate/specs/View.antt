-- The code's lines and rows as those of the definitions.
use Rattle.std.specs.Prelude.{ℕ, List, [], ◌∷◌, map, option_map}
use Rattle.std.specs.declared.option.Option.{Option}
use Rattle.certificate.specs.Certificate as certificate
use Rattle.certificate.specs.declared.line.Subject.{Subject}
use Rattle.certificate.specs.declared.line.Subject.TheVariants.{Expr, Individual}
use Rattle.certificate.specs.declared.line.Conclusion.{Conclusion}
use Rattle.certificate.specs.declared.line.Conclusion.TheVariants.{Sub, Edge, Same}
use Rattle.certificate.specs.declared.line.Line.{Line}
use Rattle.certificate.specs.declared.listed.ClassRow.{ClassRow}
use Rattle.certificate.specs.declared.listed.Targets.{Targets}
use Rattle.certificate.specs.declared.listed.Targets.TheVariants as targets
use Rattle.certificate.specs.declared.listed.PairRow.{PairRow}
use Rattle.certificate.specs.declared.listed.Claim.{Claim}
use Rattle.certificate.specs.declared.listed.Listed.{Listed}
use Rattle.certificate.specs.declared.run.Run.{Run}
use Rattle.certificate.specs.declared.listed_runs.ListedRuns.{ListedRuns}
use Rattle.certificate.specs.Held.{held_class, held_pairs, held_listing}
use Rattle.certificate.specs.Runs as runs

abbrev pub subject_of : Subject → certificate.Subject
subject_of (Expr e) = certificate.Expression e.0
subject_of (Individual a) = certificate.Individual a.0

abbrev pub conclusion_of : Conclusion → certificate.Conclusion
conclusion_of (Sub x c) = certificate.Sub (subject_of x) c.0
conclusion_of (Edge x r y) = certificate.Edge (subject_of x) r.0 (subject_of y)
conclusion_of (Same a b) = certificate.Same a.0 b.0

abbrev pub line_of : Line → certificate.Line
line_of l = record { conclusion = conclusion_of l.conclusion; rule = l.rule; axiom' = l.axiom; premises = l.premises.items }

abbrev pub lines_of : List Line → List certificate.Line
lines_of ls = map line_of ls

abbrev pub class_row_of : ClassRow → ℕ × List ℕ
class_row_of c = (c.class.0, c.elements.items)

abbrev pub targets_in : Targets → List ℕ
targets_in (targets.One y) = y ∷ []
targets_in (targets.Many ys) = ys.items

abbrev pub pair_row_of : PairRow → ℕ × ℕ × List ℕ
pair_row_of p = (p.property.0, p.source, targets_in p.targets)

-- .. with the elements that they hold
abbrev pub held_row : ClassRow → ℕ × List ℕ
held_row c = held_class (class_row_of c)

abbrev pub held_pair_row : PairRow → ℕ × ℕ × List ℕ
held_pair_row p = held_pairs (pair_row_of p)

abbrev pub run_of : Run → runs.Run
run_of run = record { first = run.first; last = run.last }

abbrev pub claim_of : Claim → ℕ × ℕ
claim_of c = (c.class.0, c.element)

abbrev pub listed_of : Listed → certificate.Listed
listed_of l = record {
  domain = l.domain;
  classes = map class_row_of l.classes.items;
  pairs = map pair_row_of l.pairs.items;
  individuals = l.individuals.items;
  claims = map claim_of l.claims.items;
}

-- .. with the elements that its rows hold
abbrev pub listing_of : ListedRuns → certificate.Listed
listing_of l = held_listing (listed_of l.rows)

-- the certificate of these lines and of this interpretation, if there is one
abbrev pub certificate_from : List Line → Option Listed → certificate.Certificate
certificate_from lines listed = record { lines = lines_of lines; listed = option_map listed_of listed }
