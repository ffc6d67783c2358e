use Rattle.std.proofs.Common.{◌≡◌, ℕ, List, length, map, sym, ap, ◌∙◌, subst}
use Rattle.std.proofs.lemmas.List.{length-map}
use Rattle.axioms.specs.Fronts.{Extends, front_of, lengths_of}
use Rattle.axioms.specs.Ontology.{Ontology}
use Rattle.axioms.specs.View.{axiom_of}
use Rattle.axioms.specs.WellFormedness.{IsOntology}
use Rattle.axioms.specs.declared.lengths.Lengths.{Lengths}
use Rattle.axioms.specs.declared.terms.Axiom.{Axiom}
use Rattle.entailment.proofs.Stated.{about_whole, front}
use Rattle.entailment.specs.Testers.{with_axioms_of}
use Rattle.entailment.proofs.following.about.Goals as goal

-- as much as that, and so many axioms
abbrev with_count : Lengths → ℕ → Lengths
with_count l n = record { classes = l.classes; properties = l.properties; individuals = l.individuals; expressions = l.expressions; axioms = n }

cut : (known stated copy : Ontology) (l : Lengths) (axioms : List Axiom) → Extends known stated → IsOntology known → IsOntology stated → l ≡ lengths_of stated → map axiom_of axioms ≡ known.axioms → copy ≡ stated
    → front_of (with_count l (length axioms)) copy ≡ with_axioms_of known stated
cut known stated copy l axioms more w whole lengths are same =
    let many : length axioms ≡ length known.axioms = sym (length-map axioms axiom_of) ∙ ap length are in
    ap (λ (m : Lengths). front_of (with_count m (length axioms)) copy) lengths
    ∙ ap (λ n. front_of (with_count (lengths_of stated) n) copy) many
    ∙ ap (λ (o : Ontology). front_of (with_count (lengths_of stated) (length known.axioms)) o) same
    ∙ front known stated more w whole

pub truncate-requires : goal.truncate-requires
truncate-requires c =
    subst IsOntology (sym (cut c.args.known.now c.args.stated.now c.in_ok-about.about c.lengths-classes.result c.axioms.result.now c.requires c.well_formed-2.ensures c.well_formed-3.ensures c.lengths-classes.ensures c.axioms.ensures c.in_ok-about.ensures))
    (about_whole c.args.known.now c.args.stated.now c.requires c.well_formed-2.ensures c.well_formed-3.ensures)

pub returns : goal.returns
returns c =
    c.truncate.ensures
    ∙ cut c.args.known.now c.args.stated.now c.in_ok-about.about c.lengths-classes.result c.axioms.result.now c.requires c.well_formed-2.ensures c.well_formed-3.ensures c.lengths-classes.ensures c.axioms.ensures c.in_ok-about.ensures
