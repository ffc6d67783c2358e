use Rattle.std.proofs.Common.{◌≡◌, ◌<◌, length, arith, option_map, sym, subst}
use Rattle.axioms.proofs.Fronts.{extends_self}
use Rattle.fs_parser.specs.View.{tree_of}
use Rattle.shapes.specs.TreeStatements.{stated}
use Rattle.shapes.specs.View.{faults_of}
use Rattle.profile.specs.Intake.{AreTaken, taken}
use Rattle.profile.proofs.Takings.{fits, none_found, some_found, taken_faulty, taken_full, taken_more}
use Rattle.profile.proofs.ontology_reader.OntologyReader.take.Goals.{then-not-is_empty-via-then-not-is_empty, then-not-is_empty-via-else-not-is_empty+then-self}
use Rattle.profile.proofs.ontology_reader.OntologyReader.take.Goals as goal

pub returns-then-not-is_empty-clause-taken : goal.returns-then-not-is_empty-clause-taken
returns-then-not-is_empty-clause-taken c = λ start trees h.
    let i = c.self.inside in
    let old = taken i.version (faults_of i.found.items) i.place i.is_full i.builder in
    let found = c.part_faults.new.found.items in
    let so_far : AreTaken start trees old = subst (AreTaken start trees) (sym c.self.view_is) h in
    elim c.then-not-is_empty.branch [
      | then-not-is_empty-via-then-not-is_empty w ↦
          let some : 0 < length found = grind arith in
          taken_faulty old (tree_of c.args.tree.now) (faults_of found) c.in_ok-place.place c.in_ok-place.ensures.found c.in_ok-place.ensures.behind start trees so_far i.is_full i.builder (some_found found some)
      | then-not-is_empty-via-else-not-is_empty+then-self w ↦
          taken_full old (tree_of c.args.tree.now) (faults_of found) c.in_ok-place.place c.in_ok-place.ensures.found c.in_ok-place.ensures.behind start trees so_far i.builder w.if-self.true
    ]

pub overflows-requires : goal.overflows-requires
overflows-requires c =
    let i = c.self.inside in
    let found = c.part_faults.new.found.items in
    let none : length found ≡ 0 = grind arith in
    fits i.version (faults_of i.found.items) (faults_of found) i.place (tree_of c.args.tree.now) (option_map stated c.in_ok-place.statement) c.in_ok-place.ensures.statement c.in_ok-place.ensures.found (none_found found none)

pub returns-clause-taken : goal.returns-clause-taken
returns-clause-taken c = λ start trees h.
    let i = c.self.inside in
    let old = taken i.version (faults_of i.found.items) i.place i.is_full i.builder in
    let so_far : AreTaken start trees old = subst (AreTaken start trees) (sym c.self.view_is) h in
    taken_more old (tree_of c.args.tree.now) (faults_of c.part_faults.new.found.items) c.in_ok-place.place c.in_ok-place.ensures.found c.in_ok-place.ensures.behind start trees so_far
    (option_map stated c.in_ok-place.statement) c.in_ok-place.ensures.statement c.in_ok-self-inside.field-0 c.overflows.new.builder c.if-self.false c.in_ok-self-inside.ensures.stated

pub returns-then-not-is_empty-clause-kept : goal.returns-then-not-is_empty-clause-kept
returns-then-not-is_empty-clause-kept c = rw (← c.self.view_is) (extends_self c.self.inside.builder)

pub returns-clause-kept : goal.returns-clause-kept
returns-clause-kept c = rw (← c.self.view_is) c.in_ok-self-inside.ensures.kept
