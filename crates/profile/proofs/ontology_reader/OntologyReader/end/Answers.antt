use Rattle.std.proofs.Common.{◌≡◌, ◌∙◌, ◌<◌, length, arith, ap, sym, subst, true}
use Rattle.std.proofs.lemmas.Bool.Decides.{nat_tests}
use Rattle.shapes.specs.View.{faults_of}
use Rattle.profile.specs.Intake.{AreTaken, of_document, of_growth, taken}
use Rattle.profile.proofs.Takings.{all_faults, growth_told, names_told, none_found, read_told, stated_all}
use Rattle.profile.proofs.ontology_reader.OntologyReader.end.Goals as goal

pub returns-then-not-is_empty-clause-refused : goal.returns-then-not-is_empty-clause-refused
returns-then-not-is_empty-clause-refused c =
    let i = c.self.inside in
    let some : 0 < length i.found.items = grind (arith, nat_tests, c.is_empty.ensures) in
    λ version trees h.
    let t = taken i.version (faults_of i.found.items) i.place i.is_full i.builder in
    (all_faults (of_document version) trees t (subst (AreTaken (of_document version) trees) (sym c.self.view_is) h), λ none. omega (arith, some, ap length none))

pub returns-then-not-is_empty-clause-not_added : goal.returns-then-not-is_empty-clause-not_added
returns-then-not-is_empty-clause-not_added c =
    let i = c.self.inside in
    let some : 0 < length i.found.items = grind (arith, nat_tests, c.is_empty.ensures) in
    λ version old trees h.
    let t = taken i.version (faults_of i.found.items) i.place i.is_full i.builder in
    (all_faults (of_growth version old) trees t (subst (AreTaken (of_growth version old) trees) (sym c.self.view_is) h), λ none. omega (arith, some, ap length none))

pub returns-then-self-clause-refused : goal.returns-then-self-clause-refused
returns-then-self-clause-refused c =
    let i = c.self.inside in
    let none : length i.found.items ≡ 0 = grind (arith, nat_tests, c.is_empty.ensures) in
    λ version trees h.
    let t = taken i.version (faults_of i.found.items) i.place i.is_full i.builder in
    let so_far : AreTaken (of_document version) trees t = subst (AreTaken (of_document version) trees) (sym c.self.view_is) h in
    (all_faults (of_document version) trees t so_far ∙ none_found i.found.items none, names_told version trees t so_far (none_found i.found.items none) c.if-self.true)

pub returns-then-self-clause-not_added : goal.returns-then-self-clause-not_added
returns-then-self-clause-not_added c =
    let i = c.self.inside in
    let none : length i.found.items ≡ 0 = grind (arith, nat_tests, c.is_empty.ensures) in
    λ version old trees h.
    let t = taken i.version (faults_of i.found.items) i.place i.is_full i.builder in
    let so_far : AreTaken (of_growth version old) trees t = subst (AreTaken (of_growth version old) trees) (sym c.self.view_is) h in
    (all_faults (of_growth version old) trees t so_far ∙ none_found i.found.items none, stated_all (of_growth version old) trees t so_far (none_found i.found.items none) true c.if-self.true)

pub returns-clause-read : goal.returns-clause-read
returns-clause-read c =
    let i = c.self.inside in
    let none : length i.found.items ≡ 0 = grind (arith, nat_tests, c.is_empty.ensures) in
    λ version trees h.
    let t = taken i.version (faults_of i.found.items) i.place i.is_full i.builder in
    read_told version trees t (subst (AreTaken (of_document version) trees) (sym c.self.view_is) h) c.finish-ontology.result c.finish-ontology.ensures c.bounded.ensures (none_found i.found.items none) c.if-self.false

pub returns-clause-added : goal.returns-clause-added
returns-clause-added c =
    let i = c.self.inside in
    let none : length i.found.items ≡ 0 = grind (arith, nat_tests, c.is_empty.ensures) in
    λ version old trees h.
    let t = taken i.version (faults_of i.found.items) i.place i.is_full i.builder in
    growth_told version old trees t (subst (AreTaken (of_growth version old) trees) (sym c.self.view_is) h) c.finish-ontology.result c.finish-ontology.ensures c.bounded.ensures (none_found i.found.items none) c.if-self.false
