use Rattle.std.proofs.Common.{◌≡◌, ℕ, ◌+◌, ◌-◌, List, ◌++◌, take, get_or, length, ap, ◌∙◌, arith}
use Rattle.std.specs.List.{flat_map, range_with_len}
use Rattle.std.proofs.lemmas.List.{take_all, take_more}
use Rattle.axioms.specs.Ontology.{name_at}
use Rattle.interpretation_spec.specs.Members.{has_elements}
use Rattle.interpretation_spec.specs.NumberedInterpretation.{members_of}
use Rattle.number_sets.specs.Members.{has}
use Rattle.answer_texts.specs.Refutation as text
use Rattle.answer_texts.proofs.Classes.{class_below, filter_none, filtered, has_none}
use Rattle.answer_texts.proofs.More.{added, flat_more}
use Rattle.answer_texts.proofs.refutation.push_classes.Goals as goal

pub overflow_cast-class : goal.overflow_cast-class
overflow_cast-class c =
    let i = c.args.told.now.interpretation.now in
    let are = c.deref-number-items.ensures.value ∙ c.in_ok-classes.ensures in
    let low = class_below (has_elements i) (length i.classes) c.deref-number-items.result.now c.loop-number.number-index are c.loop-number-test.true in
    record { fits = omega (arith, low, c.requires.classes, c.bounded.ensures.classes) }

pub loop-number-preserved : goal.loop-number-preserved
loop-number-preserved c =
    let names = c.args.ontology.now.names in
    let k = c.loop-number.number-index in
    let out = c.loop-number.out.items in
    let classes = c.deref-number-items.result.now in
    let f : ℕ → List ℕ = text.class_text names c.args.told.now.interpretation.now c.args.told.now.elements.items in
    let class = get_or classes k 0 in
    let step : c.push_class.new.out.items ≡ out ++ f class =
    c.in_ok-push_class.ensures ∙ ap (λ (members : List ℕ). out ++ text.members_text (name_at names.classes class) members) (c.deref.ensures.value ∙ c.in_ok-members.ensures) in
    added c.args.out.now.items out c.push_class.new.out.items (flat_map f (take k classes)) (f class) (flat_map f (take (k + 1) classes)) c.loop-number.invariant step
    (ap (flat_map f) (take_more classes k 0 c.loop-number-test.true) ∙ flat_more f (take k classes) class)

pub returns : goal.returns
returns c =
    let names = c.args.ontology.now.names in
    let i = c.args.told.now.interpretation.now in
    let elements = c.args.told.now.elements.items in
    let told = text.class_text names i elements in
    let classes = c.deref-number-items.result.now in
    let all = take_all c.loop-number.number-index classes c.loop-number-test.false in
    c.loop-number.invariant
    ∙ ap (λ (cs : List ℕ). c.args.out.now.items ++ flat_map told cs) (all ∙ c.deref-number-items.ensures.value ∙ c.in_ok-classes.ensures)
    ∙ ap (λ (s : List ℕ). c.args.out.now.items ++ s)
    (filtered told (has_elements i) (λ k none. ap (text.members_text (name_at names.classes k)) (filter_none (has (members_of i k)) (has_none (members_of i k) none) elements))
    (range_with_len 1 (length i.classes - 1))
    ∙ ap (λ (n : ℕ). flat_map told (range_with_len 1 (n - 1))) c.requires.classes)
