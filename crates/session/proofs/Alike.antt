-- Sessions that were edited alike: what they say, and what they write.
use Rattle.std.proofs.Common.{◌≡◌, ◌↔◌, ◌∙◌, ℕ, List, [], Bool, true, false, refl, sym, subst}
use Rattle.axioms.specs.Ontology.{Ontology, axiom_trees}
use Rattle.cert_check.proofs.Determined.{accepted_once}
use Rattle.cert_check.specs.Acceptance.{IsAcceptable}
use Rattle.classification.specs.Classifications.{AreCountsOf}
use Rattle.classification.specs.declared.classification.Summary.{Summary}
use Rattle.closure.proofs.Names.{fact_one}
use Rattle.closure.specs.Closure.{Fact, IsFact}
use Rattle.engine.specs.Saturations.{IsFinished, SayTheClosure}
use Rattle.interpretation_spec.specs.Interpretation.{IsContradictory}
use Rattle.normalise.specs.Problem.{prefixes_of}
use Rattle.session.proofs.Calls.{alike, is_session}
use Rattle.session.proofs.FactNumber.{one_number}
use Rattle.session.specs.Edits.{FinishedAlikeSayAlike, FinishedAlikeWriteAlike, Says}
use Rattle.session.specs.Sessions.{IsSession, Opened}

-- ---- facts

-- a session in which nothing is pending says exactly the facts of the closure
says_closure : (s : Opened) → IsSession s → IsFinished s.saturation → (g : Fact) → Says s g ↔ IsFact s.ontology [] g
says_closure s session finished g =
    let b = prefixes_of s.saturation.normal in
    let closure : SayTheClosure s.ontology [] b s.saturation.state.facts =
    subst (λ (asked : List ℕ). SayTheClosure s.ontology asked b s.saturation.state.facts) session.whole.unasked (session.saturated finished).facts in (
      λ (f, there, says). let (h, says', fact) = closure.each f there in subst (IsFact s.ontology []) (fact_one says' says) fact,
      λ fact. closure.all g fact,
    )

pub say_alike : FinishedAlikeSayAlike
say_alike s t edited finished finished' g =
    let other = says_closure t (is_session edited.other edited.bytes edited.texts t edited.second) finished' g in (
      says_closure s (is_session edited.version edited.bytes edited.texts s edited.first) finished g,
      subst (λ (o : Ontology). Says t g ↔ IsFact o [] g) (sym (alike s t edited)) other,
    )

-- ---- counts and texts

one_truth : (x y : Bool) (P : Type 0) → (x ≡ true) ↔ P → (y ≡ true) ↔ P → x ≡ y
one_truth true true P h k = refl
one_truth true false P h k = sym (k.1 (h.0 refl))
one_truth false true P h k = h.1 (k.0 refl)
one_truth false false P h k = refl

abbrev counts : (consistent : Bool) (classes individuals facts : ℕ) → Summary
counts consistent classes individuals facts = record { consistent = consistent; classes = classes; individuals = individuals; facts = facts }

same_counts : (x y : Bool) (c d i j m n : ℕ) → x ≡ y → c ≡ d → i ≡ j → m ≡ n → counts x c i m ≡ counts y d j n
same_counts x y c d i j m n truth classes individuals facts = cc

one_summary : (o : Ontology) (a b : Summary) → AreCountsOf o a → AreCountsOf o b → a ≡ b
one_summary o a b h k =
    same_counts a.consistent b.consistent a.classes b.classes a.individuals b.individuals a.facts b.facts (one_truth a.consistent b.consistent (IsContradictory (axiom_trees o) → ⊥) h.consistent k.consistent) (h.classes ∙ sym k.classes) (h.individuals ∙ sym k.individuals)
    (one_number o [] a.facts b.facts h.facts k.facts)

pub write_alike : FinishedAlikeWriteAlike
write_alike s t format other_format summary other texts others edited made made' =
    let same = sym (alike s t edited) in
    let whole = (is_session edited.version edited.bytes edited.texts s edited.first).whole in
    let P : Ontology → Type 0 = λ o. IsAcceptable o others.taxonomy others.instances others.certificate in
    let two = accepted_once s.ontology whole.taken.well_formed others.taxonomy others.instances others.certificate texts.taxonomy texts.instances texts.certificate (subst P same made'.acceptable) made.acceptable in
    (one_summary s.ontology other summary (subst (λ (o : Ontology). AreCountsOf o other) same made'.counts) made.counts, two.0, two.1)
