-- What the forms of an ontology lead to is its closure.
use Rattle.std.proofs.Common.{◌≡◌, ℕ, ◌<◌, ◌^◌, List, [], ◌∷◌, length, map, Contains, refl, arith, ap, ◌∙◌, sym, subst}
use Rattle.std.proofs.lemmas.List.Elements.{All-nil}
use Rattle.lemmas.proofs.Members.{slice_get-from_Contains}
use Rattle.axioms.specs.Ontology.{Ontology}
use Rattle.normal_forms.specs.Apart.{AreContinuedBy}
use Rattle.normal_forms.specs.declared.apart.ApartLists.{ApartLists}
use Rattle.normal_forms.specs.declared.forms.Form.{Form}
use Rattle.facts.specs.declared.contexts.Context.{Context}
use Rattle.facts.specs.Closure.{Problem}
use Rattle.closure.specs.Closure.{AreAsked}
use Rattle.closure.specs.Denotations.{IsProblemOf}
use Rattle.closure.proofs.Said.{said, sayer}
use Rattle.normalise.specs.Entries.{form_in}
use Rattle.normalise.specs.Growth.{IsNormalFor}
use Rattle.normalise.specs.Listing.{Listing}
use Rattle.normalise.specs.Problem.{prefixes_of}
use Rattle.normalise.specs.Roots.{AreRoots}
use Rattle.normalise.proofs.ProblemForms.{makes_the_problem}
use Rattle.saturate.specs.Growth.{HasGrown, KeepsServed, with_more}
use Rattle.saturate.specs.Run.{IsState}
use Rattle.saturate.specs.State.{Seen, AreBorn, ended, nothing_seen}
use Rattle.inference.specs.Completeness.{IsClosure}
use Rattle.inference.specs.Derivations as derived
use Rattle.inference.proofs.Growth.{sound}
use Rattle.engine.specs.Saturations.{HasMoreFactsThan, IsSaturated, IsSound, SayFactsOfTheClosure, SayTheClosure}
use Rattle.engine.proofs.Saying.{more_facts}

-- the forms, lists and roots that are there make the problem of the ontology and of what is asked about
pub is_problem : (o : Ontology) (v : Listing) (roots : List Context) (k : Problem) → IsNormalFor o v → AreRoots o v.asked roots → k.forms ≡ map form_in v.entries → k.apart ≡ v.apart → k.roots ≡ roots → IsProblemOf o v.asked (prefixes_of v) k
is_problem o v roots k normal are forms_are lists_are roots_are =
    let formed : IsProblemOf o v.asked (prefixes_of v) (record { forms = k.forms; apart = v.apart; roots = roots }) =
    subst (λ (fs : List Form). IsProblemOf o v.asked (prefixes_of v) (record { forms = fs; apart = v.apart; roots = roots })) (sym forms_are) (makes_the_problem o v normal roots are) in
    let listed : IsProblemOf o v.asked (prefixes_of v) (record { forms = k.forms; apart = k.apart; roots = roots }) =
    subst (λ (ls : ApartLists). IsProblemOf o v.asked (prefixes_of v) (record { forms = k.forms; apart = ls; roots = roots })) (sym lists_are) formed in
    subst (λ (xs : List Context). IsProblemOf o v.asked (prefixes_of v) (record { forms = k.forms; apart = k.apart; roots = xs })) (sym roots_are) listed

says_the_closure : (o : Ontology) (v : Listing) (s : Seen) → IsProblemOf o v.asked (prefixes_of v) s.problem → IsClosure s.problem s.facts → SayTheClosure o v.asked (prefixes_of v) s.facts
says_the_closure o v s problem closure = record {
  each = λ f there. said o v.asked (prefixes_of v) s.problem problem f ((closure f).0 there);
  all = λ g fact.
      let (f, is, says) = sayer o v.asked (prefixes_of v) s.problem problem g fact in
      (f, (closure f).1 is, says);
}

says_facts : (o : Ontology) (v : Listing) (s : Seen) → IsProblemOf o v.asked (prefixes_of v) s.problem → AreBorn s → SayFactsOfTheClosure o v.asked (prefixes_of v) s.facts
says_facts o v s problem born f there =
    let (n, at) = slice_get-from_Contains s.facts f there in
    said o v.asked (prefixes_of v) s.problem problem f (sound born n f at)

-- the facts of a state by the forms of the ontology and of what is asked about are of their closure
pub is_sound : (o : Ontology) (v : Listing) (s : Seen) → IsNormalFor o v → AreAsked o v.asked → s.problem.forms ≡ map form_in v.entries → s.problem.apart ≡ v.apart → IsProblemOf o v.asked (prefixes_of v) s.problem → IsState s
    → IsSound o (record { normal = v; state = s })
is_sound o v s normal asked forms lists problem state = record { normal = normal; asked = asked; forms = forms; apart = lists; problem = problem; facts = says_facts o v s problem state.born; state = state }

-- in another state of the same problem they are of the closure too
pub still_sound : (o : Ontology) (v : Listing) (s t : Seen) → IsSound o (record { normal = v; state = s }) → t.problem ≡ s.problem → IsState t → IsSound o (record { normal = v; state = t })
still_sound o v s t h same state = is_sound o v t h.normal h.asked
    (ap (λ (k : Problem). k.forms) same ∙ h.forms)
    (ap (λ (k : Problem). k.apart) same ∙ h.apart)
    (subst (IsProblemOf o v.asked (prefixes_of v)) (sym same) h.problem)
    state

-- where they are all that the forms lead to, they are the closure
pub is_saturated : (o : Ontology) (v : Listing) (s : Seen) → IsSound o (record { normal = v; state = s }) → IsClosure s.problem s.facts → length s.facts < 2 ^ 32 → IsSaturated o (record { normal = v; state = ended s })
is_saturated o v s h closure few = record { normal = h.normal; asked = h.asked; forms = h.forms; apart = h.apart; problem = h.problem; facts = says_the_closure o v s h.problem closure; born = h.state.born; few = few }

pub has_more : (o : Ontology) (v : Listing) (s : Seen) (most : ℕ) → IsSound o (record { normal = v; state = s }) → derived.HasMoreFactsThan s.problem most → HasMoreFactsThan o v.asked most
has_more o v s most h more = more_facts o v.asked (prefixes_of v) s.problem h.problem most more

-- a state that was empty and has grown by the forms, lists and roots has just these
pub grown_problem : (old new : Seen) (forms : List Form) (lists : ApartLists) (roots : List Context) → old ≡ nothing_seen → HasGrown forms lists roots old new → new.problem ≡ record { forms = forms; apart = lists; roots = roots }
grown_problem old new forms lists roots empty grown = grown.problem ∙ ap (λ (s : Seen). with_more s.problem forms lists roots) empty

pub grown_forms : (old new : Seen) (forms : List Form) (lists : ApartLists) (roots : List Context) → old ≡ nothing_seen → HasGrown forms lists roots old new → new.problem.forms ≡ forms
grown_forms old new forms lists roots empty grown = ap (λ (k : Problem). k.forms) (grown_problem old new forms lists roots empty grown)

pub grown_lists : (old new : Seen) (forms : List Form) (lists : ApartLists) (roots : List Context) → old ≡ nothing_seen → HasGrown forms lists roots old new → new.problem.apart ≡ lists
grown_lists old new forms lists roots empty grown = ap (λ (k : Problem). k.apart) (grown_problem old new forms lists roots empty grown)

-- so it is the problem of the ontology, where nothing is asked about
pub grown_into : (o : Ontology) (v : Listing) (old new : Seen) (forms : List Form) (lists : ApartLists) (roots : List Context) → IsNormalFor o v → v.asked ≡ [] → AreRoots o [] roots → old ≡ nothing_seen → forms ≡ map form_in v.entries → lists ≡ v.apart
    → HasGrown forms lists roots old new → IsProblemOf o v.asked (prefixes_of v) new.problem
grown_into o v old new forms lists roots normal unasked are empty same same_lists grown =
    is_problem o v roots new.problem normal (subst (λ a. AreRoots o a roots) (sym unasked) are) (grown_forms old new forms lists roots empty grown ∙ same) (grown_lists old new forms lists roots empty grown ∙ same_lists)
    (ap (λ (k : Problem). k.roots) (grown_problem old new forms lists roots empty grown))

-- a state that was empty has no lists, and any are those with more
pub continued_from_none : (old : Seen) (lists : ApartLists) → old ≡ nothing_seen → AreContinuedBy old.problem.apart lists
continued_from_none old lists empty = subst (λ (s : Seen). AreContinuedBy s.problem.apart lists) (sym empty) (lists, refl)

-- what is asked about is there, where nothing is
pub none_asked : (o : Ontology) (asked : List ℕ) → asked ≡ [] → AreAsked o asked
none_asked o asked none = subst (AreAsked o) (sym none) (All-nil (λ e. e < length o.nodes))

-- a list without members is empty: so nothing is served of a state that was empty and has grown
no_members : (ns : List ℕ) → ((n : ℕ) → Contains ns n → ⊥) → ns ≡ []
no_members [] none = refl
no_members (n ∷ ns) none = absurd (none n (0, omega arith, refl))

pub nothing_served : (old new : Seen) → old ≡ nothing_seen → KeepsServed old.problem new.problem old.facts old.served new.served → new.served ≡ []
nothing_served old new empty keeps = no_members new.served (λ n there.
    let was = subst (λ (ns : List ℕ). Contains ns n) (ap (λ (s : Seen). s.served) empty) ((keeps n).0 there).0 in
    absurd (omega (arith, was.1)))
