-- Flags of contexts: that what they tell stays so.
use Rattle.std.proofs.Common.{◌∷◌, []}
use Rattle.std.proofs.lemmas.List.Elements.{Contains-append_left}
use Rattle.facts.specs.declared.contexts.Context.{Context}
use Rattle.facts.specs.declared.contexts.Fact.{Fact}
use Rattle.facts.specs.Births.{Reason}
use Rattle.inference.specs.Derivations.{Derived, with_fact}
use Rattle.inference.specs.Flags.{Flags, HasEntryFacts, AreFlags}
use Rattle.inference.proofs.Lists.{keeps_push}

entry_facts_still : (d : Derived) (f : Fact) (r : Reason) (x : Context) → HasEntryFacts d x → HasEntryFacts (with_fact d f r) x
entry_facts_still d f r x w =
    let e = w.entry.1 in record {
      entry = (
        w.entry.0,
        record {
          there = keeps_push d.facts f w.entry.0 _ e.there;
          birth = e.birth;
          born = keeps_push d.births r w.entry.0 e.birth e.born;
          of_context = e.of_context;
        },
      );
      itself = λ i is. Contains-append_left d.facts (f ∷ []) _ (w.itself i is);
    }

-- flags are right still where there is one fact more
pub flags_of_more : (d : Derived) (f : Fact) (r : Reason) (flags : Flags) → AreFlags d flags → AreFlags (with_fact d f r) flags
flags_of_more d f r flags are x flagged = entry_facts_still d f r x (are x flagged)
