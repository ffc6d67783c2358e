-- What the steps of a reader lead to.
use Rattle.std.proofs.Common.{◌≡◌, ℕ, ◌≤◌, inl, inr, List, [], ◌∷◌, ◌++◌, length, refl, sym, ap, ap₂, ◌∙◌, ◌^◌, subst, arith, append_assoc, length-append, Contains}
use Rattle.std.proofs.lemmas.List.{append-nil}
use Rattle.std.specs.Io.KnownBytes.{IsAtEnd}
use Rattle.axioms.specs.Growth.{IsBounded}
use Rattle.axioms.specs.Ontology.{Ontology}
use Rattle.device.specs.Device.{HasFailed}
use Rattle.source_lines.specs.Sources.{SourceState}
use Rattle.source_lines.specs.Lines.{IsReady, IsWholeLine}
use Rattle.certificate.specs.Certificate.{Certificate, Format}
use Rattle.certificate.specs.Text.{certificate_text}
use Rattle.certificate.specs.Prefixes.{IsNoText}
use Rattle.certificate.specs.TextLines.{TextLine, Part, Empty, Complete, part_text, IsPart, Follows, CannotFollow}
use Rattle.certificate.specs.SourceReading.{Reading, HasRead, LetsGo, StopsLetting, GivesNoText, IsStopped, IsReadAs}
use Rattle.certificate.specs.declared.fault.TextFault.{TextFault}
use Rattle.certificate.specs.declared.fault.TextFault.TheVariants.{BadText, Io, Memory}
use Rattle.certificate.proofs.Parts.{part_grows, part_with, empty_part, ends_lines}
use Rattle.certificate.proofs.Completion.{goes_on, complete_has_text}
use Rattle.certificate.proofs.SourceStates.{gives_more, reads_on}
use Rattle.certificate.proofs.Following.{no_text_early, no_text_at_end}

-- a source whose failures are as they were, or more
failed_since : (a b c : ℕ) → b ≡ a → HasFailed b c → HasFailed a c
failed_since a b c e h = subst (λ n. HasFailed n c) e h

few : {o : Ontology} → IsBounded o → length o.names.individuals ≤ 2 ^ 32
few b = omega (arith, b.individuals)

-- ---- steps

-- the line at hand may follow and is let go: then it is among those that were read
pub steps : (start : SourceState) (part next : Part) (line : TextLine) (old new : Reading) (before after : SourceState)
    → HasRead start part old before → Follows old.ontology part old.hand.line line next → LetsGo old new before after → HasRead start next new after
steps start part next line old new before after h f g =
    let grown : part_text next ≡ part_text part ++ old.hand.line = part_grows old.ontology part next line f.gives ∙ ap (λ (t : List ℕ). part_text part ++ t) f.text_is in
    let a = g.advanced in record {
      is_part = subst (λ o. IsPart o next) (sym g.ontology) (part_with old.ontology part next line h.is_part f.gives);
      read = h.read ++ a.read;
      given = gives_more start before after h.read a.read h.given a.given;
      in_order =
          ap (λ (t : List ℕ). t ++ a.read) h.in_order
          ∙ append_assoc (part_text part ++ old.hand.line) old.hand.ahead a.read
          ∙ ap₂ (λ (s t : List ℕ). s ++ t) (sym grown) a.in_order
          ∙ sym (append_assoc (part_text next) new.hand.line new.hand.ahead);
      at_is = g.at_is ∙ omega (arith, h.at_is, ap length grown, length-append (part_text part) old.hand.line);
      ready = a.ready;
      unfailed = a.unfailed ∙ h.unfailed;
    }

-- .. or the next one is not at hand
pub stops : (start : SourceState) (part next : Part) (line : TextLine) (old : Reading) (before after : SourceState) (fault : TextFault)
    → IsBounded old.ontology → HasRead start part old before → Follows old.ontology part old.hand.line line next → StopsLetting fault old before after → IsStopped fault old.ontology start after
stops start part next line old before after (BadText at) b h f g = absurd g
stops start part next line old before after Memory b h f g = reads_on start part old before after h g
stops start part next line old before after Io b h f g =
    let grown : part_text next ≡ part_text part ++ old.hand.line = part_grows old.ontology part next line f.gives ∙ ap (λ (t : List ℕ). part_text part ++ t) f.text_is in
    let is_part = part_with old.ontology part next line h.is_part f.gives in record {
      taken = h.read ++ g.read;
      given = gives_more start before after h.read g.read h.given g.given;
      lines = part_text next;
      piece = old.hand.ahead ++ g.read;
      cut = record {
        cut =
            ap (λ (t : List ℕ). t ++ g.read) h.in_order
            ∙ append_assoc (part_text part ++ old.hand.line) old.hand.ahead g.read
            ∙ ap (λ (t : List ℕ). t ++ (old.hand.ahead ++ g.read)) (sym grown);
        whole = ends_lines old.ontology next is_part;
        unended = g.none;
      };
      go_on = goes_on old.ontology next (few b) is_part;
      failed = failed_since start.failures before.failures after.failures h.unfailed g.failed;
    }

-- the line at hand cannot follow, and the part is not a whole certificate with nothing at hand
pub no_text : (start : SourceState) (part : Part) (old : Reading) (now : SourceState)
    → IsBounded old.ontology → HasRead start part old now → CannotFollow old.ontology part old.hand.line
    → ((format : Format) (c : Certificate) → part ≡ Complete format c → old.hand.line ≡ [] → ⊥) → GivesNoText old.ontology start now old.at
no_text start part old now b h cannot incomplete = record {
  taken = h.read;
  given = h.given;
  unfailed = h.unfailed;
  none = elim h.ready [
    | inl whole ↦ inr (λ rest. early whole rest)
    | inr (unended, nothing, end) ↦ inl (end, at_end unended nothing)
  ];
}
  where
    early : IsWholeLine old.hand.line → (rest : List ℕ) → IsNoText old.ontology (h.read ++ rest) old.at
    early whole rest =
        let same : part_text part ++ old.hand.line ++ (old.hand.ahead ++ rest) ≡ h.read ++ rest
        = sym (ap (λ (t : List ℕ). t ++ rest) h.in_order ∙ append_assoc (part_text part ++ old.hand.line) old.hand.ahead rest) in
        subst (λ t. IsNoText old.ontology t old.at) same
        (subst (λ n. IsNoText old.ontology (part_text part ++ old.hand.line ++ (old.hand.ahead ++ rest)) n) (sym h.at_is)
        (no_text_early old.ontology part old.hand.line (old.hand.ahead ++ rest) (few b) h.is_part whole cannot))

    at_end : (Contains old.hand.line 10 → ⊥) → old.hand.ahead ≡ [] → IsNoText old.ontology h.read old.at
    at_end unended nothing =
        let same : part_text part ++ old.hand.line ≡ h.read
        = sym (h.in_order ∙ ap (λ (t : List ℕ). part_text part ++ old.hand.line ++ t) nothing ∙ append-nil (part_text part ++ old.hand.line)) in
        subst (λ t. IsNoText old.ontology t old.at) same
        (subst (λ n. IsNoText old.ontology (part_text part ++ old.hand.line) n) (sym h.at_is)
        (no_text_at_end old.ontology part old.hand.line (few b) h.is_part unended incomplete))

-- a whole certificate with nothing at hand is what was read
pub read_whole : (start : SourceState) (format : Format) (c : Certificate) (old : Reading) (now : SourceState)
    → HasRead start (Complete format c) old now → old.hand.line ≡ [] → IsReadAs old.ontology start now c
read_whole start format c old now h none =
    let ready = at_end h.ready in record {
      taken = h.read;
      given = h.given;
      unfailed = h.unfailed;
      end = ready.1;
      text_is = (
        format,
        record {
          has_text = complete_has_text old.ontology format c h.is_part;
          spelled =
              h.in_order ∙ ap₂ (λ (s t : List ℕ). certificate_text format c ++ s ++ t) none ready.0
              ∙ append-nil (certificate_text format c ++ []) ∙ append-nil (certificate_text format c);
        },
      );
    }
  where
    at_end : IsReady old.hand now → (old.hand.ahead ≡ []) × IsAtEnd now.left
    at_end (inl whole) = absurd (omega (arith, ap length none, ap length whole.ended, length-append whole.front (10 ∷ [])))
    at_end (inr (unended, nothing, end)) = (nothing, end)

-- the first line of all comes to hand, or does not
pub begins : (old new : Reading) (before after : SourceState)
    → old.at ≡ 0 → old.hand.line ≡ [] → old.hand.ahead ≡ [] → LetsGo old new before after → HasRead before Empty new after
begins old new before after a l e g = record {
  is_part = empty_part new.ontology;
  read = g.advanced.read;
  given = g.advanced.given;
  in_order = ap (λ (t : List ℕ). t ++ g.advanced.read) (sym e) ∙ g.advanced.in_order;
  at_is = g.at_is ∙ omega (arith, a, ap length l);
  ready = g.advanced.ready;
  unfailed = g.advanced.unfailed;
}

pub no_beginning : (old : Reading) (before after : SourceState) (fault : TextFault)
    → IsBounded old.ontology → old.hand.line ≡ [] → old.hand.ahead ≡ [] → StopsLetting fault old before after → IsStopped fault old.ontology before after
no_beginning old before after (BadText at) b l e g = absurd g
no_beginning old before after Memory b l e g = g
no_beginning old before after Io b l e g = record {
  taken = g.read;
  given = g.given;
  lines = [];
  piece = g.read;
  cut = record { cut = refl; whole = inl refl; unended = subst (λ (t : List ℕ). Contains (t ++ g.read) 10 → ⊥) e g.none };
  go_on = goes_on old.ontology Empty (few b) (empty_part old.ontology);
  failed = g.failed;
}
