-- Reading on, piece by piece, up to the end of a line.
use Rattle.std.proofs.Common.{◌≡◌, ℕ, ◌+◌, ◌≤◌, List, [], ◌∷◌, ◌++◌, take, refl, sym, ap, ◌∙◌, subst, append_assoc, append-nil, length-append, inl, inr, arith}
use Rattle.std.specs.Prelude.{slice_range}
use Rattle.std.specs.List.{Contains}
use Rattle.std.specs.Io.KnownBytes.{IsAtEnd}
use Rattle.std.proofs.KnownBytes.{Consumes-nil, Consumes-trans}
use Rattle.std.proofs.lemmas.List.Elements.{Contains-append_cases}
use Rattle.device.specs.Device.{HasFailed}
use Rattle.source_lines.specs.declared.fault.StreamFault.{StreamFault}
use Rattle.source_lines.specs.declared.fault.StreamFault.TheVariants.{Io, Memory}
use Rattle.source_lines.specs.Lines.{AtHand, Advances, FailsInLine, IsNoLine, IsWholeLine}
use Rattle.source_lines.specs.Sources.{SourceState, Gives, IsReadOn}
use Rattle.source_lines.specs.Places.{IsLineTo, at_hand}
use Rattle.source_lines.proofs.Ranges.{range_empty, range_kept, range_split}

pub gives_none : (source : SourceState) → Gives source source []
gives_none source = record { consumed = Consumes-nil source.left; fell = omega arith }

pub gives_more : (old now new : SourceState) (bytes more : List ℕ) → Gives old now bytes → Gives now new more → Gives old new (bytes ++ more)
gives_more old now new bytes more h k = record {
  consumed = Consumes-trans old.left now.left new.left bytes more h.consumed k.consumed;
  fell = omega (arith, h.fell, k.fell, length-append bytes more);
}

none_in : (xs ys : List ℕ) → (Contains xs 10 → ⊥) → (Contains ys 10 → ⊥) → Contains (xs ++ ys) 10 → ⊥
none_in xs ys h k c = elim (Contains-append_cases xs ys 10 c) [ inl a ↦ h a | inr b ↦ k b ]

-- behind bytes with no line feed, a whole line ends a whole line
line_behind : (xs line : List ℕ) → (Contains xs 10 → ⊥) → IsWholeLine line → IsWholeLine (xs ++ line)
line_behind xs line h w = record {
  front = xs ++ w.front;
  ended = ap (λ l. xs ++ l) w.ended ∙ sym (append_assoc xs w.front (10 ∷ []));
  single = none_in xs w.front h w.single;
}

-- bytes with no line feed were old and are now more, by what the source gave
pub record HasRead (old now : List ℕ) (before after : SourceState) : Type 0 where
  pub read : List ℕ
  pub given : Gives before after read
  pub in_order : old ++ read ≡ now
  pub none : Contains now 10 → ⊥
  pub unfailed : after.failures ≡ before.failures

pub more_read : (old now more : List ℕ) (before after new : SourceState) → HasRead old now before after → Gives after new more → (Contains more 10 → ⊥) → new.failures ≡ after.failures
    → HasRead old (now ++ more) before new
more_read old now more before after new h k none kept = record {
  read = h.read ++ more;
  given = gives_more before after new h.read more h.given k;
  in_order = sym (append_assoc old h.read more) ∙ ap (λ l. l ++ more) h.in_order;
  none = none_in now more h.none none;
  unfailed = kept ∙ h.unfailed;
}

-- why a line did not come
pub read_fails : (old now : List ℕ) (hand : AtHand) (before after new : SourceState) → hand.ahead ≡ old → HasRead old now before after → Gives after new [] → HasFailed after.failures new.failures
    → FailsInLine hand before new
read_fails old now hand before after new e h k failed = record {
  read = h.read;
  given = subst (Gives before new) (append-nil h.read) (gives_more before after new h.read [] h.given k);
  none = subst (λ l. Contains l 10 → ⊥) (sym h.in_order ∙ ap (λ l. l ++ h.read) (sym e)) h.none;
  failed = subst (λ n. HasFailed n new.failures) h.unfailed failed;
}

pub is_read_on : (old now : List ℕ) (before after : SourceState) → HasRead old now before after → IsReadOn before after
is_read_on old now before after h = record { lost = (h.read, h.given.consumed, h.given.fell); unfailed = h.unfailed }

-- ---- one read more, into a buffer that has its room behind the bytes read before

module _ (old now : List ℕ) (hand : AtHand) (buffer read_into : List ℕ) (start filled n : ℕ) (before after new : SourceState)
    (ahead : hand.ahead ≡ old) (ordered : start ≤ filled) (kept : take filled read_into ≡ take filled buffer) (is_now : slice_range buffer start filled ≡ now)
    (has : HasRead old now before after) (given : Gives after new (slice_range read_into filled (filled + n))) (unfailed : new.failures ≡ after.failures) where
  stays : slice_range read_into start filled ≡ now
  stays = range_kept buffer read_into start filled ordered kept ∙ is_now

  longer : slice_range read_into start (filled + n) ≡ now ++ slice_range read_into filled (filled + n)
  longer = range_split read_into start filled (filled + n) ordered (omega arith) ∙ ap (λ l. l ++ slice_range read_into filled (filled + n)) stays

  pub reads_on : (Contains (slice_range read_into filled (filled + n)) 10 → ⊥) → HasRead old (slice_range read_into start (filled + n)) before new
  reads_on none = subst (λ l. HasRead old l before new) (sym longer) (more_read old now _ before after new has given none unfailed)

  in_pieces : (end : ℕ) → start ≤ end → end ≤ filled + n
      → hand.ahead ++ (has.read ++ slice_range read_into filled (filled + n)) ≡ slice_range read_into start end ++ slice_range read_into end (filled + n)
  in_pieces end low high =
      ap (λ l. l ++ (has.read ++ slice_range read_into filled (filled + n))) ahead ∙ sym (append_assoc old has.read _)
      ∙ ap (λ l. l ++ slice_range read_into filled (filled + n)) has.in_order ∙ sym longer ∙ range_split read_into start end (filled + n) low high

  pub finds_line : (end : ℕ) → IsLineTo read_into filled end (filled + n) → Advances hand (at_hand read_into start end (filled + n)) before new
  finds_line end line = record {
    read = has.read ++ slice_range read_into filled (filled + n);
    given = gives_more before after new has.read _ has.given given;
    in_order = in_pieces end (omega (arith, line.some)) line.within;
    ready = inl (subst IsWholeLine
        (sym (range_split read_into start filled end ordered (omega (arith, line.some)) ∙ ap (λ l. l ++ slice_range read_into filled end) stays))
        (line_behind now _ has.none line.whole));
    unfailed = unfailed ∙ has.unfailed;
  }

  pub finds_end : n ≡ 0 → IsAtEnd new.left → Advances hand (at_hand read_into start (filled + n) (filled + n)) before new
  finds_end none end =
      let whole : filled + n ≡ filled = omega (arith, none) in
      record {
        read = has.read ++ slice_range read_into filled (filled + n);
        given = gives_more before after new has.read _ has.given given;
        in_order = in_pieces (filled + n) (omega arith) (omega arith);
        ready = inr (
          subst (λ l. Contains l 10 → ⊥) (sym (ap (slice_range read_into start) whole ∙ stays)) has.none,
          range_empty read_into (filled + n),
          end,
        );
        unfailed = unfailed ∙ has.unfailed;
      }

-- ---- the bytes that were read before

-- a whole line was read before
pub has_line : (old : AtHand) (buffer : List ℕ) (from end filled : ℕ) (source : SourceState) → old.ahead ≡ slice_range buffer from filled → IsLineTo buffer from end filled
    → Advances old (at_hand buffer from end filled) source source
has_line old buffer from end filled source e line = record {
  read = [];
  given = gives_none source;
  in_order = append-nil old.ahead ∙ e ∙ range_split buffer from end filled (omega (arith, line.some)) line.within;
  ready = inl line.whole;
  unfailed = refl;
}

-- why no line comes does not go by the line that is let go
pub no_line_from : (fault : StreamFault) (old other : AtHand) (before after : SourceState) → old.ahead ≡ other.ahead → IsNoLine fault other before after → IsNoLine fault old before after
no_line_from Io old other before after e h = record {
  read = h.read;
  given = h.given;
  none = subst (λ l. Contains (l ++ h.read) 10 → ⊥) (sym e) h.none;
  failed = h.failed;
}
no_line_from Memory old other before after e h = h
