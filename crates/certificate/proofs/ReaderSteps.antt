-- What a reader has read at each of its steps.
use Rattle.std.proofs.Common.{◌≡◌, ℕ, ◌+◌, ◌<◌, Bool, true, false, cond, eqb, List, [], ◌∷◌, ◌++◌, length, Option, Some, None, option_map, refl, sym, ap, subst, ◌∙◌, arith, length-append}
use Rattle.std.proofs.lemmas.Bool.{eq-eqb, eqb-true}
use Rattle.std.proofs.lemmas.List.{nil_from_length}
use Rattle.std.proofs.lemmas.Option.{none-some}
use Rattle.axioms.specs.Growth.{IsBounded}
use Rattle.axioms.specs.Ontology.{Ontology}
use Rattle.source_lines.specs.Sources.{SourceState, IsReadOn}
use Rattle.certificate.specs.Certificate.{Line, Listed, Certificate, Format}
use Rattle.certificate.specs.Text.{line_text, written}
use Rattle.certificate.specs.Tests.{fits_written, fits_domain}
use Rattle.certificate.specs.TextLines.{TextLine, FirstLine, DerivedLine, DomainLine, ClassLine, PairLine, IndividualLine, ClaimLine, LastLine, Part, Empty, InLines, InRows, Complete, text_of, no_rows, has_individuals, follows_in, next_number, with_row, with_line, Follows, CannotFollow}
use Rattle.certificate.specs.LineValues.{IsFirstLine, IsDomainLine, TakesRow}
use Rattle.certificate.specs.SourceReading.{Reading, HasRead, HasLines, LetsGo, StopsLetting, IsStopped, IsReadAs, IsDerivedLine, IsLineRead, IsNoDerivedLine, IsNextLine, HasNoLine, StopsNext, StopsAtHand, IsDomainNext, HasNoRow, AreRowsNext, StopsRows, IsBeforeLast, IsLastNext, StopsLast, IsFinished}
use Rattle.certificate.specs.View.{line_of}
use Rattle.certificate.specs.declared.line.Line.{Line as Written}
use Rattle.certificate.specs.declared.fault.TextFault.{TextFault}
use Rattle.certificate.specs.declared.fault.TextFault.TheVariants.{Memory}
use Rattle.certificate.proofs.Progress.{steps, stops, read_whole}
use Rattle.certificate.proofs.WrittenLines.{read_fits}

-- ---- the first line

-- which format and kind the reader is of does not matter yet
as_kind : (start now : SourceState) (reading : Reading) (f : Format) (k : Bool) → HasRead start Empty reading now → HasRead start Empty (record reading { format = f; is_consistent = k }) now
as_kind start now reading f k h = record {
  is_part = h.is_part;
  read = h.read;
  given = h.given;
  in_order = h.in_order;
  at_is = h.at_is;
  ready = h.ready;
  unfailed = h.unfailed;
}

follows_first : (o : Ontology) (f : Format) (k : Bool) (bytes : List ℕ) → IsFirstLine bytes (Some (f, k)) → Follows o Empty bytes (FirstLine f k) (InLines f k [])
follows_first o f k bytes e = record { text_is = e; gives = refl }

pub first_read : (start now after : SourceState) (seen reading new : Reading) (f : Format) (k : Bool) → seen ≡ reading → reading.count ≡ 0 → HasRead start Empty reading now
    → IsFirstLine reading.hand.line (Some (f, k)) → LetsGo (record seen { format = f; is_consistent = k }) new now after → HasLines start [] new after
first_read start now after seen reading new f k is none h first g =
    let s : HasRead start Empty seen now = subst (λ (r : Reading). HasRead start Empty r now) (sym is) h in
    let e : IsFirstLine seen.hand.line (Some (f, k)) = subst (λ (r : Reading). IsFirstLine r.hand.line (Some (f, k))) (sym is) first in
    let came = steps start Empty (InLines f k []) (FirstLine f k) (record seen { format = f; is_consistent = k }) new now after (as_kind start now seen f k s) (follows_first seen.ontology f k seen.hand.line e) g in
    record {
      part = subst (λ (x : Format). HasRead start (InLines x new.is_consistent []) new after) (sym g.format)
          (subst (λ (b : Bool). HasRead start (InLines f b []) new after) (sym g.is_consistent) came);
      count = g.count ∙ ap (λ (r : Reading). r.count) is ∙ none;
    }

pub first_stops : (start now after : SourceState) (seen reading : Reading) (o : Ontology) (f : Format) (k : Bool) (fault : TextFault) → seen ≡ reading → reading.ontology ≡ o → IsBounded seen.ontology
    → HasRead start Empty reading now → IsFirstLine reading.hand.line (Some (f, k)) → StopsLetting fault (record seen { format = f; is_consistent = k }) now after → IsStopped fault o start after
first_stops start now after seen reading o f k fault is for b h first g =
    let s : HasRead start Empty seen now = subst (λ (r : Reading). HasRead start Empty r now) (sym is) h in
    let e : IsFirstLine seen.hand.line (Some (f, k)) = subst (λ (r : Reading). IsFirstLine r.hand.line (Some (f, k))) (sym is) first in
    subst (λ (p : Ontology). IsStopped fault p start after) (ap (λ (r : Reading). r.ontology) is ∙ for)
    (stops start Empty (InLines f k []) (FirstLine f k) (record seen { format = f; is_consistent = k }) now after fault b (as_kind start now seen f k s) (follows_first seen.ontology f k seen.hand.line e) g)

no_first : (o : Ontology) (bytes : List ℕ) → IsFirstLine bytes None → CannotFollow o Empty bytes
no_first o bytes none (FirstLine f k) e = absurd (none f k e)
no_first o bytes none (DerivedLine line) e = refl
no_first o bytes none (DomainLine domain) e = refl
no_first o bytes none (ClassLine f row) e = refl
no_first o bytes none (PairLine f row) e = refl
no_first o bytes none (IndividualLine number element) e = refl
no_first o bytes none (ClaimLine claim) e = refl
no_first o bytes none LastLine e = refl

pub no_first_stops : (start now : SourceState) (reading : Reading) (o : Ontology) (fault : TextFault) → reading.ontology ≡ o → HasRead start Empty reading now
    → IsFirstLine reading.hand.line None → StopsAtHand fault reading → IsStopped fault o start now
no_first_stops start now reading o fault is h none s =
    subst (λ (p : Ontology). IsStopped fault p start now) is (s start now Empty h (no_first reading.ontology reading.hand.line none) (λ f c e l. cc))

-- ---- lines of the derivation

follows_line : (o : Ontology) (f : Format) (k : Bool) (lines : List Line) (n : ℕ) (line : Line) (bytes : List ℕ) → n ≡ next_number lines → line_text line ≡ bytes → fits_written o f n line ≡ true
    → Follows o (InLines f k lines) bytes (DerivedLine line) (InLines f k (lines ++ written f n line ∷ []))
follows_line o f k lines n line bytes is e t = record {
  text_is = e;
  gives = subst (λ (m : ℕ). with_line o (InLines f k lines) (DerivedLine line) ≡ Some (InLines f k (lines ++ written f m line ∷ []))) (sym is)
      (comes (subst (λ (m : ℕ). fits_written o f m line ≡ true) is t));
}
  where
    comes : fits_written o f (next_number lines) line ≡ true → with_line o (InLines f k lines) (DerivedLine line) ≡ Some (InLines f k (lines ++ written f (next_number lines) line ∷ []))
    comes t = ap (λ (b : Bool). cond b (Some (InLines f k (lines ++ written f (next_number lines) line ∷ []))) None) t

-- how many lines came does not matter for the part
counted : (start now : SourceState) (part : Part) (reading : Reading) (n : ℕ) → HasRead start part reading now → HasRead start part (record reading { count = n }) now
counted start now part reading n h = record {
  is_part = h.is_part;
  read = h.read;
  given = h.given;
  in_order = h.in_order;
  at_is = h.at_is;
  ready = h.ready;
  unfailed = h.unfailed;
}

-- the number of the line that comes
next_is : (start now : SourceState) (lines : List Line) (reading : Reading) → HasLines start lines reading now → reading.count + 1 ≡ next_number lines
next_is start now lines reading h = ap (λ (n : ℕ). n + 1) h.count

module _ (before after : SourceState) (old new : Reading) (line : Line) (d : IsDerivedLine old.ontology old.format (old.count + 1) old.most_premises old.hand.line line) (g : LetsGo old new before after) where
  abbrev n : ℕ
  n = old.count + 1

  abbrev full : Line
  full = written old.format n d.full

  comes_behind : (start : SourceState) (lines : List Line) → HasLines start lines old before → HasLines start (lines ++ full ∷ []) (record new { count = n }) after
  comes_behind start lines h =
      let part = InLines old.format old.is_consistent lines in
      let next = InLines old.format old.is_consistent (lines ++ full ∷ []) in
      let came = steps start part next (DerivedLine d.full) old new before after h.part
      (follows_line old.ontology old.format old.is_consistent lines n d.full old.hand.line (next_is start before lines old h) d.text_is d.fits) g in
      record {
        part = counted start after (InLines new.format new.is_consistent (lines ++ full ∷ [])) new n
            (subst (λ (x : Format). HasRead start (InLines x new.is_consistent (lines ++ full ∷ [])) new after) (sym g.format)
            (subst (λ (k : Bool). HasRead start (InLines old.format k (lines ++ full ∷ [])) new after) (sym g.is_consistent) came));
        count = next_is start before lines old h ∙ sym (length-append lines (full ∷ []));
      }

  pub next_read : IsNextLine old (record new { count = n }) before after line
  next_read = record {
    full = full;
    kept = d.kept;
    fits = read_fits old.ontology old.format n d.full d.fits;
    ontology = g.ontology;
    most_premises = g.most_premises;
    format = g.format;
    behind = comes_behind;
  }

-- the reader that let the line go has counted it
pub next_counted : (before after : SourceState) (old seen new : Reading) (n : ℕ) (line : Line) → seen ≡ new → n ≡ old.count + 1 → IsNextLine old (record new { count = old.count + 1 }) before after line
    → IsNextLine old (record seen { count = n }) before after line
next_counted before after old seen new n line is e h =
    subst (λ (m : ℕ). IsNextLine old (record seen { count = m }) before after line) (sym e)
    (subst (λ (r : Reading). IsNextLine old (record r { count = old.count + 1 }) before after line) (sym is) h)

pub next_stops : (before after : SourceState) (old : Reading) (line : Line) (fault : TextFault) → IsBounded old.ontology
    → IsDerivedLine old.ontology old.format (old.count + 1) old.most_premises old.hand.line line → StopsLetting fault old before after → StopsNext fault old before after
next_stops before after old line fault b d g start lines h =
    let n = old.count + 1 in
    stops start (InLines old.format old.is_consistent lines) (InLines old.format old.is_consistent (lines ++ written old.format n d.full ∷ [])) (DerivedLine d.full) old before after fault b h.part
    (follows_line old.ontology old.format old.is_consistent lines n d.full old.hand.line (next_is start before lines old h) d.text_is d.fits) g

-- ---- the domain

follows_domain : (o : Ontology) (f : Format) (lines : List Line) (domain : ℕ) (bytes : List ℕ) → IsDomainLine bytes (Some domain)
    → Follows o (InLines f true lines) bytes (DomainLine domain) (InRows f lines (no_rows domain))
follows_domain o f lines domain bytes d = record { text_is = d.0; gives = rw (d.1) refl }

of_kind : (start now : SourceState) (old : Reading) (lines : List Line) (k : Bool) → old.is_consistent ≡ k → HasLines start lines old now → HasRead start (InLines old.format k lines) old now
of_kind start now old lines k e h = subst (λ (b : Bool). HasRead start (InLines old.format b lines) old now) e h.part

pub domain_read : (before after : SourceState) (old new : Reading) (domain : ℕ) → old.is_consistent ≡ true → IsDomainLine old.hand.line (Some domain) → LetsGo old new before after
    → IsDomainNext old new before after domain
domain_read before after old new domain k d g = record {
  ontology = g.ontology;
  format = g.format;
  behind = λ start lines h. steps start (InLines old.format true lines) (InRows old.format lines (no_rows domain)) (DomainLine domain) old new before after
      (of_kind start before old lines true k h) (follows_domain old.ontology old.format lines domain old.hand.line d) g;
}

pub domain_stops : (before after : SourceState) (old : Reading) (domain : ℕ) (fault : TextFault) → IsBounded old.ontology → old.is_consistent ≡ true → IsDomainLine old.hand.line (Some domain)
    → StopsLetting fault old before after → StopsNext fault old before after
domain_stops before after old domain fault b k d g start lines h =
    stops start (InLines old.format true lines) (InRows old.format lines (no_rows domain)) (DomainLine domain) old before after fault b
    (of_kind start before old lines true k h) (follows_domain old.ontology old.format lines domain old.hand.line d) g

-- where a test fails, nothing follows
unfit : (b : Bool) (part : Part) → (b ≡ true → ⊥) → cond b (Some part) None ≡ None
unfit true part f = absurd (f refl)
unfit false part f = refl

no_line_next : (o : Ontology) (f : Format) (k : Bool) (lines : List Line) (n : ℕ) (line : Line) (bytes : List ℕ) → n ≡ next_number lines → IsNoDerivedLine o f n bytes → line_text line ≡ bytes
    → with_line o (InLines f k lines) (DerivedLine line) ≡ None
no_line_next o f k lines n line bytes is none e =
    unfit (fits_written o f (next_number lines) line) (InLines f k (lines ++ written f (next_number lines) line ∷ [])) (subst (λ (m : ℕ). IsNoDerivedLine o f m bytes) is none line e)

no_domain : (o : Ontology) (f : Format) (lines : List Line) (n : ℕ) (bytes : List ℕ) → n ≡ next_number lines → IsNoDerivedLine o f n bytes → IsDomainLine bytes None → CannotFollow o (InLines f true lines) bytes
no_domain o f lines n bytes is no_line none (FirstLine g k) e = refl
no_domain o f lines n bytes is no_line none (DerivedLine line) e = no_line_next o f true lines n line bytes is no_line e
no_domain o f lines n bytes is no_line none (DomainLine domain) e = unfit (fits_domain domain) (InRows f lines (no_rows domain)) (none domain e)
no_domain o f lines n bytes is no_line none (ClassLine g row) e = refl
no_domain o f lines n bytes is no_line none (PairLine g row) e = refl
no_domain o f lines n bytes is no_line none (IndividualLine number element) e = refl
no_domain o f lines n bytes is no_line none (ClaimLine claim) e = refl
no_domain o f lines n bytes is no_line none LastLine e = refl

pub no_domain_stops : (now : SourceState) (old : Reading) (fault : TextFault) → old.is_consistent ≡ true → HasNoLine old → IsDomainLine old.hand.line None
    → StopsAtHand fault old → StopsNext fault old now now
no_domain_stops now old fault k no_line none s start lines h =
    s start now (InLines old.format true lines) (of_kind start now old lines true k h)
    (no_domain old.ontology old.format lines (old.count + 1) old.hand.line (next_is start now lines old h) no_line none) (λ f c e l. cc)

-- ---- memory

-- no read has failed since the start
pub read_on : (start now : SourceState) (part : Part) (reading : Reading) → HasRead start part reading now → IsReadOn start now
read_on start now part reading h = record { lost = (h.read, h.given.consumed, h.given.fell); unfailed = h.unfailed }

pub read_to_end : (o : Ontology) (start now : SourceState) (c : Certificate) → IsReadAs o start now c → IsReadOn start now
read_to_end o start now c h = record { lost = (h.taken, h.given.consumed, h.given.fell); unfailed = h.unfailed }

-- ---- rows

passes : (b : Bool) (part : Part) → b ≡ true → cond b (Some part) None ≡ Some part
passes b part e = rw e refl

row_gives : (o : Ontology) (f : Format) (lines : List Line) (l : Listed) (row : TextLine) → follows_in o f l row ≡ true → with_line o (InRows f lines l) row ≡ Some (InRows f lines (with_row l row))
row_gives o f lines l (FirstLine g k) t = absurd (cc)
row_gives o f lines l (DerivedLine line) t = absurd (cc)
row_gives o f lines l (DomainLine domain) t = absurd (cc)
row_gives o f lines l (ClassLine g row) t = passes (follows_in o f l (ClassLine g row)) (InRows f lines (with_row l (ClassLine g row))) t
row_gives o f lines l (PairLine g row) t = passes (follows_in o f l (PairLine g row)) (InRows f lines (with_row l (PairLine g row))) t
row_gives o f lines l (IndividualLine number element) t = passes (follows_in o f l (IndividualLine number element)) (InRows f lines (with_row l (IndividualLine number element))) t
row_gives o f lines l (ClaimLine claim) t = passes (follows_in o f l (ClaimLine claim)) (InRows f lines (with_row l (ClaimLine claim))) t
row_gives o f lines l LastLine t = absurd (cc)

row_is_some : (o : Ontology) (f : Format) (l : Listed) (row : TextLine) → follows_in o f l row ≡ true → 0 < length (text_of row)
row_is_some o f l (FirstLine g k) t = absurd (cc)
row_is_some o f l (DerivedLine line) t = absurd (cc)
row_is_some o f l (DomainLine domain) t = absurd (cc)
row_is_some o f l (ClassLine g row) t = omega arith
row_is_some o f l (PairLine g row) t = omega arith
row_is_some o f l (IndividualLine number element) t = omega arith
row_is_some o f l (ClaimLine claim) t = omega arith
row_is_some o f l LastLine t = absurd (cc)

-- the rows are those of a text of the reader's format
in_format : (start now : SourceState) (old reading : Reading) (lines : List Line) (l : Listed) → reading.format ≡ old.format → HasRead start (InRows old.format lines l) reading now
    → HasRead start (InRows reading.format lines l) reading now
in_format start now old reading lines l e h = subst (λ (f : Format). HasRead start (InRows f lines l) reading now) (sym e) h

pub row_read : (before now after : SourceState) (old reading new : Reading) (first l next : Listed) → AreRowsNext old reading before now first l
    → TakesRow reading.ontology reading.format l reading.hand.line true next → LetsGo reading new now after → AreRowsNext old new before after first next
row_read before now after old reading new first l next r t g = record {
  ontology = g.ontology ∙ r.ontology;
  format = g.format ∙ r.format;
  behind = λ start lines h. subst (λ (s : Listed). HasRead start (InRows old.format lines s) new after) (sym t.3)
      (subst (λ (f : Format). HasRead start (InRows f lines (with_row l t.0)) new after) r.format
      (steps start (InRows reading.format lines l) (InRows reading.format lines (with_row l t.0)) t.0 reading new now after (in_format start now old reading lines l r.format (r.behind start lines h))
      (record { text_is = t.1; gives = row_gives reading.ontology reading.format lines l t.0 t.2 }) g));
}

pub row_stops : (before now after : SourceState) (old reading : Reading) (first l next : Listed) (fault : TextFault) → IsBounded reading.ontology → AreRowsNext old reading before now first l
    → TakesRow reading.ontology reading.format l reading.hand.line true next → StopsLetting fault reading now after → StopsRows fault old before after first
row_stops before now after old reading first l next fault b r t g start lines h =
    subst (λ (o : Ontology). IsStopped fault o start after) r.ontology
    (stops start (InRows reading.format lines l) (InRows reading.format lines (with_row l t.0)) t.0 reading now after fault b (in_format start now old reading lines l r.format (r.behind start lines h))
    (record { text_is = t.1; gives = row_gives reading.ontology reading.format lines l t.0 t.2 }) g)

pub rows_refused : (before now : SourceState) (old reading : Reading) (first l : Listed) → AreRowsNext old reading before now first l → StopsRows Memory old before now first
rows_refused before now old reading first l r start lines h = read_on start now (InRows old.format lines l) reading (r.behind start lines h)

-- what is at hand and behind it, and what is left of the source
abbrev pub to_read : Reading → SourceState → ℕ
to_read reading now = now.most + length reading.hand.line + length reading.hand.ahead

pub less_to_read : (before after : SourceState) (old new : Reading) (l next : Listed) → TakesRow old.ontology old.format l old.hand.line true next → LetsGo old new before after
    → to_read new after < to_read old before
less_to_read before after old new l next t g =
    let some : 0 < length old.hand.line = subst (λ (xs : List ℕ). 0 < length xs) t.1 (row_is_some old.ontology old.format l t.0 t.2) in
    let e : length old.hand.ahead + length g.advanced.read ≡ length new.hand.line + length new.hand.ahead
    = sym (length-append old.hand.ahead g.advanced.read) ∙ ap (λ (xs : List ℕ). length xs) g.advanced.in_order ∙ length-append new.hand.line new.hand.ahead in
    omega (arith, some, e, g.advanced.given.fell)

-- ---- the last line

follows_last : (old : Reading) (part : Part) (c : Certificate) → text_of LastLine ≡ old.hand.line → IsBeforeLast old part c → Follows old.ontology part old.hand.line LastLine (Complete old.format c)
follows_last old part c e b = record { text_is = e; gives = b.last }

pub last_read : (before after : SourceState) (old new : Reading) → text_of LastLine ≡ old.hand.line → LetsGo old new before after → new.hand.line ≡ [] → IsLastNext old before after
last_read before after old new e g none start part c h b =
    subst (λ (o : Ontology). IsReadAs o start after c) g.ontology
    (read_whole start old.format c new after (steps start part (Complete old.format c) LastLine old new before after h (follows_last old part c e b) g) none)

pub last_stops : (before after : SourceState) (old : Reading) (fault : TextFault) → IsBounded old.ontology → text_of LastLine ≡ old.hand.line → StopsLetting fault old before after
    → StopsLast fault old before after
last_stops before after old fault bounded e g start part c h b =
    stops start part (Complete old.format c) LastLine old before after fault bounded h (follows_last old part c e b) g

none_behind : (o : Ontology) (f : Format) (c : Certificate) (line : TextLine) → with_line o (Complete f c) line ≡ None
none_behind o f c (FirstLine g k) = refl
none_behind o f c (DerivedLine line) = refl
none_behind o f c (DomainLine domain) = refl
none_behind o f c (ClassLine g row) = refl
none_behind o f c (PairLine g row) = refl
none_behind o f c (IndividualLine number element) = refl
none_behind o f c (ClaimLine claim) = refl
none_behind o f c LastLine = refl

pub no_last_stops : (now : SourceState) (old : Reading) (fault : TextFault) → (text_of LastLine ≡ old.hand.line → ⊥) → StopsAtHand fault old → StopsLast fault old now now
no_last_stops now old fault other s start part c h b = s start now part h (b.others other) incomplete
  where
    incomplete : (f : Format) (d : Certificate) → part ≡ Complete f d → old.hand.line ≡ [] → ⊥
    incomplete f d e l = none-some (Complete old.format c) (sym (ap (λ (p : Part). with_line old.ontology p LastLine) e ∙ none_behind old.ontology f d LastLine) ∙ b.last)

pub more_stops : (before after : SourceState) (old new : Reading) (fault : TextFault) → text_of LastLine ≡ old.hand.line → LetsGo old new before after → (new.hand.line ≡ [] → ⊥)
    → StopsAtHand fault new → StopsLast fault old before after
more_stops before after old new fault e g some s start part c h b =
    subst (λ (o : Ontology). IsStopped fault o start after) g.ontology
    (s start after (Complete old.format c) (steps start part (Complete old.format c) LastLine old new before after h (follows_last old part c e b) g) (λ line f. none_behind new.ontology old.format c line) (λ x d f. some))

-- ---- an inconsistent ontology's

last_of_lines : (old : Reading) (lines : List Line) → old.count + 1 ≡ next_number lines → HasNoLine old → IsBeforeLast old (InLines old.format false lines) (record { lines = lines; listed = None })
last_of_lines old lines is no_line = record { last = refl; others = other }
  where
    other : (text_of LastLine ≡ old.hand.line → ⊥) → CannotFollow old.ontology (InLines old.format false lines) old.hand.line
    other f (FirstLine g k) e = refl
    other f (DerivedLine line) e = no_line_next old.ontology old.format false lines (old.count + 1) line old.hand.line is no_line e
    other f (DomainLine domain) e = refl
    other f (ClassLine g row) e = refl
    other f (PairLine g row) e = refl
    other f (IndividualLine number element) e = refl
    other f (ClaimLine claim) e = refl
    other f LastLine e = absurd (f e)

pub lines_finished : (before after : SourceState) (old : Reading) → old.is_consistent ≡ false → HasNoLine old → IsLastNext old before after → IsFinished old before after None
lines_finished before after old k no_line l start lines h =
    l start (InLines old.format false lines) (record { lines = lines; listed = None }) (of_kind start before old lines false k h) (last_of_lines old lines (next_is start before lines old h) no_line)

pub lines_stop : (before after : SourceState) (old : Reading) (fault : TextFault) → old.is_consistent ≡ false → HasNoLine old → StopsLast fault old before after → StopsNext fault old before after
lines_stop before after old fault k no_line l start lines h =
    l start (InLines old.format false lines) (record { lines = lines; listed = None }) (of_kind start before old lines false k h) (last_of_lines old lines (next_is start before lines old h) no_line)

-- ---- a consistent ontology's

-- whatever lines were read before, the interpretation came behind them
pub record IsListedNext (old reading : Reading) (before now : SourceState) (l : Listed) : Type 0 where
  pub ontology : reading.ontology ≡ old.ontology
  pub behind : (start : SourceState) (lines : List Line) → HasLines start lines old before → HasRead start (InRows reading.format lines l) reading now

-- the rows behind the domain
rows_begin : (start middle now : SourceState) (old between : Reading) (before : SourceState) (lines : List Line) (domain : ℕ) (first : Listed) → IsDomainNext old between before middle domain → first ≡ no_rows domain
    → HasLines start lines old before → HasRead start (InRows between.format lines first) between middle
rows_begin start middle now old between before lines domain first d e h =
    in_format start middle old between lines first d.format (subst (λ (s : Listed). HasRead start (InRows old.format lines s) between middle) (sym e) (d.behind start lines h))

pub listed_read : (before middle now : SourceState) (old between reading : Reading) (domain : ℕ) (first l : Listed) → IsDomainNext old between before middle domain → first ≡ no_rows domain
    → AreRowsNext between reading middle now first l → IsListedNext old reading before now l
listed_read before middle now old between reading domain first l d e r = record {
  ontology = r.ontology ∙ d.ontology;
  behind = λ start lines h. in_format start now between reading lines l r.format (r.behind start lines (rows_begin start middle now old between before lines domain first d e h));
}

pub rows_stop : (before middle now : SourceState) (old between : Reading) (domain : ℕ) (first : Listed) (fault : TextFault) → IsDomainNext old between before middle domain
    → first ≡ no_rows domain → StopsRows fault between middle now first → StopsNext fault old before now
rows_stop before middle now old between domain first fault d e r start lines h =
    subst (λ (o : Ontology). IsStopped fault o start now) d.ontology (r start lines (rows_begin start middle now old between before lines domain first d e h))

no_row : (o : Ontology) (f : Format) (lines : List Line) (l : Listed) (bytes : List ℕ) → ((row : TextLine) → text_of row ≡ bytes → follows_in o f l row ≡ true → ⊥)
    → (text_of LastLine ≡ bytes → with_line o (InRows f lines l) LastLine ≡ None) → CannotFollow o (InRows f lines l) bytes
no_row o f lines l bytes none last (FirstLine g k) e = refl
no_row o f lines l bytes none last (DerivedLine line) e = refl
no_row o f lines l bytes none last (DomainLine domain) e = refl
no_row o f lines l bytes none last (ClassLine g row) e = unfit (follows_in o f l (ClassLine g row)) (InRows f lines (with_row l (ClassLine g row))) (none (ClassLine g row) e)
no_row o f lines l bytes none last (PairLine g row) e = unfit (follows_in o f l (PairLine g row)) (InRows f lines (with_row l (PairLine g row))) (none (PairLine g row) e)
no_row o f lines l bytes none last (IndividualLine number element) e =
    unfit (follows_in o f l (IndividualLine number element)) (InRows f lines (with_row l (IndividualLine number element))) (none (IndividualLine number element) e)
no_row o f lines l bytes none last (ClaimLine claim) e = unfit (follows_in o f l (ClaimLine claim)) (InRows f lines (with_row l (ClaimLine claim))) (none (ClaimLine claim) e)
no_row o f lines l bytes none last LastLine e = last e

-- each individual has its element
abbrev pub HasIndividuals : Reading → Listed → Type 0
HasIndividuals reading l = length l.individuals ≡ length reading.ontology.names.individuals

last_of_rows : (reading : Reading) (lines : List Line) (l : Listed) → HasNoRow reading l → HasIndividuals reading l
    → IsBeforeLast reading (InRows reading.format lines l) (record { lines = lines; listed = Some l })
last_of_rows reading lines l none all = record {
  last = passes (has_individuals reading.ontology l) (Complete reading.format (record { lines = lines; listed = Some l })) (eq-eqb (length l.individuals) (length reading.ontology.names.individuals) all);
  others = λ other. no_row reading.ontology reading.format lines l reading.hand.line none (λ e. absurd (other e));
}

pub rows_finished : (before now after : SourceState) (old reading : Reading) (l : Listed) → IsListedNext old reading before now l → HasNoRow reading l → HasIndividuals reading l
    → IsLastNext reading now after → IsFinished old before after (Some l)
rows_finished before now after old reading l r none all last start lines h =
    subst (λ (o : Ontology). IsReadAs o start after (record { lines = lines; listed = Some l })) r.ontology
    (last start (InRows reading.format lines l) (record { lines = lines; listed = Some l }) (r.behind start lines h) (last_of_rows reading lines l none all))

pub last_row_stops : (before now after : SourceState) (old reading : Reading) (l : Listed) (fault : TextFault) → IsListedNext old reading before now l → HasNoRow reading l
    → HasIndividuals reading l → StopsLast fault reading now after → StopsNext fault old before after
last_row_stops before now after old reading l fault r none all last start lines h =
    subst (λ (o : Ontology). IsStopped fault o start after) r.ontology
    (last start (InRows reading.format lines l) (record { lines = lines; listed = Some l }) (r.behind start lines h) (last_of_rows reading lines l none all))

pub individuals_stop : (before now : SourceState) (old reading : Reading) (l : Listed) (fault : TextFault) → IsListedNext old reading before now l → HasNoRow reading l
    → (HasIndividuals reading l → ⊥) → StopsAtHand fault reading → StopsNext fault old before now
individuals_stop before now old reading l fault r none few s start lines h =
    subst (λ (o : Ontology). IsStopped fault o start now) r.ontology
    (s start now (InRows reading.format lines l) (r.behind start lines h)
    (no_row reading.ontology reading.format lines l reading.hand.line none
    (λ e. unfit (has_individuals reading.ontology l) (Complete reading.format (record { lines = lines; listed = Some l })) (λ f. few (eqb-true (length l.individuals) (length reading.ontology.names.individuals) f))))
    (λ x c e f. cc))

-- ---- tests of the code

pub none_at_hand : (xs : List ℕ) → true ≡ (eqb (length xs) 0) → xs ≡ []
none_at_hand xs e = nil_from_length xs (eqb-true (length xs) 0 (sym e))

pub some_at_hand : (xs : List ℕ) → false ≡ (eqb (length xs) 0) → xs ≡ [] → ⊥
some_at_hand xs e n = absurd (cc (e, eq-eqb (length xs) 0 (ap (λ (ys : List ℕ). length ys) n)))

pub not_so : false ≡ true → ⊥
not_so e = absurd (cc)

pub row_taken : (seen reading : Reading) (bytes : List ℕ) (l next : Listed) (taken : Bool) → seen ≡ reading → bytes ≡ reading.hand.line → taken ≡ true
    → TakesRow seen.ontology seen.format l bytes taken next → TakesRow reading.ontology reading.format l reading.hand.line true next
row_taken seen reading bytes l next taken is e f t =
    subst (λ (r : Reading). TakesRow r.ontology r.format l reading.hand.line true next) is
    (subst (λ (xs : List ℕ). TakesRow seen.ontology seen.format l xs true next) e (subst (λ (b : Bool). TakesRow seen.ontology seen.format l bytes b next) f t))

pub line_derived : (seen reading : Reading) (n : ℕ) (bytes : List ℕ) (line : Written) (read : Option Written) → seen ≡ reading → n ≡ reading.count + 1 → bytes ≡ reading.hand.line → read ≡ Some line
    → IsLineRead seen.ontology seen.format n seen.most_premises bytes (option_map line_of read)
    → IsDerivedLine reading.ontology reading.format (reading.count + 1) reading.most_premises reading.hand.line (line_of line)
line_derived seen reading n bytes line read is m e f d =
    subst (λ (r : Reading). IsDerivedLine r.ontology r.format (reading.count + 1) r.most_premises reading.hand.line (line_of line)) is
    (subst (λ (k : ℕ). IsDerivedLine seen.ontology seen.format k seen.most_premises reading.hand.line (line_of line)) m
    (subst (λ (xs : List ℕ). IsDerivedLine seen.ontology seen.format n seen.most_premises xs (line_of line)) e
    (subst (λ (o : Option Written). IsLineRead seen.ontology seen.format n seen.most_premises bytes (option_map line_of o)) f d)))
