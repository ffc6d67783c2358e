-- Lines one after another, counted from 1: their text, and the first with a premise that is not earlier.
use Rattle.std.proofs.Common.{◌≡◌, ℕ, ◌+◌, ◌-◌, ◌<◌, ◌≤◌, List, [], ◌∷◌, ◌++◌, length, map, take, drop, get_or, Some, sym, ap, ◌∙◌, subst, arith, add-one}
use Rattle.std.specs.List.{All}
use Rattle.std.proofs.lemmas.List.{take_more, map_push, length-take, length-map, take-map}
use Rattle.std.proofs.Math.Seq.{take-length}
use Rattle.lemmas.proofs.Mapped.{slice_get_map}
use Rattle.std.proofs.lemmas.Option.{slice_get-get_or}
use Rattle.axioms.specs.View.{at_number}
use Rattle.certificate.specs.Certificate.{Line}
use Rattle.certificate.specs.declared.format.Format.{Format}
use Rattle.certificate.specs.Runs.{runs_of}
use Rattle.certificate.specs.Text.{line_text, written, lines_text}
use Rattle.certificate.specs.Writability.{AreEarlier}
use Rattle.certificate.proofs.WrittenLines.{next_text, earlier_more}
use Rattle.certificate_text.specs.LaterPremises.{IsFirstLater}
use Rattle.certificate_text.proofs.FoundRuns.{pending, runs_from}

-- a line behind those before it
before_line : {X : Type 0} (view : X → Line) (xs : List X) (i : ℕ) (x d : X) → i < length xs → x ≡ get_or xs i d → map view (take (i + 1) xs) ≡ map view (take i xs) ++ view x ∷ []
before_line view xs i x d lt e = ap (map view) (take_more xs i d lt) ∙ map_push view (take i xs) (get_or xs i d) ∙ ap (λ y. map view (take i xs) ++ view y ∷ []) (sym e)

before_count : {X : Type 0} (view : X → Line) (xs : List X) (i : ℕ) → i < length xs → length (map view (take i xs)) ≡ i
before_count view xs i lt = length-map (take i xs) view ∙ omega (arith, length-take i xs)

pub more_text : {X : Type 0} (format : Format) (view : X → Line) (xs : List X) (i : ℕ) (x d : X) → i < length xs → x ≡ get_or xs i d
    → lines_text format 1 (map view (take (i + 1) xs)) ≡ lines_text format 1 (map view (take i xs)) ++ line_text (written format (i + 1) (view x))
more_text format view xs i x d lt e =
    ap (lines_text format 1) (before_line view xs i x d lt e) ∙ next_text format (map view (take i xs)) (view x)
    ∙ ap (λ (n : ℕ). lines_text format 1 (map view (take i xs)) ++ line_text (written format (n + 1) (view x))) (before_count view xs i lt)

pub more_earlier : {X : Type 0} (view : X → Line) (xs : List X) (i : ℕ) (x d : X) → i < length xs → x ≡ get_or xs i d → AreEarlier 1 (map view (take i xs)) → All (λ p. p < i + 1) (view x).premises
    → AreEarlier 1 (map view (take (i + 1) xs))
more_earlier view xs i x d lt e h k =
    let number : i + 1 ≡ 1 + length (map view (take i xs)) = omega (arith, before_count view xs i lt) in
    subst (AreEarlier 1) (sym (before_line view xs i x d lt e)) (earlier_more 1 (map view (take i xs)) (view x) h (subst (λ (n : ℕ). All (λ p. p < n) (view x).premises) number k))

pub is_first_later : {X : Type 0} (view : X → Line) (xs : List X) (i : ℕ) (x d : X) → i < length xs → x ≡ get_or xs i d → AreEarlier 1 (map view (take i xs)) → (All (λ p. p < i + 1) (view x).premises → ⊥)
    → IsFirstLater (map view xs) (i + 1)
is_first_later view xs i x d lt e h k =
    let same : i + 1 - 1 ≡ i = omega arith in
    record {
      others = subst (λ (n : ℕ). AreEarlier 1 (take n (map view xs))) (sym same) (subst (AreEarlier 1) (sym (take-map view i xs)) h);
      line = view x;
      there = ap (at_number (map view xs)) (add-one i) ∙ slice_get_map view xs i x (slice_get-get_or xs i d lt ∙ ap Some (sym e));
      later = k;
    }

-- the runs of some numbers begin with the first
pub first_runs : (xs : List ℕ) → 1 ≤ length xs → pending (get_or xs 0 0) (get_or xs 0 0) (take (length xs - 1) (drop 1 xs)) ≡ runs_of xs
first_runs [] h = absurd (omega arith)
first_runs (x ∷ xs) h =
    let e : length (x ∷ xs) - 1 ≡ length xs = omega arith in
    ap (λ (n : ℕ). pending x x (take n xs)) e ∙ ap (pending x x) (take-length xs) ∙ sym (runs_from x xs)
