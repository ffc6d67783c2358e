-- Behind a part, what begins with a line that cannot follow, or is a piece of a line, is no certificate's text.
use Rattle.std.proofs.Common.{◌≡◌, ℕ, suc, ◌^◌, ◌≤◌, List, [], ◌∷◌, ◌++◌, length, Option, Some, None, refl, sym, ap, subst, ◌∙◌, inl, inr, arith, append_assoc, length-append}
use Rattle.std.specs.List.{Contains, flat_map}
use Rattle.std.proofs.lemmas.List.{append-nil, same_from_push}
use Rattle.std.proofs.lemmas.List.Elements.{Contains-push, Contains-append_left}
use Rattle.std.proofs.lemmas.Map.Made.{Contains-tail}
use Rattle.std.proofs.lemmas.Option.{none-some, same_Some}
use Rattle.axioms.specs.Ontology.{Ontology}
use Rattle.source_lines.specs.Lines.{IsWholeLine}
use Rattle.certificate.specs.Certificate.{Certificate, Format}
use Rattle.certificate.specs.Text.{certificate_text}
use Rattle.certificate.specs.Writability.{IsTextOf, IsSomeTextOf}
use Rattle.certificate.specs.TextLines.{TextLine, text_of, Part, Empty, Complete, part_text, with_line, with_all, IsPart, CannotFollow}
use Rattle.certificate.specs.Prefixes.{GoesOn, EndsLines, IsNoText}
use Rattle.certificate.proofs.Parts.{all_text, whole_line, ends_lines}
use Rattle.certificate.proofs.Completion.{goes_on}
use Rattle.certificate.proofs.Successors.{lines_of, certificate_lines}
use Rattle.certificate.proofs.LineKinds.{HasSmallDomain, small_still, one_line}

-- ---- whole lines at the front of bytes

head_same : (b c : ℕ) (bs cs : List ℕ) → b ∷ bs ≡ c ∷ cs → b ≡ c
head_same b c bs cs e = cc

tail_same : (b c : ℕ) (bs cs : List ℕ) → b ∷ bs ≡ c ∷ cs → bs ≡ cs
tail_same b c bs cs e = cc

contains_head : (b x : ℕ) (bytes : List ℕ) → b ≡ x → Contains (b ∷ bytes) x
contains_head b x bytes e = (0, omega arith, e)

contains_later : (b x : ℕ) (bytes : List ℕ) → Contains bytes x → Contains (b ∷ bytes) x
contains_later b x bytes h = (suc h.0, omega (arith, h.1), h.2)

fronts_cut : (front front' x y : List ℕ) → (Contains front 10 → ⊥) → (Contains front' 10 → ⊥) → front ++ 10 ∷ x ≡ front' ++ 10 ∷ y → (front ≡ front') × (x ≡ y)
fronts_cut [] [] x y n m e = (refl, tail_same 10 10 x y e)
fronts_cut [] (c ∷ cs) x y n m e = absurd (m (contains_head c 10 cs (sym (head_same 10 c x (cs ++ 10 ∷ y) e))))
fronts_cut (b ∷ bs) [] x y n m e = absurd (n (contains_head b 10 bs (head_same b 10 (bs ++ 10 ∷ x) y e)))
fronts_cut (b ∷ bs) (c ∷ cs) x y n m e =
    let others = fronts_cut bs cs x y (λ h. n (contains_later b 10 bs h)) (λ h. m (contains_later c 10 cs h)) (tail_same b c (bs ++ 10 ∷ x) (cs ++ 10 ∷ y) e) in
    let here : b ≡ c = head_same b c (bs ++ 10 ∷ x) (cs ++ 10 ∷ y) e in
    (ap (λ (z : ℕ). z ∷ bs) here ∙ ap (λ (zs : List ℕ). c ∷ zs) others.0, others.1)

-- the line before its line feed, and then that and what is behind it
opened : (line rest : List ℕ) (h : IsWholeLine line) → line ++ rest ≡ h.front ++ 10 ∷ rest
opened line rest h = ap (λ (s : List ℕ). s ++ rest) h.ended ∙ append_assoc h.front (10 ∷ []) rest

-- one whole line stands at the front
pub line_cut : (a b x y : List ℕ) → IsWholeLine a → IsWholeLine b → a ++ x ≡ b ++ y → (a ≡ b) × (x ≡ y)
line_cut a b x y h k e =
    let p = fronts_cut h.front k.front x y h.single k.single (sym (opened a x h) ∙ e ∙ opened b y k) in
    (h.ended ∙ ap (λ (s : List ℕ). s ++ 10 ∷ []) p.0 ∙ sym k.ended, p.1)

has_line_feed : (line : List ℕ) → IsWholeLine line → Contains line 10
has_line_feed line h = subst (λ (s : List ℕ). Contains s 10) (sym h.ended) (Contains-push h.front 10)

-- a whole line is no beginning of bytes without a line feed
pub line_not_within : (line rest piece : List ℕ) → IsWholeLine line → (Contains piece 10 → ⊥) → line ++ rest ≡ piece → ⊥
line_not_within line rest piece h none e = none (subst (λ (s : List ℕ). Contains s 10) e (Contains-append_left line rest 10 (has_line_feed line h)))

in_none : (x : ℕ) → Contains [] x → ⊥
in_none x h = omega (arith, h.1)

pub line_not_none : (line rest : List ℕ) → IsWholeLine line → line ++ rest ≡ [] → ⊥
line_not_none line rest h e = line_not_within line rest [] h (in_none 10) e

front_within : (front x more y : List ℕ) → (Contains front 10 → ⊥) → Contains more 10 → front ++ 10 ∷ x ≡ more ++ y → (z : List ℕ) × (more ≡ front ++ 10 ∷ z)
front_within front x [] y n h e = absurd (in_none 10 h)
front_within [] x (c ∷ cs) y n h e = (cs, ap (λ (z : ℕ). z ∷ cs) (sym (head_same 10 c x (cs ++ y) e)))
front_within (b ∷ bs) x (c ∷ cs) y n h e =
    let here : b ≡ c = head_same b c (bs ++ 10 ∷ x) (cs ++ y) e in
    let no : c ≡ 10 → ⊥ = λ is. n (contains_head b 10 bs (here ∙ is)) in
    let others = front_within bs x cs y (λ k. n (contains_later b 10 bs k)) (Contains-tail c cs 10 no h) (tail_same b c (bs ++ 10 ∷ x) (cs ++ y) e) in
    (others.0, ap (λ (z : ℕ). z ∷ cs) (sym here) ∙ ap (λ (zs : List ℕ). b ∷ zs) others.1)

-- bytes with a line feed begin with the line that stands at the front
pub begins_with_line : (line x more y : List ℕ) → IsWholeLine line → Contains more 10 → line ++ x ≡ more ++ y → (z : List ℕ) × (more ≡ line ++ z)
begins_with_line line x more y h has e =
    let p = front_within h.front x more y h.single has (sym (opened line x h) ∙ e) in
    (p.0, p.1 ∙ sym (opened line p.0 h))

last_cut : (b : ℕ) (bytes : List ℕ) → (front : List ℕ) × (last : ℕ) × (b ∷ bytes ≡ front ++ last ∷ [])
last_cut b [] = ([], b, refl)
last_cut b (c ∷ bytes) = let p = last_cut c bytes in (b ∷ p.0, p.1, ap (λ (s : List ℕ). b ∷ s) p.2)

-- what is more of whole lines has a line feed
more_has_line_feed : (bytes : List ℕ) (b : ℕ) (more : List ℕ) → EndsLines (bytes ++ b ∷ more) → Contains (b ∷ more) 10
more_has_line_feed bytes b more (inl e) = absurd (omega (arith, ap length e, length-append bytes (b ∷ more)))
more_has_line_feed bytes b more (inr h) =
    let p = last_cut b more in
    let ended : (bytes ++ p.0) ++ p.1 ∷ [] ≡ h.0 ++ 10 ∷ [] = append_assoc bytes p.0 (p.1 ∷ []) ∙ ap (λ (s : List ℕ). bytes ++ s) (sym p.2) ∙ h.1 in
    let is : p.1 ≡ 10 = (same_from_push (bytes ++ p.0) h.0 p.1 10 ended).1 in
    subst (λ (s : List ℕ). Contains s 10) (sym p.2) (subst (λ (n : ℕ). Contains (p.0 ++ p.1 ∷ []) n) is (Contains-push p.0 p.1))

-- ---- two runs of lines, and one begins with the other

first_step : (o : Ontology) (r : Option Part) (lines : List TextLine) (end : Part) → elim r [ None ↦ None | Some next ↦ with_all o next lines ] ≡ Some end
    → (next : Part) × (r ≡ Some next) × (with_all o next lines ≡ Some end)
first_step o None lines end e = absurd (none-some end e)
first_step o (Some next) lines end e = (next, refl, e)

-- what is left of the lines of a text that begins with those of a part
pub lines_left_over : (o : Ontology) (start part end : Part) (lines all : List TextLine) (more : List ℕ) → HasSmallDomain start
    → with_all o start lines ≡ Some part → with_all o start all ≡ Some end → flat_map text_of all ≡ flat_map text_of lines ++ more
    → (others : List TextLine) × (with_all o part others ≡ Some end) × (flat_map text_of others ≡ more)
lines_left_over o start part end [] all more small f g e =
    (all, subst (λ (p : Part). with_all o p all ≡ Some end) (same_Some start part f) g, e)
lines_left_over o start part end (line ∷ lines) [] more small f g e =
    absurd (line_not_none (text_of line) (flat_map text_of lines ++ more) (whole_line line) (sym (append_assoc (text_of line) (flat_map text_of lines) more) ∙ sym e))
lines_left_over o start part end (line ∷ lines) (first ∷ all) more small f g e =
    let a = first_step o (with_line o start line) lines part f in
    let b = first_step o (with_line o start first) all end g in
    let cut = line_cut (text_of first) (text_of line) (flat_map text_of all) (flat_map text_of lines ++ more) (whole_line first) (whole_line line)
    (e ∙ append_assoc (text_of line) (flat_map text_of lines) more) in
    let same : first ≡ line = one_line o start b.0 a.0 first line small b.1 a.1 cut.0 in
    let next : b.0 ≡ a.0 = same_Some b.0 a.0 (sym b.1 ∙ ap (with_line o start) same ∙ a.1) in
    lines_left_over o a.0 part end lines all more (small_still o start a.0 line small a.1) a.2 (subst (λ (p : Part). with_all o p all ≡ Some end) next b.2) cut.1

-- .. of a certificate's text
certificate_left : (o : Ontology) (part : Part) (more : List ℕ) → IsPart o part → (format : Format) (c : Certificate) → IsTextOf o format (part_text part ++ more) c
    → (others : List TextLine) × (with_all o part others ≡ Some (Complete format c)) × (flat_map text_of others ≡ more)
certificate_left o part more is format c t =
    let all : with_all o Empty (lines_of format c) ≡ Some (Complete format c) = certificate_lines o format c t.has_text in
    let whole : certificate_text format c ≡ flat_map text_of (lines_of format c) = all_text o Empty (Complete format c) (lines_of format c) all in
    let front : part_text part ≡ flat_map text_of is.0 = all_text o Empty part is.0 is.1 in
    lines_left_over o Empty part (Complete format c) is.0 (lines_of format c) more tt is.1 all (sym whole ∙ sym t.spelled ∙ ap (λ (s : List ℕ). s ++ more) front)

no_next : (o : Ontology) (part end : Part) (bytes rest : List ℕ) (others : List TextLine) → IsWholeLine bytes → CannotFollow o part bytes
    → with_all o part others ≡ Some end → flat_map text_of others ≡ bytes ++ rest → ⊥
no_next o part end bytes rest [] whole cannot f e = line_not_none bytes rest whole (sym e)
no_next o part end bytes rest (line ∷ others) whole cannot f e =
    let a = first_step o (with_line o part line) others end f in
    let cut = line_cut (text_of line) bytes (flat_map text_of others) rest (whole_line line) whole e in
    none-some a.0 (sym (cannot line cut.0) ∙ a.1)

-- no certificate's text goes on with a line that cannot follow
pub cannot_go_on : (o : Ontology) (part : Part) (bytes rest : List ℕ) → IsPart o part → IsWholeLine bytes → CannotFollow o part bytes
    → (c : Certificate) → IsSomeTextOf o (part_text part ++ bytes ++ rest) c → ⊥
cannot_go_on o part bytes rest is whole cannot c t =
    let t' = subst (λ (s : List ℕ). IsTextOf o t.0 s c) (append_assoc (part_text part) bytes rest) t.1 in
    let left = certificate_left o part (bytes ++ rest) is t.0 c t' in
    no_next o part (Complete t.0 c) bytes rest left.0 whole cannot left.1 left.2

no_end : (o : Ontology) (part : Part) (piece : List ℕ) (format : Format) (c : Certificate) (others : List TextLine) → (Contains piece 10 → ⊥)
    → ((format : Format) (c : Certificate) → part ≡ Complete format c → piece ≡ [] → ⊥) → with_all o part others ≡ Some (Complete format c) → flat_map text_of others ≡ piece → ⊥
no_end o part piece format c [] none unfinished f e = unfinished format c (same_Some part (Complete format c) f) (sym e)
no_end o part piece format c (line ∷ others) none unfinished f e = line_not_within (text_of line) (flat_map text_of others) piece (whole_line line) none e

-- nor ends in a piece of a line, nor before its last line
pub no_piece : (o : Ontology) (part : Part) (piece : List ℕ) → IsPart o part → (Contains piece 10 → ⊥) → ((format : Format) (c : Certificate) → part ≡ Complete format c → piece ≡ [] → ⊥)
    → (c : Certificate) → IsSomeTextOf o (part_text part ++ piece) c → ⊥
no_piece o part piece is none unfinished c t =
    let left = certificate_left o part piece is t.0 c t.1 in
    no_end o part piece t.0 c left.0 none unfinished left.1 left.2

-- ---- the longest run of lines that goes on

longest_before : (o : Ontology) (part : Part) (bytes rest : List ℕ) → IsPart o part → IsWholeLine bytes → CannotFollow o part bytes
    → (more behind : List ℕ) → bytes ++ rest ≡ more ++ behind → EndsLines (part_text part ++ more) → GoesOn o (part_text part ++ more) → more ≡ []
longest_before o part bytes rest is whole cannot [] behind e ends g = refl
longest_before o part bytes rest is whole cannot (b ∷ more) behind e ends g =
    let p = begins_with_line bytes rest (b ∷ more) behind whole (more_has_line_feed (part_text part) b more ends) e in
    let longer : (part_text part ++ b ∷ more) ++ g.0 ≡ (part_text part ++ bytes) ++ (p.0 ++ g.0) =
    ap (λ (s : List ℕ). (part_text part ++ s) ++ g.0) p.1 ∙ ap (λ (s : List ℕ). s ++ g.0) (sym (append_assoc (part_text part) bytes p.0)) ∙ append_assoc (part_text part ++ bytes) p.0 g.0 in
    absurd (cannot_go_on o part bytes (p.0 ++ g.0) is whole cannot g.1 (subst (λ (s : List ℕ). IsSomeTextOf o s g.1) longer g.2))

-- the text ends for good at a line that cannot follow
pub no_text_early : (o : Ontology) (part : Part) (bytes rest : List ℕ) → length o.names.individuals ≤ 2 ^ 32 → IsPart o part → IsWholeLine bytes → CannotFollow o part bytes
    → IsNoText o (part_text part ++ bytes ++ rest) (length (part_text part))
no_text_early o part bytes rest few is whole cannot = record {
  run = record {
    lines = part_text part;
    others = bytes ++ rest;
    cut = append_assoc (part_text part) bytes rest;
    length_is = refl;
    whole = ends_lines o part is;
    go_on = goes_on o part few is;
    longest = longest_before o part bytes rest is whole cannot;
  };
  none = cannot_go_on o part bytes rest is whole cannot;
}

longest_at_end : (part : Part) (piece : List ℕ) → (Contains piece 10 → ⊥) → (more behind : List ℕ) → piece ≡ more ++ behind → EndsLines (part_text part ++ more) → more ≡ []
longest_at_end part piece none [] behind e ends = refl
longest_at_end part piece none (b ∷ more) behind e ends =
    absurd (none (subst (λ (s : List ℕ). Contains s 10) (sym e) (Contains-append_left (b ∷ more) behind 10 (more_has_line_feed (part_text part) b more ends))))

-- .. and where a piece is left, or the last line is missing
pub no_text_at_end : (o : Ontology) (part : Part) (piece : List ℕ) → length o.names.individuals ≤ 2 ^ 32 → IsPart o part → (Contains piece 10 → ⊥)
    → ((format : Format) (c : Certificate) → part ≡ Complete format c → piece ≡ [] → ⊥) → IsNoText o (part_text part ++ piece) (length (part_text part))
no_text_at_end o part piece few is none unfinished = record {
  run = record {
    lines = part_text part;
    others = piece;
    cut = refl;
    length_is = refl;
    whole = ends_lines o part is;
    go_on = goes_on o part few is;
    longest = λ more behind e ends g. longest_at_end part piece none more behind e ends;
  };
  none = no_piece o part piece is none unfinished;
}

-- ---- a text is that of one certificate, in one format

format_in : (p q : Format × Certificate) → Complete p.0 p.1 ≡ Complete q.0 q.1 → p ≡ q
format_in p q e = ap as_pair e
  where
    as_pair : Part → Format × Certificate
    as_pair (Complete format c) = (format, c)
    as_pair _ = p

pub same_certificate : (o : Ontology) (f g : Format) (bytes : List ℕ) (c d : Certificate) → IsTextOf o f bytes c → IsTextOf o g bytes d → (f ≡ g) × (c ≡ d)
same_certificate o f g bytes c d t u =
    let all : with_all o Empty (lines_of f c) ≡ Some (Complete f c) = certificate_lines o f c t.has_text in
    let whole : certificate_text f c ≡ flat_map text_of (lines_of f c) = all_text o Empty (Complete f c) (lines_of f c) all in
    let again : bytes ≡ part_text (Complete f c) ++ [] = t.spelled ∙ sym (append-nil (certificate_text f c)) in
    let left = certificate_left o (Complete f c) [] (lines_of f c, all) g d (subst (λ (s : List ℕ). IsTextOf o g s d) again u) in
    let same : ◌≡◌ {A = Format × Certificate} (f, c) (g, d) = none_behind left.0 left.1 left.2 in
    (ap (λ (p : Format × Certificate). p.0) same, ap (λ (p : Format × Certificate). p.1) same)
  where
    none_behind : (others : List TextLine) → with_all o (Complete f c) others ≡ Some (Complete g d) → flat_map text_of others ≡ [] → ◌≡◌ {A = Format × Certificate} (f, c) (g, d)
    none_behind [] h e = format_in (f, c) (g, d) (same_Some (Complete f c) (Complete g d) h)
    none_behind (line ∷ others) h e = absurd (line_not_none (text_of line) (flat_map text_of others) (whole_line line) e)

pub same_some_certificate : (o : Ontology) (bytes : List ℕ) (c d : Certificate) → IsSomeTextOf o bytes c → IsSomeTextOf o bytes d → c ≡ d
same_some_certificate o bytes c d t u = (same_certificate o t.0 u.0 bytes c d t.1 u.1).1
