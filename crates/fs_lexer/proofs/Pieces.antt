-- Fronts of the bytes: runs, strings' insides, separators.
use Rattle.std.proofs.Common.{◌≡◌, ℕ, Bool, true, false, cond, eqb, List, [], ◌∷◌, ◌++◌, Option, Some, None, refl, sym, ap, subst, ◌∙◌, inl, inr}
use Rattle.std.specs.Prelude.{◌||◌, not, ◌==◌}
use Rattle.std.specs.List.{list_all}
use Rattle.std.proofs.lemmas.Bool.{and_parts, and_from, not-true, false≢true, false_from_ne_true, eqb-true}
use Rattle.std.proofs.lemmas.Option.{none-some, same_Some}
use Rattle.lemmas.proofs.Choices.{chosen, passed}
use Rattle.fs_lexer.specs.Spelling.{begins, is_white, is_line_end, is_string_body, is_separator, is_comment}
use Rattle.fs_lexer.specs.Reading.{skip, skip_comment, span, onto, onto_some, string_at, at_colon}

-- ---- runs

pub record IsSpan (test : ℕ → Bool) (bytes : List ℕ) (p : List ℕ × List ℕ) : Type 0 where
  pub whole : bytes ≡ p.0 ++ p.1
  pub each : list_all test p.0 ≡ true
  pub ends : begins test p.1 ≡ false

pub span_takes : (test : ℕ → Bool) (bytes : List ℕ) → IsSpan test bytes (span test bytes)
span_takes test [] = record { whole = refl; each = refl; ends = refl }
span_takes test (b ∷ bs) =
    elim (test b) as (λ t. test b ≡ t → IsSpan test (b ∷ bs) (cond t (onto (b ∷ []) (span test bs)) ([], b ∷ bs))) [
      | true ↦ λ e.
          let h = span_takes test bs in
          record { whole = ap (λ (s : List ℕ). b ∷ s) h.whole; each = and_from _ _ e h.each; ends = h.ends }
      | false ↦ λ e. record { whole = refl; each = refl; ends = e }
    ] refl

pub span_again : (test : ℕ → Bool) (front rest : List ℕ) → list_all test front ≡ true → begins test rest ≡ false → span test (front ++ rest) ≡ (front, rest)
span_again test [] [] all none = refl
span_again test [] (b ∷ rest) all none = rw none refl
span_again test (b ∷ front) rest all none =
    let h = and_parts (test b) (list_all test front) all in
    rw h.0 (ap (onto (b ∷ [])) (span_again test front rest h.1 none))

pub more_pass : (p q : ℕ → Bool) (xs : List ℕ) → ((x : ℕ) → p x ≡ true → q x ≡ true) → list_all p xs ≡ true → list_all q xs ≡ true
more_pass p q [] h all = refl
more_pass p q (x ∷ xs) h all = let a = and_parts (p x) (list_all p xs) all in and_from (q x) (list_all q xs) (h x a.0) (more_pass p q xs h a.1)

pub onto_was : (front : List ℕ) (o : Option (List ℕ × List ℕ)) (p : List ℕ × List ℕ) → onto_some front o ≡ Some p → (q : List ℕ × List ℕ) × (o ≡ Some q) × (onto front q ≡ p)
onto_was front None p e = absurd (none-some p e)
onto_was front (Some q) p e = (q, refl, same_Some (onto front q) p e)

-- ---- strings

pub record IsString (bytes : List ℕ) (p : List ℕ × List ℕ) : Type 0 where
  pub whole : bytes ≡ p.0 ++ 34 ∷ p.1
  pub body : is_string_body p.0 ≡ true

-- one more plain byte before a string's inside
plain : (b : ℕ) (body : List ℕ) → eqb b 34 ≡ false → eqb b 92 ≡ false → is_string_body body ≡ true → is_string_body (b ∷ body) ≡ true
plain b [] q s h = rw (q, s) refl
plain b (c ∷ body) q s h = rw (s, q) h

pub string_takes : (bytes : List ℕ) (p : List ℕ × List ℕ) → string_at bytes ≡ Some p → IsString bytes p
string_takes [] p e = absurd (none-some p e)
string_takes (b ∷ []) p e =
    let h = passed (eqb b 34) (Some ([], [])) p e in
    let same : b ≡ 34 = eqb-true b 34 h.0 in
    subst (λ (q : List ℕ × List ℕ). IsString (b ∷ []) q) (same_Some ([], []) p h.1) (record { whole = ap (λ (x : ℕ). x ∷ []) same; body = refl })
string_takes (b ∷ c ∷ bs) p e =
    elim (chosen (eqb b 34) _ _ (Some p) e) [
      | inl q ↦
          let same : b ≡ 34 = eqb-true b 34 q.0 in
          subst (λ (r : List ℕ × List ℕ). IsString (b ∷ c ∷ bs) r) (same_Some ([], c ∷ bs) p q.1) (record { whole = ap (λ (x : ℕ). x ∷ c ∷ bs) same; body = refl })
      | inr q ↦ elim (chosen (eqb b 92) _ _ (Some p) q.1) [
        | inl s ↦
            let t = passed (c == 34 || c == 92) (onto_some (b ∷ c ∷ []) (string_at bs)) p s.1 in
            let u = onto_was (b ∷ c ∷ []) (string_at bs) p t.1 in
            let h = string_takes bs u.0 u.1 in
            subst (λ (r : List ℕ × List ℕ). IsString (b ∷ c ∷ bs) r) u.2
            (record { whole = ap (λ (x : List ℕ). b ∷ c ∷ x) h.whole; body = rw s.0 (and_from (c == 34 || c == 92) (is_string_body u.0.0) t.0 h.body) })
        | inr s ↦
            let u = onto_was (b ∷ []) (string_at (c ∷ bs)) p s.1 in
            let h = string_takes (c ∷ bs) u.0 u.1 in
            subst (λ (r : List ℕ × List ℕ). IsString (b ∷ c ∷ bs) r) u.2
            (record { whole = ap (λ (x : List ℕ). b ∷ x) h.whole; body = plain b u.0.0 q.0 s.0 h.body })
      ]
    ]

pub string_again : (body rest : List ℕ) → is_string_body body ≡ true → string_at (body ++ 34 ∷ rest) ≡ Some (body, rest)
string_again [] [] h = refl
string_again [] (c ∷ rest) h = refl
string_again (b ∷ []) rest h =
    let a = and_parts (not (b == 34)) (not (b == 92)) h in
    let q = not-true (b == 34) a.0 in
    let s = not-true (b == 92) a.1 in
    rw (q, s) (ap (onto_some (b ∷ [])) (string_again [] rest refl))
string_again (b ∷ c ∷ body) rest h =
    elim (chosen (eqb b 92) _ _ true h) [
      | inl s ↦
          let a = and_parts (c == 34 || c == 92) (is_string_body body) s.1 in
          let same : b ≡ 92 = eqb-true b 92 s.0 in
          subst (λ (x : ℕ). string_at ((x ∷ c ∷ body) ++ 34 ∷ rest) ≡ Some (x ∷ c ∷ body, rest)) (sym same)
          (rw a.0 (ap (onto_some (92 ∷ c ∷ [])) (string_again body rest a.1)))
      | inr s ↦
          let a = and_parts (not (b == 34)) (is_string_body (c ∷ body)) s.1 in
          let q = not-true (b == 34) a.0 in
          rw (q, s.0) (ap (onto_some (b ∷ [])) (string_again (c ∷ body) rest a.1))
    ]

-- ---- the first colon

pub colon_takes : (word : List ℕ) (p : List ℕ × List ℕ) → at_colon word ≡ Some p → word ≡ p.0 ++ 58 ∷ p.1
colon_takes [] p e = absurd (none-some p e)
colon_takes (b ∷ bs) p e =
    elim (chosen (eqb b 58) _ _ (Some p) e) [
      | inl q ↦
          let same : b ≡ 58 = eqb-true b 58 q.0 in
          subst (λ (r : List ℕ × List ℕ). b ∷ bs ≡ r.0 ++ 58 ∷ r.1) (same_Some ([], bs) p q.1) (ap (λ (x : ℕ). x ∷ bs) same)
      | inr q ↦
          let u = onto_was (b ∷ []) (at_colon bs) p q.1 in
          subst (λ (r : List ℕ × List ℕ). b ∷ bs ≡ r.0 ++ 58 ∷ r.1) u.2 (ap (λ (x : List ℕ). b ∷ x) (colon_takes bs u.0 u.1))
    ]

pub colon_again : (test : ℕ → Bool) (front rest : List ℕ) → test 58 ≡ false → list_all test front ≡ true → at_colon (front ++ 58 ∷ rest) ≡ Some (front, rest)
colon_again test [] rest n all = refl
colon_again test (b ∷ front) rest n all =
    let h = and_parts (test b) (list_all test front) all in
    let other = false_from_ne_true (eqb b 58) (λ e. false≢true (sym n ∙ ap test (sym (eqb-true b 58 e)) ∙ h.0)) in
    rw other (ap (onto_some (b ∷ [])) (colon_again test front rest n h.1))

-- no run that takes no colon has one
pub no_run : (test : ℕ → Bool) (front rest : List ℕ) → test 58 ≡ false → list_all test (front ++ 58 ∷ rest) ≡ false
no_run test [] rest n = rw n refl
no_run test (b ∷ front) rest n = false_from_ne_true _ (λ e. false≢true (sym (no_run test front rest n) ∙ (and_parts (test b) _ e).1))

-- ---- separators

pub record IsGap (text : List ℕ) (rest : List ℕ) : Type 0 where
  pub gap : List ℕ
  pub whole : text ≡ gap ++ rest
  pub separates : (rest ≡ [] → ⊥) → is_separator false gap ≡ true
  pub closes : rest ≡ [] → is_separator true text ≡ true

pub record IsComment (text : List ℕ) (rest : List ℕ) : Type 0 where
  pub gap : List ℕ
  pub whole : text ≡ gap ++ rest
  pub separates : (rest ≡ [] → ⊥) → is_comment false gap ≡ true
  pub closes : rest ≡ [] → is_comment true text ≡ true

mutual
  pub skip_takes : (text : List ℕ) → IsGap text (skip text)
  skip_takes [] = record { gap = []; whole = refl; separates = λ _. refl; closes = λ _. refl }
  skip_takes (b ∷ bs) =
      elim (b == 35) as (λ t. b == 35 ≡ t → IsGap (b ∷ bs) (cond t (skip_comment bs) (cond (is_white b) (skip bs) (b ∷ bs)))) [
        | true ↦ λ e.
            let h = comment_takes bs in
            record { gap = b ∷ h.gap; whole = ap (λ (x : List ℕ). b ∷ x) h.whole; separates = λ n. rw e (h.separates n); closes = λ n. rw e (h.closes n) }
        | false ↦ λ e.
            elim (is_white b) as (λ t. is_white b ≡ t → IsGap (b ∷ bs) (cond t (skip bs) (b ∷ bs))) [
              | true ↦ λ w.
                  let h = skip_takes bs in
                  record { gap = b ∷ h.gap; whole = ap (λ (x : List ℕ). b ∷ x) h.whole; separates = λ n. rw (e, w) (h.separates n); closes = λ n. rw (e, w) (h.closes n) }
              | false ↦ λ w. record { gap = []; whole = refl; separates = λ _. refl; closes = λ n. absurd (cc) }
            ] refl
      ] refl

  pub comment_takes : (text : List ℕ) → IsComment text (skip_comment text)
  comment_takes [] = record { gap = []; whole = refl; separates = λ n. absurd (n refl); closes = λ _. refl }
  comment_takes (b ∷ bs) =
      elim (is_line_end b) as (λ t. is_line_end b ≡ t → IsComment (b ∷ bs) (cond t (skip bs) (skip_comment bs))) [
        | true ↦ λ e.
            let h = skip_takes bs in
            record { gap = b ∷ h.gap; whole = ap (λ (x : List ℕ). b ∷ x) h.whole; separates = λ n. rw e (h.separates n); closes = λ n. rw e (h.closes n) }
        | false ↦ λ e.
            let h = comment_takes bs in
            record { gap = b ∷ h.gap; whole = ap (λ (x : List ℕ). b ∷ x) h.whole; separates = λ n. rw e (h.separates n); closes = λ n. rw e (h.closes n) }
      ] refl

-- neither white space nor a comment begins here
pub record Stands (text : List ℕ) : Type 0 where
  pub comment : begins (λ b. b == 35) text ≡ false
  pub white : begins is_white text ≡ false

mutual
  pub skip_again : (gap rest : List ℕ) → is_separator false gap ≡ true → Stands rest → skip (gap ++ rest) ≡ rest
  skip_again [] [] e s = refl
  skip_again [] (b ∷ rest) e s = let c = s.comment in let w = s.white in rw (c, w) refl
  skip_again (b ∷ gap) rest e s =
      elim (chosen (b == 35) _ _ true e) [
        | inl c ↦ rw c.0 (comment_again gap rest c.1 s)
        | inr c ↦ let w = and_parts (is_white b) (is_separator false gap) c.1 in rw (c.0, w.0) (skip_again gap rest w.1 s)
      ]

  pub comment_again : (gap rest : List ℕ) → is_comment false gap ≡ true → Stands rest → skip_comment (gap ++ rest) ≡ rest
  comment_again [] rest e s = absurd (false≢true e)
  comment_again (b ∷ gap) rest e s =
      elim (chosen (is_line_end b) _ _ true e) [
        | inl c ↦ rw c.0 (skip_again gap rest c.1 s)
        | inr c ↦ rw c.0 (comment_again gap rest c.1 s)
      ]

mutual
  pub skip_all : (text : List ℕ) → is_separator true text ≡ true → skip text ≡ []
  skip_all [] e = refl
  skip_all (b ∷ bs) e =
      elim (chosen (b == 35) _ _ true e) [
        | inl c ↦ rw c.0 (comment_all bs c.1)
        | inr c ↦ let w = and_parts (is_white b) (is_separator true bs) c.1 in rw (c.0, w.0) (skip_all bs w.1)
      ]

  pub comment_all : (text : List ℕ) → is_comment true text ≡ true → skip_comment text ≡ []
  comment_all [] e = refl
  comment_all (b ∷ bs) e =
      elim (chosen (is_line_end b) _ _ true e) [
        | inl c ↦ rw c.0 (skip_all bs c.1)
        | inr c ↦ rw c.0 (comment_all bs c.1)
      ]
