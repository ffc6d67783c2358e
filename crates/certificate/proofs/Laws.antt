-- Readers and texts: what is read was written so, and what was written is read again.
use Rattle.std.proofs.Common.{◌≡◌, ℕ, Bool, true, cond, List, ◌++◌, Option, Some, None, refl, sym, ap, subst, ◌∙◌, inl, inr, ◌⊎◌, append_assoc}
use Rattle.std.proofs.lemmas.Option.{none-some, same_Some}
use Rattle.lemmas.proofs.Choices.{passed}
use Rattle.certificate.specs.Reading.{Reader, ◌>>=◌, after, behind, both, such, made, by_word, ended}
use Rattle.certificate.proofs.Words.{after_takes, after_again}

-- The reader reads just the texts of valid values. MayFollow says before which bytes it reads no further than the text.
pub record Reads {A : Type 0} (MayFollow : List ℕ → Type 0) (IsValid : A → Type 0) (text : A → List ℕ) (read : Reader A) : Type 0 where
  pub takes : (bytes : List ℕ) (x : A) (rest : List ℕ) → read bytes ≡ Some (x, rest) → (bytes ≡ text x ++ rest) × IsValid x
  pub again : (x : A) (rest : List ℕ) → IsValid x → MayFollow rest → read (text x ++ rest) ≡ Some (x, rest)

abbrev pub Anything : List ℕ → Type 0
Anything rest = Unit {0}

-- the value of a step that did not fail
pub bind_some : {A B : Type 0} (o : Option A) (f : A → Option B) (y : B) → (o >>= f) ≡ Some y → (x : A) × (o ≡ Some x) × (f x ≡ Some y)
bind_some None f y e = absurd (none-some y e)
bind_some (Some x) f y e = (x, refl, e)

-- the same reader with its values and texts said in other words
pub restated : {A : Type 0} (F G : List ℕ → Type 0) (V W : A → Type 0) (t u : A → List ℕ) (r : Reader A) → Reads F V t r
    → ((rest : List ℕ) → G rest → F rest) → ((x : A) → V x → W x) → ((x : A) → W x → V x) → ((x : A) → t x ≡ u x) → Reads G W u r
restated F G V W t u r h follows to from same = record {
  takes = λ bytes x rest e. let a = h.takes bytes x rest e in (a.0 ∙ ap (λ (s : List ℕ). s ++ rest) (same x), to x a.1);
  again = λ x rest w g. ap (λ (s : List ℕ). r (s ++ rest)) (sym (same x)) ∙ h.again x rest (from x w) (follows rest g);
}

pub behind_reads : {A : Type 0} (F : List ℕ → Type 0) (V : A → Type 0) (t : A → List ℕ) (r : Reader A) (word : List ℕ) → Reads F V t r → Reads F V (λ x. word ++ t x) (behind word r)
behind_reads F V t r word h = record {
  takes = λ bytes x rest e.
      let a = bind_some (after word bytes) r (x, rest) e in
      let b = h.takes a.0 x rest a.2 in
      (after_takes word bytes a.0 a.1 ∙ ap (λ (s : List ℕ). word ++ s) b.0 ∙ sym (append_assoc word (t x) rest), b.1);
  again = λ x rest v f.
      ap (behind word r) (append_assoc word (t x) rest) ∙ ap (λ o. o >>= r) (after_again word (t x ++ rest)) ∙ h.again x rest v f;
}

pub both_reads : {A B : Type 0} (F G : List ℕ → Type 0) (V : A → Type 0) (W : B → Type 0) (t : A → List ℕ) (u : B → List ℕ) (r : Reader A) (q : Reader B) → Reads F V t r → Reads G W u q
    → ((y : B) (rest : List ℕ) → W y → G rest → F (u y ++ rest)) → Reads G (λ (p : A × B). V p.0 × W p.1) (λ p. t p.0 ++ u p.1) (both r q)
both_reads {A} {B} F G V W t u r q h k follows = record {
  takes = λ bytes p rest e.
      let a = bind_some (r bytes) (λ x. q x.1 >>= λ y. Some ((x.0, y.0), y.1)) (p, rest) e in
      let b = bind_some (q a.0.1) (λ y. Some ((a.0.0, y.0), y.1)) (p, rest) a.2 in
      let first = h.takes bytes a.0.0 a.0.1 a.1 in
      let second = k.takes a.0.1 b.0.0 b.0.1 b.1 in
      let made : (A × B) × List ℕ = ((a.0.0, b.0.0), b.0.1) in
      let e' : made ≡ (p, rest) = same_Some _ _ b.2 in
      subst (λ (m : (A × B) × List ℕ). (bytes ≡ (t m.0.0 ++ u m.0.1) ++ m.1) × (V m.0.0 × W m.0.1)) e'
      (first.0 ∙ ap (λ (s : List ℕ). t a.0.0 ++ s) second.0 ∙ sym (append_assoc (t a.0.0) (u b.0.0) b.0.1), (first.1, second.1));
  again = λ p rest v g.
      ap (both r q) (append_assoc (t p.0) (u p.1) rest)
      ∙ ap (λ o. o >>= λ x. q x.1 >>= λ y. Some ((x.0, y.0), y.1)) (h.again p.0 (u p.1 ++ rest) v.0 (follows p.1 rest v.1 g))
      ∙ ap (λ o. o >>= λ y. Some ((p.0, y.0), y.1)) (k.again p.1 rest v.1 g);
}

pub such_reads : {A : Type 0} (F : List ℕ → Type 0) (V : A → Type 0) (t : A → List ℕ) (r : Reader A) (test : A → Bool) → Reads F V t r → Reads F (λ x. V x × (test x ≡ true)) t (such test r)
such_reads {A} F V t r test h = record {
  takes = λ bytes x rest e.
      let a = bind_some (r bytes) (λ y. cond (test y.0) (Some y) None) (x, rest) e in
      let p = passed (test a.0.0) (Some a.0) (x, rest) a.2 in
      let e' : a.0 ≡ (x, rest) = same_Some _ _ p.1 in
      let b = h.takes bytes a.0.0 a.0.1 a.1 in
      subst (λ (m : A × List ℕ). (bytes ≡ t m.0 ++ m.1) × (V m.0 × (test m.0 ≡ true))) e' (b.0, (b.1, p.0));
  again = λ x rest v f.
      ap (λ o. o >>= λ y. cond (test y.0) (Some y) None) (h.again x rest v.0 f) ∙ ap (λ b. cond b (Some (x, rest)) None) v.1;
}

pub made_reads : {A B : Type 0} (F : List ℕ → Type 0) (V : A → Type 0) (t : A → List ℕ) (u : B → List ℕ) (r : Reader A) (f : A → B) → Reads F V t r → ((x : A) → V x → t x ≡ u (f x))
    → Reads F (λ y. (x : A) × (f x ≡ y) × V x) u (made f r)
made_reads {A} {B} F V t u r f h same = record {
  takes = λ bytes y rest e.
      let a = bind_some (r bytes) (λ x. Some (f x.0, x.1)) (y, rest) e in
      let b = h.takes bytes a.0.0 a.0.1 a.1 in
      let made : B × List ℕ = (f a.0.0, a.0.1) in
      let e' : made ≡ (y, rest) = same_Some _ _ a.2 in
      subst (λ (m : B × List ℕ). (bytes ≡ u m.0 ++ m.1) × ((x : A) × (f x ≡ m.0) × V x)) e' (b.0 ∙ ap (λ (s : List ℕ). s ++ a.0.1) (same a.0.0 b.1), (a.0.0, refl, b.1));
  again = λ y rest v g.
      subst (λ z. made f r (u z ++ rest) ≡ Some (z, rest)) v.1
      (ap (λ (s : List ℕ). made f r (s ++ rest)) (sym (same v.0 v.2)) ∙ ap (λ o. o >>= λ x. Some (f x.0, x.1)) (h.again v.0 rest v.2 g));
}

pub ended_reads : {A : Type 0} (F : List ℕ → Type 0) (V : A → Type 0) (t : A → List ℕ) (r : Reader A) (word : List ℕ) → Reads F V t r → ((rest : List ℕ) → F (word ++ rest)) → Reads Anything V (λ x. t x ++ word) (ended r word)
ended_reads {A} F V t r word h follows = record {
  takes = λ bytes x rest e.
      let a = bind_some (r bytes) (λ y. after word y.1 >>= λ others. Some (y.0, others)) (x, rest) e in
      let b = bind_some (after word a.0.1) (λ others. Some (a.0.0, others)) (x, rest) a.2 in
      let first = h.takes bytes a.0.0 a.0.1 a.1 in
      let made : A × List ℕ = (a.0.0, b.0) in
      let e' : made ≡ (x, rest) = same_Some _ _ b.2 in
      subst (λ (m : A × List ℕ). (bytes ≡ (t m.0 ++ word) ++ m.1) × V m.0) e'
      (first.0 ∙ ap (λ (s : List ℕ). t a.0.0 ++ s) (after_takes word a.0.1 b.0 b.1) ∙ sym (append_assoc (t a.0.0) word b.0), first.1);
  again = λ x rest v g.
      ap (ended r word) (append_assoc (t x) word rest)
      ∙ ap (λ o. o >>= λ y. after word y.1 >>= λ others. Some (y.0, others)) (h.again x (word ++ rest) v (follows rest))
      ∙ ap (λ o. o >>= λ others. Some (x, others)) (after_again word rest);
}

-- ---- a choice by a word

abbrev choice : {A : Type 0} → Option (List ℕ) → Reader A → Option (A × List ℕ) → Option (A × List ℕ)
choice o read other = elim o [ None ↦ other | Some rest ↦ read rest ]

choice_was : {A : Type 0} (o : Option (List ℕ)) (read : Reader A) (other : Option (A × List ℕ)) (y : A × List ℕ) → choice o read other ≡ Some y → ((rest : List ℕ) × (o ≡ Some rest) × (read rest ≡ Some y)) ⊎ ((o ≡ None) × (other ≡ Some y))
choice_was None read other y e = inr (refl, e)
choice_was (Some rest) read other y e = inl (rest, refl, e)

-- what is made behind the word, and else what another reader reads
pub by_word_else : {A L : Type 0} (F : List ℕ → Type 0) (V : L → Type 0) (W : A → Type 0) (s : L → List ℕ) (t : A → List ℕ) (r : Reader L) (q : Reader A) (word : List ℕ) (f : L → A)
    → Reads F V s r → Reads F W t q → ((x : L) → word ++ s x ≡ t (f x)) → ((a : A) (rest : List ℕ) → W a → F rest → after word (t a ++ rest) ≡ None)
    → Reads F (λ a. ((x : L) × (f x ≡ a) × V x) ⊎ W a) t (by_word word (made f r) q)
by_word_else {A} {L} F V W s t r q word f h k left other = record {
  takes = λ bytes a rest e.
      elim (choice_was (after word bytes) (made f r) (q bytes) (a, rest) e) [
        | inl c ↦
            let b = bind_some (r c.0) (λ x. Some (f x.0, x.1)) (a, rest) c.2 in
            let d = h.takes c.0 b.0.0 b.0.1 b.1 in
            let m : A × List ℕ = (f b.0.0, b.0.1) in
            let e' : m ≡ (a, rest) = same_Some _ _ b.2 in
            subst (λ (m : A × List ℕ). (bytes ≡ t m.0 ++ m.1) × (((x : L) × (f x ≡ m.0) × V x) ⊎ W m.0)) e'
            (after_takes word bytes c.0 c.1 ∙ ap (λ (z : List ℕ). word ++ z) d.0 ∙ sym (append_assoc word (s b.0.0) b.0.1) ∙ ap (λ (z : List ℕ). z ++ b.0.1) (left b.0.0), inl (b.0.0, refl, d.1))
        | inr c ↦ (let d = k.takes bytes a rest c.1 in (d.0, inr d.1))
      ];
  again = λ a rest v i.
      elim v [
        | inl x ↦
            subst (λ b. by_word word (made f r) q (t b ++ rest) ≡ Some (b, rest)) x.1
            (ap (λ (z : List ℕ). by_word word (made f r) q (z ++ rest)) (sym (left x.0))
            ∙ ap (by_word word (made f r) q) (append_assoc word (s x.0) rest)
            ∙ ap (λ o. choice o (made f r) (q (word ++ (s x.0 ++ rest)))) (after_again word (s x.0 ++ rest))
            ∙ ap (λ o. o >>= λ y. Some (f y.0, y.1)) (h.again x.0 rest x.2 i))
        | inr w ↦ ap (λ o. choice o (made f r) (q (t a ++ rest))) (other a rest w i) ∙ k.again a rest w i
      ];
}

pub by_word_reads : {A L R : Type 0} (F : List ℕ → Type 0) (V : L → Type 0) (W : R → Type 0) (s : L → List ℕ) (u : R → List ℕ) (t : A → List ℕ) (r : Reader L) (q : Reader R) (word : List ℕ) (f : L → A) (g : R → A)
    → Reads F V s r → Reads F W u q → ((x : L) → word ++ s x ≡ t (f x)) → ((y : R) → u y ≡ t (g y)) → ((y : R) (rest : List ℕ) → W y → F rest → after word (u y ++ rest) ≡ None)
    → Reads F (λ a. ((x : L) × (f x ≡ a) × V x) ⊎ ((y : R) × (g y ≡ a) × W y)) t (by_word word (made f r) (made g q))
by_word_reads {A} {L} {R} F V W s u t r q word f g h k left right other =
    by_word_else F V (λ a. (y : R) × (g y ≡ a) × W y) s t r (made g q) word f h (made_reads F W u t q g k (λ y w. right y)) left
    (λ a rest w i. subst (λ b. after word (t b ++ rest) ≡ None) w.1 (ap (λ (z : List ℕ). after word (z ++ rest)) (sym (right w.0)) ∙ other w.0 rest w.2 i))
