-- Slots as they are filled and searched.
use Rattle.std.proofs.Common.{◌≡◌, ◌≢◌, ℕ, ◌<◌, inl, inr, List, [], ◌∷◌, ◌++◌, length, get_or, set, sym, ap, ◌∙◌, arith}
use Rattle.std.proofs.lemmas.Bool.{cases_eq, cases_lt}
use Rattle.std.proofs.lemmas.List.{length_push, get_or_append_left, get_or_past, get_or-set_other, get_or-set_same}
use Rattle.std.proofs.Math.Seq.{get_or-append_seam}
use Rattle.facts.specs.Slots.{IsFirstFree, Stands}

-- slots of which one has another number
pub record IsPut (old new : List ℕ) (slot number : ℕ) : Type 0 where
  pub here : get_or new slot 0 ≡ number
  pub others : (i : ℕ) → i ≢ slot → get_or new i 0 ≡ get_or old i 0

pub put_set : (old : List ℕ) (slot number : ℕ) → slot < length old → IsPut old (set old slot number) slot number
put_set old slot number within = record {
  here = get_or-set_same old slot number 0 within;
  others = λ i ne. get_or-set_other old slot i number 0 ne;
}

pub put_push : (old : List ℕ) (slot number : ℕ) → slot ≡ length old → IsPut old (old ++ number ∷ []) slot number
put_push old slot number last = record {
  here = rw last (get_or-append_seam old number [] 0);
  others = λ i ne. elim (cases_lt i (length old)) [
    | inl low ↦ get_or_append_left old (number ∷ []) 0 i low
    | inr high ↦
        elim (cases_eq i (length old)) [
          | inl e ↦ absurd (ne (e ∙ sym last))
          | inr apart ↦ get_or_past (old ++ number ∷ []) i 0 (omega (arith, length_push old number)) ∙ sym (get_or_past old i 0 (omega arith))
        ]
  ];
}

-- where a number is put into the first free slot, it stands there
pub stands_put : (old new : List ℕ) (slot number bucket : ℕ) → IsPut old new slot number → IsFirstFree old bucket slot → Stands new bucket number
stands_put old new slot number bucket put first = record {
  slot = slot;
  from = first.from;
  holds = put.here;
  no_gap = λ i low high free. first.no_gap i low high (sym (put.others i (λ e. absurd (omega (arith, e)))) ∙ free);
}

-- where a number is put into a free slot, what stood somewhere stands there still
pub stands_still : (old new : List ℕ) (slot number : ℕ) → IsPut old new slot number → get_or old slot 0 ≡ 0 → 0 < number →
    (b n : ℕ) → 0 < n → Stands old b n → Stands new b n
stands_still old new slot number put free some b n more stood =
    let apart : stood.slot ≢ slot = λ e. absurd (omega (arith, stood.holds, ap (λ i. get_or old i 0) e, free)) in
    record {
      slot = stood.slot;
      from = stood.from;
      holds = put.others stood.slot apart ∙ stood.holds;
      no_gap = λ i low high gone. elim (cases_eq i slot) [
        | inl e ↦ absurd (omega (arith, put.here, ap (λ j. get_or new j 0) e, gone))
        | inr ne ↦ stood.no_gap i low high (sym (put.others i ne) ∙ gone)
      ];
    }
