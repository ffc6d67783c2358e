-- Lists of what gave facts.
use Rattle.std.proofs.Common.{◌≡◌, inl, inr, ℕ, ◌+◌, ◌-◌, ◌<◌, ◌≤◌, min, List, ◌++◌, length, map, take, get_or, slice_get, Some, sym, ap, ap₂, ◌∙◌, append-nil, length-append, arith}
use Rattle.std.proofs.lemmas.List.{get_or-append-add, length-map, length-take-le, take-append-le, take-map, take-take}
use Rattle.std.proofs.Math.Seq.{take-append-add}
use Rattle.std.proofs.lemmas.Bool.{cases_lt}
use Rattle.std.proofs.lemmas.Option.{slice_get-get_or}
use Rattle.lemmas.proofs.Mapped.{slice_get_map}
use Rattle.facts.specs.Births.{reason, Reason}
use Rattle.facts.specs.declared.births.Birth.{Birth}
use Rattle.inference.specs.BirthLists.{births_of}

module _ (shared : List Birth) (many : ℕ) (own : List Birth) (within : many ≤ length shared) where
  firsts : length (take many shared) ≡ many
  firsts = length-take-le many shared within

  abbrev pub reasons : List Reason
  reasons = map reason (births_of shared many own)

  pub long : length reasons ≡ many + length own
  long = length-map (births_of shared many own) reason ∙ length-append (take many shared) own ∙ ap (λ (n : ℕ). n + length own) firsts

  -- what is its own stands behind
  pub at_own : (n : ℕ) (b : Birth) → many ≤ n → n < many + length own → b ≡ get_or own (n - many) b → slice_get reasons n ≡ Some (reason b)
  at_own n b high low is =
      let e : n ≡ length (take many shared) + (n - many) = omega (arith, high, firsts) in
      let l : n < length (births_of shared many own) = omega (arith, low, length-append (take many shared) own, firsts) in
      let at : get_or (births_of shared many own) n b ≡ b = ap (λ (k : ℕ). get_or (births_of shared many own) k b) e ∙ get_or-append-add (take many shared) own (n - many) b ∙ sym is in
      slice_get_map reason (births_of shared many own) n b (slice_get-get_or (births_of shared many own) n b l ∙ ap Some at)

  -- the first so many
  pub cut : (len : ℕ) → map reason (births_of shared (min many len) (take (len - many) own)) ≡ take len reasons
  cut len = ap (map reason) first ∙ sym (take-map reason len (births_of shared many own))
    where
      first : births_of shared (min many len) (take (len - many) own) ≡ take len (births_of shared many own)
      first = elim (cases_lt many len) [
        | inl more ↦
            (let m : min many len ≡ many = omega (arith, more) in
            let e : length (take many shared) + (len - many) ≡ len = omega (arith, more, firsts) in
            ap (λ (n : ℕ). take n shared ++ take (len - many) own) m ∙ sym (take-append-add (take many shared) own (len - many)) ∙ ap (λ (n : ℕ). take n (births_of shared many own)) e)
        | inr few ↦
            (let m : min many len ≡ len = omega (arith, few) in
            let none : len - many ≡ 0 = omega (arith, few) in
            ap₂ (λ (n k : ℕ). take n shared ++ take k own) m none ∙ append-nil (take len shared) ∙ sym (take-take len many shared few) ∙ sym (take-append-le len (take many shared) own (omega (arith, few, firsts))))
      ]
