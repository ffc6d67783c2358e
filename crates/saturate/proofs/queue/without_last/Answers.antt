use Rattle.std.proofs.Common.{◌≡◌, ◌≢◌, ℕ, inl, inr, List, [], ◌∷◌, ◌++◌, Option, Some, None, Bor, sym, ap, ◌∙◌}
use Rattle.std.specs.Option.{MatchOption, unwrap_or}
use Rattle.std.proofs.lemmas.Bool.Decides.{Decides-eqb}
use Rattle.std.proofs.lemmas.Slice.Eq.{strip_suffix_is}
use Rattle.saturate.specs.Turns.{IsWithoutLast}
use Rattle.saturate.proofs.queue.without_last.Goals as goal

stripped : (number : ℕ) (list rest : Bor (List ℕ)) (r : Option (Bor (List ℕ))) → rest ≡ unwrap_or r list → MatchOption r ((front : List ℕ) → list.now ≢ front ++ number ∷ []) (λ x. list.now ≡ x.now ++ number ∷ []) → IsWithoutLast number list.now rest.now
stripped number list rest None is m = inr (ap (λ (b : Bor (List ℕ)). b.now) is, λ last. m last.0 last.1)
stripped number list rest (Some x) is m = inl (m ∙ ap (λ (b : Bor (List ℕ)). b.now ++ number ∷ []) (sym is))

pub returns : goal.returns
returns c = stripped c.args.number c.args.list c.unwrap_or.result c.strip_suffix.result c.unwrap_or.ensures (strip_suffix_is Decides-eqb c.args.list.now (c.args.number ∷ []) c.strip_suffix.result c.strip_suffix.ensures.cases)
