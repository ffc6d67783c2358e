-- Premises as how far they stand before a line, and back.
use Rattle.std.proofs.Common.{◌≡◌, ℕ, ◌^◌, ◌<◌, ◌≤◌, true, List}
use Rattle.std.specs.List.{All, AllByRecursion, list_all}
use Rattle.std.proofs.lemmas.List.Elements.{recursion_from_All}
use Rattle.certificate.specs.Runs.{distances}
use Rattle.certificate.specs.Tests.{is_premise}
use Rattle.certificate.proofs.Every.{every_weaker, every_both, every_passes}
use Rattle.certificate.proofs.LineMeaning.{premise_means}
use Rattle.certificate.proofs.WrittenLines.{IsBack, premises_back, distances_back, premises_pass}

numbered_back : (n : ℕ) (ps : List ℕ) → list_all is_premise ps ≡ true → All (λ p. p < n) ps → AllByRecursion (IsBack n) ps
numbered_back n ps t h =
    every_both (λ p. 1 ≤ p) (λ p. p < n) ps (every_weaker (λ p. is_premise p ≡ true) (λ p. 1 ≤ p) (λ p u. (premise_means p u).0) ps (every_passes is_premise ps t)) (recursion_from_All (λ p. p < n) ps h)

pub distances_pass : (n : ℕ) (ps : List ℕ) → list_all is_premise ps ≡ true → (n < 2 ^ 64) × All (λ p. p < n) ps → list_all is_premise (distances n ps) ≡ true
distances_pass n ps t h = premises_pass n (distances n ps) h.0 (distances_back n ps (numbered_back n ps t h.1))

pub distances_again : (n : ℕ) (ps : List ℕ) → list_all is_premise ps ≡ true → (n < 2 ^ 64) × All (λ p. p < n) ps → distances n (distances n ps) ≡ ps
distances_again n ps t h = premises_back n ps (numbered_back n ps t h.1)
