-- Lists of facts, as chains of nodes.
use Rattle.std.specs.Prelude.{◌≡◌, ◌≤◌, ◌<◌, ℕ, zero, suc, List, [], ◌∷◌, length, map, nat_eq, slice_index_or, count_by}
use Rattle.std.specs.List.{sum_by}
use Rattle.work_list.specs.declared.node.Node.{Node}

abbrev pub node_at : List Node → ℕ → Node
node_at nodes place = slice_index_or nodes place (record { fact = 0; next = 0 })

-- the facts of a chain, by what stands for its first node: one more than its place, or 0 where it has none; at most so many of them
abbrev pub facts_from : List Node → ℕ → ℕ → List ℕ
facts_from nodes zero number = []
facts_from nodes (suc most) zero = []
facts_from nodes (suc most) (suc place) = (node_at nodes place).fact ∷ facts_from nodes most (node_at nodes place).next

-- the facts of each chain, of which none has more than there are nodes
abbrev pub lists_of : List Node → List ℕ → List (List ℕ)
lists_of nodes heads = map (facts_from nodes (length nodes)) heads

-- the chain has the nodes of these places, and ends
abbrev pub IsChain : List Node → ℕ → List ℕ → Type 0
IsChain nodes number [] = number ≡ 0
IsChain nodes number (place ∷ places) = (number ≡ suc place) × (place < length nodes) × IsChain nodes (node_at nodes place).next places

-- each number stands for a chain, and each node is in one of them, once
pub record AreChains (nodes : List Node) (numbers : List ℕ) : Type 0 where
  pub places : List (List ℕ)
  pub as_many : length places ≡ length numbers
  pub each : (k : ℕ) → IsChain nodes (slice_index_or numbers k 0) (slice_index_or places k [])
  pub once : (place : ℕ) → sum_by (count_by (nat_eq place)) places ≤ 1
  pub whole : sum_by length places ≡ length nodes

-- what were chains beside that of the free nodes still are, with the same facts
abbrev pub KeepChains : List Node → ℕ → List Node → ℕ → Type 0
KeepChains old old_free new new_free = (heads : List ℕ) → AreChains old (old_free ∷ heads) → AreChains new (new_free ∷ heads) × (lists_of new heads ≡ lists_of old heads)
