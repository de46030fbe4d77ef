-- Scripts with their processes on other nodes; and those with some of them on one node and all others on another.
use Rattle.std.specs.Prelude.{◌≡◌, ℕ, ◌+◌, ◌<◌, List, [], ◌∷◌, codes, if◌then◌else◌}
use Rattle.std.proofs.Math.Bool.{beq}
use Rattle.std.specs.Str.{bytes_eq}
use Rattle.wire_runs.specs.Plan.{Plan, same_node, process_count}
use Rattle.wire_runs.specs.Fences.{is_member}
use Rattle.wire_runs.specs.Placings.{IsPlacing}
use Rattle.wire_scripts.specs.Process.{Process}
use Rattle.wire_scripts.specs.Scripts.{Scripts}
use Rattle.wire_scripts.specs.Planned.{plan_of}

-- processes, each on the node that belongs to its number, where the first of them has the number n
abbrev pub moved_from : ℕ → (ℕ → ℕ) → List Process → List Process
moved_from n nodes [] = []
moved_from n nodes (p ∷ ps) = record p { node = nodes n } ∷ moved_from (n + 1) nodes ps

-- scripts with the same jobs and calls, their nodes of these names and their processes on whatever nodes
abbrev pub moved : Scripts → List (List ℕ) → (ℕ → ℕ) → Scripts
moved s names nodes = record s { nodes = names; processes = moved_from 0 nodes s.processes }

-- a name that this isn't
abbrev pub another_name : List ℕ → List ℕ
another_name name = if bytes_eq name (codes "n1") then codes "n2" else codes "n1"

-- nodes, with a second one where there is only one
abbrev pub with_second : List (List ℕ) → List (List ℕ)
with_second (name ∷ []) = name ∷ (another_name name ∷ [])
with_second names = names

-- the node of a process: the second of the nodes for one of these ranks, the first for any other
abbrev pub node_beside : List ℕ → ℕ → ℕ
node_beside ranks p = if is_member ranks p then 1 else 0

-- the scripts with these ranks on the second node, and all others on the first
abbrev pub placed : Scripts → List ℕ → Scripts
placed s ranks = moved s (with_second s.nodes) (node_beside ranks)

-- two processes are on one node exactly where both are of these ranks, or neither is
abbrev pub AreAloneTogether : Plan → List ℕ → Type 0
AreAloneTogether plan ranks =
    (p q : ℕ) → p < process_count plan → q < process_count plan → same_node plan p q ≡ beq (is_member ranks p) (is_member ranks q)

-- scripts on other nodes have a plan that is a placing of theirs
abbrev pub MovedIsPlacing : Type 0
MovedIsPlacing = (s : Scripts) (names : List (List ℕ)) (nodes : ℕ → ℕ) → IsPlacing (plan_of s) (plan_of (moved s names nodes))
