-- Scripts on other nodes: they are sound, and their plan is a placing.
use Rattle.std.proofs.Common.{◌≡◌, ◌∙◌, ap, sym, subst, refl, ℕ, zero, suc, ◌+◌, ◌<◌, ◌^◌, List, [], ◌∷◌, ◌++◌, drop, get_or, add-one, Bool, true, false, length, map, take, Option, Some, None, option_map, slice_get, count_by, arith}
use Rattle.std.specs.Prelude.{◌==◌, slice_index_or, nat_lt, if◌then◌else◌}
use Rattle.std.specs.List.{list_all}
use Rattle.std.proofs.Math.ListN.{set}
use Rattle.std.proofs.Math.Bool.{beq}
use Rattle.std.proofs.lemmas.Option.{slice_get-map, slice_get-get_or}
use Rattle.std.proofs.lemmas.List.{length-map}
use Rattle.std.proofs.lemmas.List.Sums.{sum_by-cons}
use Rattle.wire_types.specs.declared.Call.{Call}
use Rattle.wire_types.specs.declared.Call.TheVariants.{Put, Commit, Fence, Get, GetNow, Publish, Lookup, LookupWait, Unpublish, UnpublishAll}
use Rattle.wire_types.specs.declared.Reply.{Reply}
use Rattle.wire_types.specs.Said.{is_reserved}
use Rattle.wire_runs.specs.Plan as runs
use Rattle.wire_runs.specs.Fences.{is_member}
use Rattle.wire_runs.specs.Placings.{IsPlacing}
use Rattle.wire_runs.proofs.PlacingCalls.{without_said, placing_by_calls}
use Rattle.wire_scripts.specs.Process.{Process}
use Rattle.wire_scripts.specs.Map.{job_in, job_at, rank_of}
use Rattle.wire_scripts.specs.Scripts.{Scripts, text_at, call_at, calls_in, call_count, IsSound}
use Rattle.wire_scripts.specs.Planned.{unless_reserved, planned_call, planned_process, plan_of}
use Rattle.wire_scripts.specs.Placed.{moved_from, moved, with_second, node_beside, placed, AreAloneTogether, MovedIsPlacing}
use Rattle.wire_scripts.proofs.PlannedCalls.{calls_are}

-- what a read past the end would give
abbrev nobody : Process
nobody = record { job = 0; rank = 0; node = 0; calls = [] }

-- a process on another node
abbrev pub on_node : ℕ → Process → Process
on_node node p = record p { node = node }

module _ (nodes : ℕ → ℕ) where
  pub moved_length : (n : ℕ) (ps : List Process) → length (moved_from n nodes ps) ≡ length ps
  moved_length n [] = refl
  moved_length n (p ∷ ps) = ap suc (moved_length (n + 1) ps)

  pub moved_get : (n : ℕ) (ps : List Process) (p : ℕ) → slice_get (moved_from n nodes ps) p ≡ option_map (on_node (nodes (n + p))) (slice_get ps p)
  moved_get n [] p = refl
  moved_get n (q ∷ qs) zero = let s : n ≡ n + 0 = omega arith in ap (λ m. Some (on_node (nodes m) q)) s
  moved_get n (q ∷ qs) (suc p) = let s : (n + 1) + p ≡ n + suc p = omega arith in moved_get (n + 1) qs p ∙ ap (λ m. option_map (on_node (nodes m)) (slice_get qs p)) s

  moved_calls : (n : ℕ) (ps : List Process) → call_count (moved_from n nodes ps) ≡ call_count ps
  moved_calls n [] = refl
  moved_calls n (p ∷ ps) =
      sum_by-cons _ (on_node (nodes n) p) (moved_from (n + 1) nodes ps) ∙ ap (λ k. length p.calls + k) (moved_calls (n + 1) ps)
      ∙ sym (sum_by-cons (λ (q : Process). length q.calls) p ps)

  moved_take : (n : ℕ) (ps : List Process) (k : ℕ) → take k (moved_from n nodes ps) ≡ moved_from n nodes (take k ps)
  moved_take n ps zero = refl
  moved_take n [] (suc k) = refl
  moved_take n (p ∷ ps) (suc k) = ap (λ qs. on_node (nodes n) p ∷ qs) (moved_take (n + 1) ps k)

  moved_jobs : (job n : ℕ) (ps : List Process) → count_by (λ (q : Process). q.job == job) (moved_from n nodes ps) ≡ count_by (λ (q : Process). q.job == job) ps
  moved_jobs job n [] = refl
  moved_jobs job n (p ∷ ps) =
      sum_by-cons _ (on_node (nodes n) p) (moved_from (n + 1) nodes ps) ∙ ap (λ k. (if p.job == job then 1 else 0) + k) (moved_jobs job (n + 1) ps)
      ∙ sym (sum_by-cons _ p ps)

job_on : (node : ℕ) (o : Option Process) → job_in (option_map (on_node node) o) ≡ job_in o
job_on node None = refl
job_on node (Some p) = refl

calls_on : (node : ℕ) (o : Option Process) → calls_in (option_map (on_node node) o) ≡ calls_in o
calls_on node None = refl
calls_on node (Some p) = refl

module _ (s : Scripts) (names : List (List ℕ)) (nodes : ℕ → ℕ) where
  abbrev after : Scripts
  after = moved s names nodes

  abbrev others : List Process
  others = after.processes

  same_length : length others ≡ length s.processes
  same_length = moved_length nodes 0 s.processes

  same_job : (p : ℕ) → job_at others p ≡ job_at s.processes p
  same_job p = ap job_in (moved_get nodes 0 s.processes p) ∙ job_on _ (slice_get s.processes p)

  same_rank : (p : ℕ) → rank_of others p ≡ rank_of s.processes p
  same_rank p =
      ap (λ ps. count_by (λ (q : Process). q.job == job_at others p) ps) (moved_take nodes 0 s.processes p)
      ∙ moved_jobs nodes (job_at others p) 0 (take p s.processes)
      ∙ ap (λ job. count_by (λ (q : Process). q.job == job) (take p s.processes)) (same_job p)

  same_calls : (p : ℕ) → calls_in (slice_get others p) ≡ calls_in (slice_get s.processes p)
  same_calls p = ap calls_in (moved_get nodes 0 s.processes p) ∙ calls_on _ (slice_get s.processes p)

  same_call : (p c : ℕ) → call_at others p c ≡ call_at s.processes p c
  same_call p c = ap (λ calls. slice_get calls c) (same_calls p)

  ranked_on : (p node : ℕ) (o : Option Process) (q : Process) → option_map (on_node node) o ≡ Some q →
      ((r : Process) → o ≡ Some r → r.rank ≡ rank_of s.processes p) → q.rank ≡ rank_of s.processes p
  ranked_on p node None q is h = absurd (cc)
  ranked_on p node (Some r) q is h = let same : on_node node r ≡ q = cc in ap (λ (x : Process). x.rank) (sym same) ∙ h r refl

  pub moved_sound : IsSound s → IsSound after
  moved_sound h = record {
    counted = record {
      few_processes = subst (λ n. n < 2 ^ 31) (sym same_length) h.counted.few_processes;
      few_calls = subst (λ n. n < 2 ^ 31) (sym (moved_calls nodes 0 s.processes)) h.counted.few_calls;
    };
    ranked = record {
      together = λ p q le lt. rw (same_job p, same_job q) (h.ranked.together p q le (subst (λ n. q < n) same_length lt));
      ranks = λ p process is.
          ranked_on p _ (slice_get s.processes p) process (sym (moved_get nodes 0 s.processes p) ∙ is) (h.ranked.ranks p) ∙ sym (same_rank p);
    };
    owned = λ p c owner call is owns. subst (λ n. owner < n) (sym same_length) (h.owned p c owner call (sym (same_call p c) ∙ is) owns);
    sets = record {
      canonical = h.sets.canonical;
      within = λ n set is. subst (λ k. list_all (λ m. nat_lt m k) set ≡ true) (sym same_length) (h.sets.within n set is);
      once = h.sets.once;
    };
    members = λ p c set collect is. h.members p c set collect (sym (same_call p c) ∙ is);
    names = λ p c name call is named. h.names p c name call (sym (same_call p c) ∙ is) named;
  }

  without_reserved : (text : List ℕ) (a b : Reply) (call : runs.Call) → without_said (unless_reserved text a call) ≡ without_said (unless_reserved text b call)
  without_reserved text a b call = go (is_reserved text)
    where
      go : (r : Bool) → without_said (if r then runs.CallFixed a else call) ≡ without_said (if r then runs.CallFixed b else call)
      go true = refl
      go false = refl

  call_without : (c : Call) → without_said (planned_call s c) ≡ without_said (planned_call after c)
  call_without (Put scope key value) = refl
  call_without Commit = refl
  call_without (Fence set collect) = refl
  call_without (Get owner key) = without_reserved (text_at s.keys key) _ _ _
  call_without (GetNow owner key) = without_reserved (text_at s.keys key) _ _ _
  call_without (Publish name value) = refl
  call_without (Lookup name) = refl
  call_without (LookupWait name) = refl
  call_without (Unpublish name) = refl
  call_without UnpublishAll = refl

  calls_without : (calls : List Call) → map without_said (map (planned_call s) calls) ≡ map without_said (map (planned_call after) calls)
  calls_without [] = refl
  calls_without (c ∷ calls) = λ i. call_without c i ∷ calls_without calls i

  pub as_placing : IsPlacing (plan_of s) (plan_of after)
  as_placing =
      placing_by_calls (plan_of s) (plan_of after) refl
      (length-map s.processes (planned_process s) ∙ sym same_length ∙ sym (length-map others (planned_process after)))
      (λ p.
      ap (map without_said) (calls_are s p)
      ∙ calls_without (calls_in (slice_get s.processes p))
      ∙ ap (λ calls. map without_said (map (planned_call after) calls)) (sym (same_calls p))
      ∙ sym (ap (map without_said) (calls_are after p)))

pub moved_is_placing : MovedIsPlacing
moved_is_placing s names nodes = as_placing s names nodes

-- one process more is on its node
moved_set : (nodes : ℕ → ℕ) (n : ℕ) (ps : List Process) (i : ℕ) (d : Process) → i < length ps →
    set (moved_from n nodes (take i ps) ++ drop i ps) i (on_node (nodes (n + i)) (get_or (moved_from n nodes (take i ps) ++ drop i ps) i d))
    ≡ moved_from n nodes (take (suc i) ps) ++ drop (suc i) ps
moved_set nodes n [] i d low = absurd (omega (arith, low))
moved_set nodes n (p ∷ ps) zero d low = let s : n + 0 ≡ n = omega arith in ap (λ m. on_node (nodes m) p ∷ ps) s
moved_set nodes n (p ∷ ps) (suc i) d low =
    let s : n + suc i ≡ (n + 1) + i = omega arith in
    let rest = moved_from (n + 1) nodes (take i ps) ++ drop i ps in
    ap (λ m. on_node (nodes n) p ∷ set rest i (on_node (nodes m) (get_or rest i d))) s
    ∙ ap (λ qs. on_node (nodes n) p ∷ qs) (moved_set nodes (n + 1) ps i d (omega (arith, low)))

pub moved_step : (nodes : ℕ → ℕ) (ps qs : List Process) (i node : ℕ) (d : Process) → i < length ps → node ≡ nodes i →
    qs ≡ moved_from 0 nodes (take i ps) ++ drop i ps → set qs i (on_node node (get_or qs i d)) ≡ moved_from 0 nodes (take (i + 1) ps) ++ drop (i + 1) ps
moved_step nodes ps qs i node d low is e =
    let s : i ≡ 0 + i = omega arith in
    ap (λ k. set qs i (on_node k (get_or qs i d))) (is ∙ ap nodes s)
    ∙ ap (λ zs. set zs i (on_node (nodes (0 + i)) (get_or zs i d))) e
    ∙ moved_set nodes 0 ps i d low
    ∙ ap (λ n. moved_from 0 nodes (take n ps) ++ drop n ps) (sym (add-one i))

-- nodes that agree on the processes
pub moved_alike : (f g : ℕ → ℕ) (n : ℕ) (ps : List Process) → ((p : ℕ) → p < length ps → f (n + p) ≡ g (n + p)) → moved_from n f ps ≡ moved_from n g ps
moved_alike f g n [] same = refl
moved_alike f g n (p ∷ ps) same =
    let s : n + 0 ≡ n = omega arith in
    let here : f n ≡ g n = ap f (sym s) ∙ same 0 (omega arith) ∙ ap g s in
    let later : (q : ℕ) → q < length ps → f ((n + 1) + q) ≡ g ((n + 1) + q) = λ q low.
    let e : (n + 1) + q ≡ n + suc q = omega arith in ap f e ∙ same (suc q) (omega (arith, low)) ∙ ap g (sym e) in
    λ i. on_node (here i) p ∷ moved_alike f g (n + 1) ps later i

from_none : (p : ℕ) → 0 + p ≡ p
from_none p = omega arith

-- a process is on the node that belongs to its number
pub node_moved : (s : Scripts) (names : List (List ℕ)) (nodes : ℕ → ℕ) (p : ℕ) → p < length s.processes → runs.node_of (plan_of (moved s names nodes)) p ≡ nodes p
unfolding runs.node_of
node_moved s names nodes p low =
    ap runs.process_node (slice_get-map (planned_process (moved s names nodes)) (moved_from 0 nodes s.processes) p
    ∙ ap (option_map (planned_process (moved s names nodes))) (moved_get nodes 0 s.processes p)) ∙ go (nodes (0 + p)) (slice_get s.processes p) (slice_get-get_or s.processes p nobody low)
    ∙ ap nodes (from_none p)
  where
    go : (node : ℕ) (o : Option Process) → o ≡ Some (get_or s.processes p nobody) →
        runs.process_node (option_map (planned_process (moved s names nodes)) (option_map (on_node node) o)) ≡ node
    go node None h = absurd (cc)
    go node (Some q) h = refl

same_sides : (a b : Bool) → ((if a then 1 else 0) == (if b then 1 else 0)) ≡ beq a b
same_sides true true = refl
same_sides true false = refl
same_sides false true = refl
same_sides false false = refl

pub placed_alone : (s : Scripts) (ranks : List ℕ) → AreAloneTogether (plan_of (placed s ranks)) ranks
placed_alone s ranks p q low_p low_q =
    let count : runs.process_count (plan_of (placed s ranks)) ≡ length s.processes =
    length-map (moved_from 0 (node_beside ranks) s.processes) (planned_process (placed s ranks)) ∙ moved_length (node_beside ranks) 0 s.processes in
    let at : (k : ℕ) → k < runs.process_count (plan_of (placed s ranks)) → runs.node_of (plan_of (placed s ranks)) k ≡ node_beside ranks k = λ k low. node_moved s (with_second s.nodes) (node_beside ranks) k (subst (λ n. k < n) count low) in
    (λ i. at p low_p i == at q low_q i) ∙ same_sides (is_member ranks p) (is_member ranks q)

-- where each process is known to be of the ranks or not
pub moved_beside : (ps moved_ps : List Process) (ranks : List ℕ) (named known : List Bool) (count : ℕ) → known ≡ named → count ≡ length ps →
    moved_ps ≡ moved_from 0 (λ p. if slice_index_or known p false then 1 else 0) ps →
    ((p : ℕ) → p < count → slice_index_or named p false ≡ is_member ranks p) → moved_ps ≡ moved_from 0 (node_beside ranks) ps
moved_beside ps moved_ps ranks named known count is len at same =
    let alike : (p : ℕ) → p < length ps → (if slice_index_or known (0 + p) false then 1 else 0) ≡ node_beside ranks (0 + p) = λ p low.
    ap (λ m. if slice_index_or known m false then 1 else 0) (from_none p)
    ∙ ap (λ (b : Bool). if b then 1 else 0) (ap (λ v. slice_index_or v p false) is ∙ same p (omega (arith, low, len)))
    ∙ ap (node_beside ranks) (sym (from_none p)) in
    at ∙ moved_alike (λ p. if slice_index_or known p false then 1 else 0) (node_beside ranks) 0 ps alike

-- the scripts that are put together again
pub placed_parts : (s before : Scripts) (ranks : List ℕ) (names : List (List ℕ)) (ps : List Process) → s ≡ before → names ≡ with_second s.nodes →
    ps ≡ moved_from 0 (node_beside ranks) s.processes → record s { nodes = names; processes = ps } ≡ placed before ranks
placed_parts s before ranks names ps is named at = (λ i. record s { nodes = named i; processes = at i }) ∙ ap (λ t. placed t ranks) is
