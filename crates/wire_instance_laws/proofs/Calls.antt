-- Calls under other numbers of keys and names, each fence over a set in order; and of which call an event is.
use Rattle.std.proofs.Common.{◌≡◌, ◌∙◌, ap, sym, refl, ℕ, zero, suc, ◌+◌, List, [], ◌∷◌, map, length, Option, Some, None, option_map, slice_get, arith}
use Rattle.std.proofs.lemmas.Option.{none-some, same_Some, slice_get-map}
use Rattle.wire_runs.specs.Plan.{Plan, Process, Call, CallPut, CallCommit, CallFence, CallGet, CallGetNow, CallPublish, CallLookup, CallLookupWait, CallUnpublish, CallUnpublishAll, CallFixed}
use Rattle.wire_runs.specs.Plan.{Kind, Put, Commit, Arrive, Leave, Get, GetNow, Publish, Lookup, LookupWait, Unpublish, UnpublishAll, Fixed, set_of, kinds_of, process_kinds, process_node, kinds, kind_at, node_of}
use Rattle.wire_runs.specs.Ends.{process_calls, calls_of}
use Rattle.wire_runs.specs.Embeddings.{image_kind, key_of, name_of, IsKeyOf, IsNameOf}
use Rattle.wire_runs.specs.Renamed.{renumbering}
use Rattle.wire_runs.specs.Patterns.{Pattern, Coding, Cast, calls_from, processes_from}
use Rattle.wire_runs.proofs.WholeSets.{member_set, same_set, rises_set}

pub set_twice : (xs : List ℕ) → set_of (set_of xs) ≡ set_of xs
set_twice xs = same_set (set_of (set_of xs)) (set_of xs) (rises_set (set_of xs)) (rises_set xs) (λ q. member_set (set_of xs) q)

module _ (key name : ℕ → ℕ) where
  abbrev pub moved_call : Call → Call
  moved_call (CallPut k scope) = CallPut (key k) scope
  moved_call CallCommit = CallCommit
  moved_call (CallFence members collect) = CallFence (set_of members) collect
  moved_call (CallGet owner k) = CallGet owner (key k)
  moved_call (CallGetNow owner k) = CallGetNow owner (key k)
  moved_call (CallPublish n) = CallPublish (name n)
  moved_call (CallLookup n) = CallLookup (name n)
  moved_call (CallLookupWait n) = CallLookupWait (name n)
  moved_call (CallUnpublish n) = CallUnpublish (name n)
  moved_call CallUnpublishAll = CallUnpublishAll
  moved_call (CallFixed reply) = CallFixed reply

  abbrev pub moved_process : Process → Process
  moved_process process = record { node = process.node; calls = map moved_call process.calls }

  abbrev pub moved_plan : Plan → Plan
  moved_plan plan = record { processes = map moved_process plan.processes; keep = plan.keep }

  pub kinds_moved : (calls : List Call) → kinds_of (map moved_call calls) ≡ map (image_kind (renumbering key name)) (kinds_of calls)
  kinds_moved [] = refl
  kinds_moved (CallPut k scope ∷ calls) = ap (λ ks. Put (key k) scope ∷ ks) (kinds_moved calls)
  kinds_moved (CallCommit ∷ calls) = ap (λ ks. Commit ∷ ks) (kinds_moved calls)
  kinds_moved (CallFence members collect ∷ calls) =
      λ i. Arrive (set_twice members i) collect ∷ (Leave (set_twice members i) ∷ kinds_moved calls i)
  kinds_moved (CallGet owner k ∷ calls) = ap (λ ks. Get owner (key k) ∷ ks) (kinds_moved calls)
  kinds_moved (CallGetNow owner k ∷ calls) = ap (λ ks. GetNow owner (key k) ∷ ks) (kinds_moved calls)
  kinds_moved (CallPublish n ∷ calls) = ap (λ ks. Publish (name n) ∷ ks) (kinds_moved calls)
  kinds_moved (CallLookup n ∷ calls) = ap (λ ks. Lookup (name n) ∷ ks) (kinds_moved calls)
  kinds_moved (CallLookupWait n ∷ calls) = ap (λ ks. LookupWait (name n) ∷ ks) (kinds_moved calls)
  kinds_moved (CallUnpublish n ∷ calls) = ap (λ ks. Unpublish (name n) ∷ ks) (kinds_moved calls)
  kinds_moved (CallUnpublishAll ∷ calls) = ap (λ ks. UnpublishAll ∷ ks) (kinds_moved calls)
  kinds_moved (CallFixed reply ∷ calls) = ap (λ ks. Fixed reply ∷ ks) (kinds_moved calls)

  pub moved_kinds : (plan : Plan) (p : ℕ) → kinds (moved_plan plan) p ≡ map (image_kind (renumbering key name)) (kinds plan p)
  unfolding kinds
  moved_kinds plan p = ap process_kinds (slice_get-map moved_process plan.processes p) ∙ go (slice_get plan.processes p)
    where
      go : (o : Option Process) → process_kinds (option_map moved_process o) ≡ map (image_kind (renumbering key name)) (process_kinds o)
      go None = refl
      go (Some process) = kinds_moved process.calls

  pub moved_nodes : (plan : Plan) (p : ℕ) → node_of (moved_plan plan) p ≡ node_of plan p
  unfolding node_of
  moved_nodes plan p = ap process_node (slice_get-map moved_process plan.processes p) ∙ go (slice_get plan.processes p)
    where
      go : (o : Option Process) → process_node (option_map moved_process o) ≡ process_node o
      go None = refl
      go (Some process) = refl

  pub moved_calls : (plan : Plan) (p : ℕ) → calls_of (moved_plan plan) p ≡ map moved_call (calls_of plan p)
  moved_calls plan p = ap process_calls (slice_get-map moved_process plan.processes p) ∙ go (slice_get plan.processes p)
    where
      go : (o : Option Process) → process_calls (option_map moved_process o) ≡ map moved_call (process_calls o)
      go None = refl
      go (Some process) = refl

-- the calls of an instance's process
module _ (pattern : Pattern) (coding : Coding) (cast : Cast) where
  pub processes_length : (n : ℕ) (roles : List ℕ) → length (processes_from pattern coding cast n roles) ≡ length roles
  processes_length n [] = refl
  processes_length n (r ∷ roles) = ap suc (processes_length (suc n) roles)

  pub instance_calls : (n : ℕ) (roles : List ℕ) (v role : ℕ) → slice_get roles v ≡ Some role
      → process_calls (slice_get (processes_from pattern coding cast n roles) v) ≡ calls_from coding cast (n + v) 0 (pattern.script role)
  instance_calls n [] v role at = absurd (none-some role at)
  instance_calls n (r ∷ roles) zero role at =
      let s : n ≡ n + 0 = omega arith in
      λ i. calls_from coding cast (s i) 0 (pattern.script (same_Some _ _ at i))
  instance_calls n (r ∷ roles) (suc v) role at =
      let s : suc n + v ≡ n + suc v = omega arith in
      instance_calls (suc n) roles v role at ∙ ap (λ k. calls_from coding cast k 0 (pattern.script role)) s

-- the key and the name of a call
abbrev pub key_in : Call → Option ℕ
key_in (CallPut k scope) = Some k
key_in (CallGet owner k) = Some k
key_in (CallGetNow owner k) = Some k
key_in _ = None

abbrev pub name_in : Call → Option ℕ
name_in (CallPublish n) = Some n
name_in (CallLookup n) = Some n
name_in (CallLookupWait n) = Some n
name_in (CallUnpublish n) = Some n
name_in _ = None

-- a list of calls has a call with the key, or the name
pub record HasOne (f : Call → Option ℕ) (calls : List Call) (n : ℕ) : Type 0 where
  pub at : ℕ
  pub call : Call
  pub is : slice_get calls at ≡ Some call
  pub has : f call ≡ Some n

later : (f : Call → Option ℕ) (c : Call) (calls : List Call) (n : ℕ) → HasOne f calls n → HasOne f (c ∷ calls) n
later f c calls n h = record { at = suc h.at; call = h.call; is = h.is; has = h.has }

first : (f : Call → Option ℕ) (c : Call) (calls : List Call) (n : ℕ) → f c ≡ Some n → HasOne f (c ∷ calls) n
first f c calls n h = record { at = 0; call = c; is = refl; has = h }

at_first : (f : Kind → Option ℕ) (k l : Kind) (n : ℕ) → Some l ≡ Some k → f k ≡ Some n → f l ≡ Some n
at_first f k l n e h = ap f (same_Some _ _ e) ∙ h

pub key_call : (calls : List Call) (i : ℕ) (k : Kind) (n : ℕ) → slice_get (kinds_of calls) i ≡ Some k → key_of k ≡ Some n → HasOne key_in calls n
key_call [] i k n at h = absurd (none-some k at)
key_call (CallPut j scope ∷ calls) zero k n at h = first key_in _ calls n (at_first key_of k (Put j scope) n at h)
key_call (CallPut j scope ∷ calls) (suc i) k n at h = later key_in _ calls n (key_call calls i k n at h)
key_call (CallCommit ∷ calls) zero k n at h = absurd (none-some n (at_first key_of k Commit n at h))
key_call (CallCommit ∷ calls) (suc i) k n at h = later key_in _ calls n (key_call calls i k n at h)
key_call (CallFence members collect ∷ calls) zero k n at h = absurd (none-some n (at_first key_of k (Arrive (set_of members) collect) n at h))
key_call (CallFence members collect ∷ calls) (suc zero) k n at h = absurd (none-some n (at_first key_of k (Leave (set_of members)) n at h))
key_call (CallFence members collect ∷ calls) (suc (suc i)) k n at h = later key_in _ calls n (key_call calls i k n at h)
key_call (CallGet owner j ∷ calls) zero k n at h = first key_in _ calls n (at_first key_of k (Get owner j) n at h)
key_call (CallGet owner j ∷ calls) (suc i) k n at h = later key_in _ calls n (key_call calls i k n at h)
key_call (CallGetNow owner j ∷ calls) zero k n at h = first key_in _ calls n (at_first key_of k (GetNow owner j) n at h)
key_call (CallGetNow owner j ∷ calls) (suc i) k n at h = later key_in _ calls n (key_call calls i k n at h)
key_call (CallPublish j ∷ calls) zero k n at h = absurd (none-some n (at_first key_of k (Publish j) n at h))
key_call (CallPublish j ∷ calls) (suc i) k n at h = later key_in _ calls n (key_call calls i k n at h)
key_call (CallLookup j ∷ calls) zero k n at h = absurd (none-some n (at_first key_of k (Lookup j) n at h))
key_call (CallLookup j ∷ calls) (suc i) k n at h = later key_in _ calls n (key_call calls i k n at h)
key_call (CallLookupWait j ∷ calls) zero k n at h = absurd (none-some n (at_first key_of k (LookupWait j) n at h))
key_call (CallLookupWait j ∷ calls) (suc i) k n at h = later key_in _ calls n (key_call calls i k n at h)
key_call (CallUnpublish j ∷ calls) zero k n at h = absurd (none-some n (at_first key_of k (Unpublish j) n at h))
key_call (CallUnpublish j ∷ calls) (suc i) k n at h = later key_in _ calls n (key_call calls i k n at h)
key_call (CallUnpublishAll ∷ calls) zero k n at h = absurd (none-some n (at_first key_of k UnpublishAll n at h))
key_call (CallUnpublishAll ∷ calls) (suc i) k n at h = later key_in _ calls n (key_call calls i k n at h)
key_call (CallFixed reply ∷ calls) zero k n at h = absurd (none-some n (at_first key_of k (Fixed reply) n at h))
key_call (CallFixed reply ∷ calls) (suc i) k n at h = later key_in _ calls n (key_call calls i k n at h)

pub name_call : (calls : List Call) (i : ℕ) (k : Kind) (n : ℕ) → slice_get (kinds_of calls) i ≡ Some k → name_of k ≡ Some n → HasOne name_in calls n
name_call [] i k n at h = absurd (none-some k at)
name_call (CallPut j scope ∷ calls) zero k n at h = absurd (none-some n (at_first name_of k (Put j scope) n at h))
name_call (CallPut j scope ∷ calls) (suc i) k n at h = later name_in _ calls n (name_call calls i k n at h)
name_call (CallCommit ∷ calls) zero k n at h = absurd (none-some n (at_first name_of k Commit n at h))
name_call (CallCommit ∷ calls) (suc i) k n at h = later name_in _ calls n (name_call calls i k n at h)
name_call (CallFence members collect ∷ calls) zero k n at h = absurd (none-some n (at_first name_of k (Arrive (set_of members) collect) n at h))
name_call (CallFence members collect ∷ calls) (suc zero) k n at h = absurd (none-some n (at_first name_of k (Leave (set_of members)) n at h))
name_call (CallFence members collect ∷ calls) (suc (suc i)) k n at h = later name_in _ calls n (name_call calls i k n at h)
name_call (CallGet owner j ∷ calls) zero k n at h = absurd (none-some n (at_first name_of k (Get owner j) n at h))
name_call (CallGet owner j ∷ calls) (suc i) k n at h = later name_in _ calls n (name_call calls i k n at h)
name_call (CallGetNow owner j ∷ calls) zero k n at h = absurd (none-some n (at_first name_of k (GetNow owner j) n at h))
name_call (CallGetNow owner j ∷ calls) (suc i) k n at h = later name_in _ calls n (name_call calls i k n at h)
name_call (CallPublish j ∷ calls) zero k n at h = first name_in _ calls n (at_first name_of k (Publish j) n at h)
name_call (CallPublish j ∷ calls) (suc i) k n at h = later name_in _ calls n (name_call calls i k n at h)
name_call (CallLookup j ∷ calls) zero k n at h = first name_in _ calls n (at_first name_of k (Lookup j) n at h)
name_call (CallLookup j ∷ calls) (suc i) k n at h = later name_in _ calls n (name_call calls i k n at h)
name_call (CallLookupWait j ∷ calls) zero k n at h = first name_in _ calls n (at_first name_of k (LookupWait j) n at h)
name_call (CallLookupWait j ∷ calls) (suc i) k n at h = later name_in _ calls n (name_call calls i k n at h)
name_call (CallUnpublish j ∷ calls) zero k n at h = first name_in _ calls n (at_first name_of k (Unpublish j) n at h)
name_call (CallUnpublish j ∷ calls) (suc i) k n at h = later name_in _ calls n (name_call calls i k n at h)
name_call (CallUnpublishAll ∷ calls) zero k n at h = absurd (none-some n (at_first name_of k UnpublishAll n at h))
name_call (CallUnpublishAll ∷ calls) (suc i) k n at h = later name_in _ calls n (name_call calls i k n at h)
name_call (CallFixed reply ∷ calls) zero k n at h = absurd (none-some n (at_first name_of k (Fixed reply) n at h))
name_call (CallFixed reply ∷ calls) (suc i) k n at h = later name_in _ calls n (name_call calls i k n at h)

process_has : (o : Option Process) → process_kinds o ≡ kinds_of (process_calls o)
process_has None = refl
process_has (Some process) = refl

-- a key, or a name, of a plan is one of some call
pub key_used : (plan : Plan) (n : ℕ) → IsKeyOf plan n → (p : ℕ) × HasOne key_in (calls_of plan p) n
unfolding kind_at kinds
key_used plan n h =
    (h.0.proc, key_call (calls_of plan h.0.proc) h.0.at h.1 n (ap (λ ks. slice_get ks h.0.at) (sym (process_has (slice_get plan.processes h.0.proc))) ∙ h.2) h.3)

pub name_used : (plan : Plan) (n : ℕ) → IsNameOf plan n → (p : ℕ) × HasOne name_in (calls_of plan p) n
unfolding kind_at kinds
name_used plan n h =
    (h.0.proc, name_call (calls_of plan h.0.proc) h.0.at h.1 n (ap (λ ks. slice_get ks h.0.at) (sym (process_has (slice_get plan.processes h.0.proc))) ∙ h.2) h.3)
