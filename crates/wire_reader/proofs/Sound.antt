-- What is read is sound: processes have their ranks, each owner of a get is a process, each set is one of processes, and each
-- caller of a fence is a member.
use Rattle.std.proofs.Common.{◌≡◌, ◌∙◌, ap, sym, subst, refl, ℕ, zero, suc, ◌+◌, ◌<◌, List, [], ◌∷◌, Bool, true, Option, Some, None, Err, ◌⊎◌, inl, inr, length, map, option_map, arith}
use Rattle.std.specs.Prelude.{slice_get, nat_lt}
use Rattle.std.specs.List.{flat_map, list_all}
use Rattle.std.proofs.lemmas.List.{length-map}
use Rattle.std.proofs.lemmas.Option.{slice_get-map}
use borrow.Author.Tests.{ltb-true}
use Rattle.wire_runs.specs.Plan.{set_of}
use Rattle.wire_runs.specs.Fences.{is_member}
use Rattle.wire_types.specs.declared.Fault.{Fault}
use Rattle.wire_types.specs.declared.Fault.TheVariants.{Memory}
use Rattle.wire_types.specs.declared.Call.{Call}
use Rattle.wire_types.specs.declared.Call.TheVariants.{Fence}
use Rattle.wire_lines.specs.Said as said
use Rattle.wire_scripts.specs.Scripts.{Process, call_at, calls_in, set_at, name_in, owner_in, AreOwned, AreSets, AreMembers, NamesAreThere, IsSound}
use Rattle.wire_reader.specs.FirstPass.{Started, Declared, is_among, number_or_count}
use Rattle.wire_reader.specs.Reads.{Seen, seen_in, in_calls, names_in, sets_in, set_members, places_from, is_in, proc_number, has_proc, is_declared_call, is_with_caller, call_fault}
use Rattle.wire_reader.specs.Reads.{fault_in, first_fault, numbered, process_of, scripts_with, scripts_of, unless_fault, second_pass}
use Rattle.wire_reader.specs.Within.{IsWithinLimits, IsDeclared}
use Rattle.wire_reader.proofs.Places.{places_canonical, places_within, places_hold}
use Rattle.wire_reader.proofs.Seen.{Each, each_seen, each_at, each_flat, seen_apart, apart_once, seen_among, among_flat, text_at_number, alone}
use Rattle.wire_reader.specs.Tabled.{nothing_seen, all_seen}
use Rattle.wire_reader.proofs.Tables.{all_seen_is}
use Rattle.wire_reader.proofs.Within.{counted_processes}
use Rattle.wire_reader.proofs.Changed.{first_run}
use Rattle.wire_reader.proofs.Ranked.{run_good}
use Rattle.wire_reader.proofs.Numbered.{ranked}
use Rattle.wire_reader.proofs.Again.{both_none, no_fault}

-- a set of processes that pass some test
abbrev IsOfTest : Declared → List ℕ → Type 0
IsOfTest d set = (test : Started → Bool) × (set ≡ places_from test 0 d.processes)

call_sets : (d : Declared) (job : ℕ) (c : said.Call) → Each (IsOfTest d) (sets_in d job c)
call_sets d own (said.Put scope key value) = tt
call_sets d own said.Commit = tt
call_sets d own (said.Fence set collect) = ((is_in d own set, refl), tt)
call_sets d own (said.Get job rank key) = tt
call_sets d own (said.GetNow job rank key) = tt
call_sets d own (said.Publish name value) = tt
call_sets d own (said.Lookup name) = tt
call_sets d own (said.LookupWait name) = tt
call_sets d own (said.Unpublish name) = tt
call_sets d own said.UnpublishAll = tt

all_sets : (d : Declared) → Each (IsOfTest d) (seen_in d).sets
all_sets d =
    each_seen (IsOfTest d) (in_calls (sets_in d) d.processes)
    (each_flat (λ p. flat_map (λ c. sets_in d p.job c.1) p.calls) (IsOfTest d) (λ p. each_flat (λ c. sets_in d p.job c.1) (IsOfTest d) (λ c. call_sets d p.job c.1) p.calls) d.processes)

process_count : (d : Declared) (s : Seen) → length (map (process_of d s) d.processes) ≡ length d.processes
process_count d s = length-map d.processes (process_of d s)

test_canonical : (d : Declared) (set : List ℕ) → IsOfTest d set → set_of set ≡ set
test_canonical d set t = rw t.1 (places_canonical t.0 0 d.processes)

test_within : (d : Declared) (s : Seen) (set : List ℕ) → IsOfTest d set → list_all (λ m. nat_lt m (length (map (process_of d s) d.processes))) set ≡ true
test_within d s set t = rw (process_count d s, t.1) (places_within t.0 0 (length d.processes) d.processes (omega arith))

sound_sets : (d : Declared) → AreSets (map (process_of d (seen_in d)) d.processes) (seen_in d).sets
sound_sets d = record {
  canonical = λ n set at. test_canonical d set (each_at (IsOfTest d) (seen_in d).sets n set (all_sets d) at);
  within = λ n set at. test_within d (seen_in d) set (each_at (IsOfTest d) (seen_in d).sets n set (all_sets d) at);
  once = λ m n set a b. apart_once (seen_in d).sets m n set (seen_apart (in_calls (sets_in d) d.processes)) a b;
}

none_of_process : (d : Declared) (ps : List Started) (i : ℕ) (p : Started) → first_fault d ps ≡ None → slice_get ps i ≡ Some p → fault_in d p p.calls ≡ None
none_of_process d [] i p h at = absurd (cc)
none_of_process d (q ∷ qs) zero p h at = let same : q ≡ p = cc in subst (λ x. fault_in d x x.calls ≡ None) same (both_none _ _ h).0
none_of_process d (q ∷ qs) (suc i) p h at = none_of_process d qs i p (both_none _ _ h).1 at

none_of_call : (d : Declared) (p : Started) (cs : List (ℕ × said.Call)) (i : ℕ) (c : ℕ × said.Call) → fault_in d p cs ≡ None → slice_get cs i ≡ Some c → call_fault d p c.0 c.1 ≡ None
none_of_call d p [] i c h at = absurd (cc)
none_of_call d p (b ∷ bs) zero c h at = let same : b ≡ c = cc in subst (λ x. call_fault d p x.0 x.1 ≡ None) same (both_none _ _ h).0
none_of_call d p (b ∷ bs) (suc i) c h at = none_of_call d p bs i c (both_none _ _ h).1 at

-- what a fence with numbers was said as
fence_said : (d : Declared) (s : Seen) (job : ℕ) (c : said.Call) (set : ℕ) (collect : Bool) → numbered d s job c ≡ Fence set collect → (said_set : said.Set) × (said_collect : Bool)
    × (c ≡ said.Fence said_set said_collect) × (set ≡ number_or_count s.sets (set_members d job said_set))
fence_said d s own (said.Put scope k v) n b e = absurd (cc)
fence_said d s own said.Commit n b e = absurd (cc)
fence_said d s own (said.Fence x y) n b e = (x, y, refl, cc)
fence_said d s own (said.Get job rank key) n b e = absurd (cc)
fence_said d s own (said.GetNow job rank key) n b e = absurd (cc)
fence_said d s own (said.Publish name value) n b e = absurd (cc)
fence_said d s own (said.Lookup name) n b e = absurd (cc)
fence_said d s own (said.LookupWait name) n b e = absurd (cc)
fence_said d s own (said.Unpublish name) n b e = absurd (cc)
fence_said d s own said.UnpublishAll n b e = absurd (cc)

-- the set of a fence of a caller that is in it: it is in the table, and the caller is a member
member : (d : Declared) (i j : ℕ) (p : Started) (line : ℕ) (set : said.Set) (collect : Bool) → slice_get d.processes i ≡ Some p → slice_get p.calls j ≡ Some (line, said.Fence set collect)
    → is_in d p.job set p ≡ true → (number_or_count (seen_in d).sets (set_members d p.job set) < length (seen_in d).sets)
    × (is_member (set_at (seen_in d).sets (number_or_count (seen_in d).sets (set_members d p.job set))) i ≡ true)
member d i j p line set collect at call in_it =
    let own : is_among (sets_in d p.job (said.Fence set collect)) (set_members d p.job set) ≡ true = alone (set_members d p.job set) in
    let here : is_among (in_calls (sets_in d) d.processes) (set_members d p.job set) ≡ true =
    among_flat (λ p. flat_map (λ c. sets_in d p.job c.1) p.calls) d.processes i p (set_members d p.job set) at
    (among_flat (λ c. sets_in d p.job c.1) p.calls j (line, said.Fence set collect) (set_members d p.job set) call own) in
    let found = text_at_number (seen_in d).sets (set_members d p.job set) (seen_among (in_calls (sets_in d) d.processes) (set_members d p.job set) here) in
    let holds : is_member (set_members d p.job set) (0 + i) ≡ true = places_hold (is_in d p.job set) 0 d.processes i p at in_it in
    let same : 0 + i ≡ i = omega arith in
    (found.0, rw found.1 (subst (λ m. is_member (set_members d p.job set) m ≡ true) same holds))

-- a call with numbers comes of one that was said
call_from : (d : Declared) (s : Seen) (i j : ℕ) (call : Call) → call_at (map (process_of d s) d.processes) i j ≡ Some call
    → (p : Started) × (c : ℕ × said.Call) × (slice_get d.processes i ≡ Some p) × (slice_get p.calls j ≡ Some c) × (numbered d s p.job c.1 ≡ call)
call_from d s i j call e = of_process (slice_get d.processes i) refl (rw (slice_get-map (process_of d s) d.processes i) at e)
  where
    of_process : (o : Option Started) → slice_get d.processes i ≡ o → slice_get (calls_in (option_map (process_of d s) o)) j ≡ Some call
        → (p : Started) × (c : ℕ × said.Call) × (slice_get d.processes i ≡ Some p) × (slice_get p.calls j ≡ Some c) × (numbered d s p.job c.1 ≡ call)
    of_process None at h = absurd (cc)
    of_process (Some p) at h = of_call (slice_get p.calls j) refl (rw (slice_get-map (λ c. numbered d s p.job c.1) p.calls j) at h)
      where
        of_call : (o : Option (ℕ × said.Call)) → slice_get p.calls j ≡ o → option_map (λ c. numbered d s p.job c.1) o ≡ Some call
            → (p : Started) × (c : ℕ × said.Call) × (slice_get d.processes i ≡ Some p) × (slice_get p.calls j ≡ Some c) × (numbered d s p.job c.1 ≡ call)
        of_call None stands k = absurd (cc)
        of_call (Some c) stands k = (p, c, at, stands, cc)

sound_members : (d : Declared) → first_fault d d.processes ≡ None → AreMembers (map (process_of d (seen_in d)) d.processes) (seen_in d).sets
sound_members d none i j n b e =
    let from = call_from d (seen_in d) i j (Fence n b) e in
    let said_as = fence_said d (seen_in d) from.0.job from.1.1 n b from.4 in
    let free : call_fault d from.0 from.1.0 from.1.1 ≡ None = none_of_call d from.0 from.0.calls j from.1 (none_of_process d d.processes i from.0 none from.2) from.3 in
    let with_caller : is_with_caller d from.0 from.1.1 ≡ true = (no_fault (is_declared_call d from.1.1) (is_with_caller d from.0 from.1.1) from.1.0 free).1 in
    let in_it : is_with_caller d from.0 (said.Fence said_as.0 said_as.1) ≡ true = subst (λ x. is_with_caller d from.0 x ≡ true) said_as.2 with_caller in
    let stands : slice_get from.0.calls j ≡ Some (from.1.0, said.Fence said_as.0 said_as.1) = from.3 ∙ ap (λ x. Some (from.1.0, x)) said_as.2 in
    subst (λ m. (m < length (seen_in d).sets) × (is_member (set_at (seen_in d).sets m) i ≡ true)) (sym said_as.3)
    (member d i j from.0 from.1.0 said_as.0 said_as.1 from.2 stands in_it)

-- the owner that a get with numbers names is declared
owner_said : (d : Declared) (s : Seen) (own : ℕ) (c : said.Call) (n : ℕ) → owner_in (numbered d s own c) ≡ Some n → is_declared_call d c ≡ true → n < length d.processes
unfolding has_proc
owner_said d s own (said.Put scope key value) n e declared = absurd (cc)
owner_said d s own said.Commit n e declared = absurd (cc)
owner_said d s own (said.Fence set collect) n e declared = absurd (cc)
owner_said d s own (said.Get job rank key) n e declared = let is : proc_number d job rank ≡ n = cc in subst (λ m. m < length d.processes) is (ltb-true _ _ declared)
owner_said d s own (said.GetNow job rank key) n e declared = let is : proc_number d job rank ≡ n = cc in subst (λ m. m < length d.processes) is (ltb-true _ _ declared)
owner_said d s own (said.Publish name value) n e declared = absurd (cc)
owner_said d s own (said.Lookup name) n e declared = absurd (cc)
owner_said d s own (said.LookupWait name) n e declared = absurd (cc)
owner_said d s own (said.Unpublish name) n e declared = absurd (cc)
owner_said d s own said.UnpublishAll n e declared = absurd (cc)

sound_owners : (d : Declared) → first_fault d d.processes ≡ None → AreOwned (map (process_of d (seen_in d)) d.processes)
sound_owners d none i j n call e named =
    let from = call_from d (seen_in d) i j call e in
    let free : call_fault d from.0 from.1.0 from.1.1 ≡ None = none_of_call d from.0 from.0.calls j from.1 (none_of_process d d.processes i from.0 none from.2) from.3 in
    let declared : is_declared_call d from.1.1 ≡ true = (no_fault (is_declared_call d from.1.1) (is_with_caller d from.0 from.1.1) from.1.0 free).0 in
    subst (λ m. n < m) (sym (process_count d (seen_in d))) (owner_said d (seen_in d) from.0.job from.1.1 n (ap owner_in from.4 ∙ named) declared)

-- the name that a call with numbers names is that of its text
name_said : (d : Declared) (s : Seen) (own : ℕ) (c : said.Call) (n : ℕ) → name_in (numbered d s own c) ≡ Some n
    → (text : List ℕ) × (is_among (names_in c) text ≡ true) × (n ≡ number_or_count s.names text)
name_said d s own (said.Put scope key value) n e = absurd (cc)
name_said d s own said.Commit n e = absurd (cc)
name_said d s own (said.Fence set collect) n e = absurd (cc)
name_said d s own (said.Get job rank key) n e = absurd (cc)
name_said d s own (said.GetNow job rank key) n e = absurd (cc)
name_said d s own (said.Publish name value) n e = (name, alone name, cc)
name_said d s own (said.Lookup name) n e = (name, alone name, cc)
name_said d s own (said.LookupWait name) n e = (name, alone name, cc)
name_said d s own (said.Unpublish name) n e = (name, alone name, cc)
name_said d s own said.UnpublishAll n e = absurd (cc)

sound_names : (d : Declared) → NamesAreThere (map (process_of d (seen_in d)) d.processes) (seen_in d).names
sound_names d i j n call e named =
    let from = call_from d (seen_in d) i j call e in
    let said_as = name_said d (seen_in d) from.0.job from.1.1 n (ap name_in from.4 ∙ named) in
    let here : is_among (in_calls (λ job. names_in) d.processes) said_as.0 ≡ true =
    among_flat (λ p. flat_map (λ c. names_in c.1) p.calls) d.processes i from.0 said_as.0 from.2
    (among_flat (λ c. names_in c.1) from.0.calls j from.1 said_as.0 from.3 said_as.1) in
    let found = (text_at_number (seen_in d).names said_as.0 (seen_among (in_calls (λ job. names_in) d.processes) said_as.0 here)).0 in
    subst (λ m. m < length (seen_in d).names) (sym said_as.2) found

-- what a file declares, where no call has a fault, is sound
pub sound : (d : Declared) → IsWithinLimits d → IsDeclared d → first_fault d d.processes ≡ None → IsSound (scripts_with d (seen_in d))
sound d within declared none =
    let run = first_run declared.0 declared.1 declared.2 d declared.3 in
    let good = run_good declared.0 run.0 run.1 d run.2 in
    record {
      counted = counted_processes d (seen_in d) within;
      ranked = ranked d (seen_in d) d.processes good.together good.ranked;
      owned = sound_owners d none;
      sets = sound_sets d;
      members = sound_members d none;
      names = sound_names d;
    }

-- scripts that are put together of their parts
pub scripts_are : (d : Declared) (s : Seen) (ps : List Process) → s ≡ all_seen d nothing_seen d.processes → ps ≡ map (process_of d s) d.processes
    → record { version = d.version; nodes = d.nodes; jobs = d.jobs; keys = s.keys; names = s.names; values = s.values; sets = s.sets; processes = ps; keeps = d.keeps } ≡ scripts_of d
scripts_are d s ps seen numbers =
    let parts : record { version = d.version; nodes = d.nodes; jobs = d.jobs; keys = s.keys; names = s.names; values = s.values; sets = s.sets; processes = ps; keeps = d.keeps } ≡ scripts_with d s =
    λ t. record { version = d.version; nodes = d.nodes; jobs = d.jobs; keys = s.keys; names = s.names; values = s.values; sets = s.sets; processes = numbers t; keeps = d.keeps } in
    parts ∙ ap (scripts_with d) (seen ∙ all_seen_is d)

pub sound_parts : (d : Declared) (s : Seen) (ps : List Process) → s ≡ all_seen d nothing_seen d.processes → ps ≡ map (process_of d s) d.processes
    → IsWithinLimits d → IsDeclared d → first_fault d d.processes ≡ None
    → IsSound (record { version = d.version; nodes = d.nodes; jobs = d.jobs; keys = s.keys; names = s.names; values = s.values; sets = s.sets; processes = ps; keeps = d.keeps })
sound_parts d s ps seen numbers within declared none = subst IsSound (sym (scripts_are d s ps seen numbers)) (sound d within declared none)

-- the fault of the second pass
pub second_fault : (d : Declared) (e : Fault) → (e ≡ Memory) ⊎ (first_fault d d.processes ≡ Some e) → (e ≡ Memory) ⊎ (second_pass d ≡ Err e)
second_fault d e (inl m) = inl m
second_fault d e (inr f) = inr (ap (unless_fault d) f)
