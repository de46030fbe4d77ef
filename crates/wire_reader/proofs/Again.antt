-- What the scripts say of each call that was read, and that it declares the same scripts.
use Rattle.std.proofs.Common.{◌≡◌, ◌∙◌, ap, sym, subst, refl, ℕ, zero, suc, ◌+◌, List, [], ◌∷◌, ◌++◌, Bool, true, false, cond, Option, Some, None, map, length, if◌then◌else◌}
use Rattle.std.specs.Prelude.{◌||◌, ◌&&◌, not, nat_lt, slice_get}
use Rattle.std.specs.List.{list_any, list_all, flat_map, position_or_len}
use Rattle.std.proofs.lemmas.List.{length-map}
use Rattle.wire_types.specs.declared.Fault.{Fault}
use Rattle.wire_types.specs.declared.Fault.TheVariants.{UnknownName, NotMember}
use Rattle.wire_types.specs.declared.Call.{Call as Numbered}
use Rattle.wire_types.specs.declared.Call.TheVariants as call
use Rattle.wire_runs.proofs.Lists.{slice_get-map_back, slice_get-map_kept}
use Rattle.wire_lines.specs.Said.{Item, One, Every, Set, Own, Listed, Call, Put, Commit, Fence, Get, GetNow, Publish, Lookup, LookupWait, Unpublish, UnpublishAll}
use Rattle.wire_scripts.specs.Scripts.{Process, Scripts}
use Rattle.wire_scripts.specs.Canonical.{call_said}
use Rattle.wire_reader.specs.FirstPass.{Name, Started, Declared, is_among, number_or_count}
use Rattle.wire_reader.specs.Reads.{Seen, is_proc, proc_number, has_proc, names_it, is_in, places_from, set_members, is_declared_item, is_declared_set, is_declared_call, is_with_caller, call_fault}
use Rattle.wire_reader.specs.Reads.{first_of, fault_in, first_fault, keys_in, names_in, values_in, sets_in, in_calls, first_seen, seen_in, numbered, process_of, scripts_with, scripts_of}
use Rattle.wire_reader.proofs.Changed.{Change, changed_call, changed_process, changed_declaration, no_change, bare_declaration}

-- what the scripts say of a call that was read
abbrev pub canonical_call : Declared → Change
canonical_call d job c = call_said (scripts_of d) job (numbered d (seen_in d) job c)

-- the second call names what the first does, by a process of this job
pub record IsAgain (d : Declared) (job : ℕ) (b c : Call) : Type 0 where
  pub keys : keys_in c ≡ keys_in b
  pub names : names_in c ≡ names_in b
  pub values : values_in c ≡ values_in b
  pub sets : sets_in d job c ≡ sets_in d job b
  pub number : (s : Seen) → numbered d s job c ≡ numbered d s job b
  pub declared : is_declared_call d b ≡ true → is_declared_call d c ≡ true
  pub caller : (k : ℕ) (p : Started) → slice_get d.processes k ≡ Some p → p.job ≡ job → is_with_caller d p c ≡ is_with_caller d p b

pub same_again : (d : Declared) (job : ℕ) (c : Call) → IsAgain d job c c
same_again d job c = record { keys = refl; names = refl; values = refl; sets = refl; number = λ s. refl; declared = λ h. h; caller = λ k p at e. refl }

-- a call of a process: both by their places
abbrev pub CallAt : List Started → ℕ → Started → ℕ → ℕ × Call → Type 0
CallAt ps k p i c = (slice_get ps k ≡ Some p) × (slice_get p.calls i ≡ Some c)

-- a change of calls after which they name the same
abbrev pub IsSameChange : Declared → Change → Type 0
IsSameChange d f = (k : ℕ) (p : Started) (i : ℕ) (c : ℕ × Call) → CallAt d.processes k p i c → IsAgain d p.job c.1 (f p.job c.1)

-- what a change of calls leaves as it is
module _ (f : Change) (d : Declared) where
  position_changed : (job rank : ℕ) (ps : List Started) → position_or_len (is_proc job rank) (map (changed_process f) ps) ≡ position_or_len (is_proc job rank) ps
  position_changed job rank [] = refl
  position_changed job rank (p ∷ ps) = ap (λ n. cond (not (is_proc job rank p)) (1 + n) 0) (position_changed job rank ps)

  number_changed : (name : Name) (rank : ℕ) → proc_number (changed_declaration f d) name rank ≡ proc_number d name rank
  number_changed name rank = position_changed (number_or_count d.jobs name) rank d.processes

  has_changed : (name : Name) (rank : ℕ) → has_proc (changed_declaration f d) name rank ≡ has_proc d name rank
  unfolding has_proc
  has_changed name rank =
      ap (λ n. nat_lt n (length (map (changed_process f) d.processes))) (number_changed name rank)
      ∙ ap (λ n. nat_lt (proc_number d name rank) n) (length-map d.processes (changed_process f))

  item_changed : (i : Item) (p : Started) → names_it (changed_declaration f d) i (changed_process f p) ≡ names_it d i p
  item_changed (One job rank) p = refl
  item_changed (Every job) p = refl

  items_changed : (items : List Item) (p : Started) → list_any (λ i. names_it (changed_declaration f d) i (changed_process f p)) items ≡ list_any (λ i. names_it d i p) items
  items_changed [] p = refl
  items_changed (i ∷ is) p =
      ap (λ b. b || list_any (λ x. names_it (changed_declaration f d) x (changed_process f p)) is) (item_changed i p) ∙ ap (λ b. names_it d i p || b) (items_changed is p)

  in_changed : (job : ℕ) (set : Set) (p : Started) → is_in (changed_declaration f d) job set (changed_process f p) ≡ is_in d job set p
  in_changed job Own p = refl
  in_changed job (Listed items) p = items_changed items p

  places_changed : (job : ℕ) (set : Set) (n : ℕ) (ps : List Started) → places_from (is_in (changed_declaration f d) job set) n (map (changed_process f) ps) ≡ places_from (is_in d job set) n ps
  places_changed job set n [] = refl
  places_changed job set n (p ∷ ps) =
      ap (λ b. if b then n ∷ places_from (is_in (changed_declaration f d) job set) (n + 1) (map (changed_process f) ps) else places_from (is_in (changed_declaration f d) job set) (n + 1)
      (map (changed_process f) ps)) (in_changed job set p)
      ∙ ap (λ l. if is_in d job set p then n ∷ l else l) (places_changed job set (n + 1) ps)

  members_changed : (job : ℕ) (set : Set) → set_members (changed_declaration f d) job set ≡ set_members d job set
  members_changed job set = places_changed job set 0 d.processes

  declared_items : (items : List Item) → list_all (is_declared_item (changed_declaration f d)) items ≡ list_all (is_declared_item d) items
  declared_items [] = refl
  declared_items (One job rank ∷ is) = ap (λ b. b && list_all (is_declared_item (changed_declaration f d)) is) (has_changed job rank) ∙ ap (λ b. has_proc d job rank && b) (declared_items is)
  declared_items (Every job ∷ is) = ap (λ b. is_among d.jobs job && b) (declared_items is)

  declared_set : (set : Set) → is_declared_set (changed_declaration f d) set ≡ is_declared_set d set
  declared_set Own = refl
  declared_set (Listed items) = declared_items items

  declared_changed : (c : Call) → is_declared_call (changed_declaration f d) c ≡ is_declared_call d c
  declared_changed (Put scope key value) = refl
  declared_changed Commit = refl
  declared_changed (Fence set collect) = declared_set set
  declared_changed (Get job rank key) = has_changed job rank
  declared_changed (GetNow job rank key) = has_changed job rank
  declared_changed (Publish name value) = refl
  declared_changed (Lookup name) = refl
  declared_changed (LookupWait name) = refl
  declared_changed (Unpublish name) = refl
  declared_changed UnpublishAll = refl

  caller_changed : (p : Started) (c : Call) → is_with_caller (changed_declaration f d) (changed_process f p) c ≡ is_with_caller d p c
  caller_changed p (Put scope key value) = refl
  caller_changed p Commit = refl
  caller_changed p (Fence set collect) = in_changed p.job set p
  caller_changed p (Get job rank key) = refl
  caller_changed p (GetNow job rank key) = refl
  caller_changed p (Publish name value) = refl
  caller_changed p (Lookup name) = refl
  caller_changed p (LookupWait name) = refl
  caller_changed p (Unpublish name) = refl
  caller_changed p UnpublishAll = refl

  sets_changed : (job : ℕ) (c : Call) → sets_in (changed_declaration f d) job c ≡ sets_in d job c
  sets_changed job (Put scope key value) = refl
  sets_changed job Commit = refl
  sets_changed job (Fence set collect) = ap (λ m. m ∷ []) (members_changed job set)
  sets_changed job (Get name rank key) = refl
  sets_changed job (GetNow name rank key) = refl
  sets_changed job (Publish name value) = refl
  sets_changed job (Lookup name) = refl
  sets_changed job (LookupWait name) = refl
  sets_changed job (Unpublish name) = refl
  sets_changed job UnpublishAll = refl

  numbered_changed : (s : Seen) (job : ℕ) (c : Call) → numbered (changed_declaration f d) s job c ≡ numbered d s job c
  numbered_changed s job (Put scope key value) = refl
  numbered_changed s job Commit = refl
  numbered_changed s job (Fence set collect) = ap (λ m. call.Fence (number_or_count s.sets m) collect) (members_changed job set)
  numbered_changed s job (Get name rank key) = ap (λ n. call.Get (record { number = n }) (number_or_count s.keys key)) (number_changed name rank)
  numbered_changed s job (GetNow name rank key) = ap (λ n. call.GetNow (record { number = n }) (number_or_count s.keys key)) (number_changed name rank)
  numbered_changed s job (Publish name value) = refl
  numbered_changed s job (Lookup name) = refl
  numbered_changed s job (LookupWait name) = refl
  numbered_changed s job (Unpublish name) = refl
  numbered_changed s job UnpublishAll = refl

-- what the calls name, call by call, after a change
module _ (f : Change) (g h : ℕ → Call → List (List ℕ)) where
  in_process : (job : ℕ) (cs : List (ℕ × Call)) → ((i : ℕ) (c : ℕ × Call) → slice_get cs i ≡ Some c → g job (f job c.1) ≡ h job c.1)
      → flat_map (λ c. g job c.1) (map (changed_call f job) cs) ≡ flat_map (λ c. h job c.1) cs
  in_process job [] e = refl
  in_process job (c ∷ cs) e =
      ap (λ l. l ++ flat_map (λ x. g job x.1) (map (changed_call f job) cs)) (e zero c refl)
      ∙ ap (λ l. h job c.1 ++ l) (in_process job cs (λ i b at. e (suc i) b at))

  in_all : (ps : List Started) → ((k : ℕ) (p : Started) (i : ℕ) (c : ℕ × Call) → CallAt ps k p i c → g p.job (f p.job c.1) ≡ h p.job c.1)
      → in_calls g (map (changed_process f) ps) ≡ in_calls h ps
  in_all [] e = refl
  in_all (p ∷ ps) e =
      ap (λ l. l ++ in_calls g (map (changed_process f) ps)) (in_process p.job p.calls (λ i c at. e zero p i c (refl, at)))
      ∙ ap (λ l. flat_map (λ c. h p.job c.1) p.calls ++ l) (in_all ps (λ k q i c at. e (suc k) q i c at))

abbrev with_numbered : Started → List Numbered → Process
with_numbered p calls = record { job = p.job; rank = p.rank; node = p.node; calls = calls }

module _ (f : Change) (d : Declared) (s : Seen) where
  calls_changed : (job : ℕ) (cs : List (ℕ × Call)) → ((i : ℕ) (c : ℕ × Call) → slice_get cs i ≡ Some c → numbered (changed_declaration f d) s job (f job c.1) ≡ numbered d s job c.1)
      → map (λ c. numbered (changed_declaration f d) s job c.1) (map (changed_call f job) cs) ≡ map (λ c. numbered d s job c.1) cs
  calls_changed job [] e = refl
  calls_changed job (c ∷ cs) e =
      ap (λ x. x ∷ map (λ b. numbered (changed_declaration f d) s job b.1) (map (changed_call f job) cs)) (e zero c refl)
      ∙ ap (λ l. numbered d s job c.1 ∷ l) (calls_changed job cs (λ i b at. e (suc i) b at))

  processes_changed : (ps : List Started) → ((k : ℕ) (p : Started) (i : ℕ) (c : ℕ × Call) → CallAt ps k p i c → numbered (changed_declaration f d) s p.job (f p.job c.1) ≡ numbered d s p.job c.1)
      → map (process_of (changed_declaration f d) s) (map (changed_process f) ps) ≡ map (process_of d s) ps
  processes_changed [] e = refl
  processes_changed (p ∷ ps) e =
      ap (λ l. with_numbered p l ∷ map (process_of (changed_declaration f d) s) (map (changed_process f) ps)) (calls_changed p.job p.calls (λ i c at. e zero p i c (refl, at)))
      ∙ ap (λ l. process_of d s p ∷ l) (processes_changed ps (λ k q i c at. e (suc k) q i c at))

abbrev seen_with : List Name → List Name → List (List ℕ) → List (List ℕ) → Seen
seen_with keys names values sets = record { keys = keys; names = names; values = values; sets = sets }

abbrev with_all : Declared → Seen → List Process → Scripts
with_all d s processes = record { version = d.version; nodes = d.nodes; jobs = d.jobs; keys = s.keys; names = s.names; values = s.values; sets = s.sets; processes = processes; keeps = d.keeps }

seen_changed : (f : Change) (d : Declared) → IsSameChange d f → seen_in (changed_declaration f d) ≡ seen_in d
seen_changed f d e =
    let keys = ap first_seen (in_all f (λ job. keys_in) (λ job. keys_in) d.processes (λ k p i c at. (e k p i c at).keys)) in
    let names = ap first_seen (in_all f (λ job. names_in) (λ job. names_in) d.processes (λ k p i c at. (e k p i c at).names)) in
    let values = ap first_seen (in_all f (λ job. values_in) (λ job. values_in) d.processes (λ k p i c at. (e k p i c at).values)) in
    let sets = ap first_seen (in_all f (sets_in (changed_declaration f d)) (sets_in d) d.processes (λ k p i c at. sets_changed f d p.job (f p.job c.1) ∙ (e k p i c at).sets)) in
    λ t. seen_with (keys t) (names t) (values t) (sets t)

-- the scripts are the same
pub scripts_changed : (f : Change) (d : Declared) → IsSameChange d f → scripts_of (changed_declaration f d) ≡ scripts_of d
scripts_changed f d e =
    ap (scripts_with (changed_declaration f d)) (seen_changed f d e)
    ∙ ap (with_all d (seen_in d)) (processes_changed f d (seen_in d) d.processes (λ k p i c at. numbered_changed f d (seen_in d) p.job (f p.job c.1) ∙ (e k p i c at).number (seen_in d)))

-- the second pass finds no fault in a call
abbrev pub IsMet : Declared → Started → Call → Type 0
IsMet d p c = (is_declared_call d c ≡ true) × (is_with_caller d p c ≡ true)

-- a call without a fault names what is declared, and has its caller in its set
pub no_fault : (a b : Bool) (line : ℕ) → (if not a then Some (UnknownName line) else if not b then Some (NotMember line) else None) ≡ None → (a ≡ true) × (b ≡ true)
no_fault true true line h = (refl, refl)
no_fault true false line h = absurd (cc)
no_fault false b line h = absurd (cc)

-- where the first of two faults is none, both are
pub both_none : (a b : Option Fault) → first_of a b ≡ None → (a ≡ None) × (b ≡ None)
both_none None b h = (refl, h)
both_none (Some e) b h = absurd (cc)

none_both : (a b : Option Fault) → a ≡ None → b ≡ None → first_of a b ≡ None
none_both a b h k = rw h k

module _ (d : Declared) where
  call_met : (p : Started) (cs : List (ℕ × Call)) (i : ℕ) (c : ℕ × Call) → fault_in d p cs ≡ None → slice_get cs i ≡ Some c → IsMet d p c.1
  call_met p [] i c h at = absurd (cc)
  call_met p (b ∷ cs) zero c h at =
      let is : b ≡ c = cc in
      subst (λ x. IsMet d p x.1) is (no_fault (is_declared_call d b.1) (is_with_caller d p b.1) b.0 (both_none (call_fault d p b.0 b.1) (fault_in d p cs) h).0)
  call_met p (b ∷ cs) (suc i) c h at = call_met p cs i c (both_none (call_fault d p b.0 b.1) (fault_in d p cs) h).1 at

  pub all_met : (ps : List Started) (k : ℕ) (p : Started) (i : ℕ) (c : ℕ × Call) → first_fault d ps ≡ None → CallAt ps k p i c → IsMet d p c.1
  all_met [] k p i c h at = absurd (let e = at.0 in cc)
  all_met (q ∷ ps) zero p i c h at =
      let is : q ≡ p = (let e = at.0 in cc) in
      call_met p p.calls i c (subst (λ x. fault_in d x x.calls ≡ None) is (both_none (fault_in d q q.calls) (first_fault d ps) h).0) at.1
  all_met (q ∷ ps) (suc k) p i c h at = all_met ps k p i c (both_none (fault_in d q q.calls) (first_fault d ps) h).1 at

  met_none : (p : Started) (cs : List (ℕ × Call)) → ((i : ℕ) (c : ℕ × Call) → slice_get cs i ≡ Some c → IsMet d p c.1) → fault_in d p cs ≡ None
  met_none p [] h = refl
  met_none p (c ∷ cs) h =
      let m = h zero c refl in
      let here : call_fault d p c.0 c.1 ≡ None = rw (m.0, m.1) refl in
      none_both (call_fault d p c.0 c.1) (fault_in d p cs) here (met_none p cs (λ i b at. h (suc i) b at))

  pub none_met : (ps : List Started) → ((k : ℕ) (p : Started) (i : ℕ) (c : ℕ × Call) → CallAt ps k p i c → IsMet d p c.1) → first_fault d ps ≡ None
  none_met [] h = refl
  none_met (p ∷ ps) h =
      none_both (fault_in d p p.calls) (first_fault d ps) (met_none p p.calls (λ i c at. h zero p i c (refl, at))) (none_met ps (λ k q i c at. h (suc k) q i c at))

-- nor does it find a fault after the change
pub met_changed : (f : Change) (d : Declared) → IsSameChange d f → first_fault d d.processes ≡ None → first_fault (changed_declaration f d) (changed_declaration f d).processes ≡ None
met_changed f d e h = none_met (changed_declaration f d) (changed_declaration f d).processes (λ k q i b at.
    let p = slice_get-map_back (changed_process f) d.processes k q at.0 in
    let c = slice_get-map_back (changed_call f p.0.job) p.0.calls i b (subst (λ x. slice_get x.calls i ≡ Some b) (sym p.2) at.1) in
    let there : CallAt d.processes k p.0 i c.0 = (p.1, c.1) in
    let m = all_met d d.processes k p.0 i c.0 h there in
    let a = e k p.0 i c.0 there in
    let declared = declared_changed f d (f p.0.job c.0.1) ∙ a.declared m.0 in
    let caller = caller_changed f d p.0 (f p.0.job c.0.1) ∙ a.caller k p.0 p.1 refl ∙ m.1 in
    subst (λ x. IsMet (changed_declaration f d) x b.1) p.2 (subst (λ x. IsMet (changed_declaration f d) (changed_process f p.0) x.1) c.2 (declared, caller)))

-- without the numbers of lines the scripts are the same, and a fault is none where it was none
pub scripts_bare : (d : Declared) → scripts_of (bare_declaration d) ≡ scripts_of d
scripts_bare d = scripts_changed no_change d (λ k p i c at. same_again d p.job c.1)

pub met_full : (d : Declared) → first_fault (bare_declaration d) (bare_declaration d).processes ≡ None → first_fault d d.processes ≡ None
met_full d h = none_met d d.processes (λ k p i c at.
    let m = all_met (bare_declaration d) (bare_declaration d).processes k (changed_process no_change p) i (changed_call no_change p.job c) h
    (slice_get-map_kept (changed_process no_change) d.processes k p at.0, slice_get-map_kept (changed_call no_change p.job) p.calls i c at.1) in
    (sym (declared_changed no_change d c.1) ∙ m.0, sym (caller_changed no_change d p c.1) ∙ m.1))
