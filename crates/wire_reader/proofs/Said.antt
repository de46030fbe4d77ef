-- What the scripts say of the calls that were read: each call as it was, a fence with the canonical words of its set.
use Rattle.std.proofs.Common.{◌≡◌, ◌∙◌, ap, sym, subst, refl, ℕ, zero, suc, ◌+◌, ◌<◌, List, [], ◌∷◌, ◌++◌, Bool, true, false, cond, Some, None, map, filter, length, arith, inl, inr}
use Rattle.std.specs.Prelude.{◌==◌, ◌||◌, ◌⊎◌, not, slice_get}
use Rattle.std.specs.List.{flat_map, position_or_len}
use Rattle.std.specs.Str.{bytes_eq}
use borrow.Author.Tests.{ltb-true, eqb-true}
use Rattle.wire_types.specs.declared.Scope.{Scope}
use Rattle.wire_types.specs.declared.Call as call
use Rattle.wire_types.specs.declared.Call.TheVariants as variant
use Rattle.wire_types.specs.declared.Version.{Version}
use Rattle.wire_lines.specs.Said.{Set, Call, Put, Commit, Fence, Get, GetNow, Publish, Lookup, LookupWait, Unpublish, UnpublishAll, Header, Node, Job, Rank, Calls}
use Rattle.wire_lines.proofs.Colon.{and_left, and_right}
use Rattle.wire_scripts.specs.Scripts.{Process, text_at}
use Rattle.wire_scripts.specs.Canonical.{process_at, job_of, set_said, call_said, process_said, jobs_said, keep_said, lines_said}
use Rattle.wire_reader.specs.FirstPass.{Name, Started, Declared, is_among, number_or_count, has_call}
use Rattle.wire_reader.specs.Reads.{Seen, is_proc, proc_number, has_proc, is_in, set_members, is_declared_call, is_with_caller, first_fault, keys_in, names_in, values_in, sets_in, in_calls}
use Rattle.wire_reader.specs.Reads.{first_seen, seen_in, numbered, process_of, scripts_with, scripts_of}
use Rattle.wire_reader.proofs.Seen.{seen_among, among_flat, text_at_number, alone}
use Rattle.wire_reader.proofs.Changed.{changed_call, changed_process, changed_declaration, IsFit, IsFitFor, CallsAre, AllCalls}
use Rattle.wire_reader.proofs.DeclaredLines.{process_lines, of_job, jobs_lines, declared_lines}
use Rattle.wire_reader.proofs.Ranked.{IsGood, below_at}
use Rattle.wire_reader.proofs.SameMembers.{process_there, set_kept, members_kept, set_declared, set_short, set_lawful}
use Rattle.wire_reader.proofs.Again.{canonical_call, IsAgain, same_again, CallAt, IsSameChange, all_met}

-- a table has what the calls name
in_seen : (h : ℕ → Call → List (List ℕ)) (ps : List Started) (k : ℕ) (p : Started) (i : ℕ) (c : ℕ × Call) (x : List ℕ) → CallAt ps k p i c
    → is_among (h p.job c.1) x ≡ true → is_among (first_seen (in_calls h ps)) x ≡ true
in_seen h ps k p i c x at e =
    seen_among (in_calls h ps) x
    (among_flat (λ q. flat_map (λ b. h q.job b.1) q.calls) ps k p x at.0 (among_flat (λ b. h p.job b.1) p.calls i c x at.1 e))

pub record HasCall (d : Declared) (job : ℕ) (c : Call) : Type 0 where
  pub keys : (x : List ℕ) → is_among (keys_in c) x ≡ true → is_among (seen_in d).keys x ≡ true
  pub names : (x : List ℕ) → is_among (names_in c) x ≡ true → is_among (seen_in d).names x ≡ true
  pub values : (x : List ℕ) → is_among (values_in c) x ≡ true → is_among (seen_in d).values x ≡ true
  pub sets : (x : List ℕ) → is_among (sets_in d job c) x ≡ true → is_among (seen_in d).sets x ≡ true

names_call : (d : Declared) (k : ℕ) (p : Started) (i : ℕ) (c : ℕ × Call) → CallAt d.processes k p i c → HasCall d p.job c.1
names_call d k p i c at = record {
  keys = λ x e. in_seen (λ job. keys_in) d.processes k p i c x at e;
  names = λ x e. in_seen (λ job. names_in) d.processes k p i c x at e;
  values = λ x e. in_seen (λ job. values_in) d.processes k p i c x at e;
  sets = λ x e. in_seen (sets_in d) d.processes k p i c x at e;
}

-- the text of the number of a text
text_back : (t : List (List ℕ)) (xs : List (List ℕ)) (x : List ℕ) → ((y : List ℕ) → is_among xs y ≡ true → is_among t y ≡ true) → is_among xs x ≡ true → text_at t (number_or_count t x) ≡ x
text_back t xs x h e = (text_at_number t x (h x e)).1

place_among : (xs : List Name) (x : Name) → number_or_count xs x < length xs → is_among xs x ≡ true
place_among [] x h = absurd (omega arith)
place_among (y ∷ ys) x h =
    elim (bytes_eq x y) as (λ t. cond (not t) (1 + number_or_count ys x) 0 < length (y ∷ ys) → (t || is_among ys x) ≡ true) [
      | true ↦ λ k. refl
      | false ↦ λ k. place_among ys x (omega arith)
    ] h

position_holds : (f : Started → Bool) (ps : List Started) → position_or_len f ps < length ps → (q : Started) × (slice_get ps (position_or_len f ps) ≡ Some q) × (f q ≡ true)
position_holds f [] h = absurd (omega arith)
position_holds f (x ∷ ps) h =
    elim (f x) as (λ t. f x ≡ t → cond (not t) (1 + position_or_len f ps) 0 < length (x ∷ ps)
    → (q : Started) × (slice_get (x ∷ ps) (cond (not t) (1 + position_or_len f ps) 0) ≡ Some q) × (f q ≡ true)) [
      | true ↦ λ e k. (x, refl, e)
      | false ↦ λ e k.
          let one : 1 + position_or_len f ps ≡ suc (position_or_len f ps) = omega arith in
          let r = position_holds f ps (omega arith) in
          (r.0, ap (slice_get (x ∷ ps)) one ∙ r.1, r.2)
    ] refl h

proc_there : (d : Declared) (name : Name) (rank : ℕ) → has_proc d name rank ≡ true → proc_number d name rank < length d.processes
unfolding has_proc
proc_there d name rank h = ltb-true _ _ h

-- the process that a call names has the name and the rank
proc_named : (d : Declared) (s : Seen) (name : Name) (rank : ℕ) → IsGood d → has_proc d name rank ≡ true
    → (job_of (scripts_with d s) (proc_number d name rank) ≡ name) × ((process_at (scripts_with d s) (proc_number d name rank)).rank ≡ rank)
proc_named d s name rank g h =
    let q = position_holds (is_proc (number_or_count d.jobs name) rank) d.processes (proc_there d name rank h) in
    let job = eqb-true q.0.job (number_or_count d.jobs name) (and_left _ _ q.2) in
    let is = process_there d s d.processes (record { job = 0; rank = 0; node = 0; calls = [] }) (proc_number d name rank) q.0 q.1 in
    let below = below_at (length d.jobs) d.processes (proc_number d name rank) q.0 g.below q.1 in
    let f : Process → Name = λ x. text_at d.jobs x.job in
    let r : Process → ℕ = λ x. x.rank in (
      ap f is ∙ ap (text_at d.jobs) job ∙ (text_at_number d.jobs name (place_among d.jobs name (omega arith))).1,
      ap r is ∙ eqb-true q.0.rank rank (and_right _ _ q.2),
    )

put_same : (scope : Scope) (k l v w : List ℕ) → k ≡ l → v ≡ w → Put scope k v ≡ Put scope l w
put_same scope k l v w a b = cc

get_same : (i j : List ℕ) (r q : ℕ) (k l : List ℕ) → i ≡ j → r ≡ q → k ≡ l → Get i r k ≡ Get j q l
get_same i j r q k l a b c = cc

get_now_same : (i j : List ℕ) (r q : ℕ) (k l : List ℕ) → i ≡ j → r ≡ q → k ≡ l → GetNow i r k ≡ GetNow j q l
get_now_same i j r q k l a b c = cc

publish_same : (k l v w : List ℕ) → k ≡ l → v ≡ w → Publish k v ≡ Publish l w
publish_same k l v w a b = cc

-- a fence as the scripts say it
abbrev pub fence_again : Declared → ℕ → Set → Bool → Call
fence_again d job set collect = Fence (set_said (scripts_of d) job (set_members d job set)) collect

-- a call is said as it was, or it is a fence
abbrev pub IsSaid : Declared → ℕ → Call → Type 0
IsSaid d job c = (canonical_call d job c ≡ c) ⊎ ((set : Set) × (collect : Bool) × (c ≡ Fence set collect) × (canonical_call d job c ≡ fence_again d job set collect))

call_is_said : (d : Declared) (job : ℕ) (c : Call) → IsGood d → HasCall d job c → is_declared_call d c ≡ true → IsSaid d job c
call_is_said d job (Put scope key value) g h m =
    inl (put_same scope _ key _ value (text_back (seen_in d).keys (key ∷ []) key h.keys (alone key)) (text_back (seen_in d).values (value ∷ []) value h.values (alone value)))
call_is_said d job Commit g h m = inl refl
call_is_said d job (Fence set collect) g h m =
    let sets = (seen_in d).sets in
    let members = set_members d job set in
    inr (set, collect, refl, ap (λ m. Fence (set_said (scripts_of d) job m) collect) (text_back sets (members ∷ []) members h.sets (alone members)))
call_is_said d job (Get name rank key) g h m =
    let p = proc_named d (seen_in d) name rank g m in
    inl (get_same _ name _ rank _ key p.0 p.1 (text_back (seen_in d).keys (key ∷ []) key h.keys (alone key)))
call_is_said d job (GetNow name rank key) g h m =
    let p = proc_named d (seen_in d) name rank g m in
    inl (get_now_same _ name _ rank _ key p.0 p.1 (text_back (seen_in d).keys (key ∷ []) key h.keys (alone key)))
call_is_said d job (Publish name value) g h m =
    inl (publish_same _ name _ value (text_back (seen_in d).names (name ∷ []) name h.names (alone name)) (text_back (seen_in d).values (value ∷ []) value h.values (alone value)))
call_is_said d job (Lookup name) g h m = inl (ap Lookup (text_back (seen_in d).names (name ∷ []) name h.names (alone name)))
call_is_said d job (LookupWait name) g h m = inl (ap LookupWait (text_back (seen_in d).names (name ∷ []) name h.names (alone name)))
call_is_said d job (Unpublish name) g h m = inl (ap Unpublish (text_back (seen_in d).names (name ∷ []) name h.names (alone name)))
call_is_said d job UnpublishAll g h m = inl refl

fence_is_again : (d : Declared) (g : IsGood d) (job : ℕ) (set : Set) (collect : Bool) → IsAgain d job (Fence set collect) (fence_again d job set collect)
fence_is_again d g job set collect = record {
  keys = refl;
  names = refl;
  values = refl;
  sets = ap (λ m. m ∷ []) (members_kept d (seen_in d) g job set);
  number = λ s. ap (λ m. numbered_fence s m) (members_kept d (seen_in d) g job set);
  declared = λ h. set_declared d (seen_in d) g job set;
  caller = λ k p at e. subst (λ j. is_in d j (set_said (scripts_of d) job (set_members d job set)) p ≡ is_in d j set p) (sym e) (set_kept d (seen_in d) g job set k p at);
}
  where
    numbered_fence : Seen → List ℕ → call.Call
    numbered_fence s m = variant.Fence (number_or_count s.sets m) collect

said_is_again : (d : Declared) (job : ℕ) (c : Call) → IsGood d → IsSaid d job c → IsAgain d job c (canonical_call d job c)
said_is_again d job c g (inl e) = subst (IsAgain d job c) (sym e) (same_again d job c)
said_is_again d job c g (inr (set, collect, is, e)) =
    subst (IsAgain d job c) (sym e) (subst (λ b. IsAgain d job b (fence_again d job set collect)) (sym is) (fence_is_again d g job set collect))

said_fits : (d : Declared) (k : ℕ) (p : Started) (c : Call) → IsGood d → slice_get d.processes k ≡ Some p → IsFit c → is_with_caller d p c ≡ true → IsSaid d p.job c → IsFit (canonical_call d p.job c)
said_fits d k p c g at fit m (inl e) = subst IsFit (sym e) fit
said_fits d k p c g at fit m (inr (set, collect, is, e)) =
    let caller = sym (ap (is_with_caller d p) is) ∙ m in
    subst IsFit (sym e) (record { lawful = set_lawful d (seen_in d) g p.job set k p at caller; short = set_short d (seen_in d) g p.job set })

-- a call is said in a file of each version that may make it
said_place : (d : Declared) (job : ℕ) (c : Call) → IsSaid d job c → (v : Version) → has_call v (canonical_call d job c) ≡ has_call v c
said_place d job c (inl e) v = ap (has_call v) e
said_place d job c (inr (set, collect, is, e)) v = ap (has_call v) e ∙ sym (ap (has_call v) is)

-- what the scripts say names the same
pub again_same : (d : Declared) → IsGood d → first_fault d d.processes ≡ None → IsSameChange d (canonical_call d)
again_same d g u k p i c at =
    said_is_again d p.job c.1 g (call_is_said d p.job c.1 g (names_call d k p i c at) (all_met d d.processes k p i c u at).0)

module _ (P : ℕ → Call → Type 0) where
  calls_by_place : (job : ℕ) (cs : List (ℕ × Call)) → ((i : ℕ) (c : ℕ × Call) → slice_get cs i ≡ Some c → P job c.1) → CallsAre P job cs
  calls_by_place job [] h = tt
  calls_by_place job (c ∷ cs) h = (h zero c refl, calls_by_place job cs (λ i b at. h (suc i) b at))

  all_by_place : (ps : List Started) → ((k : ℕ) (p : Started) (i : ℕ) (c : ℕ × Call) → CallAt ps k p i c → P p.job c.1) → AllCalls P ps
  all_by_place [] h = tt
  all_by_place (p ∷ ps) h = (calls_by_place p.job p.calls (λ i c at. h zero p i c (refl, at)), all_by_place ps (λ k q i c at. h (suc k) q i c at))

  call_by_place : (job : ℕ) (cs : List (ℕ × Call)) (i : ℕ) (c : ℕ × Call) → CallsAre P job cs → slice_get cs i ≡ Some c → P job c.1
  call_by_place job [] i c h at = absurd (cc)
  call_by_place job (b ∷ cs) zero c h at = let is : b ≡ c = cc in subst (λ x. P job x.1) is h.0
  call_by_place job (b ∷ cs) (suc i) c h at = call_by_place job cs i c h.1 at

  at_place : (ps : List Started) (k : ℕ) (p : Started) (i : ℕ) (c : ℕ × Call) → AllCalls P ps → CallAt ps k p i c → P p.job c.1
  at_place [] k p i c h at = absurd (let e = at.0 in cc)
  at_place (q ∷ ps) zero p i c h at =
      let is : q ≡ p = (let e = at.0 in cc) in
      call_by_place p.job p.calls i c (subst (λ x. CallsAre P x.job x.calls) is h.0) at.1
  at_place (q ∷ ps) (suc k) p i c h at = at_place ps k p i c h.1 at

-- and may be said
pub again_fits : (d : Declared) → IsGood d → AllCalls (λ job c. IsFit c) d.processes → first_fault d d.processes ≡ None → AllCalls (λ job c. IsFitFor c (canonical_call d job c)) d.processes
again_fits d g fit u = all_by_place (λ job c. IsFitFor c (canonical_call d job c)) d.processes (λ k p i c at.
    let m = all_met d d.processes k p i c u at in
    let said = call_is_said d p.job c.1 g (names_call d k p i c at) m.0 in
    record { fit = said_fits d k p c.1 g at.0 (at_place (λ job b. IsFit b) d.processes k p i c fit at) m.1 said; place = said_place d p.job c.1 said })

-- the lines of scripts are those of what is declared, with what the scripts say of each call
module _ (d : Declared) where
  calls_lines : (job : ℕ) (cs : List (ℕ × Call))
      → map (λ c. Calls (call_said (scripts_of d) job c)) (map (λ c. numbered d (seen_in d) job c.1) cs) ≡ map (λ c. Calls c.1) (map (changed_call (canonical_call d) job) cs)
  calls_lines job [] = refl
  calls_lines job (c ∷ cs) = ap (λ l. Calls (canonical_call d job c.1) ∷ l) (calls_lines job cs)

  of_job_lines : (n : ℕ) (ps : List Started)
      → flat_map (process_said (scripts_of d)) (filter (λ p. p.job == n) (map (process_of d (seen_in d)) ps)) ≡ flat_map (process_lines d.nodes)
      (of_job (map (changed_process (canonical_call d)) ps) n)
  of_job_lines n [] = refl
  of_job_lines n (p ∷ ps) =
      elim (p.job == n) as (λ t. flat_map (process_said (scripts_of d))
      (cond t (process_of d (seen_in d) p ∷ filter (λ q. q.job == n) (map (process_of d (seen_in d)) ps)) (filter (λ q. q.job == n) (map (process_of d (seen_in d)) ps)))
      ≡ flat_map (process_lines d.nodes) (cond t (changed_process (canonical_call d) p ∷ of_job (map (changed_process (canonical_call d)) ps) n)
      (of_job (map (changed_process (canonical_call d)) ps) n))) [
        | true ↦
            ap (λ l. (Rank (text_at d.nodes p.node) ∷ l) ++ flat_map (process_said (scripts_of d)) (filter (λ q. q.job == n) (map (process_of d (seen_in d)) ps))) (calls_lines p.job p.calls)
            ∙ ap (λ l. process_lines d.nodes (changed_process (canonical_call d) p) ++ l) (of_job_lines n ps)
        | false ↦ of_job_lines n ps
      ]

  jobs_again : (n : ℕ) (jobs : List Name) → jobs_said (scripts_of d) n jobs ≡ jobs_lines d.nodes (map (changed_process (canonical_call d)) d.processes) n jobs
  jobs_again n [] = refl
  jobs_again n (j ∷ jobs) =
      ap (λ l. (Job j ∷ l) ++ jobs_said (scripts_of d) (n + 1) jobs) (of_job_lines n d.processes)
      ∙ ap (λ l. (Job j ∷ flat_map (process_lines d.nodes) (of_job (map (changed_process (canonical_call d)) d.processes) n)) ++ l) (jobs_again (n + 1) jobs)

  pub scripts_lines : lines_said (scripts_of d) ≡ Header d.version ∷ declared_lines (changed_declaration (canonical_call d) d)
  scripts_lines = ap (λ l. Header d.version ∷ (keep_said d.keeps ++ (map (λ n. Node n) d.nodes ++ l))) (jobs_again 0 d.jobs)
