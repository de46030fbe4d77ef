-- What was read reads under version 2 too.
use Rattle.std.proofs.Common.{◌≡◌, ◌∙◌, ap, sym, subst, refl, ℕ, ◌≤◌, List, [], ◌∷◌, map, length, arith, Some, None, Result, Ok, Err, MatchResult, inl, inr, if◌then◌else◌}
use Rattle.std.specs.Prelude.{not, ◌&&◌, true}
use Rattle.std.specs.List.{list_any, list_all}
use borrow.Author.Tests.{ltb-true, lt-ltb}
use Rattle.wire_types.specs.declared.Fault.{Fault}
use Rattle.wire_types.specs.declared.Fault.TheVariants.{UnknownName, NotMember}
use Rattle.wire_types.specs.declared.Call.TheVariants as call
use Rattle.wire_types.specs.declared.Version.{Version}
use Rattle.wire_types.specs.declared.Version.TheVariants as version
use Rattle.wire_lines.specs.Text.{lines_of}
use Rattle.wire_lines.specs.Said.{Item, One, Every, Set, Own, Listed, Call, Put, Commit, Fence, Get, GetNow, Publish, Lookup}
use Rattle.wire_lines.specs.Said.{LookupWait, Unpublish, UnpublishAll, Said, Header, Keep, Node, Job, Rank, Calls}
use Rattle.wire_scripts.specs.Scripts.{Scripts, under_version_2}
use Rattle.wire_scripts.specs.Canonical.{canonical}
use Rattle.wire_reader.specs.declared.limits.Limits.{Limits}
use Rattle.wire_reader.specs.declared.limits.Size.{Size}
use Rattle.wire_reader.specs.declared.limits.Size.TheVariants.{OfVersion, Large}
use Rattle.wire_reader.specs.Limits.{limits_of}
use Rattle.wire_reader.specs.Statements.{statements}
use Rattle.wire_reader.specs.FirstPass.{Name, Started, Declared, nothing, number_or_count, has_call, after, FirstPass}
use Rattle.wire_reader.specs.Reads.{Seen, has_proc, names_it, is_in, places_from, set_members, is_declared_item, is_declared_set, is_declared_call, is_with_caller, call_fault, first_of}
use Rattle.wire_reader.specs.Reads.{fault_in, first_fault, keys_in, names_in, values_in, sets_in, in_calls, first_seen, seen_in, numbered, scripts_with, scripts_of, second_pass, ReadsShort}
use Rattle.wire_reader.specs.Back.{MigratedReadsBack}
use Rattle.wire_lines.proofs.Colon.{and_left, and_right}
use Rattle.wire_reader.proofs.Changed.{IsTaken, Runs, first_run, kept_header}
use Rattle.wire_reader.proofs.ReadBack.{declared_back}
use Rattle.wire_reader.proofs.Once.{second_ok}

-- what is declared, under another version and within other limits
abbrev pub moved : Version → Limits → Declared → Declared
moved v m d = record d { version = v; limits = m }

pub record IsRoomier (l m : Limits) : Type 0 where
  pub nodes : l.nodes ≤ m.nodes
  pub jobs : l.jobs ≤ m.jobs
  pub processes : l.processes ≤ m.processes
  pub calls : l.calls ≤ m.calls

roomier : (size : Size) (v : Version) → IsRoomier (limits_of size v) (limits_of size version.Two)
roomier OfVersion version.One = record { nodes = omega arith; jobs = omega arith; processes = omega arith; calls = omega arith }
roomier OfVersion version.Two = record { nodes = omega arith; jobs = omega arith; processes = omega arith; calls = omega arith }
roomier Large v = record { nodes = omega arith; jobs = omega arith; processes = omega arith; calls = omega arith }

-- a file of version 2 may make each call
second_has : (c : Call) → has_call version.Two c ≡ true
second_has UnpublishAll = refl
second_has _ = refl

module _ (m : Limits) where
  -- a line that is taken is taken under version 2, where there is more room
  taken_moved : (d : Declared) (a : Said) → IsRoomier d.limits m → IsTaken d a → IsTaken (moved version.Two m d) a
  taken_moved d (Header w) r t = record { place = t.place; short = t.short; known = t.known; again = t.again; room = t.room }
  taken_moved d Keep r t = record { place = and_right _ _ t.place; short = t.short; known = t.known; again = t.again; room = t.room }
  taken_moved d (Node name) r t =
      let low = ltb-true _ _ t.room in
      let more = r.nodes in
      record { place = t.place; short = t.short; known = t.known; again = t.again; room = lt-ltb (length d.nodes) m.nodes (omega (arith, low, more)) }
  taken_moved d (Job name) r t =
      let low = ltb-true _ _ t.room in
      let more = r.jobs in
      record { place = t.place; short = t.short; known = t.known; again = t.again; room = lt-ltb (length d.jobs) m.jobs (omega (arith, low, more)) }
  taken_moved d (Rank node) r t =
      let low = ltb-true _ _ t.room in
      let more = r.processes in
      record { place = t.place; short = t.short; known = t.known; again = t.again; room = lt-ltb (length d.processes) m.processes (omega (arith, low, more)) }
  taken_moved d (Calls c) r t =
      let low = ltb-true _ _ t.room in
      let more = r.calls in
      let place = ap (λ b. b && has_call version.Two c) (and_left _ _ t.place) ∙ second_has c in
      record { place = place; short = t.short; known = t.known; again = t.again; room = lt-ltb d.calls m.calls (omega (arith, low, more)) }

  after_moved : (d : Declared) (n : ℕ) (a : Said) → moved version.Two m (after d n a) ≡ after (moved version.Two m d) n a
  after_moved d n (Header w) = refl
  after_moved d n Keep = refl
  after_moved d n (Node name) = refl
  after_moved d n (Job name) = refl
  after_moved d n (Rank node) = refl
  after_moved d n (Calls c) = refl

  -- the same lines declare the same
  runs_moved : (ls : List (ℕ × Said)) (d e : Declared) → IsRoomier d.limits m → Runs ls d e → Runs ls (moved version.Two m d) (moved version.Two m e)
  runs_moved [] d e r runs = ap (moved version.Two m) runs
  runs_moved (l ∷ ls) d e r runs =
      let later = runs_moved ls (after d l.0 l.1) e (subst (λ x. IsRoomier x m) (sym (kept_header d l.0 l.1).1) r) runs.2 in
      (runs.0, taken_moved d l.1 r runs.1, subst (λ x. Runs ls x (moved version.Two m e)) (after_moved d l.0 l.1) later)

-- what calls name doesn't hang on the version and the limits
module _ (v : Version) (m : Limits) (d : Declared) where
  has_moved : (job : Name) (rank : ℕ) → has_proc (moved v m d) job rank ≡ has_proc d job rank
  unfolding has_proc
  has_moved job rank = refl

  names_moved : (i : Item) (p : Started) → names_it (moved v m d) i p ≡ names_it d i p
  names_moved (One job rank) p = refl
  names_moved (Every job) p = refl

  in_moved : (job : ℕ) (set : Set) (p : Started) → is_in (moved v m d) job set p ≡ is_in d job set p
  in_moved job Own p = refl
  in_moved job (Listed items) p = λ t. list_any (λ i. names_moved i p t) items

  members_moved : (job : ℕ) (set : Set) → set_members (moved v m d) job set ≡ set_members d job set
  members_moved job set = λ t. places_from (λ p. in_moved job set p t) 0 d.processes

  item_moved : (i : Item) → is_declared_item (moved v m d) i ≡ is_declared_item d i
  item_moved (One job rank) = has_moved job rank
  item_moved (Every job) = refl

  set_moved : (set : Set) → is_declared_set (moved v m d) set ≡ is_declared_set d set
  set_moved Own = refl
  set_moved (Listed items) = λ t. list_all (λ i. item_moved i t) items

  declared_moved : (c : Call) → is_declared_call (moved v m d) c ≡ is_declared_call d c
  declared_moved (Put scope key value) = refl
  declared_moved Commit = refl
  declared_moved (Fence set collect) = set_moved set
  declared_moved (Get job rank key) = has_moved job rank
  declared_moved (GetNow job rank key) = has_moved job rank
  declared_moved (Publish name value) = refl
  declared_moved (Lookup name) = refl
  declared_moved (LookupWait name) = refl
  declared_moved (Unpublish name) = refl
  declared_moved UnpublishAll = refl

  caller_moved : (p : Started) (c : Call) → is_with_caller (moved v m d) p c ≡ is_with_caller d p c
  caller_moved p (Put scope key value) = refl
  caller_moved p Commit = refl
  caller_moved p (Fence set collect) = in_moved p.job set p
  caller_moved p (Get job rank key) = refl
  caller_moved p (GetNow job rank key) = refl
  caller_moved p (Publish name value) = refl
  caller_moved p (Lookup name) = refl
  caller_moved p (LookupWait name) = refl
  caller_moved p (Unpublish name) = refl
  caller_moved p UnpublishAll = refl

  fault_moved : (p : Started) (line : ℕ) (c : Call) → call_fault (moved v m d) p line c ≡ call_fault d p line c
  fault_moved p line c = λ t. if not (declared_moved c t) then Some (UnknownName line) else if not (caller_moved p c t) then Some (NotMember line) else None

  faults_moved : (p : Started) (cs : List (ℕ × Call)) → fault_in (moved v m d) p cs ≡ fault_in d p cs
  faults_moved p [] = refl
  faults_moved p (c ∷ cs) = λ t. first_of (fault_moved p c.0 c.1 t) (faults_moved p cs t)

  pub first_moved : (ps : List Started) → first_fault (moved v m d) ps ≡ first_fault d ps
  first_moved [] = refl
  first_moved (p ∷ ps) = λ t. first_of (faults_moved p p.calls t) (first_moved ps t)

  sets_moved : (job : ℕ) (c : Call) → sets_in (moved v m d) job c ≡ sets_in d job c
  sets_moved job (Put scope key value) = refl
  sets_moved job Commit = refl
  sets_moved job (Fence set collect) = λ t. members_moved job set t ∷ []
  sets_moved job (Get name rank key) = refl
  sets_moved job (GetNow name rank key) = refl
  sets_moved job (Publish name value) = refl
  sets_moved job (Lookup name) = refl
  sets_moved job (LookupWait name) = refl
  sets_moved job (Unpublish name) = refl
  sets_moved job UnpublishAll = refl

  numbered_moved : (s : Seen) (job : ℕ) (c : Call) → numbered (moved v m d) s job c ≡ numbered d s job c
  numbered_moved s job (Put scope key value) = refl
  numbered_moved s job Commit = refl
  numbered_moved s job (Fence set collect) = λ t. call.Fence (number_or_count s.sets (members_moved job set t)) collect
  numbered_moved s job (Get name rank key) = refl
  numbered_moved s job (GetNow name rank key) = refl
  numbered_moved s job (Publish name value) = refl
  numbered_moved s job (Lookup name) = refl
  numbered_moved s job (LookupWait name) = refl
  numbered_moved s job (Unpublish name) = refl
  numbered_moved s job UnpublishAll = refl

  abbrev seen_with : List (List ℕ) → Seen
  seen_with sets = record {
    keys = first_seen (in_calls (λ job. keys_in) d.processes);
    names = first_seen (in_calls (λ job. names_in) d.processes);
    values = first_seen (in_calls (λ job. values_in) d.processes);
    sets = sets;
  }

  seen_moved : seen_in (moved v m d) ≡ seen_in d
  seen_moved = λ t. seen_with (first_seen (in_calls (λ job c. sets_moved job c t) d.processes))

  pub scripts_moved : scripts_of (moved v m d) ≡ record (scripts_of d) { version = v }
  scripts_moved =
      let s = seen_in d in
      ap (scripts_with (moved v m d)) seen_moved
      ∙ (λ t. record {
        version = v;
        nodes = d.nodes;
        jobs = d.jobs;
        keys = s.keys;
        names = s.names;
        values = s.values;
        sets = s.sets;
        processes = map (λ p. record { job = p.job; rank = p.rank; node = p.node; calls = map (λ c. numbered_moved s p.job c.1 t) p.calls }) d.processes;
        keeps = d.keeps;
      })

short_migrated : (size : Size) (bytes : List ℕ) (s : Scripts) (q : Result Declared Fault) → FirstPass size (statements bytes) (length (lines_of bytes)) q
    → MatchResult q (λ d. Ok s ≡ second_pass d) (λ f. Ok s ≡ Err f) → ReadsShort size (canonical (under_version_2 s)) (Ok (under_version_2 s))
short_migrated size bytes s (Err f) first n = absurd (cc)
short_migrated size bytes s (Ok d) first n =
    let run = first_run size (statements bytes) (length (lines_of bytes)) d first in
    let u = second_ok d s (first_fault d d.processes) n in
    let m = limits_of size version.Two in
    let runs = runs_moved m run.1 (nothing size run.0) d (roomier size run.0) run.2 in
    let none = first_moved version.Two m d d.processes ∙ u.0 in
    let is = ap under_version_2 u.1 ∙ sym (scripts_moved version.Two m d) in
    let back = declared_back size version.Two (moved version.Two m d) (under_version_2 s) run.1 (length (lines_of (canonical (under_version_2 s)))) runs none is in
    (Ok back.0, back.1, back.2)

pub migrated_reads_back : MigratedReadsBack
migrated_reads_back size bytes s (inl h) small = absurd (let e = h.1 in cc)
migrated_reads_back size bytes s (inr h) small = inr (small, short_migrated size bytes s h.1.0 h.1.1 h.1.2)
