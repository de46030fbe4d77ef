-- What scripts say and their plan doesn't: how the calls of a fence spell its set, which calls of reserved keys a library
-- answers as the plan says, and jobs.
use Rattle.std.specs.Prelude.{ℕ, List, [], ◌∷◌, Bool, true, false, not, ◌&&◌, ◌||◌, ◌==◌, Option, Some, None, slice_index_or, codes}
use Rattle.std.specs.Prelude.{if◌then◌else◌}
use Rattle.std.specs.Str.{bytes_eq}
use Rattle.std.specs.List.{list_all}
use Rattle.wire_types.specs.Said.{begins_with}
use Rattle.wire_types.specs.declared.Call.{Call}
use Rattle.wire_types.specs.declared.Call.TheVariants.{Fence, Get, GetNow}
use Rattle.wire_types.specs.declared.CallAt.{CallAt}
use Rattle.wire_runs.specs.Ends.{call_of}
use Rattle.wire_scripts.specs.Scripts.{Scripts, call_at, set_at, text_at}
use Rattle.wire_scripts.specs.Map.{job_at}
use Rattle.wire_scripts.specs.Planned.{plan_of}
use Rattle.wire_library_laws.specs.Library.{Words}
use Rattle.wire_portable.specs.declared.libraries.Library.{Library}
use Rattle.wire_spelling.specs.declared.spelling.Spelt.{Spelt}
use Rattle.wire_portable.specs.declared.libraries.Library.TheVariants.{V4}

-- how a call spells the set of its fence, by rows of numbers: None where it names a process or a job twice
abbrev pub unrepeated : Option Spelt → Option ℕ
unrepeated None = None
unrepeated (Some spelt) = if spelt.repeats then None else Some spelt.number

abbrev pub spelled : List (List (Option Spelt)) → CallAt → Option ℕ
spelled rows call = unrepeated (slice_index_or (slice_index_or rows call.proc.number []) call.call None)

-- whether the processes of a set are all of one job
abbrev pub is_one_job : Scripts → List ℕ → Bool
is_one_job s [] = true
is_one_job s (m ∷ members) = list_all (λ n. job_at s.processes n == job_at s.processes m) (m ∷ members)

-- OpenPMIx 4.2 sometimes doesn't end a fence of two jobs
abbrev pub takes : Library → Scripts → List ℕ → Bool
takes V4 s members = is_one_job s members
takes _ s members = true

abbrev pub sign_by : Library → Scripts → List (List (Option Spelt)) → CallAt → Option Call → Option ℕ
sign_by library s rows call (Some (Fence set collect)) =
    if takes library s (set_at s.sets set) then spelled rows call else None
sign_by library s rows call _ = None

-- keys that tell where a process is: libraries tell them of a process of the caller's job
abbrev pub is_of_map : List ℕ → Bool
is_of_map key = bytes_eq key (codes "PMIX_LOCAL_RANK") || (bytes_eq key (codes "PMIX_NODE_RANK") || bytes_eq key (codes "PMIX_HOSTNAME"))

-- keys of which a library may hold a value of its own: their names begin with `pmix.`. These two are excepted: of these two
-- it says NOT_FOUND, as the rules do
abbrev pub is_its_own : List ℕ → Bool
is_its_own key = begins_with (codes "pmix.") key && not (bytes_eq key (codes "pmix.rank") || bytes_eq key (codes "pmix.job.size"))

-- keys that a library doesn't answer as the plan says
abbrev pub is_untold : List ℕ → Bool
is_untold key = is_its_own key || (bytes_eq key (codes "PMIX_RANK") || bytes_eq key (codes "PMIX_JOB_SIZE"))

-- whether libraries answer a call of p, if it is one of a reserved key, as the plan says
abbrev pub told_call : Scripts → ℕ → Call → Bool
told_call s p (Get owner key) = is_of_map (text_at s.keys key) && (job_at s.processes owner.number == job_at s.processes p)
told_call s p (GetNow owner key) =
    if is_of_map (text_at s.keys key) then job_at s.processes owner.number == job_at s.processes p else not (is_untold (text_at s.keys key))
told_call s p _ = false

abbrev pub known_by : Scripts → ℕ → Option Call → Bool
known_by s p None = false
known_by s p (Some call) = told_call s p call

abbrev pub script_call : Scripts → CallAt → Option Call
script_call s call = call_at s.processes call.proc.number call.call

abbrev pub words_of : Library → Scripts → List (List (Option Spelt)) → Words
words_of library s rows = record {
  sign = λ y. sign_by library s rows (call_of (plan_of s) y) (script_call s (call_of (plan_of s) y));
  known = λ y. known_by s y.proc (script_call s (call_of (plan_of s) y));
  job = job_at s.processes;
}
