-- From what the parts of following an order answer to what it answers.
use Rattle.std.proofs.Common.{[], ◌∷◌, ◌+◌, ◌==◌, Bool, true, false, length, count_by, if◌then◌else◌, Vec, Global, ◌≡◌, ◌≢◌, ◌∙◌, ap, subst, sym, refl, ℕ, suc, List, take, ◌⊎◌, inl, inr, Option}
use Rattle.std.proofs.Common.{Some, None, Result, Ok, Err, IfSome, IfOk, IfErr, OnOk}
use Rattle.std.specs.Prelude.{nat_lt}
use Rattle.std.specs.Io.KnownBytes.{Appends}
use Rattle.wire_types.specs.declared.Fault.{Fault}
use Rattle.wire_types.specs.declared.Fault.TheVariants.{Memory, Read, NotReady, BadOrder}
use Rattle.wire_types.specs.Front.{WritesFront}
use Rattle.wire_types.specs.declared.Proc.{Proc}
use Rattle.wire_scripts.specs.Scripts.{Scripts, numbers_of}
use Rattle.wire_reader.specs.declared.Size.{Size}
use Rattle.wire_reader.specs.Limits.{order_bytes}
use Rattle.wire_reader.specs.Statements.{Statement, statements}
use Rattle.wire_reader.specs.Order.{order_read, order_within, order_of, step_of, with_step}
use Rattle.wire_reader.proofs.OrderLimited.{order_limited}
use Rattle.wire_runs.specs.State.{start}
use Rattle.wire_runs.specs.Step.{IsInterleaving, is_enabled, run}
use Rattle.wire_runs.specs.Ends.{outcome}
use Rattle.wire_types.specs.Outcome.{Ends}
use Rattle.wire_scripts.specs.Planned.{plan_of}
use Rattle.wire_core.specs.Course.{Course, plan_in, state_of}
use Rattle.wire_core.specs.Following.{Follows, NotEnabledAt}
use Rattle.wire_command.specs.Read.{ReadAs, Refuses}
use Rattle.wire_commands.proofs.Texts.{LeadsTo}
use Rattle.wire_commands.specs.Follow.{OrdersAs, RefusesSteps, StopsAfter, StopsBefore, OrderedAs, WritesFollowed, BreaksOffFollowed}

-- what came of an order, all that was to come reads as
pub orders_as : {size : Size} (coming : Option (List ℕ)) (bytes shown : List ℕ) (s : Scripts) (steps : List ℕ) → shown ≡ bytes →
    IfSome coming (λ all. bytes ≡ take (order_bytes size + 1) all) → order_read size s shown ≡ Ok steps →
    OrdersAs size coming s steps
orders_as None bytes shown s steps same front reads = record { bytes = shown; came = tt; reads = reads }
orders_as {size} (Some all) bytes shown s steps same front reads =
    record { bytes = all; came = refl; reads = sym (order_limited size s all) ∙ ap (order_read size s) (sym (same ∙ front)) ∙ reads }

pub refuses_steps : {size : Size} (coming : Option (List ℕ)) (bytes shown : List ℕ) (s : Scripts) (e : Fault) → shown ≡ bytes →
    IfSome coming (λ all. bytes ≡ take (order_bytes size + 1) all) → order_read size s shown ≡ Err e →
    RefusesSteps size coming s e
refuses_steps None bytes shown s e same front reads = record { bytes = shown; came = tt; reads = reads }
refuses_steps {size} (Some all) bytes shown s e same front reads =
    record { bytes = all; came = refl; reads = sym (order_limited size s all) ∙ ap (order_read size s) (sym (same ∙ front)) ∙ reads }

-- a read of the order failed, or the order is refused
pub order_fault : {size : Size} (coming : Option (List ℕ)) (s : Scripts) (e : Fault) (bytes shown : List ℕ) → shown ≡ bytes →
    IfSome coming (λ all. bytes ≡ take (order_bytes size + 1) all) → (e ≡ Memory)
    ⊎ (order_read size s shown ≡ Err e) → (e ≡ Memory) ⊎ ((e ≡ Read) ⊎ RefusesSteps size coming s e)
order_fault coming s e bytes shown same front (inl memory) = inl memory
order_fault coming s e bytes shown same front (inr reads) = inr (inr (refuses_steps coming bytes shown s e same front reads))

-- of an order that is read, and of one that isn't
pub steps_ok : (size : Size) (coming : Option (List ℕ)) (bytes shown : List ℕ) (s : Scripts) (r : Result (Vec Proc Global) Fault) →
    shown ≡ bytes → IfSome coming (λ all. bytes ≡ take (order_bytes size + 1) all) →
    IfOk r (λ order. order_read size s shown ≡ Ok (numbers_of order.items)) → IfOk r (λ order. OrdersAs size coming s (numbers_of order.items))
steps_ok size coming bytes shown s (Ok order) same front reads = orders_as coming bytes shown s (numbers_of order.items) same front reads
steps_ok size coming bytes shown s (Err e) same front reads = tt

pub steps_err : (size : Size) (coming : Option (List ℕ)) (bytes shown : List ℕ) (s : Scripts) (r : Result (Vec Proc Global) Fault) →
    shown ≡ bytes → IfSome coming (λ all. bytes ≡ take (order_bytes size + 1) all) →
    IfErr r (λ e. (e ≡ Memory) ⊎ (order_read size s shown ≡ Err e)) → IfErr r (λ e. (e ≡ Memory) ⊎ ((e ≡ Read) ⊎ RefusesSteps size coming s e))
steps_err size coming bytes shown s (Ok order) same front reads = tt
steps_err size coming bytes shown s (Err e) same front reads = order_fault coming s e bytes shown same front reads

-- the faults of the file
pub of_file : {size : Size} (coming order_coming : Option (List ℕ)) (e : Fault) → (e ≡ Memory) ⊎ ((e ≡ Read) ⊎ Refuses size coming e) → StopsBefore size coming order_coming e
of_file coming order_coming e (inl memory) = inl memory
of_file coming order_coming e (inr (inl read)) = inr (inl read)
of_file coming order_coming e (inr (inr refuses)) = inr (inr (inl refuses))

-- of the order
pub of_order : {size : Size} (coming order_coming : Option (List ℕ)) (s : Scripts) (e : Fault) → ReadAs size coming s → (e ≡ Memory)
    ⊎ ((e ≡ Read) ⊎ RefusesSteps size order_coming s e) → StopsBefore size coming order_coming e
of_order coming order_coming s e read (inl memory) = inl memory
of_order coming order_coming s e read (inr (inl failed)) = inr (inl failed)
of_order coming order_coming s e read (inr (inr refuses)) = inr (inr (inr (inl (record { scripts = s; read = read; refuses = refuses }))))

-- the steps of an order that is read, as they are shown
ordered_as : {size : Size} (coming order_coming : Option (List ℕ)) (s : Scripts) (order shown : List Proc) → shown ≡ order → ReadAs size coming s → OrdersAs size order_coming s (numbers_of order) →
    OrderedAs size coming order_coming s (numbers_of shown)
ordered_as {size} coming order_coming s order shown same read orders =
    record { read = read; order = subst (λ ps. OrdersAs size order_coming s (numbers_of ps)) (sym same) orders }

-- and of the steps
pub of_steps : {size : Size} (coming order_coming : Option (List ℕ)) (s : Scripts) (order shown : List Proc) (e : Fault) → shown ≡ order →
    ReadAs size coming s → OrdersAs size order_coming s (numbers_of order) → (e ≡ Memory)
    ⊎ StopsAfter s (numbers_of shown) e → StopsBefore size coming order_coming e
of_steps coming order_coming s order shown e same read orders (inl memory) = inl memory
of_steps coming order_coming s order shown e same read orders (inr stops) =
    inr (inr (inr (inr (record { scripts = s; steps = numbers_of shown; ordered = ordered_as coming order_coming s order shown same read orders; stops = stops }))))

-- which are no failed read
pub no_read_of_steps : (s : Scripts) (steps : List ℕ) (e : Fault) → (e ≡ Memory) ⊎ StopsAfter s steps e → e ≢ Read
no_read_of_steps s steps e (inl memory) is = let bad : Memory ≡ Read = sym memory ∙ is in cc
no_read_of_steps s steps e (inr stops) is = let bad : NotReady (suc stops.n) ≡ Read = sym stops.is ∙ is in cc

pub followed_ok : {size : Size} (json : Bool) (coming order_coming old new : Option (List ℕ)) (s : Scripts) (order shown : List Proc) (text out : List ℕ) (r : Result (Unit {0}) Fault) →
    shown ≡ order → ReadAs size coming s →
    OrdersAs size order_coming s (numbers_of order) → LeadsTo json s (numbers_of shown) text → out ≡ text → OnOk r (Appends old new out) → OnOk r (WritesFollowed size json coming order_coming old new)
followed_ok json coming order_coming old new s order shown text out (Ok x) same read orders (enabled, is) at wrote =
    record {
      scripts = s;
      steps = numbers_of shown;
      ordered = ordered_as coming order_coming s order shown same read orders;
      enabled = enabled;
      wrote = subst (λ t. Appends old new t) (at ∙ is) wrote;
    }
followed_ok json coming order_coming old new s order shown text out (Err e) same read orders leads at wrote = tt

pub followed_err : {size : Size} (json : Bool) (coming order_coming old new : Option (List ℕ)) (s : Scripts) (order shown : List Proc)
    (text out : List ℕ) (kept failed : Type 0) (r : Result (Unit {0}) Fault) → shown ≡ order →
    ReadAs size coming s → OrdersAs size order_coming s (numbers_of order) → LeadsTo json s (numbers_of shown) text → out ≡ text → IfErr r (WritesFront old new out) → IfErr r (λ _. failed)
    → IfErr r (λ e. (StopsBefore size coming order_coming e × kept) ⊎ (BreaksOffFollowed size json coming order_coming old new e × failed))
followed_err json coming order_coming old new s order shown text out kept failed (Ok x) same read orders leads at front count = tt
followed_err json coming order_coming old new s order shown text out kept failed (Err e) same read orders (enabled, is) at front count =
    inr (
      record {
        scripts = s;
        steps = numbers_of shown;
        ordered = ordered_as coming order_coming s order shown same read orders;
        enabled = enabled;
        wrote = subst (λ t. WritesFront old new t e) (at ∙ is) front;
      },
      count,
    )

-- an order has no fault but a bad line
abbrev pub IsBad : Result (List ℕ) Fault → Type 0
IsBad r = IfErr r (λ e. (n : ℕ) × (e ≡ BadOrder n))

with_bad : (line : ℕ) (step : Option ℕ) (later : Result (List ℕ) Fault) → IsBad later → IsBad (with_step line step later)
with_bad line None later bad = (line, refl)
with_bad line (Some step) (Ok steps) bad = tt
with_bad line (Some step) (Err fault) bad = bad

pub all_bad : (s : Scripts) (lines : List Statement) → IsBad (order_of s lines)
all_bad s [] = tt
all_bad s (line ∷ later) = with_bad line.0 (step_of s line.1) (order_of s later) (all_bad s later)

either_bad : (b : Bool) (n : ℕ) (r : Result (List ℕ) Fault) → IsBad r → IsBad (if b then Err (BadOrder n) else r)
either_bad true n r bad = (n, refl)
either_bad false n r bad = bad

within_bad : (limit : ℕ) (s : Scripts) (bytes : List ℕ) → IsBad (order_within limit s bytes)
within_bad limit s bytes = either_bad (nat_lt limit (length bytes)) (count_by (λ b. b == 10) (take limit bytes) + 1) (order_of s (statements bytes)) (all_bad s (statements bytes))

read_bad : (size : Size) (s : Scripts) (bytes : List ℕ) → IsBad (order_read size s bytes)
read_bad size s bytes = within_bad (order_bytes size) s bytes

pub no_read_of_order : (size : Size) (s : Scripts) (bytes : List ℕ) (r : Result (Vec Proc Global) Fault) → IfErr r (λ e. (e ≡ Memory) ⊎ (order_read size s bytes ≡ Err e)) → r ≡ Err Read → ⊥
no_read_of_order size s bytes (Ok order) told is = let bad : Ok order ≡ Err Read = is in cc
no_read_of_order size s bytes (Err e) (inl memory) is = let bad : Memory ≡ Read = cc in cc
no_read_of_order size s bytes (Err e) (inr reads) is =
    let found : (n : ℕ) × (e ≡ BadOrder n) = subst IsBad reads (read_bad size s bytes) in
    let its = found.1 in
    let bad : BadOrder found.0 ≡ Read = cc in
    cc

-- a run from the start that stops in an order stops after the steps before
pub stopped_first : (s : Scripts) (new : Course) (steps : List ℕ) (e : Fault) → NotEnabledAt (record { scripts = s; history = [] }) steps new e → StopsAfter s steps e
stopped_first s new steps e stops = record {
  n = stops.n;
  is = stops.is;
  enabled = stops.before.enabled;
  p = stops.p;
  next = stops.next;
  not_enabled = subst (λ c. is_enabled (plan_in c) (state_of c) stops.p ≡ false) stops.before.taken stops.not_enabled;
}

pub stopped : (s : Scripts) (old new : Course) (steps : List ℕ) (e : Fault) → old ≡ record { scripts = s; history = [] } → NotEnabledAt old steps new e → StopsAfter s steps e
stopped s old new steps e is stops = stopped_first s new steps e (subst (λ o. NotEnabledAt o steps new e) is stops)

-- what became of every call after these steps, in a run from the start
module _ (s : Scripts) (new : Course) (steps : List ℕ) (ends : Ends) where
  reached_first : Follows (record { scripts = s; history = [] }) steps new → ends ≡ outcome (plan_in new) (state_of new) →
      IsInterleaving (plan_of s) start steps × (ends ≡ outcome (plan_of s) (run (plan_of s) steps))
  reached_first follows is = (follows.enabled, is ∙ ap (λ c. outcome (plan_in c) (state_of c)) follows.taken)

  pub reached : (old : Course) → old ≡ record { scripts = s; history = [] } → Follows old steps new → ends ≡ outcome (plan_in new) (state_of new) →
      IsInterleaving (plan_of s) start steps × (ends ≡ outcome (plan_of s) (run (plan_of s) steps))
  reached old same follows is = reached_first (subst (λ o. Follows o steps new) same follows) is
