-- Texts that are appended to, part by part, and what is told of a step that can't be taken.
use Rattle.std.proofs.Common.{◌≡◌, ◌∙◌, ◌<◌, ap, sym, subst, ℕ, suc, ◌-◌, List, length, [], ◌++◌, map, take, append_assoc, Some, Result, Ok, Err, OnOk, IfErr, ◌⊎◌, inl, inr, false, if◌then◌else◌, arith}
use Rattle.std.specs.Prelude.{slice_get, option_map, is_ok}
use Rattle.std.proofs.lemmas.Option.{slice_get-map, slice_get_within, same_Some}
use Rattle.std.proofs.lemmas.List.{length-map}
use Rattle.wire_types.specs.declared.Proc.{Proc}
use Rattle.wire_types.specs.declared.Fault.{Fault}
use Rattle.wire_types.specs.declared.Fault.TheVariants.{Memory, NotReady}
use Rattle.wire_scripts.specs.Scripts.{Scripts, numbers_of}
use Rattle.wire_scripts.specs.Planned.{plan_of}
use Rattle.wire_runs.specs.Step.{is_enabled, run, IsInterleaving}
use Rattle.wire_core.specs.Course.{Course, plan_in, state_of}
use Rattle.wire_core.specs.Following.{NotEnabledAt}
use Rattle.wire_reader.specs.declared.Size.{Size}
use Rattle.wire_reader.specs.Reads.{Reads}
use Rattle.wire_reader.specs.Order.{order_read}
use Rattle.wire_explain.specs.Quote.{shown_byte}
use Rattle.wire_explain.specs.Stops.{stop_explanation}
use Rattle.wire_explain.specs.Told.{TellsStop, Stops, TellsNothing}

-- three parts
pub joined : (zero one two three a b c : List ℕ) → one ≡ zero ++ a → two ≡ one ++ b → three ≡ two ++ c → three ≡ zero ++ (a ++ (b ++ c))
joined zero one two three a b c e f g =
    g ∙ ap (λ t. t ++ c) (f ∙ ap (λ t. t ++ b) e) ∙ append_assoc (zero ++ a) b c ∙ append_assoc zero a (b ++ c)

-- where the last part is appended
pub on_ok : {R E : Type 0} (r : Result R E) (old new a : List ℕ) → new ≡ (if is_ok r then old ++ a else old) → OnOk r (new ≡ old ++ a)
on_ok (Ok x) old new a is = is
on_ok (Err x) old new a is = tt

pub then_joined : {R E : Type 0} (r : Result R E) (zero one two three a b c : List ℕ) → one ≡ zero ++ a → two ≡ one ++ b → three ≡ (if is_ok r then two ++ c else two) →
    OnOk r (three ≡ zero ++ (a ++ (b ++ c)))
then_joined (Ok x) zero one two three a b c e f g = joined zero one two three a b c e f g
then_joined (Err x) zero one two three a b c e f g = tt

pub two_joined : {R E : Type 0} (r : Result R E) (zero one two a b : List ℕ) → one ≡ zero ++ a → OnOk r (two ≡ one ++ b) → OnOk r (two ≡ zero ++ (a ++ b))
two_joined (Ok x) zero one two a b e f = f ∙ ap (λ t. t ++ b) e ∙ append_assoc zero a b
two_joined (Err x) zero one two a b e f = tt

-- the step at which following an order stops is one of its steps
pub stops_within : (old new : Course) (order : List Proc) (number : ℕ) → NotEnabledAt old (numbers_of order) new (NotReady number) → number - 1 < length order
stops_within old new order number stops =
    let same : number ≡ suc stops.n = cc (stops.is) in
    let within : stops.n < length (numbers_of order) = slice_get_within (numbers_of order) stops.n stops.p stops.next in
    omega (arith, same, within, length-map order (λ (p : Proc). p.number))

-- what is told of a step at which following an order stops
pub told_stop : (s : Scripts) (old new : Course) (order : List Proc) (order_bytes text : List ℕ) (number : ℕ) (proc : Proc) → old ≡ record { scripts = s; history = [] } →
    NotEnabledAt old (numbers_of order) new (NotReady number) → slice_get order (number - 1) ≡ Some proc →
    text ≡ map shown_byte (stop_explanation order_bytes new.scripts (state_of new) (number - 1) proc.number) → TellsStop order_bytes s (numbers_of order) text
told_stop s old new order order_bytes text number proc began stops there told =
    let n = stops.n in
    let steps = take n (numbers_of order) in
    let same : number ≡ suc n = cc (stops.is) in
    let step_is : number - 1 ≡ n = omega (arith, same) in
    let new_is : new ≡ record { scripts = s; history = steps } =
    stops.before.taken ∙ ap (λ (course : Course). record { scripts = course.scripts; history = course.history ++ steps }) began
    in
    let named : slice_get (numbers_of order) n ≡ Some proc.number =
    slice_get-map (λ (p : Proc). p.number) order n ∙ ap (option_map (λ (p : Proc). p.number)) (sym (ap (slice_get order) step_is) ∙ there)
    in
    let proc_is : proc.number ≡ stops.p = same_Some proc.number stops.p (sym named ∙ stops.next) in
    Stops n stops.p (subst (λ (course : Course). IsInterleaving (plan_in course) (state_of course) steps) began stops.before.enabled) stops.next
    (subst (λ (course : Course). is_enabled (plan_in course) (state_of course) stops.p ≡ false) new_is stops.not_enabled)
    (told ∙ ap (λ (course : Course). map shown_byte (stop_explanation order_bytes course.scripts (state_of course) (number - 1) proc.number)) new_is
    ∙ ap (λ k. map shown_byte (stop_explanation order_bytes s (run (plan_of s) steps) k proc.number)) step_is
    ∙ ap (λ p. map shown_byte (stop_explanation order_bytes s (run (plan_of s) steps) n p)) proc_is)

-- why nothing can be told: the plan is refused, or the order, or memory ran out later
pub of_plan : (size : Size) (bytes order_bytes : List ℕ) (e : Fault) → (e ≡ Memory) ⊎ Reads size bytes (Err e) → TellsNothing size bytes order_bytes e
of_plan size bytes order_bytes e (inl memory) = inl memory
of_plan size bytes order_bytes e (inr refused) = inr (inl refused)

pub of_order : (size : Size) (bytes order_bytes : List ℕ) (s : Scripts) (e : Fault) → Reads size bytes (Ok s) → (e ≡ Memory) ⊎ (order_read size s order_bytes ≡ Err e) → TellsNothing size bytes order_bytes e
of_order size bytes order_bytes s e reads (inl memory) = inl memory
of_order size bytes order_bytes s e reads (inr refused) = inr (inr (record { scripts = s; reads = reads; refused = refused }))

pub of_memory : {A : Type 0} (size : Size) (bytes order_bytes : List ℕ) (r : Result A Fault) → IfErr r (λ e. e ≡ Memory) → IfErr r (TellsNothing size bytes order_bytes)
of_memory size bytes order_bytes (Ok x) memory = tt
of_memory size bytes order_bytes (Err e) memory = inl memory
