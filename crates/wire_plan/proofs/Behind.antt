-- The call that an event is part of.
use Rattle.std.proofs.Common.{ltb, ◌≡◌, ◌∙◌, ap, sym, refl, subst, ℕ, zero, suc, ◌+◌, ◌-◌, ◌≤◌, List, [], ◌∷◌, ◌++◌, length, map, take, Bool, true, false, cond, Option, Some, None, arith, ◌⊎◌}
use Rattle.std.proofs.Common.{inl, inr, length-append}
use Rattle.std.specs.Prelude.{slice_get}
use Rattle.std.proofs.lemmas.Bool.{cases_lt, cond_below, cond_above}
use Rattle.std.proofs.lemmas.Option.{slice_get_within, same_Some}
use Rattle.wire_runs.specs.Plan.{Call, CallFixed, Kind, Arrive, Leave, Publish, Unpublish, kinds_of, kind_at, set_of}
use Rattle.wire_runs.specs.Plan as plan
use Rattle.wire_types.specs.declared.Call.{Call as Written}
use Rattle.wire_types.specs.declared.Call.TheVariants as written
use Rattle.wire_types.specs.declared.Reply.{Reply}
use Rattle.wire_scripts.specs.Scripts.{Scripts, calls_in, call_at, set_at, text_at, name_in}
use Rattle.wire_scripts.specs.Planned.{planned_call, plan_of}
use Rattle.wire_scripts.specs.Said.{is_reserved}
use Rattle.wire_runs.specs.Ends.{call_number, call_size, calls_of}
use Rattle.wire_runs.proofs.Lists.{slice_get-append_left, slice_get-append_right}
use Rattle.wire_scripts.proofs.PlannedCalls.{events_are, calls_are}
use Rattle.wire_plan.proofs.Planning.{events_first}
use Rattle.wire_plan.specs.Meetings.{is_of_fence}

-- how many events the first c calls are
abbrev pub start_of : Scripts → List Written → ℕ → ℕ
start_of s calls c = length (kinds_of (map (planned_call s) (take c calls)))

-- the events of one call
abbrev pub events_in : Scripts → Written → List Kind
events_in s call = kinds_of (planned_call s call ∷ [])

-- event number `at` of these calls is number i of its call, which is number c
pub record IsBehind (s : Scripts) (calls : List Written) (at : ℕ) (e : Kind) : Type 0 where
  pub c : ℕ
  pub i : ℕ
  pub call : Written
  pub is : slice_get calls c ≡ Some call
  pub here : slice_get (events_in s call) i ≡ Some e
  pub place : at ≡ start_of s calls c + i
  pub number : call_number (map (planned_call s) calls) at ≡ c

split : (s : Scripts) (call : Written) (calls : List Written) → kinds_of (map (planned_call s) (call ∷ calls)) ≡ events_in s call ++ kinds_of (map (planned_call s) calls)
split s call calls = events_first (planned_call s call) (map (planned_call s) calls)

pub behind : (s : Scripts) (calls : List Written) (at : ℕ) (e : Kind) → slice_get (kinds_of (map (planned_call s) calls)) at ≡ Some e → IsBehind s calls at e
behind s [] at e is = let lt = slice_get_within [] at e is in absurd (omega (arith, lt))
behind s (call ∷ calls) at e is =
    let size = call_size (planned_call s call) in
    let rest = map (planned_call s) calls in
    let found : slice_get (events_in s call ++ kinds_of rest) at ≡ Some e = ap (λ es. slice_get es at) (sym (split s call calls)) ∙ is in
    elim (cases_lt at size) [
      | inl low ↦ record {
        c = 0;
        i = at;
        call = call;
        is = refl;
        here = sym (slice_get-append_left (events_in s call) (kinds_of rest) at low) ∙ found;
        place = omega arith;
        number = sym (cond_below at size 0 (suc (call_number rest (at - size))) low);
      }
      | inr high ↦
          let same : at ≡ size + (at - size) = omega (arith, high) in
          let later : slice_get (kinds_of rest) (at - size) ≡ Some e =
          sym (slice_get-append_right (events_in s call) (kinds_of rest) (at - size)) ∙ ap (slice_get (events_in s call ++ kinds_of rest)) (sym same) ∙ found in
          further s call calls at e size refl high (behind s calls (at - size) e later)
    ]
  where
    further : (s : Scripts) (call : Written) (calls : List Written) (at : ℕ) (e : Kind) (size : ℕ) → size ≡ call_size (planned_call s call) → size ≤ at → IsBehind s calls (at - size) e →
        IsBehind s (call ∷ calls) at e
    further s call calls at e size is high b =
        let longer : start_of s (call ∷ calls) (suc b.c) ≡ call_size (planned_call s call) + start_of s calls b.c =
        ap length (split s call (take b.c calls)) ∙ length-append (events_in s call) (kinds_of (map (planned_call s) (take b.c calls))) in
        let there = b.place in
        record {
          c = suc b.c;
          i = b.i;
          call = b.call;
          is = b.is;
          here = b.here;
          place = omega (arith, longer, there, high, is);
          number = subst (λ k. cond (ltb at k) 0 (suc (call_number (map (planned_call s) calls) (at - k))) ≡ suc b.c) is
              (sym (cond_above at size 0 (suc (call_number (map (planned_call s) calls) (at - size))) (suc (call_number (map (planned_call s) calls) (at - size))) high refl) ∙ ap suc b.number);
        }

-- the first calls and one more
pub start_more : (s : Scripts) (calls : List Written) (c : ℕ) (call : Written) → slice_get calls c ≡ Some call → start_of s calls (suc c) ≡ start_of s calls c + call_size (planned_call s call)
start_more s [] c call is = let lt = slice_get_within [] c call is in absurd (omega (arith, lt))
start_more s (x ∷ calls) zero call is =
    let same = same_Some _ _ is in
    let one : start_of s (x ∷ calls) 1 ≡ call_size (planned_call s x) = refl in
    let here = ap (λ y. call_size (planned_call s y)) same in
    omega (arith, one, here)
start_more s (x ∷ calls) (suc c) call is =
    let ih = start_more s calls c call is in
    let long : start_of s (x ∷ calls) (suc (suc c)) ≡ call_size (planned_call s x) + start_of s calls (suc c) =
    ap length (split s x (take (suc c) calls)) ∙ length-append (events_in s x) (kinds_of (map (planned_call s) (take (suc c) calls))) in
    let short : start_of s (x ∷ calls) (suc c) ≡ call_size (planned_call s x) + start_of s calls c =
    ap length (split s x (take c calls)) ∙ length-append (events_in s x) (kinds_of (map (planned_call s) (take c calls))) in
    omega (arith, ih, long, short)

-- the events of a call stand among those of all
pub stands : (s : Scripts) (calls : List Written) (c i : ℕ) (call : Written) (e : Kind) → slice_get calls c ≡ Some call → slice_get (events_in s call) i ≡ Some e →
    slice_get (kinds_of (map (planned_call s) calls)) (start_of s calls c + i) ≡ Some e
stands s [] c i call e is here = let lt = slice_get_within [] c call is in absurd (omega (arith, lt))
stands s (x ∷ calls) zero i call e is here =
    let same = same_Some _ _ is in
    let found : slice_get (events_in s x) i ≡ Some e = ap (λ y. slice_get (events_in s y) i) same ∙ here in
    let lt = slice_get_within (events_in s x) i e found in
    let none : 0 + i ≡ i = omega arith in
    ap (λ es. slice_get es (0 + i)) (split s x calls) ∙ ap (slice_get (events_in s x ++ kinds_of (map (planned_call s) calls))) none
    ∙ slice_get-append_left (events_in s x) (kinds_of (map (planned_call s) calls)) i lt ∙ found
stands s (x ∷ calls) (suc c) i call e is here =
    let short : start_of s (x ∷ calls) (suc c) ≡ call_size (planned_call s x) + start_of s calls c =
    ap length (split s x (take c calls)) ∙ length-append (events_in s x) (kinds_of (map (planned_call s) (take c calls))) in
    let place : start_of s (x ∷ calls) (suc c) + i ≡ length (events_in s x) + (start_of s calls c + i) = omega (arith, short) in
    ap (λ es. slice_get es (start_of s (x ∷ calls) (suc c) + i)) (split s x calls)
    ∙ ap (slice_get (events_in s x ++ kinds_of (map (planned_call s) calls))) place
    ∙ slice_get-append_right (events_in s x) (kinds_of (map (planned_call s) calls)) (start_of s calls c + i)
    ∙ stands s calls c i call e is here

-- the name that an event changes, where that is one name
abbrev pub changed_name : Kind → Option ℕ
changed_name (Publish name) = Some name
changed_name (Unpublish name) = Some name
changed_name _ = None

-- what an event of a call is: one of the halves of a fence over its set, or no part of a fence, and then what it changes is a name of the call
pub data IsPart (s : Scripts) (call : Written) (i : ℕ) (e : Kind) : Type 0 where
  First : (set : ℕ) (collect : Bool) → call ≡ written.Fence set collect → i ≡ 0 → e ≡ Arrive (set_of (set_at s.sets set)) collect → IsPart s call i e
  Second : (set : ℕ) (collect : Bool) → call ≡ written.Fence set collect → i ≡ 1 → e ≡ Leave (set_of (set_at s.sets set)) → IsPart s call i e
  Other : is_of_fence (Some e) ≡ false → (changed_name e ≡ None) ⊎ (changed_name e ≡ name_in call) → IsPart s call i e

-- the one event of a call
only : {A : Type 0} (x y : A) (i : ℕ) → slice_get (x ∷ []) i ≡ Some y → x ≡ y
only x y zero is = same_Some _ _ is
only x y (suc i) is = let lt = slice_get_within [] i y is in absurd (omega (arith, lt))

reserved : (b : Bool) (r : Reply) (call : Call) (e : Kind) (i : ℕ) → slice_get (kinds_of (cond b (CallFixed r) call ∷ [])) i ≡ Some e → (plan.Fixed r ≡ e)
    ⊎ (slice_get (kinds_of (call ∷ [])) i ≡ Some e)
reserved true r call e i is = inl (only _ _ i is)
reserved false r call e i is = inr is

other : (s : Scripts) (call : Written) (i : ℕ) (x e : Kind) → is_of_fence (Some x) ≡ false → (changed_name x ≡ None) ⊎ (changed_name x ≡ name_in call) → x ≡ e → IsPart s call i e
other s call i x e apart name is = subst (IsPart s call i) is (Other apart name)

pub part : (s : Scripts) (call : Written) (i : ℕ) (e : Kind) → slice_get (events_in s call) i ≡ Some e → IsPart s call i e
part s (written.Put scope key value) i e is = elim (reserved (is_reserved (text_at s.keys key)) _ _ e i is) [
  | inl fixed ↦ other s _ i _ e refl (inl refl) fixed
  | inr plain ↦ other s _ i _ e refl (inl refl) (only _ _ i plain)
]
part s written.Commit i e is = other s _ i _ e refl (inl refl) (only _ _ i is)
part s (written.Fence set collect) zero e is = First set collect refl refl (sym (same_Some _ _ is))
part s (written.Fence set collect) (suc zero) e is = Second set collect refl refl (sym (same_Some _ _ is))
part s (written.Fence set collect) (suc (suc i)) e is = let lt = slice_get_within [] i e is in absurd (omega (arith, lt))
part s (written.Get owner key) i e is = elim (reserved (is_reserved (text_at s.keys key)) _ _ e i is) [
  | inl fixed ↦ other s _ i _ e refl (inl refl) fixed
  | inr plain ↦ other s _ i _ e refl (inl refl) (only _ _ i plain)
]
part s (written.GetNow owner key) i e is = elim (reserved (is_reserved (text_at s.keys key)) _ _ e i is) [
  | inl fixed ↦ other s _ i _ e refl (inl refl) fixed
  | inr plain ↦ other s _ i _ e refl (inl refl) (only _ _ i plain)
]
part s (written.Publish name value) i e is = elim (reserved (is_reserved (text_at s.names name)) _ _ e i is) [
  | inl fixed ↦ other s _ i _ e refl (inl refl) fixed
  | inr plain ↦ other s _ i _ e refl (inr refl) (only _ _ i plain)
]
part s (written.Lookup name) i e is = elim (reserved (is_reserved (text_at s.names name)) _ _ e i is) [
  | inl fixed ↦ other s _ i _ e refl (inl refl) fixed
  | inr plain ↦ other s _ i _ e refl (inl refl) (only _ _ i plain)
]
part s (written.LookupWait name) i e is = elim (reserved (is_reserved (text_at s.names name)) _ _ e i is) [
  | inl fixed ↦ other s _ i _ e refl (inl refl) fixed
  | inr plain ↦ other s _ i _ e refl (inl refl) (only _ _ i plain)
]
part s (written.Unpublish name) i e is = elim (reserved (is_reserved (text_at s.names name)) _ _ e i is) [
  | inl fixed ↦ other s _ i _ e refl (inl refl) fixed
  | inr plain ↦ other s _ i _ e refl (inr refl) (only _ _ i plain)
]
part s written.UnpublishAll i e is = other s _ i _ e refl (inl refl) (only _ _ i is)

-- the same of a process of the plan
abbrev pub calls_by : Scripts → ℕ → List Written
calls_by s p = calls_in (slice_get s.processes p)

pub event_behind : (s : Scripts) (p at : ℕ) (e : Kind) → kind_at (plan_of s) p at ≡ Some e → IsBehind s (calls_by s p) at e
unfolding kind_at
event_behind s p at e is = behind s (calls_by s p) at e (ap (λ es. slice_get es at) (sym (events_are s p)) ∙ is)

pub event_stands : (s : Scripts) (p c i : ℕ) (call : Written) (e : Kind) → call_at s.processes p c ≡ Some call → slice_get (events_in s call) i ≡ Some e →
    kind_at (plan_of s) p (start_of s (calls_by s p) c + i) ≡ Some e
unfolding kind_at
event_stands s p c i call e is here = ap (λ es. slice_get es (start_of s (calls_by s p) c + i)) (events_are s p) ∙ stands s (calls_by s p) c i call e is here

pub number_behind : (s : Scripts) (p at : ℕ) (e : Kind) (b : IsBehind s (calls_by s p) at e) → call_number (calls_of (plan_of s) p) at ≡ b.c
number_behind s p at e b = ap (λ calls. call_number calls at) (calls_are s p) ∙ b.number
