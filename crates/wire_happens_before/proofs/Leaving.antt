-- The end of a fence stands behind the arrival at it.
use Rattle.std.proofs.Common.{◌≡◌, ◌∙◌, ap, sym, subst, refl, ℕ, zero, suc, List, [], ◌∷◌, Bool, true, false, Option, Some, None, arith}
use Rattle.std.specs.Prelude.{slice_get}
use Rattle.std.proofs.lemmas.Bool.{true≢false}
use Rattle.std.proofs.lemmas.Option.{slice_get_within, same_Some}
use Rattle.wire_runs.specs.Plan.{Plan, Event, Process, Call, CallPut, CallCommit, CallFence, CallGet, CallGetNow, CallPublish, CallLookup, CallLookupWait, CallUnpublish, CallUnpublishAll, CallFixed}
use Rattle.wire_runs.specs.Plan.{Kind, Put, Commit, Arrive, Leave, Get, GetNow, Publish, Lookup, LookupWait, Unpublish, UnpublishAll, Fixed, set_of, kinds_of, process_kinds, kinds, kind_at}
use Rattle.wire_runs.specs.Fences.{arrivals, is_member}
use Rattle.wire_runs.specs.Order.{IsArrival}
use Rattle.wire_plan.specs.Index.{previous_at}

abbrev is_leave : Kind → Bool
is_leave (Leave members) = true
is_leave _ = false

abbrev members_in : Kind → List ℕ
members_in (Leave members) = members
members_in _ = []

-- no end of a fence stands first, and before each stands its arrival
record AreLed (es : List Kind) : Type 0 where
  first : (members : List ℕ) → slice_get es 0 ≡ Some (Leave members) → ⊥
  led : (i : ℕ) (members : List ℕ) → slice_get es (suc i) ≡ Some (Leave members) → (collect : Bool) × (slice_get es i ≡ Some (Arrive members collect))

led_one : (e : Kind) (es : List Kind) → is_leave e ≡ false → AreLed es → AreLed (e ∷ es)
led_one e es other h = record {
  first = λ members is. true≢false (sym (ap is_leave (same_Some _ _ is)) ∙ other);
  led = λ i members is. behind i members is;
}
  where
    behind : (i : ℕ) (members : List ℕ) → slice_get (e ∷ es) (suc i) ≡ Some (Leave members) → (collect : Bool) × (slice_get (e ∷ es) i ≡ Some (Arrive members collect))
    behind zero members is = absurd (h.first members is)
    behind (suc i) members is = h.led i members is

led_fence : (others : List ℕ) (says : Bool) (es : List Kind) → AreLed es → AreLed (Arrive others says ∷ (Leave others ∷ es))
led_fence others says es h = record {
  first = λ members is. true≢false (sym (ap is_leave (same_Some _ _ is)));
  led = λ i members is. behind i members is;
}
  where
    behind : (i : ℕ) (members : List ℕ) → slice_get (Arrive others says ∷ (Leave others ∷ es)) (suc i) ≡ Some (Leave members) → (collect : Bool)
        × (slice_get (Arrive others says ∷ (Leave others ∷ es)) i ≡ Some (Arrive members collect))
    behind zero members is = (says, ap (λ ms. Some (Arrive ms says)) (ap members_in (same_Some _ _ is)))
    behind (suc zero) members is = absurd (h.first members is)
    behind (suc (suc i)) members is = h.led i members is

led_all : (calls : List Call) → AreLed (kinds_of calls)
led_all [] = record {
  first = λ members is. (let lt = slice_get_within {A = Kind} [] 0 _ is in omega (arith, lt));
  led = λ i members is. absurd (let lt = slice_get_within {A = Kind} [] (suc i) _ is in omega (arith, lt));
}
led_all (CallFence members collect ∷ calls) = led_fence (set_of members) collect _ (led_all calls)
led_all (CallPut key scope ∷ calls) = led_one (Put key scope) _ refl (led_all calls)
led_all (CallCommit ∷ calls) = led_one Commit _ refl (led_all calls)
led_all (CallGet owner key ∷ calls) = led_one (Get owner key) _ refl (led_all calls)
led_all (CallGetNow owner key ∷ calls) = led_one (GetNow owner key) _ refl (led_all calls)
led_all (CallPublish name ∷ calls) = led_one (Publish name) _ refl (led_all calls)
led_all (CallLookup name ∷ calls) = led_one (Lookup name) _ refl (led_all calls)
led_all (CallLookupWait name ∷ calls) = led_one (LookupWait name) _ refl (led_all calls)
led_all (CallUnpublish name ∷ calls) = led_one (Unpublish name) _ refl (led_all calls)
led_all (CallUnpublishAll ∷ calls) = led_one UnpublishAll _ refl (led_all calls)
led_all (CallFixed reply ∷ calls) = led_one (Fixed reply) _ refl (led_all calls)

led_in : (o : Option Process) → AreLed (process_kinds o)
led_in None = led_all []
led_in (Some process) = led_all process.calls

arrive_before : (plan : Plan) (p i : ℕ) (members : List ℕ) → kind_at plan p (suc i) ≡ Some (Leave members) → (collect : Bool) × (kind_at plan p i ≡ Some (Arrive members collect))
unfolding kind_at kinds
arrive_before plan p i members is = (led_in (slice_get plan.processes p)).led i members is

pub leave_after : (plan : Plan) (p n : ℕ) (members : List ℕ) (z : Event) → kind_at plan p n ≡ Some (Leave members) → is_member members p ≡ true → previous_at p n ≡ Some z →
    IsArrival plan members (arrivals plan p members n) z
leave_after plan p zero members z is member e = absurd (cc)
leave_after plan p (suc i) members z is member e =
    let w = arrive_before plan p i members is in
    subst (λ x. IsArrival plan members (arrivals plan p members (suc i)) x) (same_Some _ _ e) (record { collect = w.0; is = w.1; member = member; nth = refl })
