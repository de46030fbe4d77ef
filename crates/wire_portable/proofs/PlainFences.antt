-- Fences whose live calls no library is blamed for are plain.
use Rattle.std.proofs.Common.{◌≡◌, ℕ, zero, suc, ◌+◌, ◌<◌, ◌≤◌, List, [], ◌∷◌, ◌++◌, ◌↔◌, IsTrue, ◌⊎◌, inl, inr, Bool, true, false, cond, Option, Some, None, refl, sym, ap, ◌∙◌, subst, arith, length}
use Rattle.std.specs.Prelude.{slice_get, slice_index_or}
use Rattle.std.proofs.lemmas.Bool.{cases_Bool, cases_eq, cases_lt, true≢false}
use Rattle.std.proofs.lemmas.Slice.Eq.{bytes_eq-Decides}
use Rattle.std.specs.Str.{bytes_eq}
use Rattle.std.proofs.lemmas.Option.{none-some, same_Some, slice_get-get_or}
use Rattle.wire_types.specs.declared.Call.TheVariants.{Fence}
use Rattle.wire_runs.specs.Plan.{Plan, Event, Kind, Arrive, kind, event_of, event_count, set_of}
use Rattle.wire_runs.specs.Ends.{call_of}
use Rattle.wire_runs.specs.Fences.{arrivals, is_member}
use Rattle.wire_runs.specs.Order.{IsArrival, Live}
use Rattle.wire_runs.proofs.Arrivals.{one_arrival}
use Rattle.wire_runs.proofs.Basics.{event_within}
use Rattle.wire_runs.proofs.Lists.{one_longer}
use Rattle.wire_scripts.specs.Scripts.{Scripts, IsSound, set_at, call_at}
use Rattle.wire_scripts.specs.Planned.{plan_of}
use Rattle.wire_plan.specs.Index.{AreArrivals}
use Rattle.wire_plan.specs.Kinds.{kind_of}
use Rattle.wire_plan.specs.declared.kind.Kind.{Kind as CodeKind}
use Rattle.wire_plan.specs.declared.kind.Kind.TheVariants as code
use Rattle.wire_plan.proofs.Behind.{First, Second, Other, part, event_behind, number_behind}
use Rattle.wire_fates.specs.Deliveries.{Arrives}
use Rattle.wire_library_laws.specs.Library.{IsPlainFence}
use Rattle.std.specs.Prelude.{not}
use Rattle.wire_portable.specs.declared.libraries.Libraries.{Libraries}
use Rattle.wire_portable.specs.declared.listed.Unportable.{Unportable}
use Rattle.wire_portable.specs.Adding.{AddsUnportable}
use Rattle.wire_portable.specs.Libraries.{has}
use Rattle.wire_portable.specs.Words.{words_of, sign_by, spelled, unrepeated, is_one_job, takes}
use Rattle.wire_portable.specs.declared.libraries.Library.{Library}
use Rattle.wire_spelling.specs.declared.spelling.Spelt.{Spelt}
use Rattle.wire_portable.specs.declared.fences.SetTable.{SetTable}
use Rattle.wire_portable.specs.declared.fences.FenceCall.{FenceCall}
use Rattle.wire_portable.specs.Fences.{numbered, spelt_first, number_of, spelt_at, AreEventsOfPlan, NoneSpelt, NamesNobodyTwice, IsSpeltAt, IsLowestSpelt, IsPlainCall, IsPlainArrival, KeepsFenceRules}

-- the place of a list in a table, if it is there
find : (sets : List (List ℕ)) (members : List ℕ) → ((n : ℕ) × (slice_get sets n ≡ Some members)) ⊎ ((n : ℕ) → slice_get sets n ≡ Some members → ⊥)
find [] members = inr (λ n e. none-some members e)
find (x ∷ sets) members = elim (cases_Bool (bytes_eq x members)) [
  | inl t ↦ inl (0, ap Some ((bytes_eq-Decides x members).0 t))
  | inr f ↦ elim (find sets members) [
    | inl found ↦ inl (suc found.0, found.1)
    | inr never ↦ inr (past never f)
  ]
]
  where
    past : ((n : ℕ) → slice_get sets n ≡ Some members → ⊥) → bytes_eq x members ≡ false → (n : ℕ) → slice_get (x ∷ sets) n ≡ Some members → ⊥
    past never f zero e = true≢false (sym ((bytes_eq-Decides x members).1 (same_Some _ _ e)) ∙ f)
    past never f (suc n) e = never n e

abbrev members_in : Kind → List ℕ
members_in (Arrive members collect) = members
members_in _ = []

abbrev collect_in : Kind → Bool
collect_in (Arrive members collect) = collect
collect_in _ = true

-- the call of a fence, by an arrival
record IsFenceCall (s : Scripts) (z : Event) (members : List ℕ) (collect : Bool) : Type 0 where
  set : ℕ
  its : set_of (set_at s.sets set) ≡ members
  is : call_at s.processes z.proc (call_of (plan_of s) z).call ≡ Some (Fence set collect)

fence_call : (s : Scripts) (z : Event) (members : List ℕ) (collect : Bool) → kind (plan_of s) z ≡ Some (Arrive members collect) → IsFenceCall s z members collect
fence_call s z members collect is =
    let b = event_behind s z.proc z.at (Arrive members collect) is in
    elim (part s b.call b.i (Arrive members collect) b.here) [
      | First set c call first e ↦ record {
        set = set;
        its = sym (ap members_in e);
        is = ap (call_at s.processes z.proc) (number_behind s z.proc z.at (Arrive members collect) b) ∙ b.is ∙ ap Some (call ∙ ap (Fence set) (sym (ap collect_in e)));
      }
      | Second set c call second e ↦ absurd cc
      | Other apart name ↦ absurd (true≢false apart)
    ]

module _ (s : Scripts) (sound : IsSound s) where
  -- the processes of a set are one after the other, each once
  canonical : (n : ℕ) → set_of (set_at s.sets n) ≡ set_at s.sets n
  canonical n = elim (cases_lt n (length s.sets)) [
    | inl lt ↦ sound.sets.canonical n (set_at s.sets n) (slice_get-get_or s.sets n [] lt)
    | inr ge ↦ past s.sets n ge
  ]
    where
      past : (sets : List (List ℕ)) (n : ℕ) → length sets ≤ n → set_of (set_at sets n) ≡ set_at sets n
      past [] n ge = refl
      past (x ∷ sets) zero ge = absurd (omega (arith, ge))
      past (x ∷ sets) (suc n) ge = past sets n (omega (arith, ge))

  member_of : (z : Event) (members : List ℕ) (collect : Bool) → kind (plan_of s) z ≡ Some (Arrive members collect) → is_member members z.proc ≡ true
  member_of z members collect is =
      let f = fence_call s z members collect is in
      let there = sound.members z.proc _ f.set collect f.is in
      subst (λ ms. is_member ms z.proc ≡ true) (sym (canonical f.set) ∙ f.its) there.1

  pub own_arrival : (z : Event) (members : List ℕ) (collect : Bool) → kind (plan_of s) z ≡ Some (Arrive members collect) →
      IsArrival (plan_of s) members (arrivals (plan_of s) z.proc members (suc z.at)) z
  own_arrival z members collect is = record { collect = collect; is = is; member = member_of z members collect is; nth = refl }

  pub arrives : (z : Event) (members : List ℕ) (collect : Bool) → kind (plan_of s) z ≡ Some (Arrive members collect) → Arrives (plan_of s) z
  arrives z members collect is = record {
    members = members;
    j = arrivals (plan_of s) z.proc members (suc z.at);
    arrival = own_arrival z members collect is;
  }

  -- a set with a member stands in the table
  stands : (n m : ℕ) (members : List ℕ) → set_of (set_at s.sets n) ≡ members → is_member members m ≡ true → slice_get s.sets n ≡ Some members
  stands n m members its in_it = go (slice_get s.sets n) refl
    where
      same : set_at s.sets n ≡ members
      same = sym (canonical n) ∙ its

      at_none : (sets : List (List ℕ)) (n : ℕ) → slice_get sets n ≡ None → set_at sets n ≡ []
      at_none [] n e = refl
      at_none (x ∷ sets) zero e = absurd (none-some x (sym e))
      at_none (x ∷ sets) (suc n) e = at_none sets n e

      at_some : (sets : List (List ℕ)) (n : ℕ) (v : List ℕ) → slice_get sets n ≡ Some v → set_at sets n ≡ v
      at_some [] n v e = absurd (none-some v e)
      at_some (x ∷ sets) zero v e = same_Some _ _ e
      at_some (x ∷ sets) (suc n) v e = at_some sets n v e

      go : (o : Option (List ℕ)) → slice_get s.sets n ≡ o → slice_get s.sets n ≡ Some members
      go (Some v) e = e ∙ ap Some (sym (at_some s.sets n v e) ∙ same)
      go None e = absurd (true≢false (sym (subst (λ ms. is_member ms m ≡ true) (sym same ∙ at_none s.sets n e) in_it)))

  one_set : (m n p : ℕ) (members : List ℕ) → set_of (set_at s.sets m) ≡ members → set_of (set_at s.sets n) ≡ members → is_member members p ≡ true → m ≡ n
  one_set m n p members a b in_it = sound.sets.once m n members (stands m p members a in_it) (stands n p members b in_it)

  module _ (library : Library) (rows : List (List (Option Spelt))) (table : SetTable)
      (plain : (e : Event) → e.at < event_count (plan_of s) e.proc → IsPlainArrival library s rows table e) where
    call_plain : (z : Event) (members : List ℕ) (collect : Bool) → kind (plan_of s) z ≡ Some (Arrive members collect) → Live (plan_of s) z →
        IsPlainCall library s rows table members collect z
    call_plain z members collect is alive = plain z (event_within (plan_of s) z.proc z.at _ is) members collect is alive

    -- the sign of a call is the number of its spelling
    signed : (z : Event) (members : List ℕ) (collect : Bool) → kind (plan_of s) z ≡ Some (Arrive members collect) →
        (p : IsPlainCall library s rows table members collect z) → (words_of library s rows).sign z ≡ Some p.number
    signed z members collect is p =
        let f = fence_call s z members collect is in
        let call = call_of (plan_of s) z in
        let same : set_at s.sets f.set ≡ set_at s.sets p.set = sym (canonical f.set) ∙ f.its ∙ sym p.its ∙ canonical p.set in
        ap (sign_by library s rows call) f.is
        ∙ ap (λ set. cond (takes library s set) (spelled rows call) None) same
        ∙ ap (λ b. cond b (spelled rows call) None) p.taken
        ∙ p.spelt

    -- the calls over one set have one number
    one_number : (y z : Event) (members : List ℕ) (c d : Bool) → kind (plan_of s) y ≡ Some (Arrive members c) → (p : IsPlainCall library s rows table members c y) →
        (q : IsPlainCall library s rows table members d z) → p.number ≡ q.number
    one_number y z members c d is p q =
        same_Some _ _ (sym p.as_first ∙ ap (spelt_first table) (one_set p.set q.set y.proc members p.its q.its (member_of y members c is)) ∙ q.as_first)

    agreeing : (y z : Event) (members : List ℕ) (j : ℕ) (a : IsArrival (plan_of s) members j y) (b : IsArrival (plan_of s) members j z) →
        IsPlainCall library s rows table members a.collect y → IsPlainCall library s rows table members b.collect z → a.collect ≡ b.collect
    agreeing y z members j a b p q =
        let plan = plan_of s in
        let n = one_number y z members a.collect b.collect a.is p q in
        let f = p.lowest j a in
        let g = subst (λ m. IsLowestSpelt s rows (Some m) members j q.first) (sym n) (q.lowest j b) in
        let le = f.lowest q.first g.arrival g.alike in
        let ge = g.lowest p.first f.arrival f.alike in
        let one = one_arrival plan members j p.first q.first f.arrival g.arrival (omega (arith, le, ge)) in
        ap collect_in (same_Some _ _ (sym p.agrees ∙ ap (kind plan) one ∙ q.agrees))

    abbrev sign_of : Option ℕ → ℕ
    sign_of None = 0
    sign_of (Some n) = n

    number_is : (n : ℕ) (o : Option ℕ) → o ≡ Some n → n ≡ sign_of o
    number_is n None e = absurd (none-some n e)
    number_is n (Some m) e = sym (same_Some _ _ e)

    pub plain_fences : (members : List ℕ) (j : ℕ) → IsPlainFence (words_of library s rows) (plan_of s) (Live (plan_of s)) members j
    plain_fences members j = elim (find s.sets members) [
      | inl found ↦ record {
        sign = sign_of (spelt_first table found.0);
        alike = λ z collect alive is.
            let p = call_plain z members collect is alive in
            let same : p.set ≡ found.0 = sound.sets.once p.set found.0 members (stands p.set z.proc members p.its (member_of z members collect is)) found.1 in
            signed z members collect is p ∙ ap Some (number_is p.number (spelt_first table found.0) (ap (spelt_first table) (sym same) ∙ p.as_first));
        agree = λ y z a b live_y live_z. agreeing y z members j a b (call_plain y members a.collect a.is live_y) (call_plain z members b.collect b.is live_z);
      }
      | inr never ↦ record {
        sign = 0;
        alike = λ z collect alive is.
            let p = call_plain z members collect is alive in
            absurd (never p.set (stands p.set z.proc members p.its (member_of z members collect is)));
        agree = λ y z a b live_y live_z. agreeing y z members j a b (call_plain y members a.collect a.is live_y) (call_plain z members b.collect b.is live_z);
      }
    ]

-- the arrivals at a fence are events of the plan
pub arrivals_within : (plan : Plan) (members : List ℕ) (j : ℕ) (places : List Event) → AreArrivals plan members j places → AreEventsOfPlan plan places
arrivals_within plan members j places are k x is = let a = are.only k x is in event_within plan x.proc x.at _ a.is

-- the first of these that spells the set so is of the lowest process
pub lowest_of : (s : Scripts) (rows : List (List (Option Spelt))) (number : Option ℕ) (members : List ℕ) (j : ℕ) (places : List Event) (first : Event) →
    AreArrivals (plan_of s) members j places → IsSpeltAt s rows number places first → IsLowestSpelt s rows number members j first
lowest_of s rows number members j places first are f = record {
  arrival = are.only f.k first f.is;
  alike = f.alike;
  lowest = λ z a alike.
      let at = are.all z a in
      elim (cases_lt f.k at.0) [
        | inl lt ↦ elim (are.rising f.k at.0 first z lt f.is at.1) [
          | inl low ↦ omega (arith, low)
          | inr low ↦ (let same = low.0 in omega (arith, same))
        ]
        | inr ge ↦ elim (cases_eq at.0 f.k) [
          | inl same ↦ (let e = ap (λ (v : Event). v.proc) (same_Some _ _ (sym f.is ∙ ap (slice_get places) (sym same) ∙ at.1)) in omega (arith, e))
          | inr other ↦ absurd (f.others at.0 z (omega (arith, ge, other)) at.1 alike)
        ]
      ];
}

-- so a call that keeps the rules is plain
pub plain_call : (library : Library) (s : Scripts) (rows : List (List (Option Spelt))) (table : SetTable) (call : FenceCall) (places : List Event) (first : Event) →
    kind (plan_of s) (event_of call.arrival) ≡ Some (Arrive (set_of (set_at s.sets call.set)) call.collect) →
    ((members : List ℕ) (j : ℕ) → IsArrival (plan_of s) members j (event_of call.arrival) → AreArrivals (plan_of s) members j places) →
    IsSound s → IsSpeltAt s rows (numbered s rows (event_of call.arrival)) places first → KeepsFenceRules library s rows table first call →
    IsPlainCall library s rows table (set_of (set_at s.sets call.set)) call.collect (event_of call.arrival)
plain_call library s rows table call places first is those sound f keeps =
    let members = set_of (set_at s.sets call.set) in
    let plan = plan_of s in
    let z = event_of call.arrival in
    let g = subst (λ n. IsSpeltAt s rows n places first) keeps.alike f in
    let at = (those members _ (own_arrival s sound z members call.collect is)).only g.k first g.is in
    record {
      set = call.set;
      its = refl;
      number = keeps.number;
      spelt = keeps.spelt;
      as_first = keeps.as_first;
      taken = keeps.taken;
      first = first;
      lowest = λ j a. lowest_of s rows (Some keeps.number) members j places first (those members j a) g;
      agrees = at.is ∙ ap (λ c. Some (Arrive members c)) (keeps.agrees members at.collect at.is);
    }

pub unrepeating : (spelt : Option Spelt) (one : Spelt) → spelt ≡ Some one → one.repeats ≡ false → NamesNobodyTwice spelt
unrepeating spelt one is once = subst NamesNobodyTwice (sym is) (one.number, ap (λ b. cond b None (Some one.number)) once, refl)

-- one more event that doesn't spell the set so
pub none_more : (s : Scripts) (rows : List (List (Option Spelt))) (number : Option ℕ) (places : List Event) (n m : ℕ) (x : Event) → m ≡ n + 1 →
    slice_get places n ≡ Some x → (is : Bool) → (IsTrue is ↔ (numbered s rows x ≡ number)) → is ≡ false → NoneSpelt s rows number places n → NoneSpelt s rows number places m
none_more s rows number places n m x e here is tells not others k y lt at alike = elim (cases_eq k n) [
  | inl same ↦
      (let one : x ≡ y = same_Some _ _ (sym here ∙ ap (slice_get places) (sym same) ∙ at) in
      true≢false (sym (tells.1 (ap (numbered s rows) one ∙ alike)) ∙ not))
  | inr other ↦ others k y (omega (arith, e, lt, other)) at alike
]

pub spelt_here : (s : Scripts) (rows : List (List (Option Spelt))) (number : Option ℕ) (places : List Event) (n : ℕ) (x : Event) →
    slice_get places n ≡ Some x → (is : Bool) → (IsTrue is ↔ (numbered s rows x ≡ number)) → is ≡ true → NoneSpelt s rows number places n → IsSpeltAt s rows number places x
spelt_here s rows number places n x here is tells so others = record { k = n; is = here; alike = tells.0 so; others = others }

-- the first n sets are told
pub record TellsTo (s : Scripts) (n : ℕ) (told : List Bool) : Type 0 where
  pub size : length told ≡ n
  pub each : (set : ℕ) → set < n → slice_index_or told set true ≡ is_one_job s (set_at s.sets set)

pub tells_none : (s : Scripts) → TellsTo s 0 []
tells_none s = record { size = refl; each = λ set lt. absurd (omega (arith, lt)) }

pub tells_more : (s : Scripts) (n m : ℕ) (told : List Bool) (is : Bool) → m ≡ n + 1 → is ≡ is_one_job s (set_at s.sets n) → TellsTo s n told → TellsTo s m (told ++ is ∷ [])
tells_more s n m told is e here t = record {
  size = one_longer told is ∙ (let size = t.size in omega (arith, e, size));
  each = λ set lt. elim (cases_lt set n) [
    | inl low ↦ in_front told is set true (let size = t.size in omega (arith, low, size)) ∙ t.each set low
    | inr high ↦
        (let same : set ≡ n = omega (arith, e, lt, high) in
        ap (λ k. slice_index_or (told ++ is ∷ []) k true) (same ∙ sym t.size) ∙ at_end told is true ∙ here ∙ ap (λ k. is_one_job s (set_at s.sets k)) (sym same))
  ];
}
  where
    in_front : (xs : List Bool) (x : Bool) (k : ℕ) (d : Bool) → k < length xs → slice_index_or (xs ++ x ∷ []) k d ≡ slice_index_or xs k d
    in_front [] x k d lt = absurd (omega (arith, lt))
    in_front (y ∷ xs) x zero d lt = refl
    in_front (y ∷ xs) x (suc k) d lt = in_front xs x k d (omega (arith, lt))

    at_end : (xs : List Bool) (x d : Bool) → slice_index_or (xs ++ x ∷ []) (length xs) d ≡ x
    at_end [] x d = refl
    at_end (y ∷ xs) x d = at_end xs x d

-- of a set that isn't there both say yes
pub tells_all : (s : Scripts) (n : ℕ) (told : List Bool) → length s.sets ≤ n → TellsTo s n told → (set : ℕ) → slice_index_or told set true ≡ is_one_job s (set_at s.sets set)
tells_all s n told le t set = elim (cases_lt set n) [
  | inl low ↦ t.each set low
  | inr high ↦ past told set true (let size = t.size in omega (arith, high, size)) ∙ ap (is_one_job s) (sym (past s.sets set [] (omega (arith, le, high))))
]
  where
    past : {A : Type 0} (xs : List A) (k : ℕ) (d : A) → length xs ≤ k → slice_index_or xs k d ≡ d
    past [] k d le = refl
    past (x ∷ xs) zero d le = absurd (omega (arith, le))
    past (x ∷ xs) (suc k) d le = past xs k d (omega (arith, le))

-- what is blamed step by step keeps the rules where it isn't
pub keeps_rules : (library : Library) (s : Scripts) (rows : List (List (Option Spelt))) (table : SetTable) (first : Event) (call : FenceCall) (spelt : Option Spelt) →
    spelt ≡ spelt_at s rows (event_of call.arrival) →
    ((members : List ℕ) (collect : Bool) → kind (plan_of s) first ≡ Some (Arrive members collect) → collect ≡ call.collect) →
    takes library s (set_at s.sets call.set) ≡ true → NamesNobodyTwice spelt → number_of spelt ≡ spelt_first table call.set → KeepsFenceRules library s rows table first call
keeps_rules library s rows table first call spelt is agree taken one same = record {
  agrees = agree;
  taken = taken;
  number = one.0;
  spelt = sym (ap unrepeated is) ∙ one.1;
  alike = sym (ap number_of is) ∙ one.2;
  as_first = sym same ∙ one.2;
}

-- an event that is such an arrival
pub plain_arrival : (library : Library) (s : Scripts) (rows : List (List (Option Spelt))) (table : SetTable) (z : Event) (members : List ℕ) (collect : Bool) →
    kind (plan_of s) z ≡ Some (Arrive members collect) → IsPlainCall library s rows table members collect z → IsPlainArrival library s rows table z
plain_arrival library s rows table z members collect is plain others other is_other alive =
    let same = same_Some _ _ (sym is ∙ is_other) in
    subst (λ ms. IsPlainCall library s rows table ms other z) (ap members_in same)
    (subst (λ c. IsPlainCall library s rows table members c z) (ap collect_in same) plain)

-- an event of another kind is none
pub no_arrival : (sets : List (List ℕ)) (k : CodeKind) → ((set : ℕ) (collect : Bool) → k ≡ code.Arrive set collect → ⊥) → (members : List ℕ) (collect : Bool) →
    kind_of sets k ≡ Arrive members collect → ⊥
no_arrival sets (code.Put scope key) other members collect is = cc
no_arrival sets code.Commit other members collect is = cc
no_arrival sets (code.Arrive set c) other members collect is = other set c refl
no_arrival sets (code.Leave set) other members collect is = cc
no_arrival sets (code.Get owner key) other members collect is = cc
no_arrival sets (code.GetNow owner key) other members collect is = cc
no_arrival sets (code.Publish name) other members collect is = cc
no_arrival sets (code.Lookup name) other members collect is = cc
no_arrival sets (code.LookupWait name) other members collect is = cc
no_arrival sets (code.Unpublish name) other members collect is = cc
no_arrival sets code.UnpublishAll other members collect is = cc
no_arrival sets (code.Fixed reply) other members collect is = cc

-- three lines, none of which is the library's
pub three_added : (a b c d : List Unportable) (k l m : Libraries) (P : Library → Type 0) →
    ((library : Library) → has k library ≡ false → has l library ≡ false → has m library ≡ false → P library) →
    AddsUnportable a b (λ library. has k library ≡ false) → AddsUnportable b c (λ library. has l library ≡ false) → AddsUnportable c d (λ library. has m library ≡ false) →
    AddsUnportable a d P
three_added a b c d k l m P so one two three = λ library u.
    let y = three library u in
    let x = two library y.0 in
    let w = one library x.0 in
    (w.0, so library w.1 x.1 y.1)

pub not_true : (b : Bool) → not b ≡ true → b ≡ false
not_true true h = absurd (true≢false (sym h))
not_true false h = refl
