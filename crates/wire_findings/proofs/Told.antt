-- Findings as they are told, and what a race of two events is on.
use Rattle.std.proofs.Common.{◌≡◌, ◌∙◌, ap, sym, refl, subst, ℕ, ◌<◌, true, false, List, Option, Some, length, arith, inl, inr, lt-ltb}
use Rattle.std.specs.Prelude.{is_some}
use Rattle.std.proofs.lemmas.Bool.{cases_lt, true≢false}
use Rattle.wire_runs.specs.Plan.{Plan, Event, Kind, Put, GetNow, Publish, Lookup, LookupWait, Unpublish, kind}
use Rattle.wire_types.specs.declared.CallAt.{CallAt}
use Rattle.wire_types.specs.declared.Proc.{Proc}
use Rattle.wire_scripts.specs.Scripts.{text_at}
use Rattle.wire_runs.specs.Names.{calls_name}
use Rattle.wire_runs.specs.Races.{IsRewrite}
use Rattle.wire_plan.specs.Index.{IsFirstPut}
use Rattle.wire_runs.specs.Findings.{Finding, KeyRace, NameRace, IsFound}
use Rattle.wire_runs.specs.Findings as findings
use Rattle.wire_runs.specs.Ends.{calls_of, first_event}
use Rattle.wire_runs.proofs.Diamond.{writes_calls}
use Rattle.wire_plan.proofs.KeyFacts.{put_exactly}
use Rattle.wire_findings.specs.Findings.{shown}
use Rattle.wire_findings.specs.Standings.{standing, race_name, AreNamesOf}
use Rattle.wire_findings.specs.declared.found.Standing.{Standing}
use Rattle.wire_findings.specs.declared.finding.Finding.{Finding as Told}
use Rattle.wire_findings.specs.declared.finding.Finding.TheVariants as told_as
use Rattle.wire_findings.proofs.Calls.{Starts, call_within, low_starts, high_starts, ArrivesOrGets, Arriving, Getting, node_commit, delivery_source}

-- the name that an event is a call on
abbrev pub name_of : Option Kind → ℕ
name_of (Some (Publish n)) = n
name_of (Some (Lookup n)) = n
name_of (Some (LookupWait n)) = n
name_of (Some (Unpublish n)) = n
name_of _ = 0

abbrev pub told_by : Event → Event → ℕ → Option Kind → Finding
told_by x y name (Some (GetNow owner key)) = KeyRace x y owner key
told_by x y name _ = NameRace x y name

-- the race that two events may be
abbrev pub told : Event → Event → Option Kind → Option Kind → Finding
told x y (Some (GetNow owner key)) p = KeyRace x y owner key
told x y o p = told_by x y (name_of o) p

named_by : (plan : Plan) (x y z : Event) (n name : ℕ) (p : Option Kind) → calls_name plan name z p ≡ true → told_by x y n p ≡ NameRace x y n
named_by plan x y z n name (Some (GetNow owner key)) h = absurd (true≢false (sym h))
named_by plan x y z n name _ h = refl

named : (plan : Plan) (x y v w : Event) (name : ℕ) (o p : Option Kind) → calls_name plan name v o ≡ true → calls_name plan name w p ≡ true → told x y o p ≡ NameRace x y (name_of o)
named plan x y v w name (Some (GetNow owner key)) p h i = absurd (true≢false (sym h))
named plan x y v w name _ p h i = named_by plan x y w _ name p i

-- the events tell which race it is
pub by_events : (plan : Plan) (x y : Event) (a b : Option Kind) (f : Finding) → kind plan x ≡ a → kind plan y ≡ b → told x y a b ≡ f → told x y (kind plan x) (kind plan y) ≡ f
by_events plan x y a b f e h t = ap (λ (o : Option Kind). told x y o (kind plan y)) e ∙ (ap (told x y a) h ∙ t)

key_told : (plan : Plan) (x y : Event) (p k : ℕ) → IsFound plan (KeyRace x y p k) → told x y (kind plan x) (kind plan y) ≡ KeyRace x y p k
key_told plan x y p k (low, inl (inl r)) = by_events plan x y _ _ _ (node_commit plan x y k r.1) (r.1.near.is) (ap (λ (q : ℕ). KeyRace x y q k) r.0)
key_told plan x y p k (low, inl (inr r)) = from (delivery_source plan x y p k r)
  where
    from : ArrivesOrGets plan x → told x y (kind plan x) (kind plan y) ≡ KeyRace x y p k
    from (Arriving members collect is) = by_events plan x y _ _ _ is r.is refl
    from (Getting owner key is) = by_events plan x y _ _ _ is r.is refl
key_told plan x y p k (low, inr (inl r)) = by_events plan x y _ _ _ r.1.near.is (node_commit plan y x k r.1) (ap (λ (q : ℕ). KeyRace x y q k) r.0)
key_told plan x y p k (low, inr (inr r)) = from (delivery_source plan y x p k r)
  where
    from : ArrivesOrGets plan y → told x y (kind plan x) (kind plan y) ≡ KeyRace x y p k
    from (Arriving members collect is) = by_events plan x y _ _ _ r.is is refl
    from (Getting owner key is) = by_events plan x y _ _ _ r.is is refl

-- the events tell that the race is on a name
name_told : (plan : Plan) (x y : Event) (n : ℕ) → IsFound plan (NameRace x y n) → told x y (kind plan x) (kind plan y) ≡ NameRace x y (name_of (kind plan x))
name_told plan x y n (low, inl r) = named plan x y x y n (kind plan x) (kind plan y) (writes_calls plan n x (kind plan x) r.x_writes) r.y_calls
name_told plan x y n (low, inr r) = named plan x y x y n (kind plan x) (kind plan y) r.y_calls (writes_calls plan n y (kind plan y) r.x_writes)

-- what the list takes for granted of a race on a key, on whatever nodes its processes are: both events are the first of their calls, and
-- they tell the owner and the key
pub record IsKeyLike (plan : Plan) (x y : Event) (p k : ℕ) : Type 0 where
  pub low_starts : Starts plan x
  pub high_starts : Starts plan y
  pub tells : told x y (kind plan x) (kind plan y) ≡ KeyRace x y p k

-- what the list takes for granted of a finding
abbrev pub IsLike : Plan → Finding → Type 0
IsLike plan (findings.Rewrite x y) = IsRewrite plan x y
IsLike plan (KeyRace x y p k) = IsKeyLike plan x y p k
IsLike plan (NameRace x y n) = IsFound plan (NameRace x y n)

pub found_like : (plan : Plan) (f : Finding) → IsFound plan f → IsLike plan f
found_like plan (findings.Rewrite x y) h = h
found_like plan (KeyRace x y p k) h =
    record { low_starts = low_starts plan (KeyRace x y p k) h; high_starts = high_starts plan (KeyRace x y p k) h; tells = key_told plan x y p k h }
found_like plan (NameRace x y n) h = h

-- the race of the calls of a standing
abbrev told_there : Plan → Standing → Finding
told_there plan p = told (first_event plan p.by) (first_event plan p.then) (kind plan (first_event plan p.by)) (kind plan (first_event plan p.then))

apart : {A : Type 0} (a b : Standing) → a ≡ b → a.is_race ≡ true → b.is_race ≡ false → A
apart a b e t f = absurd (true≢false (sym t ∙ ap (λ (p : Standing). p.is_race) e ∙ f))

-- two calls don't race on a key and on a name
pub never_both : {A : Type 0} (plan : Plan) (v w x y : CallAt) (p : Proc) (k n : ℕ) → standing (told_as.KeyRace v w p k) ≡ standing (told_as.NameRace x y n) →
    IsLike plan (shown plan (told_as.KeyRace v w p k)) → IsLike plan (shown plan (told_as.NameRace x y n)) → A
never_both plan v w x y p k n e a b =
    let one = sym a.tells ∙ (ap (told_there plan) e ∙ name_told plan _ _ n b) in
    cc one

-- races on names whose texts are the same are on one name
same_name : (plan : Plan) (names : List (List ℕ)) → AreNamesOf plan names → (x y v w : Event) (m n : ℕ) → IsFound plan (NameRace x y m) → IsFound plan (NameRace v w n) →
    text_at names m ≡ text_at names n → m ≡ n
same_name plan names of x y v w m n a b e = of.apart m n (of.within x y m a) (of.within v w n b) e

-- a standing has one finding, or one for each name
pub one_standing : (plan : Plan) (names : List (List ℕ)) → AreNamesOf plan names → (f g : Told) → standing f ≡ standing g → race_name names f ≡ race_name names g → IsLike plan (shown plan f) →
    IsLike plan (shown plan g) → shown plan f ≡ shown plan g
one_standing plan names of (told_as.Rewrite v w) (told_as.Rewrite x y) e t a b = ap (λ (p : Standing). findings.Rewrite (first_event plan p.then) (first_event plan p.by)) e
one_standing plan names of (told_as.KeyRace v w p k) (told_as.KeyRace x y q l) e t a b = sym a.tells ∙ (ap (told_there plan) e ∙ b.tells)
one_standing plan names of (told_as.KeyRace v w p k) (told_as.NameRace x y n) e t a b = never_both plan v w x y p k n e a b
one_standing plan names of (told_as.NameRace v w m) (told_as.KeyRace x y q l) e t a b = never_both plan x y v w q l m (sym e) b a
one_standing plan names of (told_as.NameRace v w m) (told_as.NameRace x y n) e t a b =
    ap (λ (p : Standing). NameRace (first_event plan p.by) (first_event plan p.then) m) e
    ∙ ap (NameRace (first_event plan x) (first_event plan y)) (same_name plan names of _ _ _ _ m n a b t)
one_standing plan names of (told_as.Rewrite v w) (told_as.KeyRace x y q l) e t a b = apart _ _ (sym e) refl refl
one_standing plan names of (told_as.Rewrite v w) (told_as.NameRace x y n) e t a b = apart _ _ (sym e) refl refl
one_standing plan names of (told_as.KeyRace v w p k) (told_as.Rewrite x y) e t a b = apart _ _ e refl refl
one_standing plan names of (told_as.NameRace v w m) (told_as.Rewrite x y) e t a b = apart _ _ e refl refl

not_sooner : (plan : Plan) (p key i j : ℕ) → IsFirstPut plan (record { proc = p; at = i }) key → IsFirstPut plan (record { proc = p; at = j }) key → i < j → ⊥
not_sooner plan p key i j a b lt = true≢false (sym (put_exactly plan p key i j a ∙ lt-ltb i j lt) ∙ ap is_some b.first)

-- a process puts a key first once
pub first_once : (plan : Plan) (p key i j : ℕ) → IsFirstPut plan (record { proc = p; at = i }) key → IsFirstPut plan (record { proc = p; at = j }) key → i ≡ j
first_once plan p key i j a b = elim (cases_lt i j) [
  | inl lt ↦ absurd (not_sooner plan p key i j a b lt)
  | inr ge ↦ elim (cases_lt j i) [
    | inl gt ↦ absurd (not_sooner plan p key j i b a gt)
    | inr le ↦ omega (arith, ge, le)
  ]
]

abbrev pub put_key : Option Kind → ℕ
put_key (Some (Put key scope)) = key
put_key _ = 0

first_at : (plan : Plan) (x : Event) (p key k : ℕ) → x.proc ≡ p → k ≡ key → IsFirstPut plan x k → IsFirstPut plan (record { proc = p; at = x.at }) key
first_at plan x p key k e h f = subst (λ (m : ℕ). IsFirstPut plan (record { proc = p; at = x.at }) m) h (subst (λ (q : ℕ). IsFirstPut plan (record { proc = q; at = x.at }) k) e f)

-- a later put has one first put
pub one_first : (plan : Plan) (x z y : Event) → IsRewrite plan x y → IsRewrite plan z y → x ≡ z
one_first plan x z y a b =
    let procs : z.proc ≡ x.proc = b.same ∙ sym a.same in
    let keys : b.key ≡ a.key = ap put_key (sym b.later_is ∙ a.later_is) in
    let second : IsFirstPut plan z b.key = record { scope = b.first_scope; is = b.first_is; first = b.first } in
    let moved = first_at plan z x.proc a.key b.key procs keys second in
    let at : x.at ≡ z.at = first_once plan x.proc a.key x.at z.at (record { scope = a.first_scope; is = a.first_is; first = a.first }) moved in
    λ t. record { proc = sym procs t; at = at t }

abbrev pub low_call : Told → CallAt
low_call (told_as.Rewrite v w) = v
low_call (told_as.KeyRace v w owner key) = v
low_call (told_as.NameRace v w name) = v

abbrev pub high_call : Told → CallAt
high_call (told_as.Rewrite v w) = w
high_call (told_as.KeyRace v w owner key) = w
high_call (told_as.NameRace v w name) = w

told_low : (plan : Plan) (f : Told) → IsLike plan (shown plan f) → (low_call f).call < length (calls_of plan (low_call f).proc.number)
told_low plan (told_as.Rewrite v w) h = call_within plan v (low_starts plan (shown plan (told_as.Rewrite v w)) h)
told_low plan (told_as.KeyRace v w owner key) h = call_within plan v h.low_starts
told_low plan (told_as.NameRace v w name) h = call_within plan v (low_starts plan (shown plan (told_as.NameRace v w name)) h)

told_high : (plan : Plan) (f : Told) → IsLike plan (shown plan f) → (high_call f).call < length (calls_of plan (high_call f).proc.number)
told_high plan (told_as.Rewrite v w) h = call_within plan w (high_starts plan (shown plan (told_as.Rewrite v w)) h)
told_high plan (told_as.KeyRace v w owner key) h = call_within plan w h.high_starts
told_high plan (told_as.NameRace v w name) h = call_within plan w (high_starts plan (shown plan (told_as.NameRace v w name)) h)

-- its calls are those of the plan
pub shown_low : (plan : Plan) (f g : Told) → f ≡ g → IsLike plan (shown plan f) → (low_call g).call < length (calls_of plan (low_call g).proc.number)
shown_low plan f g e h = told_low plan g (subst (λ t. IsLike plan (shown plan t)) e h)

pub shown_high : (plan : Plan) (f g : Told) → f ≡ g → IsLike plan (shown plan f) → (high_call g).call < length (calls_of plan (high_call g).proc.number)
shown_high plan f g e h = told_high plan g (subst (λ t. IsLike plan (shown plan t)) e h)
