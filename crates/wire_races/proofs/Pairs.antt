-- Calls that race, and the races of two calls in a list of findings.
use Rattle.std.proofs.Common.{◌≡◌, ◌≢◌, ◌⊎◌, ◌↔◌, inl, inr, ⊎_elim, ap, refl, sym, subst, ℕ, zero, suc, ◌<◌, List, [], ◌∷◌, true, false, Bool, Some, length, arith}
use Rattle.std.specs.Prelude.{slice_get}
use Rattle.std.proofs.lemmas.Bool.{true≢false, and_parts, and_from, or_cases, or_left, or_right}
use Rattle.std.proofs.lemmas.List.{take_all}
use Rattle.std.proofs.lemmas.Option.{same_Some, none-some, slice_get_within}
use Rattle.wire_types.specs.declared.CallAt.{CallAt}
use Rattle.wire_runs.specs.Plan.{Plan, Event, kind, kinds, kinds_of, event_count}
use Rattle.wire_runs.specs.Names.{writes_name, calls_name}
use Rattle.wire_runs.specs.Order.{edge, Announces}
use Rattle.wire_runs.specs.Ends.{calls_of, first_event}
use Rattle.wire_runs.specs.Races.{IsUnordered, IsNameRace}
use Rattle.wire_runs.specs.Findings.{Finding, Rewrite, KeyRace, NameRace, IsFound}
use Rattle.wire_runs.proofs.Diamond.{writes_calls}
use Rattle.wire_runs.proofs.EventLists.{one_lower}
use Rattle.wire_runs.proofs.Findings.{turned}
use Rattle.wire_scripts.specs.Scripts.{Scripts}
use Rattle.wire_scripts.specs.Planned.{plan_of}
use Rattle.wire_findings.specs.declared.finding.Finding.{Finding as Told}
use Rattle.wire_findings.specs.declared.finding.Finding.TheVariants as told
use Rattle.wire_findings.specs.Findings.{shown, AreFindings}
use Rattle.wire_findings.specs.Collected.{TellsFinding, AreFound}
use Rattle.wire_races.specs.FindingKinds.{IsOfKey}
use Rattle.wire_races.specs.Adding.{AddsFindings}
use Rattle.wire_races.specs.KeyRaces.{IsRaceOf, IsKeyRaceBy}
use Rattle.wire_races.specs.Racing.{RaceOnKey, RaceOnName, AreRacing}
use Rattle.wire_races.specs.Reported.{race_calls, IsReported}
use Rattle.wire_races.specs.Contested.{is_disturbed, is_contested, IsOneContested, HasNamesOf}
use Rattle.wire_findings.proofs.Calls.{Starts, low_of, high_of, low_starts, high_starts, call_within, same_events}
use Rattle.wire_races.proofs.KeyRaces.{differ}
use Rattle.wire_races.proofs.Deliveries.{race_told}
use Rattle.wire_findings.proofs.OneList.{same_call, rising}

-- what a list tells stands somewhere in it
told_there : (plan : Plan) (found : List Told) (f : Finding) → TellsFinding plan found f → (k : ℕ) × (t : Told) × (slice_get found k ≡ Some t) × (f ≡ shown plan t)
told_there plan [] f h = absurd h
told_there plan (t ∷ found) f (inl e) = (0, t, refl, e)
told_there plan (t ∷ found) f (inr h) = let w = told_there plan found f h in (suc w.0, w.1, w.2, w.3)

there_told : (plan : Plan) (found : List Told) (k : ℕ) (t : Told) → slice_get found k ≡ Some t → TellsFinding plan found (shown plan t)
there_told plan [] k t e = absurd (let lt = slice_get_within {A = Told} [] k t e in omega (arith, lt))
there_told plan (u ∷ found) zero t e = inl (ap (shown plan) (sym (same_Some u t e)))
there_told plan (u ∷ found) (suc k) t e = inr (there_told plan found k t e)

-- in the other order
key_turned : (plan : Plan) (x y : Event) → RaceOnKey plan x y → RaceOnKey plan y x
key_turned plan x y r = (r.0, r.1, ⊎_elim (λ a. inr a) (λ b. inl b) r.2)

name_turned : (plan : Plan) (x y : Event) → RaceOnName plan x y → RaceOnName plan y x
name_turned plan x y r = (r.0, ⊎_elim (λ a. inr a) (λ b. inl b) r.1)

both_turned : (plan : Plan) (x y : CallAt) → AreRacing plan x y → AreRacing plan y x
both_turned plan x y r = ⊎_elim (λ a. inl (key_turned plan (first_event plan x) (first_event plan y) a)) (λ b. inr (name_turned plan (first_event plan x) (first_event plan y) b)) r

-- the calls of a race that is told race
told_races : (plan : Plan) (t : Told) (x y : CallAt) → IsFound plan (shown plan t) → race_calls t ≡ Some (x, y) → AreRacing plan x y
told_races plan (told.Rewrite v w) x y found e = absurd (none-some _ e)
told_races plan (told.KeyRace v w owner key) x y found e = subst (λ (p : CallAt × CallAt). AreRacing plan p.0 p.1) (same_Some _ _ e) (inl (owner.number, key, found.1))
told_races plan (told.NameRace v w name) x y found e = subst (λ (p : CallAt × CallAt). AreRacing plan p.0 p.1) (same_Some _ _ e) (inr (name, found.1))

no_key : (v w x y : Event) (name owner key : ℕ) → NameRace v w name ≡ KeyRace x y owner key → ⊥
no_key v w x y name owner key e = cc

-- those of a race on a key race on a key
told_races_on_key : (plan : Plan) (t : Told) (x y : CallAt) → IsFound plan (shown plan t) → IsOfKey (shown plan t) → race_calls t ≡ Some (x, y) →
    RaceOnKey plan (first_event plan x) (first_event plan y)
told_races_on_key plan (told.Rewrite v w) x y found of e = absurd (none-some _ e)
told_races_on_key plan (told.KeyRace v w owner key) x y found of e =
    subst (λ (p : CallAt × CallAt). RaceOnKey plan (first_event plan p.0) (first_event plan p.1)) (same_Some _ _ e) (owner.number, key, found.1)
told_races_on_key plan (told.NameRace v w name) x y found of e = absurd (no_key _ _ of.0 of.1 name of.2 of.3 of.4)

-- two calls of which a list of findings has a race race
reported_races : (plan : Plan) (found : List Told) (x y : CallAt) → AreFound plan found → IsReported found x y → AreRacing plan x y
reported_races plan found x y are r =
    let is = are (shown plan r.finding) (there_told plan found r.at r.finding r.there) in
    ⊎_elim (λ e. told_races plan r.finding x y is e) (λ e. both_turned plan y x (told_races plan r.finding y x is e)) r.races

reported_on_key : (plan : Plan) (found : List Told) (x y : CallAt) → AreFound plan found → ((f : Finding) → TellsFinding plan found f → IsOfKey f) → IsReported found x y →
    RaceOnKey plan (first_event plan x) (first_event plan y)
reported_on_key plan found x y are keys r =
    let tells = there_told plan found r.at r.finding r.there in
    let is = are (shown plan r.finding) tells in
    let of = keys (shown plan r.finding) tells in
    ⊎_elim (λ e. told_races_on_key plan r.finding x y is of e)
    (λ e. key_turned plan (first_event plan y) (first_event plan x) (told_races_on_key plan r.finding y x is of e)) r.races

-- a call is told by its first event
one_call : (plan : Plan) (v x : CallAt) → Starts plan (first_event plan v) → first_event plan v ≡ first_event plan x → v ≡ x
one_call plan v x s e = same_call plan v x (call_within plan v s) (call_within plan x (subst (Starts plan) e s)) e

abbrev is_race_told : Finding → Bool
is_race_told (Rewrite x y) = false
is_race_told _ = true

-- the calls of a race that is told, by its events
calls_told : (plan : Plan) (t : Told) (x y : CallAt) → IsFound plan (shown plan t) → is_race_told (shown plan t) ≡ true → low_of (shown plan t) ≡ first_event plan x →
    high_of (shown plan t) ≡ first_event plan y → race_calls t ≡ Some (x, y)
calls_told plan (told.Rewrite v w) x y found race low high = absurd (true≢false (sym race))
calls_told plan (told.KeyRace v w owner key) x y found race low high =
    let first = one_call plan v x (low_starts plan (shown plan (told.KeyRace v w owner key)) found) low in
    let second = one_call plan w y (high_starts plan (shown plan (told.KeyRace v w owner key)) found) high in
    cc (first, second)
calls_told plan (told.NameRace v w name) x y found race low high =
    let first = one_call plan v x (low_starts plan (shown plan (told.NameRace v w name)) found) low in
    let second = one_call plan w y (high_starts plan (shown plan (told.NameRace v w name)) found) high in
    cc (first, second)

-- the finding that the race of two events is
record IsRaceOfThem (plan : Plan) (x y : Event) (f : Finding) : Type 0 where
  found : IsFound plan f
  race : is_race_told f ≡ true
  ends : ((low_of f ≡ x) × (high_of f ≡ y)) ⊎ ((low_of f ≡ y) × (high_of f ≡ x))

-- where a list has the race of the first events of two calls, it has a race of the calls
has_reported : (plan : Plan) (found : List Told) (x y : CallAt) (f : Finding) → IsRaceOfThem plan (first_event plan x) (first_event plan y) f → TellsFinding plan found f → IsReported found x y
has_reported plan found x y f r tells =
    let w = told_there plan found f tells in
    let t = w.1 in
    let is = subst (IsFound plan) w.3 r.found in
    let race = subst (λ g. is_race_told g ≡ true) w.3 r.race in
    let ends = subst (λ g. ((low_of g ≡ first_event plan x) × (high_of g ≡ first_event plan y)) ⊎ ((low_of g ≡ first_event plan y) × (high_of g ≡ first_event plan x))) w.3 r.ends in
    record { at = w.0; finding = t; there = w.2; races = ⊎_elim (λ e. inl (calls_told plan t x y is race e.0 e.1)) (λ e. inr (calls_told plan t y x is race e.0 e.1)) ends }

module _ (plan : Plan) (x y : Event) where
  on_key_differ : RaceOnKey plan x y → x ≡ y → ⊥
  on_key_differ r e = ⊎_elim (λ a. differ plan x y r.0 r.1 a e) (λ b. differ plan y x r.0 r.1 b (sym e)) r.2

  -- one of them is the get
  by_its_get : (r : RaceOnKey plan x y) (f : Finding) → IsRaceOf x y r.0 r.1 f → IsRaceOf y x r.0 r.1 f → IsKeyRaceBy plan x f ⊎ IsKeyRaceBy plan y f
  by_its_get r f there back = ⊎_elim
      (λ a. inr (record { source = x; owner = r.0; key = r.1; race = a; is = there }))
      (λ b. inl (record { source = y; owner = r.0; key = r.1; race = b; is = back })) r.2

  -- a race on a key is a finding
  key_race : RaceOnKey plan x y → (f : Finding) × IsRaceOfThem plan x y f × (IsKeyRaceBy plan x f ⊎ IsKeyRaceBy plan y f)
  key_race r = elim (one_lower x y (on_key_differ r)) [
    | inl low ↦ (
      KeyRace x y r.0 r.1,
      record { found = (low, r.2); race = refl; ends = inl (refl, refl) },
      by_its_get r (KeyRace x y r.0 r.1) (inl (low, refl)) (inr (low, refl)),
    )
    | inr high ↦ (
      KeyRace y x r.0 r.1,
      record { found = (high, ⊎_elim (λ a. inr a) (λ b. inl b) r.2); race = refl; ends = inr (refl, refl) },
      by_its_get r (KeyRace y x r.0 r.1) (inr (high, refl)) (inl (high, refl)),
    )
  ]

  on_name_apart : RaceOnName plan x y → x.proc ≢ y.proc
  on_name_apart r = ⊎_elim (λ a. a.others) (λ b e. b.others (sym e)) r.1

  name_race : RaceOnName plan x y → (f : Finding) × IsRaceOfThem plan x y f
  name_race r = elim (one_lower x y (λ e. on_name_apart r (ap (λ (v : Event). v.proc) e))) [
    | inl low ↦ (NameRace x y r.0, record { found = (low, r.1); race = refl; ends = inl (refl, refl) })
    | inr high ↦ (NameRace y x r.0, record { found = (high, ⊎_elim (λ a. inr a) (λ b. inl b) r.1); race = refl; ends = inr (refl, refl) })
  ]

  on_name_unordered : RaceOnName plan x y → IsUnordered plan x y
  on_name_unordered r = ⊎_elim (λ a. a.unordered) (λ b. turned plan y x b.unordered) r.1

  -- events of one process don't race on a name, nor do such as a chain orders
  pub none_of_one : x.proc ≡ y.proc → RaceOnName plan x y → ⊥
  none_of_one same r = on_name_apart r same

  pub none_in_order : (IsUnordered plan x y → ⊥) → RaceOnName plan x y → ⊥
  none_in_order never r = never (on_name_unordered r)

-- where nothing but the races of two calls as the get are told, a race of the calls is told exactly where they race on a key
pub on_key : (plan : Plan) (x y : CallAt) (old now new : List Told) → old ≡ [] → AddsFindings plan old now (IsKeyRaceBy plan (first_event plan x)) →
    AddsFindings plan now new (IsKeyRaceBy plan (first_event plan y)) → IsReported new x y ↔ RaceOnKey plan (first_event plan x) (first_event plan y)
on_key plan x y old now new empty first second = (
  reported_on_key plan new x y second.found
      (λ f h. elim (second.only f h) [
        | inr b ↦ (race_told plan (first_event plan y) f b).0
        | inl was ↦ elim (first.only f was) [ inr a ↦ (race_told plan (first_event plan x) f a).0 | inl none ↦ absurd (subst (λ l. TellsFinding plan l f) empty none) ]
      ]),
  (λ r.
      let w = key_race plan (first_event plan x) (first_event plan y) r in
      has_reported plan new x y w.0 w.1 (⊎_elim (λ a. second.kept w.0 (first.all w.0 a)) (λ b. second.all w.0 b) w.2)),
)

-- the list of all findings has a race of two calls exactly where they race
pub reported_exactly : (s : Scripts) (found : List Told) (x y : CallAt) → AreFindings s found → IsReported found x y ↔ AreRacing (plan_of s) x y
reported_exactly s found x y are = (
  (λ r. reported_races (plan_of s) found x y (λ f. (are.those f).0) r),
  (λ race. ⊎_elim
      (λ a. let w = key_race (plan_of s) (first_event (plan_of s) x) (first_event (plan_of s) y) a in has_reported (plan_of s) found x y w.0 w.1 ((are.those w.0).1 w.1.found))
      (λ b. let w = name_race (plan_of s) (first_event (plan_of s) x) (first_event (plan_of s) y) b in has_reported (plan_of s) found x y w.0 w.1 ((are.those w.0).1 w.1.found))
      race),
)

-- a call of the plan has its first event there
pub first_there : (plan : Plan) (call : CallAt) → call.call < length (calls_of plan call.proc.number) → (first_event plan call).at < event_count plan call.proc.number
unfolding event_count kinds
first_there plan call there =
    let calls = calls_of plan call.proc.number in
    let lt = rising calls call.call (length calls) there there in
    let all = ap (λ l. length (kinds_of l)) (take_all (length calls) calls (omega arith)) in
    let same = ap length (same_events (slice_get plan.processes call.proc.number)) in
    omega (arith, lt, all, same)

-- two events of different processes that no chain orders
module _ (plan : Plan) (x y : Event) (others : x.proc ≢ y.proc) (u : IsUnordered plan x y) where
  pub disturbed_race : (name : ℕ) → is_disturbed plan name x y ≡ true → IsNameRace plan x y name
  disturbed_race name h =
      let both = and_parts (writes_name plan name x (kind plan x)) (calls_name plan name y (kind plan y)) h in
      record { x_writes = both.0; y_calls = both.1; others = others; not_once = λ once waits. u.not_before (edge u.live_x (Announces name waits once) u.live_y); unordered = u }

race_disturbed : (plan : Plan) (x y : Event) (name : ℕ) → IsNameRace plan x y name → is_disturbed plan name x y ≡ true
race_disturbed plan x y name r = and_from (writes_name plan name x (kind plan x)) (calls_name plan name y (kind plan y)) r.x_writes r.y_calls

-- they race exactly on the names that are contested
module _ (plan : Plan) (x y : Event) where
  contested_races : x.proc ≢ y.proc → IsUnordered plan x y → (name : ℕ) → is_contested plan name x y ≡ true → RaceOnName plan x y
  contested_races others u name h = elim (or_cases (is_disturbed plan name x y) (is_disturbed plan name y x) h) [
    | inl here ↦ (name, inl (disturbed_race plan x y others u name here))
    | inr there ↦ (name, inr (disturbed_race plan y x (λ e. others (sym e)) (turned plan x y u) name there))
  ]

  races_contested : (r : RaceOnName plan x y) → is_contested plan r.0 x y ≡ true
  races_contested r = ⊎_elim
      (λ a. or_left (is_disturbed plan r.0 x y) (is_disturbed plan r.0 y x) (race_disturbed plan x y r.0 a))
      (λ b. or_right (is_disturbed plan r.0 x y) (is_disturbed plan r.0 y x) (race_disturbed plan y x r.0 b)) r.1

  race_called : (r : RaceOnName plan x y) → calls_name plan r.0 x (kind plan x) ≡ true
  race_called r = ⊎_elim (λ a. writes_calls plan r.0 x (kind plan x) a.x_writes) (λ b. b.y_calls) r.1

  -- and where x is a call on no name but these, one of these is
  pub one_contested : (names : List ℕ) → x.proc ≢ y.proc → IsUnordered plan x y → HasNamesOf plan x names → IsOneContested plan names x y ↔ RaceOnName plan x y
  one_contested names others u has = ((λ c. contested_races others u c.0 c.2), (λ r. (r.0, has r.0 (race_called r), races_contested r)))
