-- Lists by number: what is added to one of them, and what the lists of a plan's events say.
use Rattle.std.proofs.Common.{◌≡◌, ◌≢◌, ◌∙◌, ℕ, zero, suc, ◌<◌, ◌≤◌, List, [], ◌∷◌, ◌++◌, Vec, length, map, get_or, slice_set, slice_get, Option, Some, None, MatchOption, true, false, inl, inr, refl}
use Rattle.std.proofs.Common.{sym, ap, subst, arith, eq-eqb, eqb-true}
use Rattle.std.specs.declared.alloc.Global.{Global}
use Rattle.std.proofs.lemmas.Bool.{cases_eq, true≢false}
use Rattle.std.proofs.lemmas.List.{map_push}
use Rattle.std.proofs.lemmas.Option.{none-some, same_Some}
use Rattle.wire_runs.specs.Plan.{Plan, Event, Kind as TheEvent, Publish, Unpublish, UnpublishAll, kind, kind_at, event_count, process_count, event_of}
use Rattle.wire_types.specs.declared.place.Event.{Event as CodeEvent}
use Rattle.wire_plan.specs.declared.by_number.Listing.{Listing}
use Rattle.wire_plan.specs.declared.by_number.Listing.TheVariants.{NameCalls, Publishes, Takes, Sweeps}
use Rattle.wire_runs.specs.Order.{PublishesOnce}
use Rattle.wire_runs.specs.Names.{takes_name}
use Rattle.wire_runs.specs.Names.{publishes as publishes_of}
use Rattle.wire_plan.specs.Index.{AreSweeps}
use Rattle.wire_plan.proofs.Published.{publisher, nothing_takes}
use Rattle.wire_runs.specs.EventLists.{AreAll}
use Rattle.wire_plan.specs.Tables.{is_listed, is_this_number, events_listed, only_of, IsUnswept, AreListed, AreListedTo, AreNamesTo, AreNameCallsOf}
use Rattle.wire_plan.specs.declared.names.NameTable.{NameTable}
use Rattle.wire_runs.proofs.Basics.{event_within, process_within}
use Rattle.wire_runs.proofs.EventLists.{all_same, lower_not_same}
use Rattle.wire_plan.proofs.Grown.{none_yet, place, Earlier, one_more, one_other, whole_process, whole_plan}

abbrev pub places_in : Vec CodeEvent Global → List Event
places_in list = map event_of list.items

-- a list more, with nothing in it
pub reach_more : (lists : List (Vec CodeEvent Global)) (new : Vec CodeEvent Global) (n : ℕ) → new.items ≡ [] → get_or (map places_in (lists ++ new ∷ [])) n [] ≡ get_or (map places_in lists) n []
reach_more [] new zero none_there = ap (map event_of) none_there
reach_more [] new (suc n) none_there = refl
reach_more (list ∷ lists) new zero none_there = refl
reach_more (list ∷ lists) new (suc n) none_there = reach_more lists new n none_there

-- one of the lists has one more
pub append_here : (lists : List (Vec CodeEvent Global)) (i : ℕ) (was now : Vec CodeEvent Global) (e : CodeEvent) → i < length lists → was ≡ get_or lists i was → now.items ≡ was.items ++ e ∷ [] →
    get_or (map places_in (slice_set lists i now)) i [] ≡ get_or (map places_in lists) i [] ++ event_of e ∷ []
append_here [] i was now e lt is push = absurd (omega (arith, lt))
append_here (list ∷ lists) zero was now e lt is push = ap (map event_of) push ∙ map_push event_of was.items e ∙ ap (λ (v : Vec CodeEvent Global). map event_of v.items ++ event_of e ∷ []) is
append_here (list ∷ lists) (suc i) was now e lt is push = append_here lists i was now e (omega (arith, lt)) is push

-- and the others stay
pub append_others : (lists : List (Vec CodeEvent Global)) (i n : ℕ) (now : Vec CodeEvent Global) → n ≢ i → get_or (map places_in (slice_set lists i now)) n [] ≡ get_or (map places_in lists) n []
append_others [] i n now ne = refl
append_others (list ∷ lists) zero zero now ne = absurd (ne refl)
append_others (list ∷ lists) zero (suc n) now ne = refl
append_others (list ∷ lists) (suc i) zero now ne = refl
append_others (list ∷ lists) (suc i) (suc n) now ne = append_others lists i n now (λ e. ne (ap suc e))

module _ (plan : Plan) (listing : Listing) where
  abbrev pub IsListed : ℕ → Event → Type 0
  IsListed number x = is_listed plan listing number x (kind plan x) ≡ true

  -- an event that is listed under this number, and under no other
  pub listed_more : (p i m : ℕ) (old new : List (List Event)) → ((number : ℕ) → is_listed plan listing number (place p i) (kind_at plan p i) ≡ is_this_number (Some m) number)
      → events_listed new m ≡ events_listed old m ++ place p i ∷ [] → ((n : ℕ) → n ≢ m → events_listed new n ≡ events_listed old n)
      → AreListedTo plan listing p i old → AreListedTo plan listing p (suc i) new
  listed_more p i m old new told here others are = λ number. elim (cases_eq number m) [
    | inl e ↦ subst (λ k. AreAll (Earlier (IsListed k) p (suc i)) (events_listed new k)) (sym e)
        (subst (AreAll (Earlier (IsListed m) p (suc i))) (sym here) (one_more (IsListed m) p i (events_listed old m) (told m ∙ eq-eqb m m refl) (are m)))
    | inr ne ↦ subst (AreAll (Earlier (IsListed number) p (suc i))) (sym (others number ne))
        (one_other (IsListed number) p i (events_listed old number) (λ h. ne (sym (eqb-true m number (sym (told number) ∙ h)))) (are number))
  ]

  -- an event that isn't listed
  pub listed_other : (p i : ℕ) (lists : List (List Event)) → ((number : ℕ) → is_listed plan listing number (place p i) (kind_at plan p i) ≡ is_this_number None number)
      → AreListedTo plan listing p i lists → AreListedTo plan listing p (suc i) lists
  listed_other p i lists told are = λ number. one_other (IsListed number) p i (events_listed lists number) (λ h. true≢false (sym h ∙ told number)) (are number)

  -- what is listed is an event
  is_event : (number : ℕ) (x : Event) (o : Option TheEvent) → is_listed plan listing number x o ≡ true → (e : TheEvent) × (o ≡ Some e)
  is_event number x (Some e) h = (e, refl)
  is_event number x None h = absurd (true≢false (sym h ∙ nothing listing))
    where
      nothing : (l : Listing) → is_listed plan l number x None ≡ false
      nothing NameCalls = refl
      nothing Publishes = refl
      nothing Takes = refl
      nothing Sweeps = refl

  -- all events of a process, and of all processes
  pub listed_process : (p n : ℕ) (lists : List (List Event)) → event_count plan p ≤ n → AreListedTo plan listing p n lists → AreListedTo plan listing (suc p) 0 lists
  listed_process p n lists le are = λ number. whole_process (IsListed number) p n (events_listed lists number)
      (λ i h. let e = is_event number (place p i) (kind_at plan p i) h in let lt = event_within plan p i e.0 e.1 in omega (arith, lt, le))
      (are number)

  pub listed_plan : (n : ℕ) (lists : List (List Event)) → process_count plan ≤ n → AreListedTo plan listing n 0 lists → AreListed plan listing lists
  listed_plan n lists le are = λ number. whole_plan (IsListed number) n (events_listed lists number)
      (λ x h. let e = is_event number x (kind plan x) h in let lt = process_within plan x.proc x.at e.0 e.1 in omega (arith, lt, le))
      (are number)

none_listed : (plan : Plan) (listing : Listing) → AreListedTo plan listing 0 0 []
none_listed plan listing = λ number. none_yet (IsListed plan listing number)

publish_is : (plan : Plan) (name : ℕ) (x : Event) (o : Option TheEvent) → kind plan x ≡ o → is_listed plan Publishes name x o ≡ true → kind plan x ≡ Some (Publish name)
publish_is plan name x (Some (Publish n)) is h = is ∙ ap (λ m. Some (Publish m)) (eqb-true n name h)
publish_is plan name x _ is h = absurd (true≢false (sym h))

pub publishes_listed : (plan : Plan) (name : ℕ) (places : List Event) → AreAll (λ x. is_listed plan Publishes name x (kind plan x) ≡ true) places →
    AreAll (λ x. kind plan x ≡ Some (Publish name)) places
publishes_listed plan name places are = all_same _ _ places
    (λ x h. publish_is plan name x (kind plan x) refl h)
    (λ x h. ap (is_listed plan Publishes name x) h ∙ eq-eqb name name refl)
    are

take_is : (plan : Plan) (name : ℕ) (x : Event) (o : Option TheEvent) → kind plan x ≡ o → is_listed plan Takes name x o ≡ true → kind plan x ≡ Some (Unpublish name)
take_is plan name x (Some (Unpublish n)) is h = is ∙ ap (λ m. Some (Unpublish m)) (eqb-true n name h)
take_is plan name x _ is h = absurd (true≢false (sym h))

pub takes_listed : (plan : Plan) (name : ℕ) (places : List Event) → AreAll (λ x. is_listed plan Takes name x (kind plan x) ≡ true) places →
    AreAll (λ x. kind plan x ≡ Some (Unpublish name)) places
takes_listed plan name places are = all_same _ _ places
    (λ x h. take_is plan name x (kind plan x) refl h)
    (λ x h. ap (is_listed plan Takes name x) h ∙ eq-eqb name name refl)
    are

sweep_is : (plan : Plan) (p : ℕ) (x : Event) (o : Option TheEvent) → kind plan x ≡ o → is_listed plan Sweeps p x o ≡ true → (x.proc ≡ p) × (kind plan x ≡ Some UnpublishAll)
sweep_is plan p x (Some UnpublishAll) is h = (eqb-true x.proc p h, is)
sweep_is plan p x _ is h = absurd (true≢false (sym h))

pub sweeps_listed : (plan : Plan) (p : ℕ) (places : List Event) → AreAll (λ x. is_listed plan Sweeps p x (kind plan x) ≡ true) places → AreSweeps plan p places
sweeps_listed plan p places are = all_same _ _ places
    (λ x h. sweep_is plan p x (kind plan x) refl h)
    (λ x h. ap (is_listed plan Sweeps p x) h.1 ∙ eq-eqb x.proc p h.0)
    are

-- the calls on each name, after all events of a process, and of the plan
pub names_process : (plan : Plan) (p n : ℕ) (table : NameTable) → event_count plan p ≤ n → AreNamesTo plan p n table → AreNamesTo plan (suc p) 0 table
names_process plan p n table le are = record {
  calls = listed_process plan NameCalls p n table.calls le are.calls;
  publishes = listed_process plan Publishes p n table.publishes le are.publishes;
  takes = listed_process plan Takes p n table.takes le are.takes;
  sweeps = listed_process plan Sweeps p n table.sweeps le are.sweeps;
}

pub names_plan : (plan : Plan) (n : ℕ) (table : NameTable) → process_count plan ≤ n → AreNamesTo plan n 0 table → AreNameCallsOf plan table
names_plan plan n table le are = record {
  calls = listed_plan plan NameCalls n table.calls le are.calls;
  publishes = λ name. publishes_listed plan name (events_listed table.publishes name) (listed_plan plan Publishes n table.publishes le are.publishes name);
  takes = λ name. takes_listed plan name (events_listed table.takes name) (listed_plan plan Takes n table.takes le are.takes name);
  sweeps = λ p. sweeps_listed plan p (events_listed table.sweeps p) (listed_plan plan Sweeps n table.sweeps le are.sweeps p);
}

-- no event stands before the first
pub no_names : (plan : Plan) (table : NameTable) → table.calls ≡ [] → table.publishes ≡ [] → table.takes ≡ [] → table.sweeps ≡ [] → AreNamesTo plan 0 0 table
no_names plan table calls publishes takes sweeps = record {
  calls = subst (AreListedTo plan NameCalls 0 0) (sym calls) (none_listed plan NameCalls);
  publishes = subst (AreListedTo plan Publishes 0 0) (sym publishes) (none_listed plan Publishes);
  takes = subst (AreListedTo plan Takes 0 0) (sym takes) (none_listed plan Takes);
  sweeps = subst (AreListedTo plan Sweeps 0 0) (sym sweeps) (none_listed plan Sweeps);
}

-- where none of a process is listed there is none, and where one is listed it is there
pub none_swept : (sweeps : List CodeEvent) → length sweeps ≡ 0 → (k : ℕ) (z : Event) → slice_get (map event_of sweeps) k ≡ Some z → ⊥
none_swept [] none k z is = none-some z is
none_swept (x ∷ xs) none k z is = omega (arith, none)

pub one_swept : (plan : Plan) (p : ℕ) (sweeps : List CodeEvent) → AreSweeps plan p (map event_of sweeps) → (length sweeps ≡ 0 → ⊥) → (z : Event) × (z.proc ≡ p) × (kind plan z ≡ Some UnpublishAll)
one_swept plan p [] are some = absurd (some refl)
one_swept plan p (x ∷ xs) are some = let o = are.only 0 (event_of x) refl in (event_of x, o.0, o.1)

-- x is the only publish of the name, and nobody unpublishes the name alone
pub record IsOnlyPublish (plan : Plan) (x : Event) (name : ℕ) : Type 0 where
  pub is : kind plan x ≡ Some (Publish name)
  pub only : (y : Event) → kind plan y ≡ Some (Publish name) → y ≡ x
  pub stays : (y : Event) → kind plan y ≢ Some (Unpublish name)

once_is_only : (plan : Plan) (x : Event) (name : ℕ) → PublishesOnce plan x name → IsOnlyPublish plan x name
once_is_only plan x name once = record {
  is = once.is;
  only = once.only;
  stays = λ y is. true≢false (sym (ap (takes_name plan name y) is ∙ eq-eqb name name refl) ∙ once.stays y);
}

only_at : (plan : Plan) (name : ℕ) (publishes takes : List CodeEvent) → AreAll (λ x. kind plan x ≡ Some (Publish name)) (map event_of publishes) →
    AreAll (λ x. kind plan x ≡ Some (Unpublish name)) (map event_of takes)
    → MatchOption (only_of publishes takes) ((x : Event) → IsOnlyPublish plan x name → ⊥) (λ x. IsOnlyPublish plan (event_of x) name)
only_at plan name [] takes ps ts = λ x once. let found = ps.all x once.is in none-some x found.1
only_at plan name (a ∷ []) [] ps ts = record {
  is = ps.only 0 (event_of a) refl;
  only = λ y h. alone y (ps.all y h).0 (ps.all y h).1;
  stays = λ y h. none-some y (ts.all y h).1;
}
  where
    alone : (y : Event) (k : ℕ) → slice_get (map event_of (a ∷ [])) k ≡ Some y → y ≡ event_of a
    alone y zero h = sym (same_Some (event_of a) y h)
    alone y (suc k) h = absurd (none-some y h)
only_at plan name (a ∷ []) (b ∷ takes) ps ts = λ x once. once.stays (event_of b) (ts.only 0 (event_of b) refl)
only_at plan name (a ∷ (b ∷ publishes)) takes ps ts = λ x once.
    let first : event_of a ≡ x = once.only (event_of a) (ps.only 0 (event_of a) refl) in
    let second : event_of b ≡ x = once.only (event_of b) (ps.only 1 (event_of b) refl) in
    lower_not_same (event_of a) (event_of b) (ps.rising 0 1 (event_of a) (event_of b) (omega arith) refl refl) (second ∙ sym first)

-- no name has such a publish
pub none_once : (plan : Plan) (name : ℕ) (publishes takes : List CodeEvent) → AreAll (λ x. kind plan x ≡ Some (Publish name)) (map event_of publishes) →
    AreAll (λ x. kind plan x ≡ Some (Unpublish name)) (map event_of takes) → only_of publishes takes ≡ None → (x : Event) → PublishesOnce plan x name → ⊥
none_once plan name publishes takes ps ts none =
    let never = subst (λ o. MatchOption o ((x : Event) → IsOnlyPublish plan x name → ⊥) (λ x. IsOnlyPublish plan (event_of x) name)) none (only_at plan name publishes takes ps ts) in
    λ x once. never x (once_is_only plan x name once)

-- the publish of a name that is published once and that nobody unpublishes
pub once_of : (plan : Plan) (name : ℕ) (publishes takes : List CodeEvent) (a : CodeEvent) (found : Option CodeEvent) → AreAll (λ x. kind plan x ≡ Some (Publish name)) (map event_of publishes) →
    AreAll (λ x. kind plan x ≡ Some (Unpublish name)) (map event_of takes) → only_of publishes takes ≡ Some a → IsUnswept plan a found
    → MatchOption found ((x : Event) → PublishesOnce plan x name → ⊥) (λ x. PublishesOnce plan (event_of x) name)
once_of plan name publishes takes a found ps ts some = unswept found
  where
    alone : IsOnlyPublish plan (event_of a) name
    alone = subst (λ o. MatchOption o ((x : Event) → IsOnlyPublish plan x name → ⊥) (λ x. IsOnlyPublish plan (event_of x) name)) some (only_at plan name publishes takes ps ts)

    unswept : (o : Option CodeEvent) → IsUnswept plan a o → MatchOption o ((x : Event) → PublishesOnce plan x name → ⊥) (λ x. PublishesOnce plan (event_of x) name)
    unswept None swept = λ x once.
        let same : event_of a ≡ x = once.only (event_of a) alone.is in
        let z = swept.0 in
        let takes : takes_name plan name z (kind plan z) ≡ true =
        ap (takes_name plan name z) swept.2 ∙ ap (λ p. publishes_of plan p name (event_count plan p)) swept.1 ∙ publisher plan (event_of a) name alone.is in
        true≢false (sym takes ∙ once.stays z)
    unswept (Some x) h = subst (λ (y : CodeEvent). PublishesOnce plan (event_of y) name) (sym h.0) (record {
      is = alone.is;
      only = alone.only;
      stays = λ y. nothing_takes plan name y (alone.stays y) (λ all i is.
          let same : record { proc = y.proc; at = i } ≡ event_of a = alone.only (record { proc = y.proc; at = i }) is in
          h.1 y (ap (λ (e : Event). e.proc) same) all);
    })
