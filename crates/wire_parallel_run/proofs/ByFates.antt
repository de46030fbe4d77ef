-- What fates tell of the plain run's end, where no live event waits for ever.
use Rattle.std.proofs.Common.{◌≡◌, ◌≢◌, ◌∙◌, ap, sym, refl, ℕ, ◌+◌, ◌-◌, ◌<◌, ◌≤◌, Bool, false, List, [], ◌∷◌, ◌++◌, append-nil, length, map, take, get_or, arith, ◌⊎◌, inl, inr}
use Rattle.std.specs.Prelude.{nat_lt, IsTrue, ◌↔◌}
use Rattle.std.proofs.lemmas.Bool.{cases_lt, true≢false}
use Rattle.std.proofs.lemmas.List.{take_more, take_all, length-map}
use Rattle.std.proofs.lemmas.List.Concat.{flat_map-append}
use Rattle.std.proofs.lemmas.Option.{slice_get-get_or}
use Rattle.wire_types.specs.declared.CallEnd.{CallEnd}
use Rattle.wire_types.specs.declared.CallEnd.TheVariants.{Replied}
use Rattle.wire_runs.specs.Plan.{Plan, Event, event_count}
use Rattle.wire_runs.specs.State.{Answer, Success}
use Rattle.wire_runs.specs.Step.{IsReachable}
use Rattle.wire_runs.specs.PlainRun.{plain_run}
use Rattle.wire_runs.specs.Order.{Live}
use Rattle.wire_runs.specs.Ends.{given, replies_of, unanswered, calls_of, row, is_waiting}
use Rattle.wire_runs.specs.Races.{IsSettled}
use Rattle.wire_runs.specs.Fate.{HasFate, dead, told}
use Rattle.wire_runs.specs.Fate as runs
use Rattle.wire_runs.specs.Laws.{plain_end}
use Rattle.wire_runs.proofs.Known.{reachable_known}
use Rattle.wire_runs.proofs.Fates.{runs_are_sound}
use Rattle.wire_runs.proofs.PlainRun.{plain_runs}
use Rattle.wire_fates.specs.declared.Fate.{Fate}
use Rattle.wire_fates.specs.declared.Fate.TheVariants.{Says, Silent, Waits}
use Rattle.wire_fates.specs.Fates.{IsFateOf, fate_told}
use Rattle.wire_fates.specs.Waiting.{LiveAreDone}
use Rattle.wire_fates.proofs.Fates.{waits_exactly, reply_told}
use Rattle.wire_parallel_run.specs.Trails.{said_by}
use Rattle.wire_parallel_run.proofs.Plainly.{said_given, short_waits}

pub is_it_to_wait : (found : Fate) → (found ≡ Waits) ⊎ (found ≢ Waits)
is_it_to_wait Waits = inl refl
is_it_to_wait (Says reply) = inr never
  where
    never : Says reply ≡ Waits → ⊥
    never e = cc
is_it_to_wait Silent = inr never
  where
    never : Silent ≡ Waits → ⊥
    never e = cc

pub waits_if : (found : Fate) (b : Bool) → IsTrue b ↔ (found ≢ Waits) → b ≡ false → found ≡ Waits
waits_if found b iff off = elim (is_it_to_wait found) [
  | inl is ↦ is
  | inr ne ↦ absurd (true≢false (sym (iff.1 ne) ∙ off))
]

-- how many of the first events of p happen
pub record IsCount (plan : Plan) (p at done : ℕ) : Type 0 where
  pub all : at ≤ (plain_end plan).done p → done ≡ at
  pub some : (plain_end plan).done p ≤ at → done ≡ (plain_end plan).done p

module _ (plan : Plan) (settled : IsSettled plan) (live_done : LiveAreDone plan) (p : ℕ) where
  abbrev place : ℕ → Event
  place at = record { proc = p; at = at }

  reached : IsReachable plan (plain_end plan)
  reached = (plain_run plan, (plain_runs plan).is_run, refl)

  replied : List Answer
  replied = (plain_end plan).replies p

  as_many : length ((plain_end plan).replies p) ≡ (plain_end plan).done p
  as_many = (reachable_known plan settled (plain_end plan) reached).lengths p

  -- an event whose fate isn't to wait is live, so it is done at the end
  happens : (at : ℕ) (found : Fate) → IsFateOf plan (place at) found → found ≢ Waits → at < (plain_end plan).done p
  happens at found f ne = (live_done (plain_end plan) reached (plain_runs plan).ends (place at)).1 (alive f.fate f.has f.is)
    where
      alive : (fate : runs.Fate) → HasFate plan (place at) fate → found ≡ fate_told plan fate → Live plan (place at)
      alive fate (dead no_ e) is = absurd (ne (is ∙ ap (fate_told plan) e))
      alive fate (told l fate_of all past is_past e) is = l

  never_happens : (at : ℕ) (found : Fate) → IsFateOf plan (place at) found → found ≡ Waits → (plain_end plan).done p ≤ at
  never_happens at found f is = elim (cases_lt at ((plain_end plan).done p)) [
    | inr ge ↦ ge
    | inl lt ↦ absurd ((runs_are_sound plan (plain_end plan) settled reached).comes (place at) lt ((waits_exactly plan settled (place at) found f).0 is))
  ]

  -- what one event more says
  pub says_more : (at : ℕ) (found : Fate) → IsFateOf plan (place at) found →
      replies_of plan (take (at + 1) ((plain_end plan).replies p)) ≡ replies_of plan (take at ((plain_end plan).replies p)) ++ said_by found
  says_more at found f = elim (is_it_to_wait found) [
    | inr ne ↦ (
        let lt = happens at found f ne in
        let there : at < length ((plain_end plan).replies p) = (let l = as_many in omega (arith, lt, l)) in
        let answer = get_or ((plain_end plan).replies p) at Success in
        let is = reply_told plan settled (place at) found f (plain_end plan) answer reached (slice_get-get_or ((plain_end plan).replies p) at Success there) in
        ap (replies_of plan) (take_more ((plain_end plan).replies p) at Success there)
        ∙ flat_map-append (given plan) (take at ((plain_end plan).replies p)) (answer ∷ [])
        ∙ ap (λ rs. replies_of plan (take at ((plain_end plan).replies p)) ++ rs) (append-nil (given plan answer) ∙ sym (said_given plan answer) ∙ sym (ap said_by is)))
    | inl is ↦ (
        let ge = never_happens at found f is in
        let l = as_many in
        ap (replies_of plan) (take_all (at + 1) ((plain_end plan).replies p) (omega (arith, ge, l)) ∙ sym (take_all at ((plain_end plan).replies p) (omega (arith, ge, l))))
        ∙ sym (append-nil (replies_of plan (take at ((plain_end plan).replies p))))
        ∙ ap (λ found. replies_of plan (take at ((plain_end plan).replies p)) ++ said_by found) (sym is))
  ]

  pub count_happens : (at : ℕ) (found : Fate) → IsFateOf plan (place at) found → found ≢ Waits → IsCount plan p (at + 1) (at + 1)
  count_happens at found f ne = let lt = happens at found f ne in record { all = λ _. refl; some = λ le. omega (arith, le, lt) }

  pub count_waits : (at done : ℕ) (found : Fate) → IsFateOf plan (place at) found → found ≡ Waits → IsCount plan p at done → IsCount plan p (at + 1) done
  count_waits at done found f is c =
      let ge = never_happens at found f is in
      let same = c.some ge in
      record { all = λ le. absurd (omega (arith, ge, le)); some = λ _. same }

  -- past the last event
  pub all_said : (n : ℕ) → event_count plan p ≤ n → replies_of plan (take n ((plain_end plan).replies p)) ≡ replies_of plan ((plain_end plan).replies p)
  all_said n past =
      let within = (runs_are_sound plan (plain_end plan) settled reached).within p in
      let l = as_many in
      ap (replies_of plan) (take_all n ((plain_end plan).replies p) (omega (arith, past, within, l)))

  pub all_counted : (n done : ℕ) → event_count plan p ≤ n → IsCount plan p n done → done ≡ (plain_end plan).done p
  all_counted n done past c = let within = (runs_are_sound plan (plain_end plan) settled reached).within p in c.some (omega (arith, past, within))

-- a row, by the calls that have replies and how many of them there are
pub row_is : (plan : Plan) (p calls n : ℕ) (ends all : List CallEnd) → ends ≡ map Replied (replies_of plan ((plain_end plan).replies p)) → n ≡ length ends → calls ≡ length (calls_of plan p) →
    all ≡ ends ++ unanswered false (calls - n) → all ≡ row plan (plain_end plan) p
row_is plan p calls n ends all said long each is =
    let replies = replies_of plan ((plain_end plan).replies p) in
    let count : n ≡ length replies = long ∙ ap length said ∙ length-map replies Replied in
    let rests = (plain_runs plan).ends p in
    is ∙ (λ i. said i ++ unanswered (sym rests i) (each i - count i))

pub waits_is : (plan : Plan) (p done : ℕ) → done ≡ (plain_end plan).done p → nat_lt done (event_count plan p) ≡ is_waiting plan (plain_end plan) p
waits_is plan p done is = short_waits plan (plain_end plan) p done (plain_runs plan).ends is
