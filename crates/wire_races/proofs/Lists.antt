-- Lists of places.
use Rattle.std.proofs.Common.{◌≡◌, inl, inr, ℕ, zero, suc, ◌+◌, ◌<◌, ◌≤◌, List, ◌++◌, Some, refl, map, take, drop, length, sym, ap, ◌∙◌, subst, arith}
use Rattle.std.specs.Prelude.{slice_get, slice_index_or, option_map}
use Rattle.std.proofs.lemmas.Option.{slice_get_within, same_Some, slice_get-map, slice_get-get_or}
use Rattle.std.proofs.lemmas.List.{length-map, length-take-le, map-append, take-append-drop}
use Rattle.wire_runs.specs.Plan.{Plan, Event, event_of}
use Rattle.wire_types.specs.declared.place.Event.{Event as CodeEvent}
use Rattle.wire_types.specs.declared.Proc.{Proc}
use Rattle.wire_scripts.specs.Scripts.{numbers_of}
use Rattle.wire_runs.specs.EventLists.{IsLower}
use Rattle.wire_runs.proofs.Lists.{slice_get-append_kept, slice_get-append_right}
use Rattle.wire_races.specs.NameRaces.{AreCallsOn, AreOf}
use Rattle.wire_fates.specs.Cuts.{IsCut}

pub get_right : (xs ys : List Event) (k : ℕ) (z : Event) → slice_get ys k ≡ Some z → slice_get (xs ++ ys) (length xs + k) ≡ Some z
get_right xs ys k z e = slice_get-append_right xs ys k ∙ e

-- the two parts of calls on a name
pub first_calls : (plan : Plan) (name : ℕ) (xs ys : List Event) → AreCallsOn plan name (xs ++ ys) → AreCallsOn plan name xs
first_calls plan name xs ys are = record {
  each = λ k z e. are.each k z (slice_get-append_kept xs ys k z e);
  rising = λ k l y z lt e f. are.rising k l y z lt (slice_get-append_kept xs ys k y e) (slice_get-append_kept xs ys l z f);
}

pub other_calls : (plan : Plan) (name : ℕ) (xs ys : List Event) → AreCallsOn plan name (xs ++ ys) → AreCallsOn plan name ys
other_calls plan name xs ys are = record {
  each = λ k z e. are.each (length xs + k) z (get_right xs ys k z e);
  rising = λ k l y z lt e f. are.rising (length xs + k) (length xs + l) y z (omega (arith, lt)) (get_right xs ys k y e) (get_right xs ys l z f);
}

-- the two parts of a list
pub both_parts : (rest run others : List CodeEvent) (n : ℕ) → run ≡ take n rest → others ≡ drop n rest → map event_of rest ≡ map event_of run ++ map event_of others
both_parts rest run others n front back =
    ap (map event_of) (sym (take-append-drop n rest))
    ∙ map-append event_of (take n rest) (drop n rest)
    ∙ ap (λ l. map event_of l ++ map event_of (drop n rest)) (sym front)
    ∙ ap (λ l. map event_of run ++ map event_of l) (sym back)

-- what stands in the front of a list
in_front : (calls : List CodeEvent) (n k : ℕ) (z : Event) → n ≤ length calls → slice_get (map event_of (take n calls)) k ≡ Some z → (k < n) × (slice_get (map event_of calls) k ≡ Some z)
in_front calls n k z le e = (
  subst (λ m. k < m) (length-map (take n calls) event_of ∙ length-take-le n calls le) (slice_get_within (map event_of (take n calls)) k z e),
  subst (λ l. slice_get l k ≡ Some z) (sym (both_parts calls (take n calls) (drop n calls) n refl refl)) (slice_get-append_kept (map event_of (take n calls)) (map event_of (drop n calls)) k z e),
)

-- calls of processes up to that of the first one, the lower first, are of that process
pub stretch : (plan : Plan) (name : ℕ) (calls : List CodeEvent) (n : ℕ) (x : CodeEvent) → n ≤ length calls → AreCallsOn plan name (map event_of calls) → slice_get calls 0 ≡ Some x →
    IsCut (λ z. z.proc ≤ x.proc.number) (map event_of calls) n → AreOf x.proc.number (map event_of (take n calls))
stretch plan name calls n x le are first cut zero z e =
    let here = in_front calls n 0 z le e in
    ap (λ (v : Event). v.proc) (sym (same_Some (event_of x) z (sym (slice_get-map event_of calls 0 ∙ ap (option_map event_of) first) ∙ here.1)))
stretch plan name calls n x le are first cut (suc k) z e =
    let here = in_front calls n (suc k) z le e in
    let most = cut.below (suc k) z here.0 here.1 in
    at_least (are.rising 0 (suc k) (event_of x) z (omega arith) (slice_get-map event_of calls 0 ∙ ap (option_map event_of) first) here.1) most
  where
    at_least : IsLower (event_of x) z → z.proc ≤ x.proc.number → z.proc ≡ x.proc.number
    at_least (inl lt) most = omega (arith, lt, most)
    at_least (inr same) most = sym same.0

-- there is one at least
pub stretch_more : (calls : List CodeEvent) (n : ℕ) (x : CodeEvent) → slice_get calls 0 ≡ Some x → IsCut (λ z. z.proc ≤ x.proc.number) (map event_of calls) n → 0 < n
stretch_more calls zero x first cut = absurd (cut.above 0 (event_of x) (omega arith) (slice_get-map event_of calls 0 ∙ ap (option_map event_of) first) (omega arith))
stretch_more calls (suc n) x first cut = omega arith

pub number_at : (procs : List Proc) (k : ℕ) (d : Proc) → k < length procs → slice_get (numbers_of procs) k ≡ Some (slice_index_or procs k d).number
number_at procs k d lt = slice_get-map (λ (p : Proc). p.number) procs k ∙ ap (option_map (λ (p : Proc). p.number)) (slice_get-get_or procs k d lt)
