-- The runs of a placing are those of the plan.
use Rattle.std.proofs.Common.{◌≡◌, ℕ, zero, suc, List, [], ◌∷◌, ◌++◌, length, Bool, true, false, not, cond, nat_eq, Option, Some, None, is_some, option_map, inl, inr, refl, sym, ap, ◌∙◌, subst, arith, slice_get}
use Rattle.std.proofs.Math.Path.{fun_ext}
use Rattle.std.specs.Prelude.{sum_by}
use Rattle.std.specs.List.{list_all}
use Rattle.std.proofs.Common.{nat_le}
use Rattle.std.proofs.lemmas.Bool.{cond_both, cases_eq, true≢false}
use Rattle.std.proofs.lemmas.List.{length_push}
use Rattle.std.proofs.lemmas.List.Sums.{sum_by-cons}
use Rattle.wire_runs.specs.Plan.{Plan, Process, Kind, Leave, Get, GetNow, Publish, Lookup, LookupWait, Unpublish, Fixed, kinds_of, process_kinds, kinds, kind_at, kind, event_count, event_total, process_count, same_node, admits, update, Event}
use Rattle.wire_runs.specs.Puts.{own, stored, scope_of}
use Rattle.wire_runs.specs.Fences.{arrivals, is_complete}
use Rattle.wire_runs.specs.State.{Answer, Duplicate, Success, NotFound, State, start, next_event, next_kind}
use Rattle.wire_runs.specs.Sight.{Sight, Shown, Outside, held, served, get_sees}
use Rattle.wire_runs.specs.Step.{is_seen, may_do, is_enabled, sight_reply, lookup_reply, is_publisher, reply, name_after, step, IsInterleaving, run_from, run}
use Rattle.wire_runs.specs.PlainRun.{or_else, lowest, go_on, plain_from, plain_run}
use Rattle.wire_runs.specs.Placings.{without_reply, IsPlacing}
use Rattle.wire_runs.specs.Laws.{plain_end}
use Rattle.wire_runs.specs.PlacingLaws.{tells_places, PlacingsRunAlike}
use Rattle.wire_runs.proofs.Basics.{update_same, update_other}
use Rattle.wire_runs.proofs.Known.{replies_same, replies_other}
use Rattle.wire_runs.proofs.PlacingKeeps.{is_fixed, IsBlind, kept_with, asked, alike, by_kind, counts, own_same, stored_same, arrivals_same}

may_do_blind : (plan : Plan) (s : State) (x : Event) → IsBlind (may_do plan s x)
may_do_blind plan s x (Some (Fixed reply)) = refl
may_do_blind plan s x _ = refl

name_blind : (before : Option Event) (x : Event) (n : ℕ) → IsBlind (λ o. name_after before x o n)
name_blind before x n (Some (Fixed reply)) = refl
name_blind before x n _ = refl

-- who sees something doesn't depend on scopes and nodes
held_is_seen : (o : Option ℕ) → is_seen (held o) ≡ is_some o
held_is_seen None = refl
held_is_seen (Some put) = refl

served_is_seen : (plan : Plan) (p : ℕ) (same : Bool) (o : Option ℕ) → is_seen (served plan p same o) ≡ is_some o
served_is_seen plan p same None = refl
served_is_seen plan p same (Some put) = cond_both (admits (scope_of plan p put) same) (Shown put) Outside (λ (v : Sight). is_seen v ≡ true) (λ _. refl) (λ _. refl)

sees_something : (plan : Plan) (cut : ℕ → ℕ) (q i p key : ℕ) → is_seen (get_sees plan cut q i p key) ≡ cond (nat_eq q p) (is_some (own plan p key i)) (is_some (stored plan p key (cut p)))
sees_something plan cut q i p key = go (nat_eq q p)
  where
    go : (b : Bool) → is_seen (cond b (held (own plan p key i)) (served plan p (same_node plan p q) (stored plan p key (cut p))))
        ≡ cond b (is_some (own plan p key i)) (is_some (stored plan p key (cut p)))
    go true = held_is_seen (own plan p key i)
    go false = served_is_seen plan p (same_node plan p q) (stored plan p key (cut p))

no_kind : (v : Option Kind) → option_map without_reply v ≡ None → v ≡ None
no_kind None e = refl
no_kind (Some k) e = cc

plain_kind : (q : ℕ) (k : Kind) → tells_places q (Some k) ≡ false → is_fixed k ≡ false
plain_kind q (Fixed reply) f = absurd (true≢false f)
plain_kind q _ f = refl

same_kind : (q : ℕ) (o v : Option Kind) → option_map without_reply o ≡ option_map without_reply v → tells_places q o ≡ false → o ≡ v
same_kind q None v e f = sym (no_kind v (sym e))
same_kind q (Some k) v e f = let plain = plain_kind q k f in sym (kept_with v k plain (sym e ∙ ap (λ k. Some k) (asked k plain)))

-- one answer more behind lists that are alike at a place
push_alike : (xs ys : List Answer) (a b : Answer) (i : ℕ) → length xs ≡ length ys → slice_get xs i ≡ slice_get ys i → (i ≡ length xs → a ≡ b) →
    slice_get (xs ++ a ∷ []) i ≡ slice_get (ys ++ b ∷ []) i
push_alike [] [] a b zero l e h = ap (λ v. Some v) (h refl)
push_alike [] [] a b (suc i) l e h = refl
push_alike [] (y ∷ ys) a b i l e h = absurd (omega (arith, l))
push_alike (x ∷ xs) [] a b i l e h = absurd (omega (arith, l))
push_alike (x ∷ xs) (y ∷ ys) a b zero l e h = e
push_alike (x ∷ xs) (y ∷ ys) a b (suc i) l e h = push_alike xs ys a b i (omega (arith, l)) e (λ f. h (ap suc f))

-- two states, each of a plan of its own, that are as far
pub record AsFar (plan : Plan) (s t : State) : Type 0 where
  pub done : s.done ≡ t.done
  pub names : s.names ≡ t.names
  pub lengths : (p : ℕ) → length (s.replies p) ≡ s.done p
  pub lengths_there : (p : ℕ) → length (t.replies p) ≡ t.done p
  pub replies : (x : Event) → tells_places x.proc (kind plan x) ≡ false → slice_get (s.replies x.proc) x.at ≡ slice_get (t.replies x.proc) x.at

length_step : (plan : Plan) (s : State) (p q : ℕ) → ((r : ℕ) → length (s.replies r) ≡ s.done r) → length ((step plan s p).replies q) ≡ (step plan s p).done q
length_step plan s p q l = elim (cases_eq q p) [
  | inl e ↦ subst (λ r. length ((step plan s p).replies r) ≡ (step plan s p).done r) (sym e)
      (ap length (replies_same plan s p)
      ∙ (let a = length_push (s.replies p) (reply plan s (next_event s p) (kind plan (next_event s p))) in let b = l p in let d = update_same s.done p (suc (s.done p)) in omega (arith, a, b, d)))
  | inr ne ↦ ap length (replies_other plan s p q ne) ∙ l q ∙ sym (update_other s.done p (suc (s.done p)) q ne)
]

module _ (plan other : Plan) (same : IsPlacing plan other) where
  complete_same : (cut : ℕ → ℕ) (members : List ℕ) (j : ℕ) → is_complete plan cut members j ≡ is_complete other cut members j
  complete_same cut members j = ap (λ f. list_all f members) (fun_ext (λ m. ap (nat_le j) (arrivals_same plan other same m members (cut m))))

  sees_same : (cut : ℕ → ℕ) (q i p key : ℕ) → is_seen (get_sees plan cut q i p key) ≡ is_seen (get_sees other cut q i p key)
  sees_same cut q i p key =
      sees_something plan cut q i p key
      ∙ ap (λ o. cond (nat_eq q p) (is_some o) (is_some (stored plan p key (cut p)))) (own_same plan other same p key i)
      ∙ ap (λ o. cond (nat_eq q p) (is_some (own other p key i)) (is_some o)) (stored_same plan other same p key (cut p))
      ∙ sym (sees_something other cut q i p key)

  module _ (s t : State) (far : AsFar plan s t) where
    may_do_same : (x : Event) (o : Option Kind) → may_do plan s x o ≡ may_do other t x o
    may_do_same x None = refl
    may_do_same x (Some (Get owner key)) = ap (λ cut. is_seen (get_sees plan cut x.proc x.at owner key)) far.done ∙ sees_same t.done x.proc x.at owner key
    may_do_same x (Some (Leave members)) =
        ap (λ cut. is_complete plan cut members (arrivals plan x.proc members x.at)) far.done
        ∙ complete_same t.done members (arrivals plan x.proc members x.at)
        ∙ ap (is_complete other t.done members) (arrivals_same plan other same x.proc members x.at)
    may_do_same x (Some (LookupWait name)) = ap (λ f. is_some (f name)) far.names
    may_do_same x (Some _) = refl

    pub enabled_same : (p : ℕ) → is_enabled plan s p ≡ is_enabled other t p
    enabled_same p =
        may_do_same (next_event s p) (next_kind plan s p)
        ∙ by_kind plan other same (may_do other t (next_event s p)) (may_do_blind other t (next_event s p)) p (s.done p)
        ∙ ap (λ (cut : ℕ → ℕ). may_do other t (record { proc = p; at = cut p }) (kind_at other p (cut p))) far.done

    own_held : (q i p key : ℕ) (rest rest' : Sight) → not (nat_eq q p) ≡ false → cond (nat_eq q p) (held (own plan p key i)) rest ≡ cond (nat_eq q p) (held (own other p key i)) rest'
    own_held q i p key rest rest' f = go (nat_eq q p) f
      where
        go : (b : Bool) → not b ≡ false → cond b (held (own plan p key i)) rest ≡ cond b (held (own other p key i)) rest'
        go true f = ap held (own_same plan other same p key i)
        go false f = absurd (true≢false f)

    reply_same : (x : Event) (o : Option Kind) → tells_places x.proc o ≡ false → reply plan s x o ≡ reply other t x o
    reply_same x (Some (Get owner key)) f = ap (sight_reply owner) (own_held x.proc x.at owner key _ _ f)
    reply_same x (Some (GetNow owner key)) f = ap (sight_reply owner) (own_held x.proc x.at owner key _ _ f)
    reply_same x (Some (Publish name)) f = ap (λ v. cond (is_some (v name)) Duplicate Success) far.names
    reply_same x (Some (Lookup name)) f = ap (λ v. lookup_reply (v name)) far.names
    reply_same x (Some (LookupWait name)) f = ap (λ v. lookup_reply (v name)) far.names
    reply_same x (Some (Unpublish name)) f = ap (λ v. cond (is_publisher x.proc (v name)) Success NotFound) far.names
    reply_same x (Some (Fixed r)) f = refl
    reply_same x _ f = refl

    reply_kept : (x : Event) → tells_places x.proc (kind plan x) ≡ false → reply plan s x (kind plan x) ≡ reply other t x (kind other x)
    reply_kept x f =
        reply_same x (kind plan x) f ∙ ap (reply other t x) (same_kind x.proc (kind plan x) (kind other x) (alike plan other same x.proc x.at) f)

    reply_next : (x : Event) (p : ℕ) → x.proc ≡ p → x.at ≡ s.done p → tells_places x.proc (kind plan x) ≡ false →
        reply plan s (next_event s p) (kind plan (next_event s p)) ≡ reply other t (next_event t p) (kind other (next_event t p))
    reply_next x p e i f =
        let is : x ≡ next_event s p = λ k. record { proc = e k; at = i k } in
        reply_kept (next_event s p) (subst (λ (v : Event). tells_places v.proc (kind plan v) ≡ false) is f)
        ∙ ap (λ (cut : ℕ → ℕ). reply other t (record { proc = p; at = cut p }) (kind_at other p (cut p))) far.done

    pub step_same : (p : ℕ) → AsFar plan (step plan s p) (step other t p)
    step_same p = record {
      done = ap (λ (cut : ℕ → ℕ). update cut p (suc (cut p))) far.done;
      names = fun_ext (λ n.
          ap (λ (before : ℕ → Option Event). name_after (before n) (next_event s p) (next_kind plan s p) n) far.names
          ∙ by_kind plan other same (λ o. name_after (t.names n) (next_event s p) o n) (name_blind (t.names n) (next_event s p) n) p (s.done p)
          ∙ ap (λ (cut : ℕ → ℕ). name_after (t.names n) (record { proc = p; at = cut p }) (kind_at other p (cut p)) n) far.done);
      lengths = λ q. length_step plan s p q far.lengths;
      lengths_there = λ q. length_step other t p q far.lengths_there;
      replies = λ x f. elim (cases_eq x.proc p) [
        | inr ne ↦
            ap (λ xs. slice_get xs x.at) (replies_other plan s p x.proc ne) ∙ far.replies x f ∙ ap (λ xs. slice_get xs x.at) (sym (replies_other other t p x.proc ne))
        | inl e ↦
            ap (λ q. slice_get ((step plan s p).replies q) x.at) e
            ∙ ap (λ xs. slice_get xs x.at) (replies_same plan s p)
            ∙ push_alike (s.replies p) (t.replies p) _ _ x.at (far.lengths p ∙ ap (λ (cut : ℕ → ℕ). cut p) far.done ∙ sym (far.lengths_there p))
            (ap (λ q. slice_get (s.replies q) x.at) (sym e) ∙ far.replies x f ∙ ap (λ q. slice_get (t.replies q) x.at) e)
            (λ i. reply_next x p e (i ∙ far.lengths p) f)
            ∙ ap (λ xs. slice_get xs x.at) (sym (replies_same other t p))
            ∙ ap (λ q. slice_get ((step other t p).replies q) x.at) (sym e)
      ];
    }

  pub run_same : (w : List ℕ) (s t : State) → AsFar plan s t → AsFar plan (run_from plan s w) (run_from other t w)
  run_same [] s t far = far
  run_same (p ∷ w) s t far = run_same w (step plan s p) (step other t p) (step_same s t far p)

  interleaving_there : (w : List ℕ) (s t : State) → AsFar plan s t → IsInterleaving plan s w → IsInterleaving other t w
  interleaving_there [] s t far h = tt
  interleaving_there (p ∷ w) s t far h = (sym (enabled_same s t far p) ∙ h.0, interleaving_there w (step plan s p) (step other t p) (step_same s t far p) h.1)

  interleaving_back : (w : List ℕ) (s t : State) → AsFar plan s t → IsInterleaving other t w → IsInterleaving plan s w
  interleaving_back [] s t far h = tt
  interleaving_back (p ∷ w) s t far h = (enabled_same s t far p ∙ h.0, interleaving_back w (step plan s p) (step other t p) (step_same s t far p) h.1)

  lowest_same : (s t : State) → AsFar plan s t → (n : ℕ) → lowest plan s n ≡ lowest other t n
  lowest_same s t far zero = refl
  lowest_same s t far (suc n) =
      ap (λ o. or_else o (cond (is_enabled plan s n) (Some n) None)) (lowest_same s t far n)
      ∙ ap (λ b. or_else (lowest other t n) (cond b (Some n) None)) (enabled_same s t far n)

  plain_same : (fuel : ℕ) (s t : State) → AsFar plan s t → plain_from plan fuel s ≡ plain_from other fuel t
  plain_same zero s t far = refl
  plain_same (suc fuel) s t far =
      ap (λ n. go_on (lowest plan s n) (λ p. plain_from plan fuel (step plan s p))) same.same_count
      ∙ ap (λ o. go_on o (λ p. plain_from plan fuel (step plan s p))) (lowest_same s t far (process_count other))
      ∙ ap (go_on (lowest other t (process_count other))) (fun_ext (λ p. plain_same fuel (step plan s p) (step other t p) (step_same s t far p)))

  start_same : AsFar plan start start
  start_same = record { done = refl; names = refl; lengths = λ p. refl; lengths_there = λ p. refl; replies = λ x f. refl }

total_same : (xs ys : List Process) → length xs ≡ length ys → ((p : ℕ) → length (process_kinds (slice_get xs p)) ≡ length (process_kinds (slice_get ys p))) →
    sum_by (λ (process : Process). length (kinds_of process.calls)) xs ≡ sum_by (λ (process : Process). length (kinds_of process.calls)) ys
total_same [] [] l h = refl
total_same [] (y ∷ ys) l h = absurd (omega (arith, l))
total_same (x ∷ xs) [] l h = absurd (omega (arith, l))
total_same (x ∷ xs) (y ∷ ys) l h =
    let head = h 0 in
    let rest = total_same xs ys (omega (arith, l)) (λ p. h (suc p)) in
    let a = sum_by-cons (λ (process : Process). length (kinds_of process.calls)) x xs in
    let b = sum_by-cons (λ (process : Process). length (kinds_of process.calls)) y ys in
    omega (arith, head, rest, a, b)

totals : (plan other : Plan) → IsPlacing plan other → event_total plan ≡ event_total other
unfolding event_count kinds
totals plan other same = total_same plan.processes other.processes same.same_count (counts plan other same)

pub run_alike : PlacingsRunAlike
run_alike plan other same = record {
  runs = λ w.
      let far = run_same plan other same w start start (start_same plan other same) in
      record {
        interleavings = (interleaving_there plan other same w start start (start_same plan other same), interleaving_back plan other same w start start (start_same plan other same));
        done = λ p. ap (λ (cut : ℕ → ℕ). cut p) far.done;
        names = λ n. ap (λ (v : ℕ → Option Event). v n) far.names;
        enabled = enabled_same plan other same (run plan w) (run other w) far;
        replies = far.replies;
      };
  plain = ap (λ fuel. plain_from plan fuel start) (totals plan other same) ∙ plain_same plan other same (event_total other) start start (start_same plan other same);
}

-- as much is done at the end on all nodes
pub done_alike : (plan other : Plan) → IsPlacing plan other → (p : ℕ) → (plain_end plan).done p ≡ (plain_end other).done p
done_alike plan other same p = ((run_alike plan other same).runs (plain_run plan)).done p ∙ ap (λ w. (run other w).done p) (run_alike plan other same).plain
