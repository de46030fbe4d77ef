-- Steps of a core: its ranks stay those of the state that its history leads to.
use Rattle.std.proofs.Common.{◌≡◌, ◌∙◌, ap, sym, refl, subst, ℕ, zero, suc, ◌+◌, ◌-◌, ◌<◌, ◌≤◌, List, [], ◌∷◌, ◌++◌, length, map, drop, Bool, true, cond, Option, Some, None, arith, ◌⊎◌, inl, inr}
use Rattle.std.proofs.Common.{append_assoc, count_by, get_or}
use Rattle.std.specs.Prelude.{slice_get, slice_set, vec_capacity, replicate}
use Rattle.std.proofs.lemmas.Option.{slice_get_within, get_or_from_slice_get, same_Some}
use Rattle.std.proofs.lemmas.List.{length-map, length-set, length-append}
use Rattle.std.proofs.lemmas.List.Sums.{sum_by-cons}
use Rattle.std.proofs.lemmas.List.Concat.{flat_map-append}
use Rattle.std.proofs.Math.Seq.{drop-cons}
use Rattle.wire_runs.specs.Plan.{Plan, process_count, Kind, kinds, kind_at, event_count}
use Rattle.wire_types.specs.declared.CallAt.{CallAt}
use Rattle.wire_types.specs.declared.Reply.{Reply}
use Rattle.wire_types.specs.declared.CallEnd.{CallEnd}
use Rattle.wire_types.specs.declared.CallEnd.TheVariants.{Replied}
use Rattle.wire_scripts.specs.Scripts.{Scripts}
use Rattle.wire_scripts.specs.Planned.{plan_of}
use Rattle.wire_store.specs.Kept.{kept_with, kept_after}
use Rattle.wire_plan.specs.declared.Kind.{Kind as CodeKind}
use Rattle.wire_plan.specs.declared.Kind.TheVariants as code
use Rattle.wire_names.specs.Changes.{HasName}
use Rattle.wire_plan.specs.Kinds.{kind_of}
use Rattle.wire_runs.specs.State.{State, start, next_event}
use Rattle.wire_runs.specs.Step.{is_enabled, step, reply, IsInterleaving, run}
use Rattle.wire_runs.specs.Ends.{given, replies_of}
use Rattle.wire_runs.specs.Plan.{event_total}
use Rattle.wire_runs.specs.PlainRun.{lowest, go_on, plain_from}
use Rattle.wire_runs.proofs.Basics.{event_within}
use Rattle.wire_runs.proofs.Length.{runs_end}
use Rattle.wire_runs.proofs.Due.{done_same, done_other}
use Rattle.wire_runs.proofs.Known.{replies_same, replies_other}
use Rattle.wire_runs.proofs.Runs.{run_push, legal_push}
use Rattle.wire_runs.proofs.Lists.{one_longer}
use Rattle.wire_core.specs.Puts.{is_put}
use Rattle.wire_core.specs.Ranks.{puts_left, calls_at, IsRankOf, AreRanksOf, IsCourse}
use Rattle.wire_core.specs.Seeing.{replies_in}
use Rattle.wire_core.specs.declared.rank.Rank.{Rank}

-- elements of a list in which one was replaced
pub get_set : {A : Type 0} (xs : List A) (p : ℕ) (y : A) (i : ℕ) (x : A) → slice_get (slice_set xs p y) i ≡ Some x → ((i ≡ p) × (x ≡ y)) ⊎ ((i ≡ p → ⊥) × (slice_get xs i ≡ Some x))
get_set [] p y i x h = inr (λ e. absurd (none i h), h)
  where
    none : (i : ℕ) → slice_get [] i ≡ Some x → ⊥
    none i h = let lt = slice_get_within [] i x h in omega (arith, lt)
get_set (z ∷ xs) zero y zero x h = inl (refl, sym (same_Some _ _ h))
get_set (z ∷ xs) zero y (suc i) x h = inr ((λ e. omega (arith, e)), h)
get_set (z ∷ xs) (suc p) y zero x h = inr ((λ e. omega (arith, e)), h)
get_set (z ∷ xs) (suc p) y (suc i) x h = elim (get_set xs p y i x h) [
  | inl l ↦ inl (ap suc l.0, l.1)
  | inr r ↦ inr ((λ e. r.0 (omega (arith, e))), r.1)
]

pub count_map : {A B : Type 0} (f : B → Bool) (g : A → B) (xs : List A) → count_by f (map g xs) ≡ count_by (λ x. f (g x)) xs
count_map f g [] = refl
count_map f g (x ∷ xs) = sum_by-cons (λ y. cond (f y) 1 0) (g x) (map g xs) ∙ ap (λ n. cond (f (g x)) 1 0 + n) (count_map f g xs) ∙ sym (sum_by-cons (λ y. cond (f (g y)) 1 0) x xs)

-- a process that hasn't begun
pub new_rank : (plan : Plan) (p : ℕ) (sets : List (List ℕ)) (codes : List CodeKind) (rank : Rank) → map (kind_of sets) codes ≡ kinds plan p → rank.done ≡ 0 → rank.store.puts ≡ [] →
    rank.store.room ≡ count_by is_put (map (kind_of sets) codes) → rank.replies.items ≡ [] → vec_capacity rank.replies ≡ length codes → IsRankOf plan start p rank
unfolding event_count
new_rank plan p sets codes rank shown done puts room replies space = record {
  done = done;
  puts = puts;
  room = room ∙ ap (count_by is_put) shown;
  replies = replies;
  space = let same : length codes ≡ length (kinds plan p) = sym (length-map codes (kind_of sets)) ∙ ap length shown in
      let none : length rank.replies.items ≡ 0 = ap length replies in
      omega (arith, same, none, space);
}

-- a process that another's step leaves alone
pub rank_other : (plan : Plan) (s : State) (p q : ℕ) (rank : Rank) → (q ≡ p → ⊥) → IsRankOf plan s q rank → IsRankOf plan (step plan s p) q rank
rank_other plan s p q rank ne told =
    let same = done_other plan s p q ne in
    record {
      done = told.done ∙ sym same;
      puts = told.puts ∙ ap (kept_after (kind_at plan q) (calls_at plan q)) (sym same);
      room = told.room ∙ ap (puts_left plan q) (sym same);
      replies = told.replies ∙ ap (replies_of plan) (sym (replies_other plan s p q ne));
      space = rw same told.space;
    }

-- what a rank is after one event
pub record IsAdvanced (old new : Rank) (call : CallAt) (e : Kind) (r : Option Reply) : Type 0 where
  pub done : new.done ≡ old.done + 1
  pub puts : new.store.puts ≡ kept_with old.done call old.store.puts (Some e)
  pub room : new.store.room + cond (is_put e) 1 0 ≡ old.store.room
  pub replies : new.replies.items ≡ old.replies.items ++ replies_in r
  pub space : vec_capacity new.replies ≡ vec_capacity old.replies

puts_first : (e : Kind) (es : List Kind) → count_by is_put (e ∷ es) ≡ count_by is_put es + cond (is_put e) 1 0
puts_first e es = let first = sum_by-cons (λ x. cond (is_put x) 1 0) e es in omega (arith, first)

few : (r : Option Reply) (old : List Reply) → length (old ++ replies_in r) ≤ suc (length old)
few r old = let both = length-append old (replies_in r) in let one = go r in omega (arith, both, one)
  where
    go : (r : Option Reply) → length (replies_in r) ≤ 1
    go None = omega arith
    go (Some reply) = omega arith

pub left_first : (plan : Plan) (p n : ℕ) (e : Kind) → kind_at plan p n ≡ Some e → puts_left plan p n ≡ puts_left plan p (suc n) + cond (is_put e) 1 0
unfolding kind_at
left_first plan p n e is =
    let within = slice_get_within (kinds plan p) n e is in
    let here = get_or_from_slice_get (kinds plan p) n e e is in
    ap (count_by is_put) (drop-cons (kinds plan p) n e within ∙ ap (λ x. x ∷ drop (suc n) (kinds plan p)) here)
    ∙ puts_first e (drop (suc n) (kinds plan p))

-- the process that steps
pub rank_step : (plan : Plan) (s : State) (p : ℕ) (old new : Rank) (e : Kind) (r : Option Reply) → IsRankOf plan s p old → kind_at plan p (s.done p) ≡ Some e →
    given plan (reply plan s (next_event s p) (Some e)) ≡ replies_in r → IsAdvanced old new (calls_at plan p (s.done p)) e r → IsRankOf plan (step plan s p) p new
rank_step plan s p old new e r told is answered after =
    let same = done_same plan s p in
    let was = told.done in
    let within = event_within plan p (s.done p) e is in
    let next = after.done in
    let left = left_first plan p (s.done p) e is in
    let taken = after.room in
    let before = told.room in
    let longer : length new.replies.items ≤ suc (length old.replies.items) = subst (λ rs. length rs ≤ suc (length old.replies.items)) (sym after.replies) (few r old.replies.items) in
    let filled = told.space in
    let kept = after.space in
    let room : new.store.room ≡ puts_left plan p (suc (s.done p)) = omega (arith, left, taken, before) in
    let space : length new.replies.items + (event_count plan p - suc (s.done p)) ≤ vec_capacity new.replies = omega (arith, longer, filled, within, kept) in
    record {
      done = omega (arith, next, was, same);
      puts = after.puts ∙ ap (λ n. kept_with n (calls_at plan p (s.done p)) old.store.puts (Some e)) told.done ∙ ap (λ puts. kept_with (s.done p) (calls_at plan p (s.done p)) puts (Some e)) told.puts
          ∙ ap (kept_with (s.done p) (calls_at plan p (s.done p)) (kept_after (kind_at plan p) (calls_at plan p) (s.done p))) (sym is) ∙ ap (kept_after (kind_at plan p) (calls_at plan p)) (sym same);
      room = room ∙ ap (puts_left plan p) (sym same);
      replies = after.replies ∙ ap (λ rs. rs ++ replies_in r) told.replies ∙ ap (λ rs. replies_of plan (s.replies p) ++ rs) (sym answered)
          ∙ ap (λ rs. replies_of plan (s.replies p) ++ rs) (no_more (given plan (reply plan s (next_event s p) (Some e))))
          ∙ sym (flat_map-append (given plan) (s.replies p) (reply plan s (next_event s p) (Some e) ∷ []))
          ∙ ap (λ o. replies_of plan (s.replies p ++ reply plan s (next_event s p) o ∷ [])) (sym is)
          ∙ ap (replies_of plan) (sym (replies_same plan s p));
      space = subst (λ n. length new.replies.items + (event_count plan p - n) ≤ vec_capacity new.replies) (sym same) space;
    }
  where
    no_more : (xs : List Reply) → xs ≡ xs ++ []
    no_more [] = refl
    no_more (x ∷ xs) = ap (λ ys. x ∷ ys) (no_more xs)

-- all processes
pub ranks_step : (plan : Plan) (s : State) (p : ℕ) (ranks : List Rank) (new : Rank) → AreRanksOf plan s ranks → IsRankOf plan (step plan s p) p new →
    AreRanksOf plan (step plan s p) (slice_set ranks p new)
ranks_step plan s p ranks new told now = record {
  count = length-set ranks p new ∙ told.count;
  each = λ q rank is. elim (get_set ranks p new q rank is) [
    | inl e ↦ subst (λ n. IsRankOf plan (step plan s p) n rank) (sym e.0) (subst (λ x. IsRankOf plan (step plan s p) p x) (sym e.1) now)
    | inr o ↦ rank_other plan s p q rank o.0 (told.each q rank o.1)
  ];
}

-- the course after one step of a process that is enabled
pub course_step : (scripts : Scripts) (history : List ℕ) (ranks : List Rank) (p : ℕ) (new : Rank) → IsCourse scripts history ranks →
    is_enabled (plan_of scripts) (run (plan_of scripts) history) p ≡ true → IsRankOf (plan_of scripts) (step (plan_of scripts) (run (plan_of scripts) history) p) p new →
    IsCourse scripts (history ++ p ∷ []) (slice_set ranks p new)
course_step scripts history ranks p new course on now = record {
  legal = legal_push (plan_of scripts) start history p course.legal on;
  told = subst (λ s. AreRanksOf (plan_of scripts) s (slice_set ranks p new)) (sym (run_push (plan_of scripts) start history p))
      (ranks_step (plan_of scripts) (run (plan_of scripts) history) p ranks new course.told now);
}

-- whether a kind is a put isn't told by the sets
pub put_anyway : (a b : List (List ℕ)) (kind : CodeKind) → is_put (kind_of a kind) ≡ is_put (kind_of b kind)
put_anyway a b (code.Put scope key) = refl
put_anyway a b code.Commit = refl
put_anyway a b (code.Arrive set collect) = refl
put_anyway a b (code.Leave set) = refl
put_anyway a b (code.Get owner key) = refl
put_anyway a b (code.GetNow owner key) = refl
put_anyway a b (code.Publish name) = refl
put_anyway a b (code.Lookup name) = refl
put_anyway a b (code.LookupWait name) = refl
put_anyway a b (code.Unpublish name) = refl
put_anyway a b code.UnpublishAll = refl
put_anyway a b (code.Fixed reply) = refl

-- nor is the name that it changes
pub name_anyway : (a b : List (List ℕ)) (kind : CodeKind) (names : List (Option CallAt)) → HasName (Some (kind_of a kind)) names → HasName (Some (kind_of b kind)) names
name_anyway a b (code.Put scope key) names h = tt
name_anyway a b code.Commit names h = tt
name_anyway a b (code.Arrive set collect) names h = tt
name_anyway a b (code.Leave set) names h = tt
name_anyway a b (code.Get owner key) names h = tt
name_anyway a b (code.GetNow owner key) names h = tt
name_anyway a b (code.Publish name) names h = h
name_anyway a b (code.Lookup name) names h = tt
name_anyway a b (code.LookupWait name) names h = tt
name_anyway a b (code.Unpublish name) names h = h
name_anyway a b code.UnpublishAll names h = h
name_anyway a b (code.Fixed reply) names h = tt

-- a put that comes has room in its store
pub step_room : (plan : Plan) (s : State) (p : ℕ) (old : Rank) (e : Kind) → IsRankOf plan s p old → kind_at plan p (s.done p) ≡ Some e → is_put e ≡ true → 0 < old.store.room
step_room plan s p old e told is put =
    let left = left_first plan p (s.done p) e is in
    let one : ◌≡◌ {A = ℕ} (cond (is_put e) 1 0) 1 = rw put refl in
    let room = told.room in
    omega (arith, left, one, room)

-- its reply has room too
pub step_space : (plan : Plan) (s : State) (p : ℕ) (old : Rank) (e : Kind) → IsRankOf plan s p old → kind_at plan p (s.done p) ≡ Some e → length old.replies.items < vec_capacity old.replies
step_space plan s p old e told is =
    let within = event_within plan p (s.done p) e is in
    let space = told.space in
    omega (arith, within, space)

-- and so has the history
pub step_history : (plan : Plan) (w : List ℕ) (p : ℕ) → IsInterleaving plan start w → is_enabled plan (run plan w) p ≡ true → length w < event_total plan
step_history plan w p legal on =
    let longer = runs_end plan (w ++ p ∷ []) (legal_push plan start w p legal on) in
    let one = one_longer w p in
    omega (arith, longer, one)

-- the plain run goes on with the lowest process that is enabled
pub ahead_step : (plan : Plan) (h : List ℕ) (p fuel left : ℕ) (all : List ℕ) → lowest plan (run plan h) (process_count plan) ≡ Some p → left ≡ suc fuel → h ++ plain_from plan left (run plan h) ≡ all →
    (h ++ p ∷ []) ++ plain_from plan fuel (run plan (h ++ p ∷ [])) ≡ all
ahead_step plan h p fuel left all low more is =
    let next : plain_from plan (suc fuel) (run plan h) ≡ p ∷ plain_from plan fuel (step plan (run plan h) p) =
    ap (λ o. go_on o (λ q. plain_from plan fuel (step plan (run plan h) q))) low in
    append_assoc h (p ∷ []) (plain_from plan fuel (run plan (h ++ p ∷ [])))
    ∙ ap (λ s. h ++ p ∷ plain_from plan fuel s) (run_push plan start h p)
    ∙ ap (λ rest. h ++ rest) (sym next)
    ∙ ap (λ n. h ++ plain_from plan n (run plan h)) (sym more)
    ∙ is

-- and ends where nobody is
pub ahead_end : (plan : Plan) (s : State) (fuel : ℕ) → lowest plan s (process_count plan) ≡ None → plain_from plan fuel s ≡ []
ahead_end plan s zero none = refl
ahead_end plan s (suc fuel) none = ap (λ o. go_on o (λ q. plain_from plan fuel (step plan s q))) none

-- one more of the same, and one less to come
pub one_more : {A : Type 0} (xs new all : List A) (x : A) (n i : ℕ) → i < n → new ≡ xs ++ x ∷ [] → xs ++ replicate (n - i) x ≡ all → new ++ replicate (n - (i + 1)) x ≡ all
one_more xs new all x n i lt is before =
    let more : n - i ≡ suc (n - (i + 1)) = omega (arith, lt) in
    ap (λ ys. ys ++ replicate (n - (i + 1)) x) is
    ∙ append_assoc xs (x ∷ []) (replicate (n - (i + 1)) x)
    ∙ ap (λ k. xs ++ replicate k x) (sym more)
    ∙ before

-- and one reply more
pub reply_more : (replies : List Reply) (i : ℕ) (x : Reply) (ends new : List CallEnd) → i < length replies → new ≡ ends ++ Replied (get_or replies i x) ∷ [] →
    ends ++ map Replied (drop i replies) ≡ map Replied replies → new ++ map Replied (drop (i + 1) replies) ≡ map Replied replies
reply_more replies i x ends new lt is before =
    let next : i + 1 ≡ suc i = omega arith in
    ap (λ n. new ++ map Replied (drop n replies)) next
    ∙ ap (λ es. es ++ map Replied (drop (suc i) replies)) is
    ∙ append_assoc ends (Replied (get_or replies i x) ∷ []) (map Replied (drop (suc i) replies))
    ∙ ap (λ rs. ends ++ map Replied rs) (sym (drop-cons replies i x lt))
    ∙ before
