-- Where every call of a plan that is settled on all nodes succeeds, and no key is put for other nodes alone, every call
-- succeeds with all processes on one node.
use Rattle.std.proofs.Common.{◌≡◌, ◌∙◌, ap, sym, subst, refl, ℕ, zero, suc, ◌-◌, ◌&&◌, ◌||◌, List, [], ◌∷◌, ◌++◌, Bool, true, false, not, length, map, Option, Some, None, option_map, inl, inr, arith, eq-eqb}
use Rattle.std.specs.Prelude.{slice_get, nat_lt, ◌==◌, if◌then◌else◌}
use Rattle.std.specs.List.{list_all, list_any}
use Rattle.std.proofs.lemmas.Bool.{cases_eq, cases_lt, true≢false}
use Rattle.std.proofs.lemmas.List.{length-map}
use Rattle.std.proofs.lemmas.List.Concat.{flat_map-cons}
use Rattle.std.proofs.lemmas.List.Folds.{list_all-append, list_all-map}
use Rattle.std.proofs.lemmas.Option.{same_Some}
use Rattle.wire_types.specs.Said.{is_reserved}
use Rattle.wire_types.specs.Replies.{bare}
use Rattle.wire_types.specs.declared.Call.{Call as Said}
use Rattle.wire_types.specs.declared.Call.TheVariants as said
use Rattle.wire_types.specs.declared.CallEnd.{CallEnd}
use Rattle.wire_types.specs.declared.CallEnd.TheVariants.{Replied, Waiting, Ready, Unreached}
use Rattle.wire_types.specs.declared.Reply.{Reply}
use Rattle.wire_types.specs.declared.Scope.{Scope}
use Rattle.wire_types.specs.declared.Scope.TheVariants.{Local, Remote, Global}
use Rattle.wire_types.specs.declared.Status.{Status}
use Rattle.wire_types.specs.declared.Status.TheVariants as status
use Rattle.wire_runs.specs.Plan.{Plan, Event, Kind, Call, CallPut, CallGet, CallGetNow, CallPublish, CallLookup, CallLookupWait, CallUnpublish, CallFixed}
use Rattle.wire_runs.specs.Plan.{Put, Commit, Arrive, Leave, Get, GetNow, Publish, Lookup, LookupWait, Unpublish, UnpublishAll, Fixed}
use Rattle.wire_runs.specs.Plan.{kind, kind_at, kinds, kinds_of, set_of, event_count, process_count, node_of, same_node, admits}
use Rattle.wire_runs.specs.Puts.{stored, scope_in, scope_of}
use Rattle.wire_runs.specs.Sight.{Shown, Outside, served}
use Rattle.wire_runs.specs.Step.{is_enabled, sight_reply, reply}
use Rattle.wire_runs.specs.State.{Answer, Silent, Success, NotFound, ExistsOutside, Duplicate, Value, Published, Reserved}
use Rattle.wire_runs.specs.Ends.{given, replies_of, calls_of, row, rows_below, standing, unanswered}
use Rattle.wire_runs.specs.Races.{IsSettled}
use Rattle.wire_runs.specs.Laws.{plain_end}
use Rattle.wire_runs.specs.Placings.{without_reply, IsPlacing, IsSettledAnywhere}
use Rattle.wire_runs.specs.PlacingLaws.{tells_places, plain_reply, how_far}
use Rattle.wire_runs.proofs.Anywhere.{no_node, settled_there}
use Rattle.wire_runs.proofs.Known.{Known, reachable_known}
use Rattle.wire_runs.proofs.PlacingKeeps.{kind_kept, stored_same, scope_same, counts, alike as kept_alike}
use Rattle.wire_runs.proofs.PlacingRuns.{done_alike}
use Rattle.wire_runs.proofs.PlacingEnds.{row_alike}
use Rattle.wire_runs.proofs.PlacingReplies.{reflexive, replies_anywhere}
use Rattle.wire_scripts.specs.Process.{Process}
use Rattle.wire_scripts.specs.Reserved.{reserved_reply}
use Rattle.wire_scripts.specs.Scripts.{Scripts, text_at, set_at, calls_in}
use Rattle.wire_scripts.specs.Planned.{planned_call, planned_process, plan_of, reply_of_key}
use Rattle.wire_scripts.specs.Placed.{moved, with_second, node_beside, placed}
use Rattle.wire_scripts.proofs.Moved.{moved_length, as_placing, node_moved}
use Rattle.wire_scripts.proofs.PlannedCalls.{calls_are}
use Rattle.wire_pattern_laws.specs.Finds.{status_of, shown_status, FindsNear, near_value, Finds, from_own, from_near, from_far, far_nothing, far_value, SaysWhatItFinds}
use Rattle.wire_pattern_laws.proofs.SmallFinds.{finds_are_said}
use Rattle.wire_pattern_answers.proofs.Calls.{same_calls}
use Rattle.wire_pattern_answers.proofs.Events.{kinds_are, end_reached, replied_done, answer_is}
use Rattle.wire_pattern_answers.proofs.Placed.{reserved_alike}
use Rattle.wire_pattern_answers.proofs.Same.{own_there, near_there, brought_is_committed}
use Rattle.wire_pattern_stages.specs.Succeeding.{is_success, succeeds, is_remote, puts_remote, process_puts_remote, some_puts_remote}
use Rattle.wire_pattern_commands.specs.Succeeding.{SucceedTogether}

-- tests of lists

left_of : (a b : Bool) → (a && b) ≡ true → a ≡ true
left_of true b e = refl
left_of false b e = e

right_of : (a b : Bool) → (a && b) ≡ true → b ≡ true
right_of true b e = e
right_of false b e = absurd (true≢false (sym e))

both_of : (a b : Bool) → a ≡ true → b ≡ true → (a && b) ≡ true
both_of true b e f = f
both_of false b e f = e

neither_left : (a b : Bool) → (a || b) ≡ false → a ≡ false
neither_left true b e = e
neither_left false b e = refl

neither_right : (a b : Bool) → (a || b) ≡ false → b ≡ false
neither_right true b e = absurd (true≢false e)
neither_right false b e = e

weaker : {A : Type 0} (f g : A → Bool) → ((x : A) → f x ≡ true → g x ≡ true) → (xs : List A) → list_all f xs ≡ true → list_all g xs ≡ true
weaker f g imp [] e = refl
weaker f g imp (x ∷ xs) e = both_of _ _ (imp x (left_of _ _ e)) (weaker f g imp xs (right_of _ _ e))

none_at : {A : Type 0} (f : A → Bool) (xs : List A) (i : ℕ) (x : A) → list_any f xs ≡ false → slice_get xs i ≡ Some x → f x ≡ false
none_at f [] i x e at = cc
none_at f (y ∷ ys) zero x e at = ap f (sym (same_Some y x at)) ∙ neither_left _ _ e
none_at f (y ∷ ys) (suc i) x e at = none_at f ys i x (neither_right _ _ e) at

-- statuses

succeeded : (s : Status) → is_success s ≡ true → s ≡ status.Success
succeeded status.Success e = refl
succeeded status.NotFound e = absurd (true≢false (sym e))
succeeded status.ExistsOutsideScope e = absurd (true≢false (sym e))
succeeded status.DuplicateKey e = absurd (true≢false (sym e))
succeeded status.BadParam e = absurd (true≢false (sym e))

-- an answer that gives success, or nothing
abbrev good : Answer → Bool
good a = is_success (status_of a)

-- whether the replies that an answer gives succeed
given_good : (plan : Plan) (a : Answer) → list_all succeeds (map Replied (given plan a)) ≡ good a
given_good plan Silent = refl
given_good plan Success = refl
given_good plan NotFound = refl
given_good plan ExistsOutside = refl
given_good plan Duplicate = refl
given_good plan (Value put) = refl
given_good plan (Published publish) = refl
given_good plan (Reserved reply) = one (is_success reply.status)
  where
    one : (b : Bool) → (b && true) ≡ b
    one true = refl
    one false = refl

map-append : (xs ys : List Reply) → map Replied (xs ++ ys) ≡ map Replied xs ++ map Replied ys
map-append [] ys = refl
map-append (x ∷ xs) ys = ap (λ zs. Replied x ∷ zs) (map-append xs ys)

replies_good : (plan : Plan) (answers : List Answer) → list_all succeeds (map Replied (replies_of plan answers)) ≡ list_all good answers
replies_good plan [] = refl
replies_good plan (a ∷ answers) =
    ap (λ rs. list_all succeeds (map Replied rs)) (flat_map-cons (given plan) a answers)
    ∙ ap (list_all succeeds) (map-append (given plan a) (replies_of plan answers))
    ∙ list_all-append succeeds (map Replied (given plan a)) (map Replied (replies_of plan answers))
    ∙ ap (λ b. b && list_all succeeds (map Replied (replies_of plan answers))) (given_good plan a)
    ∙ ap (λ b. good a && b) (replies_good plan answers)

-- where each answer that is good is so in another list of as many, all are
all_good : (xs ys : List Answer) → length xs ≡ length ys
    → ((i : ℕ) (a b : Answer) → slice_get xs i ≡ Some a → slice_get ys i ≡ Some b → good a ≡ true → good b ≡ true)
    → list_all good xs ≡ true → list_all good ys ≡ true
all_good [] [] many each h = refl
all_good [] (b ∷ ys) many each h = absurd (omega (arith, many))
all_good (a ∷ xs) [] many each h = absurd (omega (arith, many))
all_good (a ∷ xs) (b ∷ ys) many each h =
    both_of _ _ (each 0 a b refl refl (left_of _ _ h)) (all_good xs ys (omega (arith, many)) (λ i. each (suc i)) (right_of _ _ h))

-- whether a call has its reply
abbrev has_reply : CallEnd → Bool
has_reply (Replied reply) = true
has_reply end = false

succeeds_replied : (e : CallEnd) → succeeds e ≡ true → has_reply (how_far e) ≡ true
succeeds_replied (Replied reply) h = refl
succeeds_replied Waiting h = absurd (true≢false (sym h))
succeeds_replied Ready h = absurd (true≢false (sym h))
succeeds_replied Unreached h = absurd (true≢false (sym h))

standing_far : (b : Bool) → has_reply (how_far (standing b)) ≡ false
standing_far true = refl
standing_far false = refl

-- where each call has its reply, there is none without
nothing_left : (b : Bool) (n : ℕ) → list_all (λ e. has_reply (how_far e)) (unanswered b n) ≡ true → list_all succeeds (unanswered b n) ≡ true
nothing_left b zero h = refl
nothing_left b (suc n) h = absurd (true≢false (sym (left_of _ _ h) ∙ standing_far b))

-- kinds of the events of calls

abbrev IsForOneNode : Option Kind → Type 0
IsForOneNode k = admits (scope_in k) true ≡ true

abbrev IsSafe : List Kind → Type 0
IsSafe ks = (i : ℕ) → IsForOneNode (slice_get ks i)

one_safe : (k : Kind) (ks : List Kind) → IsForOneNode (Some k) → IsSafe ks → IsSafe (k ∷ ks)
one_safe k ks h more zero = h
one_safe k ks h more (suc i) = more i

unless_safe : (b : Bool) (r : Reply) (call : Call) (calls : List Call) → IsSafe (kinds_of (call ∷ calls)) → IsSafe (kinds_of calls)
    → IsSafe (kinds_of ((if b then CallFixed r else call) ∷ calls))
unless_safe true r call calls own more = one_safe (Fixed r) (kinds_of calls) refl more
unless_safe false r call calls own more = own

not_remote : (scope : Scope) → is_remote scope ≡ false → admits scope true ≡ true
not_remote Local e = refl
not_remote Remote e = absurd (true≢false e)
not_remote Global e = refl

-- puts that aren't for other nodes alone are for processes of the owner's node
puts_safe : (s : Scripts) (calls : List Said) → list_any puts_remote calls ≡ false → IsSafe (kinds_of (map (planned_call s) calls))
puts_safe s [] none = λ i. refl
puts_safe s (said.Put scope key value ∷ calls) none =
    let more = puts_safe s calls (neither_right _ _ none) in
    unless_safe (is_reserved (text_at s.keys key)) _ (CallPut key scope) (map (planned_call s) calls)
    (one_safe (Put key scope) _ (not_remote scope (neither_left _ _ none)) more) more
puts_safe s (said.Commit ∷ calls) none = one_safe Commit _ refl (puts_safe s calls none)
puts_safe s (said.Fence set collect ∷ calls) none =
    let rest = kinds_of (map (planned_call s) calls) in
    let leave = Leave (set_of (set_at s.sets set)) in
    one_safe (Arrive (set_of (set_at s.sets set)) collect) (leave ∷ rest) refl (one_safe leave rest refl (puts_safe s calls none))
puts_safe s (said.Get owner key ∷ calls) none =
    let more = puts_safe s calls none in unless_safe (is_reserved (text_at s.keys key)) _ (CallGet owner.number key) _ (one_safe (Get owner.number key) _ refl more) more
puts_safe s (said.GetNow owner key ∷ calls) none =
    let more = puts_safe s calls none in unless_safe (is_reserved (text_at s.keys key)) _ (CallGetNow owner.number key) _ (one_safe (GetNow owner.number key) _ refl more) more
puts_safe s (said.Publish name value ∷ calls) none =
    let more = puts_safe s calls none in unless_safe (is_reserved (text_at s.names name)) _ (CallPublish name) _ (one_safe (Publish name) _ refl more) more
puts_safe s (said.Lookup name ∷ calls) none =
    let more = puts_safe s calls none in unless_safe (is_reserved (text_at s.names name)) _ (CallLookup name) _ (one_safe (Lookup name) _ refl more) more
puts_safe s (said.LookupWait name ∷ calls) none =
    let more = puts_safe s calls none in unless_safe (is_reserved (text_at s.names name)) _ (CallLookupWait name) _ (one_safe (LookupWait name) _ refl more) more
puts_safe s (said.Unpublish name ∷ calls) none =
    let more = puts_safe s calls none in unless_safe (is_reserved (text_at s.names name)) _ (CallUnpublish name) _ (one_safe (Unpublish name) _ refl more) more
puts_safe s (said.UnpublishAll ∷ calls) none = one_safe UnpublishAll _ refl (puts_safe s calls none)

none_of : (s : Scripts) (p : ℕ) → some_puts_remote s ≡ false → list_any puts_remote (calls_in (slice_get s.processes p)) ≡ false
none_of s p none = go (slice_get s.processes p) refl
  where
    go : (o : Option Process) → slice_get s.processes p ≡ o → list_any puts_remote (calls_in o) ≡ false
    go None e = refl
    go (Some process) e = none_at process_puts_remote s.processes p process none e

-- the status of a reply that is known from the start
abbrev fixed_status : Option Kind → Status
fixed_status (Some (Fixed reply)) = reply.status
fixed_status _ = status.Success

abbrev AreAlikeFixed : List Kind → List Kind → Type 0
AreAlikeFixed ks ls = (i : ℕ) → fixed_status (slice_get ks i) ≡ fixed_status (slice_get ls i)

one_alike : (k l : Kind) (ks ls : List Kind) → fixed_status (Some k) ≡ fixed_status (Some l) → AreAlikeFixed ks ls → AreAlikeFixed (k ∷ ks) (l ∷ ls)
one_alike k l ks ls h more zero = h
one_alike k l ks ls h more (suc i) = more i

unless_alike : (b : Bool) (r t : Reply) (call : Call) (calls others : List Call) → r.status ≡ t.status → AreAlikeFixed (kinds_of (call ∷ calls)) (kinds_of (call ∷ others))
    → AreAlikeFixed (kinds_of calls) (kinds_of others)
    → AreAlikeFixed (kinds_of ((if b then CallFixed r else call) ∷ calls)) (kinds_of ((if b then CallFixed t else call) ∷ others))
unless_alike true r t call calls others h own more = one_alike (Fixed r) (Fixed t) _ _ h more
unless_alike false r t call calls others h own more = own

either_alike : (b : Bool) (x y u v : Reply) → x.status ≡ u.status → y.status ≡ v.status → (if b then x else y).status ≡ (if b then u else v).status
either_alike true x y u v h k = h
either_alike false x y u v h k = k

module _ (s : Scripts) (names : List (List ℕ)) (nodes : ℕ → ℕ) where
  abbrev other : Scripts
  other = moved s names nodes

  key_status : (owner key : ℕ) → (reply_of_key s owner key).status ≡ (reply_of_key other owner key).status
  key_status owner key =
      either_alike (nat_lt owner (length s.processes)) (reserved_reply s.processes owner (text_at s.keys key)) (bare status.NotFound)
      (reserved_reply other.processes owner (text_at s.keys key)) (bare status.NotFound) (reserved_alike s.processes other.processes owner owner (text_at s.keys key)) refl
      ∙ ap (λ n. (if nat_lt owner n then reserved_reply other.processes owner (text_at s.keys key) else bare status.NotFound).status) (sym (moved_length nodes 0 s.processes))

  -- it is the same on other nodes
  fixed_alike : (calls : List Said) → AreAlikeFixed (kinds_of (map (planned_call s) calls)) (kinds_of (map (planned_call other) calls))
  fixed_alike [] = λ i. refl
  fixed_alike (said.Put scope key value ∷ calls) =
      let more = fixed_alike calls in unless_alike (is_reserved (text_at s.keys key)) _ _ (CallPut key scope) _ _ refl (one_alike _ _ _ _ refl more) more
  fixed_alike (said.Commit ∷ calls) = one_alike Commit Commit _ _ refl (fixed_alike calls)
  fixed_alike (said.Fence set collect ∷ calls) =
      let rest = kinds_of (map (planned_call s) calls) in
      let rest_there = kinds_of (map (planned_call other) calls) in
      let arrive = Arrive (set_of (set_at s.sets set)) collect in
      let leave = Leave (set_of (set_at s.sets set)) in
      one_alike arrive arrive (leave ∷ rest) (leave ∷ rest_there) refl (one_alike leave leave rest rest_there refl (fixed_alike calls))
  fixed_alike (said.Get owner key ∷ calls) =
      let more = fixed_alike calls in
      unless_alike (is_reserved (text_at s.keys key)) _ _ (CallGet owner.number key) _ _ (key_status owner.number key) (one_alike _ _ _ _ refl more) more
  fixed_alike (said.GetNow owner key ∷ calls) =
      let more = fixed_alike calls in
      unless_alike (is_reserved (text_at s.keys key)) _ _ (CallGetNow owner.number key) _ _ (key_status owner.number key) (one_alike _ _ _ _ refl more) more
  fixed_alike (said.Publish name value ∷ calls) =
      let more = fixed_alike calls in unless_alike (is_reserved (text_at s.names name)) _ _ (CallPublish name) _ _ refl (one_alike _ _ _ _ refl more) more
  fixed_alike (said.Lookup name ∷ calls) =
      let more = fixed_alike calls in unless_alike (is_reserved (text_at s.names name)) _ _ (CallLookup name) _ _ refl (one_alike _ _ _ _ refl more) more
  fixed_alike (said.LookupWait name ∷ calls) =
      let more = fixed_alike calls in unless_alike (is_reserved (text_at s.names name)) _ _ (CallLookupWait name) _ _ refl (one_alike _ _ _ _ refl more) more
  fixed_alike (said.Unpublish name ∷ calls) =
      let more = fixed_alike calls in unless_alike (is_reserved (text_at s.names name)) _ _ (CallUnpublish name) _ _ refl (one_alike _ _ _ _ refl more) more
  fixed_alike (said.UnpublishAll ∷ calls) = one_alike UnpublishAll UnpublishAll _ _ refl (fixed_alike calls)

  kinds_in : (p : ℕ) → kinds (plan_of s) p ≡ kinds_of (map (planned_call s) (calls_in (slice_get s.processes p)))
  kinds_in p = kinds_are (plan_of s) p ∙ ap kinds_of (calls_are s p)

  kinds_there : (p : ℕ) → kinds (plan_of other) p ≡ kinds_of (map (planned_call other) (calls_in (slice_get s.processes p)))
  kinds_there p = kinds_are (plan_of other) p ∙ ap kinds_of (calls_are other p) ∙ ap (λ calls. kinds_of (map (planned_call other) calls)) (same_calls s names nodes p)

  statuses_there : (x : Event) → fixed_status (kind (plan_of s) x) ≡ fixed_status (kind (plan_of other) x)
  unfolding kind_at
  statuses_there x =
      ap (λ ks. fixed_status (slice_get ks x.at)) (kinds_in x.proc) ∙ fixed_alike (calls_in (slice_get s.processes x.proc)) x.at
      ∙ sym (ap (λ ks. fixed_status (slice_get ks x.at)) (kinds_there x.proc))

-- a call with a reply that is known from the start is one on other nodes
stays_fixed : (k : Option Kind) → Some (Fixed (bare status.Success)) ≡ option_map without_reply k → (r : Reply) × (k ≡ Some (Fixed r))
stays_fixed None e = cc
stays_fixed (Some (Fixed r)) e = (r, refl)
stays_fixed (Some (Put key scope)) e = cc
stays_fixed (Some Commit) e = cc
stays_fixed (Some (Arrive members collect)) e = cc
stays_fixed (Some (Leave members)) e = cc
stays_fixed (Some (Get owner key)) e = cc
stays_fixed (Some (GetNow owner key)) e = cc
stays_fixed (Some (Publish name)) e = cc
stays_fixed (Some (Lookup name)) e = cc
stays_fixed (Some (LookupWait name)) e = cc
stays_fixed (Some (Unpublish name)) e = cc
stays_fixed (Some UnpublishAll) e = cc

served_good : (plan : Plan) (p put : ℕ) (same : Bool) → admits (scope_of plan p put) same ≡ true → good (sight_reply p (served plan p same (Some put))) ≡ true
served_good plan p put same h = ap (λ b. good (sight_reply p (if b then Shown put else Outside))) h

module _ (here there : Plan) (same : IsPlacing here there) (everywhere : IsSettledAnywhere here) (one_node : (a b : ℕ) → same_node there a b ≡ true)
    (no_remote : (p i : ℕ) → admits (scope_of here p i) true ≡ true) (statuses : (x : Event) → fixed_status (kind here x) ≡ fixed_status (kind there x)) where
  settled_here : IsSettled here
  settled_here = settled_there here here (reflexive here) everywhere

  settled_too : IsSettled there
  settled_too = settled_there here there same everywhere

  known_here : Known here (plain_end here)
  known_here = reachable_known here settled_here (plain_end here) (end_reached here settled_here)

  known_there : Known there (plain_end there)
  known_there = reachable_known there settled_too (plain_end there) (end_reached there settled_too)

  no_remote_there : (p i : ℕ) → admits (scope_of there p i) true ≡ true
  no_remote_there p i = ap (λ c. admits c true) (sym (scope_same here there same p i)) ∙ no_remote p i

  module _ (x : Event) (a b : Answer) (at : plain_reply here x ≡ Some a) (at_there : plain_reply there x ≡ Some b) where
    -- a call that doesn't tell where processes are
    same_good : tells_places x.proc (kind here x) ≡ false → good a ≡ true → good b ≡ true
    same_good untold h =
        let both : a ≡ b = same_Some a b (sym at ∙ sym ((replies_anywhere here everywhere).other_calls x untold there same) ∙ at_there) in ap good (sym both) ∙ h

    -- a get of another's key
    module _ (owner key : ℕ) (is : kind here x ≡ Some (Get owner key)) (ne : x.proc ≡ owner → ⊥) where
      get_good : good a ≡ true → good b ≡ true
      get_good h = go (stored here owner key (event_count here owner)) refl
        where
          said_here : a ≡ sight_reply owner (served here owner (same_node here owner x.proc) (stored here owner key (event_count here owner)))
          said_here = same_Some _ _ (sym at ∙ known_here.answered x owner key (replied_done here settled_here x a at) is ne)

          said_there : b ≡ sight_reply owner (served there owner (same_node there owner x.proc) (stored there owner key (event_count there owner)))
          said_there =
              same_Some _ _ (sym at_there
              ∙ known_there.answered x owner key (replied_done there settled_too x b at_there) (kind_kept here there same x (Get owner key) refl is) ne)

          stored_there : stored here owner key (event_count here owner) ≡ stored there owner key (event_count there owner)
          stored_there = stored_same here there same owner key (event_count here owner) ∙ ap (stored there owner key) (counts here there same owner)

          go : (o : Option ℕ) → stored here owner key (event_count here owner) ≡ o → good b ≡ true
          go None e =
              absurd (true≢false (sym h ∙ ap good said_here ∙ ap (λ o. good (sight_reply owner (served here owner (same_node here owner x.proc) o))) e))
          go (Some put) e =
              ap good said_there
              ∙ ap (λ o. good (sight_reply owner (served there owner (same_node there owner x.proc) o))) (sym stored_there ∙ e)
              ∙ served_good there owner put (same_node there owner x.proc) (ap (admits (scope_of there owner put)) (one_node owner x.proc) ∙ no_remote_there owner put)

    -- a get-now of another's key
    module _ (owner key : ℕ) (is : kind here x ≡ Some (GetNow owner key)) where
      says_here : SaysWhatItFinds here x owner key
      says_here = finds_are_said here x owner key settled_here is

      says_there : SaysWhatItFinds there x owner key
      says_there = finds_are_said there x owner key settled_too (kind_kept here there same x (GetNow owner key) refl is)

      near_good : (x.proc ≡ owner → ⊥) → FindsNear here x owner key status.Success → Finds there x owner key status.Success
      near_good ne f = near_there here there same x owner key status.Success ne (one_node owner x.proc) f

      finds_too : Finds here x owner key status.Success → Finds there x owner key status.Success
      finds_too (from_own e f) = own_there here there same x owner key status.Success e f
      finds_too (from_near ne near f) = near_good ne f
      finds_too (from_far ne away (far_nothing none f)) = absurd (no_such f)
        where
          no_such : status.Success ≡ status.NotFound → ⊥
          no_such e = cc
      finds_too (from_far ne away (far_value d delivers none f)) =
          let stands = brought_is_committed here settled_here x owner key away d delivers none in
          near_good ne (near_value stands.at stands.put stands.stores stands.is_live stands.not_before stands.put_is
          (sym (ap shown_status (no_remote owner stands.put))))

      now_good : good a ≡ true → good b ≡ true
      now_good h =
          let found = (says_here.answered (plain_end here) a (end_reached here settled_here) at).1 in
          let found_success = subst (Finds here x owner key) (succeeded (status_of a) h) found in
          let answered = says_there.answered (plain_end there) b (end_reached there settled_too) at_there in
          ap is_success (says_there.one answered.0 (status_of b) status.Success answered.1 (finds_too found_success))

    -- a call of a reserved key or name
    fixed_good : (r : Reply) → kind here x ≡ Some (Fixed r) → good a ≡ true → good b ≡ true
    fixed_good r is h =
        let there_is = stays_fixed (kind there x) (sym (ap (option_map without_reply) is) ∙ kinds_alike) in
        let said_here = answer_is here settled_here x a (Fixed r) is at in
        let said_there = answer_is there settled_too x b (Fixed there_is.0) there_is.1 at_there in
        ap good said_there.1 ∙ ap is_success (sym (ap fixed_status there_is.1) ∙ sym (statuses x) ∙ ap fixed_status is) ∙ sym (ap good said_here.1) ∙ h
      where
        kinds_alike : option_map without_reply (kind here x) ≡ option_map without_reply (kind there x)
        kinds_alike = kept_alike here there same x.proc x.at

    event_good : good a ≡ true → good b ≡ true
    event_good h = go (kind here x) refl
      where
        own_key : (owner : ℕ) → x.proc ≡ owner → not (x.proc == owner) ≡ false
        own_key owner e = ap not (eq-eqb _ _ e)

        go : (k : Option Kind) → kind here x ≡ k → good b ≡ true
        go (Some (Get owner key)) is = elim (cases_eq x.proc owner) [
          | inl e ↦ same_good (ap (tells_places x.proc) is ∙ own_key owner e) h
          | inr ne ↦ get_good owner key is ne h
        ]
        go (Some (GetNow owner key)) is = now_good owner key is h
        go (Some (Fixed r)) is = fixed_good r is h
        go None is = same_good (ap (tells_places x.proc) is) h
        go (Some (Put key scope)) is = same_good (ap (tells_places x.proc) is) h
        go (Some Commit) is = same_good (ap (tells_places x.proc) is) h
        go (Some (Arrive members collect)) is = same_good (ap (tells_places x.proc) is) h
        go (Some (Leave members)) is = same_good (ap (tells_places x.proc) is) h
        go (Some (Publish name)) is = same_good (ap (tells_places x.proc) is) h
        go (Some (Lookup name)) is = same_good (ap (tells_places x.proc) is) h
        go (Some (LookupWait name)) is = same_good (ap (tells_places x.proc) is) h
        go (Some (Unpublish name)) is = same_good (ap (tells_places x.proc) is) h
        go (Some UnpublishAll) is = same_good (ap (tells_places x.proc) is) h

  -- the row of a process
  row_good : (p : ℕ) → list_all succeeds (row here (plain_end here) p) ≡ true → list_all succeeds (row there (plain_end there) p) ≡ true
  row_good p h =
      list_all-append succeeds (map Replied (replies_of there ((plain_end there).replies p))) _
      ∙ both_of _ _ (replies_good there ((plain_end there).replies p) ∙ answers_good) rest_good
    where
      many : length ((plain_end here).replies p) ≡ length ((plain_end there).replies p)
      many = known_here.lengths p ∙ done_alike here there same p ∙ sym (known_there.lengths p)

      answers_here : list_all good ((plain_end here).replies p) ≡ true
      answers_here =
          sym (replies_good here ((plain_end here).replies p))
          ∙ left_of _ _ (sym (list_all-append succeeds (map Replied (replies_of here ((plain_end here).replies p))) _) ∙ h)

      answers_good : list_all good ((plain_end there).replies p) ≡ true
      answers_good =
          all_good ((plain_end here).replies p) ((plain_end there).replies p) many (λ i a b at at_there. event_good (record { proc = p; at = i }) a b at at_there) answers_here

      replied_there : list_all (λ e. has_reply (how_far e)) (row there (plain_end there) p) ≡ true
      replied_there =
          sym (list_all-map has_reply how_far (row there (plain_end there) p)) ∙ ap (list_all has_reply) (sym (row_alike here there same p))
          ∙ list_all-map has_reply how_far (row here (plain_end here) p)
          ∙ weaker succeeds (λ e. has_reply (how_far e)) succeeds_replied (row here (plain_end here) p) h

      ready : Bool
      ready = is_enabled there (plain_end there) p

      left : ℕ
      left = length (calls_of there p) - length (replies_of there ((plain_end there).replies p))

      rest_good : list_all succeeds (unanswered ready left) ≡ true
      rest_good =
          nothing_left ready left (right_of (list_all (λ e. has_reply (how_far e)) (map Replied (replies_of there ((plain_end there).replies p)))) _
          (sym (list_all-append (λ e. has_reply (how_far e)) (map Replied (replies_of there ((plain_end there).replies p))) (unanswered ready left)) ∙ replied_there))

  rows_good : (n : ℕ) → list_all (list_all succeeds) (rows_below here (plain_end here) n) ≡ true → list_all (list_all succeeds) (rows_below there (plain_end there) n) ≡ true
  rows_good zero h = refl
  rows_good (suc n) h =
      let split = sym (list_all-append (list_all succeeds) (rows_below here (plain_end here) n) (row here (plain_end here) n ∷ [])) ∙ h in
      list_all-append (list_all succeeds) (rows_below there (plain_end there) n) (row there (plain_end there) n ∷ [])
      ∙ both_of _ _ (rows_good n (left_of _ _ split)) (both_of _ _ (row_good n (left_of _ _ (right_of _ _ split))) refl)

module _ (s : Scripts) where
  abbrev there_all : Scripts
  there_all = placed s []

  placing : IsPlacing (plan_of s) (plan_of there_all)
  placing = as_placing s (with_second s.nodes) (node_beside [])

  count : process_count (plan_of s) ≡ process_count (plan_of there_all)
  count = placing.same_count

  on_first : (q : ℕ) → node_of (plan_of there_all) q ≡ 0
  on_first q = elim (cases_lt q (length s.processes)) [
    | inl low ↦ node_moved s (with_second s.nodes) (node_beside []) q low
    | inr past ↦ no_node (plan_of there_all) q (
        let n = length-map there_all.processes (planned_process there_all) ∙ moved_length (node_beside []) 0 s.processes in omega (arith, n, past))
  ]

  none_remote : some_puts_remote s ≡ false → (p i : ℕ) → admits (scope_of (plan_of s) p i) true ≡ true
  unfolding kind_at
  none_remote none p i =
      ap (λ ks. admits (scope_in (slice_get ks i)) true) (kinds_in s s.nodes (node_beside []) p) ∙ puts_safe s (calls_in (slice_get s.processes p)) (none_of s p none) i

pub all_together : SucceedTogether
all_together s everywhere none h =
    rows_good (plan_of s) (plan_of (placed s [])) (placing s) everywhere (λ a b. eq-eqb _ _ (on_first s a ∙ sym (on_first s b))) (none_remote s none)
    (statuses_there s (with_second s.nodes) (node_beside [])) (process_count (plan_of (placed s [])))
    (ap (λ n. list_all (list_all succeeds) (rows_below (plan_of s) (plain_end (plan_of s)) n)) (sym (count s)) ∙ h)
