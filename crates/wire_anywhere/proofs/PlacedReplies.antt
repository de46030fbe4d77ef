-- What a get replies where its process and the owner have a node of their own, and where its process is alone on its node.
use Rattle.std.proofs.Common.{◌≡◌, ◌∙◌, ap, refl, sym, subst, ℕ, suc, ◌<◌, Bool, true, false, List, Option, Some, None, is_some, ⊎_elim, inl, inr, cond, arith, eq-eqb, ne_eqb, leb-true}
use Rattle.std.specs.Prelude.{◌↔◌, not, if◌then◌else◌}
use Rattle.std.proofs.lemmas.Bool.{cond-false, or_cases, cases_lt, true≢false}
use Rattle.std.proofs.lemmas.Option.{slice_get-get_or}
use Rattle.wire_types.specs.Replies.{bare}
use Rattle.wire_types.specs.declared.CallAt.{CallAt}
use Rattle.wire_types.specs.declared.Proc.{Proc}
use Rattle.wire_types.specs.declared.Scope.{Scope}
use Rattle.wire_types.specs.declared.Scope.TheVariants.{Global}
use Rattle.wire_types.specs.declared.Status.{Status}
use Rattle.wire_types.specs.declared.Status.TheVariants as status
use Rattle.wire_types.specs.declared.Value.TheVariants as value
use Rattle.wire_types.specs.declared.Verb.TheVariants as verb
use Rattle.wire_runs.specs.Plan.{Plan, Event, Get, GetNow, kind, event_count, process_count, node_of, same_node, admits}
use Rattle.wire_runs.specs.Puts.{stored, put_count, scope_of}
use Rattle.wire_runs.specs.Sight.{held, brought}
use Rattle.wire_runs.specs.State.{Success, NotFound, ExistsOutside, IsDone}
use Rattle.wire_runs.specs.Step.{sight_reply}
use Rattle.wire_runs.specs.Ends.{call_of}
use Rattle.wire_runs.specs.Order.{Stores, may_come, Live, Before}
use Rattle.wire_runs.specs.Races.{IsPutOnce, IsSettled}
use Rattle.wire_runs.specs.Laws.{plain_end}
use Rattle.wire_runs.specs.Placings.{paired, HasSurely, IsSettledAnywhere}
use Rattle.wire_runs.specs.PlacingLaws.{tells_places, plain_reply, RepliesAlike}
use Rattle.wire_runs.proofs.Basics.{event_within, process_within, stored_stays, stores_commit}
use Rattle.wire_runs.proofs.Due.{live_may}
use Rattle.wire_runs.proofs.Known.{reachable_known}
use Rattle.wire_runs.proofs.Anywhere.{placing_is, pair_node, first_of_pair, of_pair, settled_there}
use Rattle.wire_runs.proofs.PlacingReplies.{value_at, reflexive, near_is, alone_is, owner_within, get_there, now_near, sure_away, alone_sure, off_node, came_there, replies_anywhere}
use Rattle.wire_plan.specs.Index.{IsFirstPut}
use Rattle.wire_plan.specs.Kinds.{kind_of}
use Rattle.wire_plan.specs.declared.kind.Kind.{Kind as CodeKind}
use Rattle.wire_plan.specs.declared.kind.Kind.TheVariants as code
use Rattle.wire_fates.proofs.KeyFates.{once, stored_is, get_never}
use Rattle.wire_anywhere.specs.Differing.{RepliesWith, IsDiffering, IsUntold, Reserved, Alike}
use Rattle.wire_anywhere.proofs.Coming.{end_reached, done_live}

-- what a server replies that has the put
told_served : (plan : Plan) (x : Event) (p put : ℕ) (b : Bool) → plain_reply plan x ≡ Some (cond b (value_at p put) ExistsOutside) →
    RepliesWith plan x (if b then status.Success else status.ExistsOutsideScope)
told_served plan x p put true h = (value_at p put, value.Put (call_of plan (record { proc = p; at = put })), h, refl)
told_served plan x p put false h = (ExistsOutside, value.Nothing, h, refl)

module _ (plan : Plan) (everywhere : IsSettledAnywhere plan) where
  pub settled_here : IsSettled plan
  settled_here = settled_there plan plan (reflexive plan) everywhere

  module _ (x : Event) where
    -- a get of one's own key replies the same everywhere
    pub own_get : (owner key : ℕ) → kind plan x ≡ Some (Get owner key) → x.proc ≡ owner → IsUntold plan x
    own_get owner key is same = Alike ((replies_anywhere plan everywhere).other_calls x (ap (tells_places x.proc) is ∙ ap not (eq-eqb _ _ same)))

    pub own_get_now : (owner key : ℕ) → kind plan x ≡ Some (GetNow owner key) → x.proc ≡ owner → IsUntold plan x
    own_get_now owner key is same = Alike ((replies_anywhere plan everywhere).other_calls x (ap (tells_places x.proc) is ∙ ap not (eq-eqb _ _ same)))

    same_reply : tells_places x.proc (kind plan x) ≡ false → IsUntold plan x
    same_reply h = Alike ((replies_anywhere plan everywhere).other_calls x h)

    -- nothing is told of what isn't a get
    pub no_get : (sets : List (List ℕ)) (k : CodeKind) → kind plan x ≡ Some (kind_of sets k) → ((owner : Proc) (key : ℕ) → k ≡ code.Get owner key → ⊥) →
        ((owner : Proc) (key : ℕ) → k ≡ code.GetNow owner key → ⊥) → IsUntold plan x
    no_get sets (code.Get owner key) is a b = absurd (a owner key refl)
    no_get sets (code.GetNow owner key) is a b = absurd (b owner key refl)
    no_get sets (code.Fixed reply) is a b = Reserved reply is
    no_get sets (code.Put scope key) is a b = same_reply (ap (tells_places x.proc) is)
    no_get sets code.Commit is a b = same_reply (ap (tells_places x.proc) is)
    no_get sets (code.Arrive set collect) is a b = same_reply (ap (tells_places x.proc) is)
    no_get sets (code.Leave set) is a b = same_reply (ap (tells_places x.proc) is)
    no_get sets (code.Publish name) is a b = same_reply (ap (tells_places x.proc) is)
    no_get sets (code.Lookup name) is a b = same_reply (ap (tells_places x.proc) is)
    no_get sets (code.LookupWait name) is a b = same_reply (ap (tells_places x.proc) is)
    no_get sets (code.Unpublish name) is a b = same_reply (ap (tells_places x.proc) is)
    no_get sets code.UnpublishAll is a b = same_reply (ap (tells_places x.proc) is)

    module _ (d : IsDone (plain_end plan) x) where
      answered : is_some (plain_reply plan x) ≡ true
      answered =
          let k = reachable_known plan settled_here (plain_end plan) (end_reached plan settled_here) in
          ap is_some (slice_get-get_or ((plain_end plan).replies x.proc) x.at Success (let l = k.lengths x.proc in omega (arith, d, l)))

      module _ (p key put : ℕ) (ne : x.proc ≡ p → ⊥) where
        -- the placings with p and x's process on a node of their own, and with x's process alone
        abbrev near : Plan
        near = paired plan p x.proc

        abbrev alone : Plan
        alone = paired plan x.proc x.proc

        module _ (is : kind plan x ≡ Some (Get p key)) where
          -- a get of a key that is never put isn't answered
          pub never_get : put_count plan p key (event_count plan p) ≡ 0 → ⊥
          never_get none = get_never plan x p key (bare status.NotFound) (done_live plan settled_here x d) is ne none

          get_put : IsPutOnce plan p key → is_some (stored plan p key (event_count plan p)) ≡ true
          get_put one =
              let l : Live plan x = done_live plan settled_here x d in
              let promised = sym (cond-false _ _ _ (ne_eqb x.proc p ne)) ∙ subst (λ o. may_come plan x o ≡ true) is (live_may l) in
              elim (or_cases _ _ promised) [
                | inl some ↦ some
                | inr twice ↦ absurd (let le = leb-true _ _ twice in omega (arith, le, one))
              ]

        -- the put is the only one, and this is its scope
        module _ (first : IsFirstPut plan (record { proc = p; at = put }) key) (scope : Scope) (scope_is : scope ≡ scope_of plan p put) where
          one_put : IsPutOnce plan p key
          one_put = once plan settled_here (record { proc = p; at = put }) key first

          stored_all : is_some (stored plan p key (event_count plan p)) ≡ true → stored plan p key (event_count plan p) ≡ Some put
          stored_all = stored_is plan settled_here (record { proc = p; at = put }) key first (event_count plan p)

          served_there : (other : Plan) (same : Bool) → plain_reply other x ≡ Some (cond (admits (scope_of plan p put) same) (value_at p put) ExistsOutside) →
              RepliesWith other x (if admits scope same then status.Success else status.ExistsOutsideScope)
          served_there other same h =
              subst (λ (s : Scope). RepliesWith other x (if admits s same then status.Success else status.ExistsOutsideScope)) (sym scope_is)
              (told_served other x p put (admits (scope_of plan p put) same) h)

          module _ (within_p : p < process_count plan) (within_x : x.proc < process_count plan) where
            both_near : same_node near p x.proc ≡ true
            both_near = near_is plan p x.proc within_p within_x

            is_away : same_node alone p x.proc ≡ false
            is_away = alone_is plan p x.proc within_x ne

          module _ (is : kind plan x ≡ Some (Get p key)) where
            stored_get : stored plan p key (event_count plan p) ≡ Some put
            stored_get = stored_all (get_put is one_put)

            pub get_alike : scope ≡ Global → IsUntold plan x
            get_alike global = Alike (((replies_anywhere plan everywhere).get x p key put is ne answered stored_get).1 (sym scope_is ∙ global))

            pub get_differs : (call : CallAt) (beside apart : Status) → call ≡ call_of plan x → (scope ≡ Global → ⊥) →
                beside ≡ (if admits scope true then status.Success else status.ExistsOutsideScope) →
                apart ≡ (if admits scope false then status.Success else status.ExistsOutsideScope) →
                IsDiffering plan x (record { call = call; verb = verb.Get; owner = record { number = p }; key = key; near = beside; alone = apart })
            get_differs call beside apart call_is not_global beside_is apart_is =
                let in_x = process_within plan x.proc x.at _ is in
                let in_p = owner_within plan p key put stored_get in
                record {
                  call = call_is;
                  asks = is;
                  another = ne;
                  answered = answered;
                  differs = λ alike. not_global (scope_is ∙ ((replies_anywhere plan everywhere).get x p key put is ne answered stored_get).0 alike);
                  near = subst (RepliesWith near x) (sym beside_is) (served_there near true
                      (get_there plan everywhere near (placing_is plan (pair_node p x.proc)) x p key put is ne d stored_get
                      ∙ ap (λ b. Some (cond (admits (scope_of plan p put) b) (value_at p put) ExistsOutside)) (both_near in_p in_x)));
                  alone = subst (RepliesWith alone x) (sym apart_is) (served_there alone false
                      (get_there plan everywhere alone (placing_is plan (pair_node x.proc x.proc)) x p key put is ne d stored_get
                      ∙ ap (λ b. Some (cond (admits (scope_of plan p put) b) (value_at p put) ExistsOutside)) (is_away in_p in_x)));
                }

          module _ (is : kind plan x ≡ Some (GetNow p key)) (commit : ℕ) (stores : Stores plan (record { proc = p; at = commit }) key)
              (before : Before plan (record { proc = p; at = commit }) x) where
            stored_now : stored plan p key (event_count plan p) ≡ Some put
            stored_now =
                let lt = event_within plan p commit _ (stores_commit plan (record { proc = p; at = commit }) key stores) in
                stored_all (stored_stays plan p key (suc commit) (event_count plan p) lt stores.something_after)

            tells : RepliesAlike plan x ↔ ((scope_of plan p put ≡ Global) × HasSurely plan p key x.proc x)
            tells = (replies_anywhere plan everywhere).get_now_after (record { proc = p; at = commit }) x key put is ne answered stores before stored_now

            pub now_alike : scope ≡ Global → HasSurely plan p key x.proc x → IsUntold plan x
            now_alike global sure = Alike (tells.1 (sym scope_is ∙ global, sure))

            in_x : x.proc < process_count plan
            in_x = process_within plan x.proc x.at _ is

            near_now : RepliesWith near x (if admits scope true then status.Success else status.ExistsOutsideScope)
            near_now =
                let same = placing_is plan (pair_node p x.proc) in
                served_there near true
                (now_near plan everywhere near same x p key is ne (came_there plan everywhere near same x d) commit put stores before stored_now
                (both_near (owner_within plan p key put stored_now) in_x))

            alone_now : HasSurely plan p key x.proc x → RepliesWith alone x status.Success
            alone_now sure =
                let same = placing_is plan (pair_node x.proc x.proc) in
                told_served alone x p put true
                (sure_away plan everywhere alone same x p key is ne (came_there plan everywhere alone same x d) commit put stores before stored_now
                (is_away (owner_within plan p key put stored_now) in_x) sure)

            -- alone it finds nothing where it doesn't surely have the key
            nothing_alone : (HasSurely plan p key x.proc x → ⊥) → RepliesWith alone x status.NotFound
            nothing_alone unsure =
                let same = placing_is plan (pair_node x.proc x.proc) in
                let c = came_there plan everywhere alone same x d in
                let away = is_away (owner_within plan p key put stored_now) in_x in
                go (brought alone c.then_ p key (node_of alone x.proc)) refl
                (λ none. off_node plan everywhere alone same x p key is ne c away ∙ ap (λ o. Some (sight_reply p (held o))) none)
                (λ u some. unsure (alone_sure plan everywhere alone same x p key is ne c commit put stores before stored_now away
                (λ m on. let h = of_pair plan x.proc x.proc m (on ∙ first_of_pair plan x.proc x.proc in_x) in ⊎_elim (λ (i : m ≡ x.proc). i) (λ (i : m ≡ x.proc). i) h) u some))
              where
                go : {seen : Option ℕ} (o : Option ℕ) → seen ≡ o → (seen ≡ None → plain_reply alone x ≡ Some NotFound) → ((u : ℕ) → seen ≡ Some u → ⊥) → RepliesWith alone x status.NotFound
                go None e none some = (NotFound, value.Nothing, none e, refl)
                go (Some u) e none some = absurd (some u e)

            told_now : (call : CallAt) (beside apart : Status) → call ≡ call_of plan x → (RepliesAlike plan x → ⊥) →
                beside ≡ (if admits scope true then status.Success else status.ExistsOutsideScope) → RepliesWith alone x apart →
                IsDiffering plan x (record { call = call; verb = verb.GetNow; owner = record { number = p }; key = key; near = beside; alone = apart })
            told_now call beside apart call_is differs beside_is alone_replies = record {
              call = call_is;
              asks = is;
              another = ne;
              answered = answered;
              differs = differs;
              near = subst (RepliesWith near x) (sym beside_is) near_now;
              alone = alone_replies;
            }

            pub now_differs_sure : (call : CallAt) (beside : Status) → call ≡ call_of plan x → (scope ≡ Global → ⊥) → HasSurely plan p key x.proc x →
                beside ≡ (if admits scope true then status.Success else status.ExistsOutsideScope) →
                IsDiffering plan x (record { call = call; verb = verb.GetNow; owner = record { number = p }; key = key; near = beside; alone = status.Success })
            now_differs_sure call beside call_is not_global sure beside_is =
                told_now call beside status.Success call_is (λ alike. not_global (scope_is ∙ (tells.0 alike).0)) beside_is (alone_now sure)

            pub now_differs_unsure : (call : CallAt) (beside : Status) → call ≡ call_of plan x → (HasSurely plan p key x.proc x → ⊥) →
                beside ≡ (if admits scope true then status.Success else status.ExistsOutsideScope) →
                IsDiffering plan x (record { call = call; verb = verb.GetNow; owner = record { number = p }; key = key; near = beside; alone = status.NotFound })
            now_differs_unsure call beside call_is unsure beside_is =
                told_now call beside status.NotFound call_is (λ alike. unsure (tells.0 alike).1) beside_is (nothing_alone unsure)

      -- a get-now without a commit before it replies the same everywhere
      pub no_commit : (p key : ℕ) → kind plan x ≡ Some (GetNow p key) → (x.proc ≡ p → ⊥) →
          ((commit : Event) → commit.proc ≡ p → Stores plan commit key → ¬ (Before plan commit x)) → IsUntold plan x
      no_commit p key is ne none = Alike ((replies_anywhere plan everywhere).get_now_else x p key is ne none)

-- what is stored has been put
pub never_stored : (plan : Plan) (p key : ℕ) (commit : Event) → commit.proc ≡ p → Stores plan commit key → ((n : ℕ) → stored plan p key n ≡ None) → ⊥
never_stored plan p key commit same stores none =
    true≢false (sym stores.something_after ∙ ap is_some (subst (λ q. stored plan q key (suc commit.at) ≡ None) (sym same) (none (suc commit.at))))

-- the commit, told by its process's number
commit_here : (p : ℕ) (commit : Event) → commit.proc ≡ p → commit ≡ record { proc = p; at = commit.at }
commit_here p commit same = λ t. record { proc = same t; at = commit.at }

pub stores_here : (plan : Plan) (p key : ℕ) (commit : Event) → commit.proc ≡ p → Stores plan commit key → Stores plan (record { proc = p; at = commit.at }) key
stores_here plan p key commit same = subst (λ v. Stores plan v key) (commit_here p commit same)

pub before_here : (plan : Plan) (p : ℕ) (x commit : Event) → commit.proc ≡ p → Before plan commit x → Before plan (record { proc = p; at = commit.at }) x
before_here plan p x commit same = subst (λ v. Before plan v x) (commit_here p commit same)

-- one commit of a process stores its key
first_commit : (plan : Plan) (key : ℕ) (x y : Event) → x.proc ≡ y.proc → Stores plan x key → Stores plan y key → x.at < y.at → ⊥
first_commit plan key x y same a b lt =
    true≢false (sym (stored_stays plan y.proc key (suc x.at) y.at lt (subst (λ p. is_some (stored plan p key (suc x.at)) ≡ true) same a.something_after)) ∙ ap is_some b.nothing_before)

pub one_store : (plan : Plan) (key : ℕ) (x y : Event) → x.proc ≡ y.proc → Stores plan x key → Stores plan y key → x ≡ y
one_store plan key x y same a b = elim (cases_lt x.at y.at) [
  | inl lt ↦ absurd (first_commit plan key x y same a b lt)
  | inr ge ↦ elim (cases_lt y.at x.at) [
    | inl lt ↦ absurd (first_commit plan key y x (sym same) b a lt)
    | inr le ↦ (let at : x.at ≡ y.at = omega (arith, ge, le) in λ t. record { proc = same t; at = at t })
  ]
]
