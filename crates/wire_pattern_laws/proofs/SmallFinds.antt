-- What is answered in an instance of any size is found in a small one.
use Rattle.std.proofs.Common.{◌≡◌, ℕ, zero, suc, ◌<◌, ◌≤◌, length, Some, inl, inr, refl, sym, ap, ◌∙◌, subst, arith}
use Rattle.std.specs.Prelude.{slice_get}
use Rattle.std.proofs.lemmas.Option.{same_Some, slice_get_within}
use Rattle.wire_types.specs.declared.Status.{Status}
use Rattle.wire_runs.specs.Plan.{Plan, Event, GetNow, kind}
use Rattle.wire_runs.specs.State.{Answer, State, start, next_event, IsDone}
use Rattle.wire_runs.specs.Step.{reply, IsReachable}
use Rattle.wire_runs.specs.Order.{Live, Before}
use Rattle.wire_runs.specs.Races.{IsSettled}
use Rattle.wire_runs.specs.Embeddings.{pair}
use Rattle.wire_runs.specs.Patterns.{Pattern, Coding, Cast, group, instance_of, IsLawful, IsCastOf}
use Rattle.wire_runs.specs.Restrictions.{restricted, CanGo, on_nodes}
use Rattle.wire_runs.proofs.Due.{closed_cut, due}
use Rattle.wire_runs.proofs.Known.{known_start, reachable_known}
use Rattle.wire_runs.proofs.HaveFates.{have_fates}
use Rattle.wire_runs.proofs.PlacingReplies.{CameTo, came_to_run}
use Rattle.wire_runs.proofs.SmallInstances.{without_length}
use Rattle.wire_pattern_laws.specs.Ordered.{HasRolesInOrder, HasLeast, HasMost, AllowThree, SmallOnesAreSettled}
use Rattle.wire_pattern_laws.specs.Lines.{IsOfLine}
use Rattle.wire_pattern_laws.specs.Finds.{status_of, Finds, FindsAreSaid}
use Rattle.wire_pattern_laws.specs.SmallReplies.{HasSmall, StatusesOfSmall}
use Rattle.wire_pattern_laws.proofs.SmallOrdered.{restricted_order, look, fewer_cast, enough_left, ordered_suffice}
use Rattle.wire_pattern_laws.proofs.FindsByOrder.{Poised, sees, one_finding, fate_finds, fate_found}
use Rattle.wire_pattern_laws.proofs.OneFewer.{finds_left}
use Rattle.wire_pattern_laws.proofs.KeptLines.{line_left}
use Rattle.wire_pattern_laws.proofs.FindsOnPairs.{finds_beside}

-- what a get-now is answered in a run, it finds
module _ (plan : Plan) (settled : IsSettled plan) where
  came_to : (s : State) → IsReachable plan s → (x : Event) → IsDone s x → CameTo plan s x
  came_to s r x d = subst (λ t. CameTo plan t x) r.2 (came_to_run plan settled r.0 start (known_start plan) r.1 (λ z none. absurd (omega (arith, none))) x (subst (λ t. IsDone t x) (sym r.2) d))

  poised : (s : State) (x : Event) → (c : CameTo plan s x) → Poised plan c.then_ x
  poised s x c =
      let is_next : next_event c.then_ x.proc ≡ x = λ k. record { proc = x.proc; at = c.there k } in
      let d = due plan c.then_ x.proc c.known.sound c.enabled in
      record {
        closed = closed_cut c.known.sound;
        answered = c.known.answered;
        known = λ z b. d.earlier_done z (subst (λ v. Before plan z v) (sym is_next) b);
        not_yet = (let at = c.there in omega (arith, at));
        is_live = subst (λ v. Live plan v) is_next d.is_live;
      }

  answer_finds : (s : State) → IsReachable plan s → (get : Event) (owner key : ℕ) → kind plan get ≡ Some (GetNow owner key) → (a : Answer) → slice_get (s.replies get.proc) get.at ≡ Some a →
      Live plan get × Finds plan get owner key (status_of a)
  answer_finds s r get owner key is a said =
      let within = slice_get_within (s.replies get.proc) get.at a said in
      let l = (reachable_known plan settled s r).lengths get.proc in
      let c = came_to s r get (omega (arith, within, l)) in
      let at = poised s get c in
      let w = sees plan settled c.then_ get owner key at in
      let answer = ap status_of (ap (reply plan c.then_ get) (sym is) ∙ same_Some _ _ (sym c.said ∙ said)) in
      (at.is_live, subst (λ f. Finds plan get owner key f) (sym w.shows ∙ answer) w.finds)

pub finds_are_said : FindsAreSaid
finds_are_said plan get owner key settled is = record {
  answered = λ s a r said. answer_finds plan settled s r get owner key is a said;
  something = λ marks l. (let f = have_fates plan settled marks get in fate_found plan settled get owner key l f.0 f.1);
  one = λ l a b f g. one_finding plan settled get owner key is l a b f g;
  fate = λ l found finds fate has. fate_finds plan settled get owner key is l found finds fate has;
}

module _ (pattern : Pattern) (coding : Coding) (bound : ℕ) (least most : ℕ → ℕ) (lawful : IsLawful pattern) (allow : AllowThree bound least most) (small : SmallOnesAreSettled pattern coding bound least most)
    (role n : ℕ) (found : Status) where
  abbrev Small : Type 0
  Small = HasSmall pattern coding bound least most role n found

  -- in an instance a get-now of the line finds something of this status
  pub record FindsIn (cast : Cast) : Type 0 where
    pub cast_is : IsCastOf pattern cast
    pub in_order : HasRolesInOrder bound cast
    pub has_least : HasLeast bound least cast
    pub get : Event
    pub of_line : IsOfLine pattern cast get role n
    pub owner : ℕ
    pub key : ℕ
    pub is : kind (instance_of pattern coding cast) get ≡ Some (GetNow owner key)
    pub is_live : Live (instance_of pattern coding cast) get
    pub finds : Finds (instance_of pattern coding cast) get owner key found

  -- a small one
  here : (cast : Cast) → FindsIn cast → HasMost bound most cast → Small
  here cast f has_most =
      let b = finds_beside pattern coding cast f.get f.owner f.key f.is f.is_live found f.finds in
      let on = on_nodes (pair b.mate f.get.proc) cast in
      let cast_is : IsCastOf pattern on = record { only = f.cast_is.only } in
      let in_order : HasRolesInOrder bound on = record { order = f.in_order.order; below = f.in_order.below } in
      record {
        cast = on;
        cast_is = cast_is;
        in_order = in_order;
        has_least = f.has_least;
        has_most = has_most;
        get = f.get;
        mate = b.mate;
        nodes = λ p. refl;
        of_line = record { its_role = f.of_line.its_role; its_line = f.of_line.its_line };
        owner = f.owner;
        key = f.key;
        is = b.is_there;
        is_live = b.is_live;
        finds = b.finds;
      }

  -- one with one rank fewer
  fewer : (cast : Cast) (other : ℕ) → FindsIn cast → other < bound → most other < length (group other cast.roles) → (r : ℕ) × (slice_get cast.roles r ≡ Some other) × FindsIn (restricted r cast)
  fewer cast other f lt more =
      let cut = (allow other lt).0 in
      let four : 4 ≤ length (group other cast.roles) = omega (arith, cut, more) in
      let can : (r : ℕ) → slice_get cast.roles r ≡ Some other → CanGo pattern cast r other = λ r is. record { lawful = lawful; cast_is = f.cast_is; is = is; four = four } in
      let cast_left : (r : ℕ) → slice_get cast.roles r ≡ Some other → IsCastOf pattern (restricted r cast) = λ r is. fewer_cast pattern coding bound least most lawful allow small cast r other (can r is) in
      let least_left : (r : ℕ) → slice_get cast.roles r ≡ Some other → HasLeast bound least (restricted r cast) =
      λ r is. enough_left pattern coding bound least most lawful allow small cast r other is lt more f.has_least in
      let settled : (r : ℕ) → slice_get cast.roles r ≡ Some other → IsSettled (instance_of pattern coding (restricted r cast)) =
      λ r is. ordered_suffice pattern coding bound least most lawful allow small (restricted r cast) (cast_left r is) (restricted_order bound r cast f.in_order) (least_left r is) in
      let w = finds_left pattern coding cast other lawful f.cast_is four settled f.get f.owner f.key f.is f.is_live found f.finds in
      let is = w.stays.can.is in (
        w.r,
        is,
        record {
          cast_is = cast_left w.r is;
          in_order = restricted_order bound w.r cast f.in_order;
          has_least = least_left w.r is;
          get = w.stays.own_get;
          of_line = line_left pattern coding cast w.r other w.stays.can w.stays.own_get role n (subst (λ v. IsOfLine pattern cast v role n) (sym w.stays.get_is) f.of_line);
          owner = w.stays.own_owner;
          key = w.stays.own_key;
          is = w.stays.is;
          is_live = w.is_live;
          finds = w.finds;
        },
      )

  shrinks : (size : ℕ) (cast : Cast) → length cast.roles ≤ size → FindsIn cast → Small
  shrinks zero cast le f = elim (look pattern coding bound least most lawful allow small cast bound (omega arith)) [
    | inr rest ↦ here cast f rest
    | inl more ↦ absurd (let w = fewer cast more.0 f more.1 more.2 in let shorter = without_length w.0 more.0 cast.roles w.1 in omega (arith, shorter, le))
  ]
  shrinks (suc size) cast le f = elim (look pattern coding bound least most lawful allow small cast bound (omega arith)) [
    | inr rest ↦ here cast f rest
    | inl more ↦ (
        let w = fewer cast more.0 f more.1 more.2 in
        let shorter = without_length w.0 more.0 cast.roles w.1 in
        shrinks size (restricted w.0 cast) (omega (arith, shorter, le)) w.2)
  ]

-- what a live get-now finds in an instance of any size, one of its line finds in a small one
pub finds_of_small : (pattern : Pattern) (coding : Coding) (bound : ℕ) (least most : ℕ → ℕ) → IsLawful pattern → AllowThree bound least most → SmallOnesAreSettled pattern coding bound least most
    → (cast : Cast) → IsCastOf pattern cast → HasRolesInOrder bound cast → HasLeast bound least cast → (get : Event) (role n owner key : ℕ) → IsOfLine pattern cast get role n
    → kind (instance_of pattern coding cast) get ≡ Some (GetNow owner key) → Live (instance_of pattern coding cast) get → (found : Status)
    → Finds (instance_of pattern coding cast) get owner key found → HasSmall pattern coding bound least most role n found
finds_of_small pattern coding bound least most lawful allow small cast cast_is in_order has_least get role n owner key of_line is l found finds =
    shrinks pattern coding bound least most lawful allow small role n found (length cast.roles) cast (omega arith) (record {
      cast_is = cast_is;
      in_order = in_order;
      has_least = has_least;
      get = get;
      of_line = of_line;
      owner = owner;
      key = key;
      is = is;
      is_live = l;
      finds = finds;
    })

pub statuses_of_small : StatusesOfSmall
statuses_of_small pattern coding bound least most lawful allow small cast cast_is in_order has_least s r get role n owner key of_line is a said =
    let settled = ordered_suffice pattern coding bound least most lawful allow small cast cast_is in_order has_least in
    let f = answer_finds (instance_of pattern coding cast) settled s r get owner key is a said in
    finds_of_small pattern coding bound least most lawful allow small cast cast_is in_order has_least get role n owner key of_line is f.0 (status_of a) f.1
