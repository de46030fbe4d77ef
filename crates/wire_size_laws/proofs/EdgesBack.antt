-- An edge of an instance between two images is an edge of the instance with one rank fewer, and its source is an image where its target is.
use Rattle.std.proofs.Common.{◌≡◌, ℕ, ◌<◌, ◌≤◌, List, Bool, true, false, Option, Some, None, is_some, ◌⊎◌, inl, inr, refl, sym, ap, ◌∙◌, subst, arith, eq-eqb, eqb-true}
use Rattle.std.specs.Prelude.{option_map}
use Rattle.std.proofs.lemmas.Bool.{cases_eq, cases_lt, cases_Bool, true≢false}
use Rattle.std.proofs.lemmas.Option.{same_Some}
use Rattle.wire_runs.specs.Plan.{Plan, Event, Kind, Commit, Arrive, Leave, Get, Publish, LookupWait, Unpublish, UnpublishAll, kind, kind_at, event_count}
use Rattle.wire_runs.specs.Fences.{arrivals}
use Rattle.wire_runs.specs.Puts.{own as own_of, stored, put_count}
use Rattle.wire_runs.specs.Names.{takes_name, writes_name}
use Rattle.wire_runs.specs.Order.{Stores, IsArrival, PublishesOnce, Edge, Follows, Meets, Feeds, Announces}
use Rattle.wire_runs.specs.Embeddings.{Renaming, image, image_kind, key_of, name_of, members_of, IsKeyOf, IsNameOf, IsSetOf, IsEmbedding}
use Rattle.wire_runs.specs.Parts.{MayLeave, IsPartEach}
use Rattle.wire_runs.specs.Patterns.{Pattern, Coding, Cast, instance_of}
use Rattle.wire_runs.specs.Restrictions.{skip, back, restricted, removal, pieces_of, CanGo}
use Rattle.wire_runs.proofs.Basics.{event_within, stores_commit}
use Rattle.wire_runs.proofs.Due.{place_path}
use Rattle.wire_runs.proofs.Images.{event_at, event_back, place_up, puts_end, stores_back, arrival_back, writes_same, stored_at_commit}
use Rattle.wire_runs.proofs.Skip.{skip_back}
use Rattle.wire_runs.proofs.Parts.{here, LeavesHere, kept_before, waits_at, none_waits, owns_track, stores_track}
use Rattle.wire_runs.proofs.RestrictedEach.{restricted_each}
use Rattle.wire_runs.proofs.RestrictedOnce.{publish_back}
use Rattle.wire_runs.proofs.RestrictedWhole.{restrictions_embed}
use Rattle.wire_size_laws.proofs.Fewer.{wait_back}

-- what an edge starts from is an event
pub source_kind : (plan : Plan) (x y : Event) (l : Kind) → kind plan y ≡ Some l → Edge plan x y → (k : Kind) × (kind plan x ≡ Some k)
source_kind plan x y l is (Follows same next) =
    let within = event_within plan y.proc y.at l is in
    let low : x.at < event_count plan x.proc = subst (λ p. x.at < event_count plan p) (sym same) (omega (arith, within, next)) in
    event_at plan x.proc x.at low
source_kind plan x y l is (Meets members leave a) = (Arrive members a.collect, a.is)
source_kind plan x y l is (Feeds key get other once stores) = (Commit, stores_commit plan x key stores)
source_kind plan x y l is (Announces name wait once) = (Publish name, once.is)

pub get_back : (to : Renaming) (k : Kind) (owner key : ℕ) → image_kind to k ≡ Get owner key → (whose : ℕ) × (own : ℕ) × (k ≡ Get whose own) × (to.process whose ≡ owner) × (to.key own ≡ key)
get_back to (Get whose own) owner key h = (whose, own, refl, ap owner_in h, ap key_in h)
  where
    owner_in : Kind → ℕ
    owner_in (Get o k) = o
    owner_in _ = owner

    key_in : Kind → ℕ
    key_in (Get o k) = k
    key_in _ = key
get_back to _ owner key h = cc

pub leave_back : (to : Renaming) (k : Kind) (members : List ℕ) → image_kind to k ≡ Leave members → (own : List ℕ) × (k ≡ Leave own) × (to.members own ≡ members)
leave_back to (Leave own) members h = (own, refl, ap members_in h)
  where
    members_in : Kind → List ℕ
    members_in (Leave ms) = ms
    members_in _ = members
leave_back to _ members h = cc

never_left : (to : Renaming) (small plan : Plan) (waits : Bool) (own : ℕ) (x : Event) (k : Kind) → IsNameOf small own → writes_name plan (to.name own) x (Some k) ≡ true → MayLeave to small waits k → ⊥
never_left to small plan waits own x (Publish n) u h l = l own u (sym (eqb-true n (to.name own) h))
never_left to small plan waits own x (Unpublish n) u h l = l own u (sym (eqb-true n (to.name own) h))
never_left to small plan waits own x UnpublishAll u h l = l
never_left to small plan waits own x _ u h l = true≢false (sym h)

module _ (pattern : Pattern) (coding : Coding) (cast : Cast) (r role : ℕ) (can : CanGo pattern cast r role) where
  abbrev to : Renaming
  to = removal pattern coding cast r role

  abbrev small : Plan
  small = instance_of pattern coding (restricted r cast)

  abbrev large : Plan
  large = instance_of pattern coding cast

  e : IsEmbedding to small large
  e = restrictions_embed pattern coding cast r role can

  each : IsPartEach to small large (pieces_of pattern coding cast r)
  each = restricted_each pattern coding cast r role can

  image_or_left : (w : Event) (k : Kind) → (w.proc ≡ r → ⊥) → kind large w ≡ Some k → ((y : Event) × (image to y ≡ w)) ⊎ LeavesHere to small large (back r w.proc) (kept_before (pieces_of pattern coding cast r (back r w.proc))) w.at
  image_or_left w k ne is =
      let there = skip_back r w.proc ne in
      let is' : kind_at large (skip r (back r w.proc)) w.at ≡ Some k = ap (λ v. kind_at large v w.at) there ∙ is in
      elim (here to small large (pieces_of pattern coding cast r) each (back r w.proc) w.at (event_within large (skip r (back r w.proc)) w.at k is')) [
        | inl a ↦ inl (
          record { proc = back r w.proc; at = kept_before (pieces_of pattern coding cast r (back r w.proc)) w.at },
          sym (place_path w (skip r (back r w.proc)) (to.place (back r w.proc) (kept_before (pieces_of pattern coding cast r (back r w.proc)) w.at)) (sym there) (sym a.stands)),
        )
        | inr a ↦ inr a
      ]

  writer_is_image : (w : Event) (own : ℕ) → IsNameOf small own → (w.proc ≡ r → ⊥) → writes_name large (to.name own) w (kind large w) ≡ true → (y : Event) × (image to y ≡ w)
  writer_is_image w own u ne h = go (kind large w) refl h
    where
      go : (o : Option Kind) → kind large w ≡ o → writes_name large (to.name own) w o ≡ true → (y : Event) × (image to y ≡ w)
      go None is h = absurd (true≢false (sym h))
      go (Some k) is h = elim (image_or_left w k ne is) [
        | inl y ↦ y
        | inr a ↦ absurd (
            let same : a.what ≡ k = same_Some _ _ (sym a.large_is ∙ ap (λ v. kind_at large v w.at) (skip_back r w.proc ne) ∙ is) in
            never_left to small large _ own w k u h (subst (MayLeave to small _) same a.may_leave))
      ]

  storer_is_image : (c : Event) (own : ℕ) → IsKeyOf small own → (c.proc ≡ r → ⊥) → Stores large c (to.key own) → (y : Event) × (image to y ≡ c)
  storer_is_image c own u ne stores =
      let commit = stores_commit large c (to.key own) stores in
      elim (image_or_left c Commit ne commit) [
        | inl y ↦ y
        | inr a ↦ absurd (
            let q = back r c.proc in
            let there = skip_back r c.proc ne in
            let same : a.what ≡ Commit = same_Some _ _ (sym a.large_is ∙ ap (λ v. kind_at large v c.at) there ∙ commit) in
            let quiet : waits_at (kind_at small q) false (kept_before (pieces_of pattern coding cast r q) c.at) ≡ false = subst (MayLeave to small _) same a.may_leave in
            let lt = event_within large c.proc c.at Commit commit in
            let le : c.at ≤ event_count large (skip r q) = subst (λ v. c.at ≤ event_count large v) (sym there) (omega (arith, lt)) in
            let own_is : own_of large (skip r q) (to.key own) c.at ≡ stored large (skip r q) (to.key own) c.at =
            owns_track to small large (pieces_of pattern coding cast r) each q own u c.at le
            ∙ ap (option_map (to.place q)) (none_waits (kind_at small q) own (kept_before (pieces_of pattern coding cast r q) c.at) quiet)
            ∙ sym (stores_track to small large (pieces_of pattern coding cast r) each q own u c.at le) in
            let none : own_of large c.proc (to.key own) c.at ≡ None = subst (λ v. own_of large v (to.key own) c.at ≡ stored large v (to.key own) c.at) there own_is ∙ stores.nothing_before in
            true≢false (sym (stored_at_commit large c (to.key own) commit stores.something_after) ∙ ap is_some none))
      ]

  arrival_is_image : (w : Event) (own members : List ℕ) (collect : Bool) → IsSetOf small own → to.members own ≡ members → (w.proc ≡ r → ⊥) → kind large w ≡ Some (Arrive members collect) → (y : Event) × (image to y ≡ w)
  arrival_is_image w own members collect u same ne is = elim (image_or_left w (Arrive members collect) ne is) [
    | inl y ↦ y
    | inr a ↦ absurd (
        let what : a.what ≡ Arrive members collect = same_Some _ _ (sym a.large_is ∙ ap (λ v. kind_at large v w.at) (skip_back r w.proc ne) ∙ is) in
        (subst (MayLeave to small _) what a.may_leave) own u same)
  ]

  -- what stands earlier in the same process
  abbrev IsEarlier : Event → Event → Type 0
  IsEarlier x y = (x.proc ≡ y.proc) × (x.at < y.at)

  pub source_image : (y x : Event) → (x.proc ≡ r → ⊥) → Edge large x (image to y) → ((z : Event) × (image to z ≡ x)) ⊎ IsEarlier x (image to y)
  source_image y x ne (Follows same next) = inr (same, omega (arith, next))
  source_image y x ne (Meets members is a) =
      let b = event_back to small large e y _ is in
      let l = leave_back to b.0 members b.2 in
      inl (arrival_is_image x l.0 members a.collect (y, b.0, b.1, ap members_of l.1) l.2 ne a.is)
  source_image y x ne (Feeds key is other once stores) =
      let b = event_back to small large e y _ is in
      let g = get_back to b.0 x.proc key b.2 in
      inl (storer_is_image x g.1 (y, b.0, b.1, ap key_of g.2) ne (subst (Stores large x) (sym g.4) stores))
  source_image y x ne (Announces name is once) =
      let b = event_back to small large e y _ is in
      let w = wait_back to b.0 name b.2 in
      inl (writer_is_image x w.0 (y, b.0, b.1, ap name_of w.1) ne (ap (writes_name large (to.name w.0) x) once.is ∙ eq-eqb name (to.name w.0) (sym w.2)))

  place_one : (p n m : ℕ) → to.place p n ≡ to.place p m → n ≡ m
  place_one p n m same = elim (cases_lt n m) [
    | inl lt ↦ absurd (let up = place_up to small large e p n m lt in omega (arith, up, same))
    | inr ge ↦ elim (cases_eq n m) [
      | inl s ↦ s
      | inr ne ↦ absurd (let up = place_up to small large e p m n (omega (arith, ge, ne)) in omega (arith, up, same))
    ]
  ]

  image_one : (a b : Event) → image to a ≡ image to b → a ≡ b
  image_one a b s =
      let p = e.one_process a.proc b.proc (ap (λ (v : Event). v.proc) s) in
      let at : to.place a.proc a.at ≡ to.place b.proc b.at = ap (λ (v : Event). v.at) s in
      place_path a b.proc b.at p (place_one b.proc a.at b.at (ap (λ v. to.place v a.at) (sym p) ∙ at))

  takes_up : (name : ℕ) → IsNameOf small name → (y : Event) (k : Kind) → kind small y ≡ Some k → takes_name small name y (Some k) ≡ true → takes_name large (to.name name) (image to y) (Some (image_kind to k)) ≡ true
  takes_up name u y (Unpublish n) is t = writes_same to small large e name u y (Unpublish n) is ∙ t
  takes_up name u y UnpublishAll is t = writes_same to small large e name u y UnpublishAll is ∙ t
  takes_up name u y _ is t = absurd (true≢false (sym t))

  once_fewer : (x : Event) (name : ℕ) → IsNameOf small name → PublishesOnce large (image to x) (to.name name) → PublishesOnce small x name
  once_fewer x name u o =
      let b = event_back to small large e x _ o.is in
      let p = publish_back to b.0 (to.name name) b.2 in
      let is : kind small x ≡ Some (Publish p.0) = b.1 ∙ ap Some p.2 in
      let same = e.one_name p.0 name (x, Publish p.0, is, refl) u p.1 in
      record {
        is = is ∙ ap (λ v. Some (Publish v)) same;
        only = λ y publishes. image_one y x (o.only (image to y) (e.kinds_agree y _ publishes));
        stays = λ y. stays y (kind small y) refl;
      }
    where
      stays : (y : Event) (q : Option Kind) → kind small y ≡ q → takes_name small name y q ≡ false
      stays y None is = refl
      stays y (Some k) is = elim (cases_Bool (takes_name small name y (Some k))) [
        | inr f ↦ f
        | inl t ↦ absurd (true≢false (sym (ap (takes_name large (to.name name) (image to y)) (e.kinds_agree y k is) ∙ takes_up name u y k is t) ∙ o.stays (image to y)))
      ]

  pub edge_fewer : (x y : Event) → Edge large (image to x) (image to y) → Edge small x y ⊎ IsEarlier (image to x) (image to y)
  edge_fewer x y (Follows same next) = inr (same, omega (arith, next))
  edge_fewer x y (Meets members is a) =
      let b = event_back to small large e y _ is in
      let l = leave_back to b.0 members b.2 in
      let leaves : kind small y ≡ Some (Leave l.0) = b.1 ∙ ap Some l.1 in
      let within = event_within small y.proc y.at _ leaves in
      let w = arrival_back to small large e x members (arrivals large (to.process y.proc) members (to.place y.proc y.at)) a in
      let arrives = w.2 in
      let set : w.0 ≡ l.0 = each.one_set w.0 l.0 (x, Arrive w.0 arrives.collect, arrives.is, refl) (y, Leave l.0, leaves, refl) (w.1 ∙ sym l.2) in
      let nth : arrivals large (to.process y.proc) members (to.place y.proc y.at) ≡ arrivals small y.proc l.0 y.at =
      ap (λ ms. arrivals large (to.process y.proc) ms (to.place y.proc y.at)) (sym l.2) ∙ e.arrives l.0 y.proc y.at (y, Leave l.0, leaves, refl) (omega (arith, within)) in
      inl (Meets l.0 leaves (subst (λ j. IsArrival small l.0 j x) nth (subst (λ ms. IsArrival small ms (arrivals large (to.process y.proc) members (to.place y.proc y.at)) x) set arrives)))
  edge_fewer x y (Feeds key is other once stores) =
      let b = event_back to small large e y _ is in
      let g = get_back to b.0 (to.process x.proc) key b.2 in
      let owner : g.0 ≡ x.proc = e.one_process g.0 x.proc g.3 in
      let gets : kind small y ≡ Some (Get x.proc g.1) = b.1 ∙ ap Some g.2 ∙ ap (λ v. Some (Get v g.1)) owner in
      let u : IsKeyOf small g.1 = (y, Get x.proc g.1, gets, refl) in
      inl (Feeds g.1 gets (λ s. other (ap to.process s))
      (sym (puts_end to small large e x.proc g.1 u) ∙ ap (λ v. put_count large (to.process x.proc) v (event_count large (to.process x.proc))) g.4 ∙ once)
      (stores_back to small large e x g.1 u (subst (Stores large (image to x)) (sym g.4) stores)))
  edge_fewer x y (Announces name is once) =
      let b = event_back to small large e y _ is in
      let w = wait_back to b.0 name b.2 in
      let waits : kind small y ≡ Some (LookupWait w.0) = b.1 ∙ ap Some w.1 in
      inl (Announces w.0 waits (once_fewer x w.0 (y, LookupWait w.0, waits, refl) (subst (PublishesOnce large (image to x)) (sym w.2) once)))
