-- An embedding, place by place: what an image tells of its event.
use Rattle.std.proofs.Common.{◌≡◌, ℕ, zero, suc, ◌<◌, ◌≤◌, List, [], Bool, true, false, ◌==◌, nat_le, Option, Some, None, is_some, inl, inr, refl, sym, ap, ◌∙◌, subst, arith, eq-eqb, ne_eqb}
use Rattle.std.specs.Prelude.{option_map, ◌||◌}
use Rattle.std.proofs.lemmas.Bool.{cond-true, cond-false, cases_eq, cases_lt}
use Rattle.std.proofs.lemmas.Option.{slice_get_cases, same_Some, none-some}
use Rattle.wire_runs.specs.Plan.{Plan, Event, Kind, Commit, Arrive, Leave, Get, Publish, Lookup, LookupWait, Unpublish, UnpublishAll, kind, kind_at, kinds, event_count}
use Rattle.wire_runs.specs.Puts.{own, stored, put_count}
use Rattle.wire_runs.specs.Fences.{arrivals, is_member, is_full, is_collecting}
use Rattle.wire_runs.specs.Names.{writes_name, calls_name}
use Rattle.wire_runs.specs.Order.{Stores, IsArrival, may_come}
use Rattle.wire_runs.specs.Embeddings.{Renaming, image, image_kind, IsKeyOf, IsNameOf, IsSetOf, IsEmbedding}
use Rattle.wire_runs.proofs.Basics.{list_all_at_member, event_within, event_past, arrivals_step, stores_commit}
use Rattle.wire_runs.proofs.Brought.{list_all_of_members}

-- a process has an event at each number below their count
pub event_at : (plan : Plan) (p i : ℕ) → i < event_count plan p → (k : Kind) × (kind_at plan p i ≡ Some k)
unfolding kind_at event_count
event_at plan p i lt = elim (slice_get_cases (kinds plan p) i).1 [
  | inl c ↦ (c.0, c.2)
  | inr c ↦ absurd (let past = c.0 in omega (arith, lt, past))
]

some_mapped : (f : ℕ → ℕ) (o : Option ℕ) → is_some (option_map f o) ≡ is_some o
some_mapped f None = refl
some_mapped f (Some v) = refl

none_mapped : (f : ℕ → ℕ) (o : Option ℕ) → option_map f o ≡ None → o ≡ None
none_mapped f None h = refl
none_mapped f (Some v) h = cc

pub mapped_some : (f : ℕ → ℕ) (o : Option ℕ) (v : ℕ) → option_map f o ≡ Some v → (u : ℕ) × (o ≡ Some u) × (f u ≡ v)
mapped_some f None v h = cc
mapped_some f (Some u) v h = (u, refl, cc)

-- an equality test, before and after a function that keeps numbers apart
pub same_test : (f : ℕ → ℕ) (a b : ℕ) → (f a ≡ f b → a ≡ b) → (f a == f b) ≡ (a == b)
same_test f a b one = elim (cases_eq a b) [
  | inl e ↦ eq-eqb (f a) (f b) (ap f e) ∙ sym (eq-eqb a b e)
  | inr ne ↦ ne_eqb (f a) (f b) (λ e. ne (one e)) ∙ sym (ne_eqb a b ne)
]

-- at a commit, what is put is stored
commit_stores : (plan : Plan) (x : Event) (key : ℕ) → kind plan x ≡ Some Commit → is_some (own plan x.proc key x.at) ≡ true → is_some (stored plan x.proc key (suc x.at)) ≡ true
commit_stores plan x key is h = rw is h

pub stored_at_commit : (plan : Plan) (x : Event) (key : ℕ) → kind plan x ≡ Some Commit → is_some (stored plan x.proc key (suc x.at)) ≡ true → is_some (own plan x.proc key x.at) ≡ true
stored_at_commit plan x key is h = rw is at h

abbrev members_in : Kind → List ℕ
members_in (Arrive members collect) = members
members_in _ = []

abbrev says_in : Kind → Bool
says_in (Arrive members collect) = collect
says_in _ = false

-- the kind that has this image
commit_back : (to : Renaming) (k : Kind) → image_kind to k ≡ Commit → k ≡ Commit
commit_back to Commit h = refl
commit_back to _ h = cc

arrive_back : (to : Renaming) (k : Kind) (members : List ℕ) (collect : Bool) → image_kind to k ≡ Arrive members collect → (own_members : List ℕ) × (to.members own_members ≡ members) × (k ≡ Arrive own_members collect)
arrive_back to (Arrive own_members says) members collect h = (own_members, ap members_in h, ap (Arrive own_members) (ap says_in h))
arrive_back to _ members collect h = cc

module _ (to : Renaming) (small large : Plan) (e : IsEmbedding to small large) where
  pub place_up : (p n m : ℕ) → n < m → to.place p n < to.place p m
  place_up p n zero lt = absurd (omega (arith, lt))
  place_up p n (suc m) lt = elim (cases_eq n m) [
    | inl is ↦ subst (λ k. to.place p k < to.place p (suc m)) (sym is) (e.rising p m)
    | inr ne ↦ (let rest = place_up p n m (omega (arith, lt, ne)) in let step = e.rising p m in omega (arith, rest, step))
  ]

  -- the order of two places tells that of the events
  pub place_back : (p n m : ℕ) → to.place p n < to.place p m → n < m
  place_back p n m lt = elim (cases_lt n m) [
    | inl less ↦ less
    | inr ge ↦ elim (cases_eq n m) [
      | inl is ↦ absurd (let same = ap (to.place p) is in omega (arith, lt, same))
      | inr ne ↦ absurd (let up = place_up p m n (omega (arith, ge, ne)) in omega (arith, lt, up))
    ]
  ]

  pub image_later : (x y : Event) → x.proc ≡ y.proc → x.at < y.at → (image to x).at < (image to y).at
  image_later x y same lt = subst (λ p. to.place p x.at < to.place y.proc y.at) (sym same) (place_up y.proc x.at y.at lt)

  pub image_order : (x y : Event) → x.proc ≡ y.proc → (image to x).at < (image to y).at → x.at < y.at
  image_order x y same lt = place_back y.proc x.at y.at (subst (λ p. to.place p x.at < to.place y.proc y.at) same lt)

  -- what has an event of the large plan as its image is an event of the small one
  pub event_back : (y : Event) (o : Kind) → kind large (image to y) ≡ Some o → (k : Kind) × (kind small y ≡ Some k) × (image_kind to k ≡ o)
  event_back y o is = elim (cases_lt y.at (event_count small y.proc)) [
    | inl lt ↦ (let k = event_at small y.proc y.at lt in (k.0, k.1, same_Some _ _ (sym (e.kinds_agree y k.0 k.1) ∙ is)))
    | inr ge ↦ absurd (
        let past : event_count large (to.process y.proc) ≤ to.place y.proc y.at = elim (cases_eq (event_count small y.proc) y.at) [
          | inl same ↦ (let here = ap (to.place y.proc) same in let last = e.ends y.proc in omega (arith, here, last))
          | inr ne ↦ (let up = place_up y.proc (event_count small y.proc) y.at (omega (arith, ge, ne)) in let last = e.ends y.proc in omega (arith, up, last))
        ] in
        none-some o (sym (event_past large (to.process y.proc) (to.place y.proc y.at) past) ∙ is))
  ]

  -- what is put and stored
  pub own_some : (p key n : ℕ) → IsKeyOf small key → n ≤ event_count small p → is_some (own large (to.process p) (to.key key) (to.place p n)) ≡ is_some (own small p key n)
  own_some p key n u le = ap is_some (e.owns p key n u le) ∙ some_mapped (to.place p) (own small p key n)

  pub own_none : (p key n : ℕ) → IsKeyOf small key → n ≤ event_count small p → own large (to.process p) (to.key key) (to.place p n) ≡ None → own small p key n ≡ None
  own_none p key n u le h = none_mapped (to.place p) (own small p key n) (sym (e.owns p key n u le) ∙ h)

  pub stored_some : (p key n : ℕ) → IsKeyOf small key → n ≤ event_count small p → is_some (stored large (to.process p) (to.key key) (to.place p n)) ≡ is_some (stored small p key n)
  stored_some p key n u le = ap is_some (e.stores p key n u le) ∙ some_mapped (to.place p) (stored small p key n)

  pub stored_end : (p key : ℕ) → IsKeyOf small key → stored large (to.process p) (to.key key) (event_count large (to.process p)) ≡ option_map (to.place p) (stored small p key (event_count small p))
  stored_end p key u = ap (stored large (to.process p) (to.key key)) (sym (e.ends p)) ∙ e.stores p key (event_count small p) u (omega arith)

  pub stored_end_some : (p key : ℕ) → IsKeyOf small key → is_some (stored large (to.process p) (to.key key) (event_count large (to.process p))) ≡ is_some (stored small p key (event_count small p))
  stored_end_some p key u = ap is_some (stored_end p key u) ∙ some_mapped (to.place p) (stored small p key (event_count small p))

  pub puts_end : (p key : ℕ) → IsKeyOf small key → put_count large (to.process p) (to.key key) (event_count large (to.process p)) ≡ put_count small p key (event_count small p)
  puts_end p key u = ap (put_count large (to.process p) (to.key key)) (sym (e.ends p)) ∙ e.puts p key (event_count small p) u (omega arith)

  -- the commit that stores a key stores the image key, and the other way round
  pub stores_into : (x : Event) (key : ℕ) → IsKeyOf small key → Stores small x key → Stores large (image to x) (to.key key)
  stores_into x key u s =
      let commit = stores_commit small x key s in
      let within = event_within small x.proc x.at _ commit in
      let le : x.at ≤ event_count small x.proc = omega (arith, within) in
      record {
        nothing_before = e.stores x.proc key x.at u le ∙ ap (option_map (to.place x.proc)) s.nothing_before;
        something_after = commit_stores large (image to x) (to.key key) (e.kinds_agree x Commit commit)
            (own_some x.proc key x.at u le ∙ stored_at_commit small x key commit s.something_after);
      }

  pub stores_back : (x : Event) (key : ℕ) → IsKeyOf small key → Stores large (image to x) (to.key key) → Stores small x key
  stores_back x key u s =
      let k = event_back x Commit (stores_commit large (image to x) (to.key key) s) in
      let commit : kind small x ≡ Some Commit = k.1 ∙ ap Some (commit_back to k.0 k.2) in
      let within = event_within small x.proc x.at _ commit in
      let le : x.at ≤ event_count small x.proc = omega (arith, within) in
      record {
        nothing_before = none_mapped (to.place x.proc) (stored small x.proc key x.at) (sym (e.stores x.proc key x.at u le) ∙ s.nothing_before);
        something_after = commit_stores small x key commit (sym (own_some x.proc key x.at u le) ∙ stored_at_commit large (image to x) (to.key key) (e.kinds_agree x Commit commit) s.something_after);
      }

  -- fences
  pub arrives_end : (members : List ℕ) (p : ℕ) → IsSetOf small members →
      arrivals large (to.process p) (to.members members) (event_count large (to.process p)) ≡ arrivals small p members (event_count small p)
  arrives_end members p f = ap (arrivals large (to.process p) (to.members members)) (sym (e.ends p)) ∙ e.arrives members p (event_count small p) f (omega arith)

  pub full_back : (members : List ℕ) (j : ℕ) → IsSetOf small members → is_full large (to.members members) j ≡ true → is_full small members j ≡ true
  full_back members j f full =
      list_all_of_members _ members (λ m i.
      ap (nat_le j) (sym (arrives_end members m f)) ∙ list_all_at_member _ (to.members members) (to.process m) full (e.member members m f ∙ i))

  pub collecting_back : (members : List ℕ) (j : ℕ) → IsSetOf small members → is_collecting large (to.members members) j ≡ true → is_collecting small members j ≡ true
  collecting_back members j f all =
      list_all_of_members _ members (λ m i.
      sym (e.says_collect members m j f) ∙ list_all_at_member _ (to.members members) (to.process m) all (e.member members m f ∙ i))

  -- an event arrives where its image does
  nth_same : (z : Event) (members : List ℕ) (collect : Bool) → kind small z ≡ Some (Arrive members collect) →
      arrivals large (to.process z.proc) (to.members members) (suc (to.place z.proc z.at)) ≡ arrivals small z.proc members (suc z.at)
  nth_same z members collect is =
      let within = event_within small z.proc z.at _ is in
      arrivals_step large (to.process z.proc) (to.members members) collect (to.place z.proc z.at) (e.kinds_agree z _ is)
      ∙ ap suc (e.arrives members z.proc z.at (z, _, is, refl) (omega (arith, within)))
      ∙ sym (arrivals_step small z.proc members collect z.at is)

  pub arrival_into : (z : Event) (members : List ℕ) (j : ℕ) → IsArrival small members j z → IsArrival large (to.members members) j (image to z)
  arrival_into z members j a = record {
    collect = a.collect;
    is = e.kinds_agree z _ a.is;
    member = e.member members z.proc (z, _, a.is, refl) ∙ a.member;
    nth = nth_same z members a.collect a.is ∙ a.nth;
  }

  pub arrival_back : (z : Event) (members : List ℕ) (j : ℕ) → IsArrival large members j (image to z) → (own_members : List ℕ) × (to.members own_members ≡ members) × IsArrival small own_members j z
  arrival_back z members j a =
      let k = event_back z _ a.is in
      let s = arrive_back to k.0 members a.collect k.2 in
      let is : kind small z ≡ Some (Arrive s.0 a.collect) = k.1 ∙ ap Some s.2 in (
        s.0,
        s.1,
        record {
          collect = a.collect;
          is = is;
          member = sym (e.member s.0 z.proc (z, _, is, refl)) ∙ ap (λ ms. is_member ms (to.process z.proc)) s.1 ∙ a.member;
          nth = sym (nth_same z s.0 a.collect is) ∙ ap (λ ms. arrivals large (to.process z.proc) ms (suc (to.place z.proc z.at))) s.1 ∙ a.nth;
        },
      )

  -- names
  pub writes_same : (name : ℕ) → IsNameOf small name → (x : Event) (k : Kind) → kind small x ≡ Some k → writes_name large (to.name name) (image to x) (Some (image_kind to k)) ≡ writes_name small name x (Some k)
  writes_same name u x (Publish n) is = same_test to.name n name (e.one_name n name (x, _, is, refl) u)
  writes_same name u x (Unpublish n) is = same_test to.name n name (e.one_name n name (x, _, is, refl) u)
  writes_same name u x UnpublishAll is = e.publish x.proc name u
  writes_same name u x _ is = refl

  pub calls_same : (name : ℕ) → IsNameOf small name → (x : Event) (k : Kind) → kind small x ≡ Some k → calls_name large (to.name name) (image to x) (Some (image_kind to k)) ≡ calls_name small name x (Some k)
  calls_same name u x (Lookup n) is = same_test to.name n name (e.one_name n name (x, _, is, refl) u)
  calls_same name u x (LookupWait n) is = same_test to.name n name (e.one_name n name (x, _, is, refl) u)
  calls_same name u x (Publish n) is = same_test to.name n name (e.one_name n name (x, _, is, refl) u)
  calls_same name u x (Unpublish n) is = same_test to.name n name (e.one_name n name (x, _, is, refl) u)
  calls_same name u x UnpublishAll is = e.publish x.proc name u
  calls_same name u x _ is = refl

  pub writes_back : (name : ℕ) → IsNameOf small name → (x : Event) → writes_name large (to.name name) (image to x) (kind large (image to x)) ≡ true → writes_name small name x (kind small x) ≡ true
  writes_back name u x h = go (kind large (image to x)) refl h
    where
      go : (o : Option Kind) → kind large (image to x) ≡ o → writes_name large (to.name name) (image to x) o ≡ true → writes_name small name x (kind small x) ≡ true
      go None is h = cc
      go (Some v) is h =
          let k = event_back x v is in
          ap (writes_name small name x) k.1 ∙ sym (writes_same name u x k.0 k.1) ∙ ap (λ w. writes_name large (to.name name) (image to x) (Some w)) k.2 ∙ h

  pub calls_back : (name : ℕ) → IsNameOf small name → (x : Event) → calls_name large (to.name name) (image to x) (kind large (image to x)) ≡ true → calls_name small name x (kind small x) ≡ true
  calls_back name u x h = go (kind large (image to x)) refl h
    where
      go : (o : Option Kind) → kind large (image to x) ≡ o → calls_name large (to.name name) (image to x) o ≡ true → calls_name small name x (kind small x) ≡ true
      go None is h = cc
      go (Some v) is h =
          let k = event_back x v is in
          ap (calls_name small name x) k.1 ∙ sym (calls_same name u x k.0 k.1) ∙ ap (λ w. calls_name large (to.name name) (image to x) (Some w)) k.2 ∙ h

  -- what may come where its image may
  pub may_back : (y : Event) (k : Kind) → kind small y ≡ Some k → may_come large (image to y) (Some (image_kind to k)) ≡ true → may_come small y (Some k) ≡ true
  may_back y (Get owner key) is h =
      let within = event_within small y.proc y.at _ is in
      elim (cases_eq y.proc owner) [
        | inl same ↦
            (let there = subst (λ b. b ≡ true) (cond-true _ _ _ (eq-eqb (to.process y.proc) (to.process owner) (ap to.process same))) h in
            let at_owner : is_some (own large (to.process owner) (to.key key) (to.place owner y.at)) ≡ true =
            subst (λ p. is_some (own large (to.process owner) (to.key key) (to.place p y.at)) ≡ true) same there in
            let le : y.at ≤ event_count small owner = subst (λ p. y.at ≤ event_count small p) same (omega (arith, within)) in
            cond-true _ _ _ (eq-eqb y.proc owner same) ∙ sym (own_some owner key y.at (y, _, is, refl) le) ∙ at_owner)
        | inr other ↦
            (let there = subst (λ b. b ≡ true) (cond-false _ _ _ (ne_eqb (to.process y.proc) (to.process owner) (λ s. other (e.one_process _ _ s)))) h in
            cond-false _ _ _ (ne_eqb y.proc owner other)
            ∙ ap (λ b. b || nat_le 2 (put_count small owner key (event_count small owner))) (sym (stored_end_some owner key (y, _, is, refl)))
            ∙ ap (λ n. is_some (stored large (to.process owner) (to.key key) (event_count large (to.process owner))) || nat_le 2 n) (sym (puts_end owner key (y, _, is, refl)))
            ∙ there)
      ]
  may_back y (Leave members) is h =
      let within = event_within small y.proc y.at _ is in
      full_back members (arrivals small y.proc members y.at) (y, _, is, refl)
      (subst (λ j. is_full large (to.members members) j ≡ true) (e.arrives members y.proc y.at (y, _, is, refl) (omega (arith, within))) h)
  may_back y _ is h = refl
