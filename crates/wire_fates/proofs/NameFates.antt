-- What stands under a name after the calls before an event of a settled plan.
use Rattle.std.proofs.Common.{◌≡◌, ◌∙◌, ap, refl, sym, subst, ℕ, zero, suc, ◌+◌, ◌<◌, ◌≤◌, ◌-◌, List, [], ◌∷◌, ◌++◌, length, length-append, true, Option, Some, None, arith, inl, inr, ⊎_elim}
use Rattle.std.specs.Prelude.{slice_get, slice_index_or, option_map, IfSome, ◌↔◌}
use Rattle.std.proofs.lemmas.Bool.{cases_Bool, cases_eq, cases_lt, true≢false}
use Rattle.std.proofs.lemmas.Option.{same_Some, slice_get-map, slice_get-get_or, slice_get_within}
use Rattle.wire_runs.specs.Plan.{Plan, Event, kind, event_count, event_of}
use Rattle.wire_types.specs.declared.place.Event.{Event as CodeEvent}
use Rattle.wire_runs.specs.Names.{writes_name}
use Rattle.wire_runs.specs.Order.{Live, Before}
use Rattle.wire_runs.specs.Races.{IsSettled}
use Rattle.wire_runs.specs.Fate.{IsIn, IsInOrder, left_by}
use Rattle.wire_runs.proofs.Due.{named_after}
use Rattle.wire_runs.proofs.Diamond.{writes_calls, writes_no_lookup}
use Rattle.wire_runs.proofs.Histories.{before_live, joined, same_process}
use Rattle.wire_runs.proofs.Lists.{not_in_empty, slice_get_push_cases, slice_get_push_kept, slice_get_push_last, slice_get-append_left}
use Rattle.wire_runs.proofs.Fates.{live_within}
use Rattle.wire_happens_before.specs.declared.Update.{Update}
use Rattle.wire_happens_before.specs.Clocks.{Clocks, AreMarks}
use Rattle.wire_happens_before.specs.Updates.{standing_after, standing_in, IsFalling, AreChanges, AreUpdates}
use Rattle.wire_happens_before.proofs.Noting.{standing_all}
use Rattle.wire_fates.specs.Cuts.{IsCut}
use Rattle.wire_fates.specs.Pasts.{events_in, IsStanding}
use Rattle.wire_fates.proofs.Marked.{marks_of}
use Rattle.wire_fates.proofs.Cuts.{HoldsInFront}

pub update_at : (us : List Update) (k : ℕ) (d : Update) → k < length us → slice_get us k ≡ Some (slice_index_or us k d)
update_at us k d lt = slice_get-get_or us k d lt

pub event_at : (us : List Update) (k : ℕ) (u : Update) → slice_get us k ≡ Some u → slice_get (events_in us) k ≡ Some (event_of u.event)
event_at us k u is = slice_get-map (λ (v : Update). event_of v.event) us k ∙ ap (option_map (λ (v : Update). event_of v.event)) is

update_of : (us : List Update) (k : ℕ) (z : Event) → slice_get (events_in us) k ≡ Some z → (u : Update) × (slice_get us k ≡ Some u) × (event_of u.event ≡ z)
update_of [] k z is = absurd (not_in_empty k z is)
update_of (u ∷ us) zero z is = (u, refl, same_Some _ _ is)
update_of (u ∷ us) (suc k) z is = update_of us k z is

-- what stands after the first n of these
abbrev standing_upto : List Update → ℕ → Option Event
standing_upto us zero = None
standing_upto us (suc k) = standing_after (slice_get us k)

module _ (plan : Plan) (settled : IsSettled plan) (clocks : Clocks) (m : AreMarks plan clocks) (name : ℕ) where
  -- of two live calls that can change the name, one that isn't before another is after it
  later : (x z : Event) → Live plan x → Live plan z → writes_name plan name x (kind plan x) ≡ true → writes_name plan name z (kind plan z) ≡ true → (Before plan x z → ⊥) → (z ≡ x → ⊥) →
      Before plan z x
  later x z lx lz wx wz not_before other =
      let marks = marks_of plan clocks m in
      elim (cases_Bool (marks.before z x)) [
        | inl t ↦ (marks.tells_before z x).0 t
        | inr f ↦ elim (cases_eq x.proc z.proc) [
          | inl e ↦ elim (cases_lt z.at x.at) [
            | inl less ↦ same_process plan z x lx (sym e) less
            | inr ge ↦ elim (cases_lt x.at z.at) [
              | inl more ↦ absurd (not_before (same_process plan x z lz e more))
              | inr le ↦ absurd (other (let i : z.at ≡ x.at = omega (arith, ge, le) in λ t. record { proc = sym e t; at = i t }))
            ]
          ]
          | inr others ↦ absurd (settled.no_name_race x z name (record {
            x_writes = wx;
            y_calls = writes_calls plan name z (kind plan z) wz;
            others = others;
            not_once = λ _. writes_no_lookup plan name name z (kind plan z) wz;
            unordered = record { live_x = lx; live_y = lz; not_before = not_before; not_after = λ b. true≢false (sym ((marks.tells_before z x).1 b) ∙ f) };
          }))
        ]
      ]

  -- so the calls that can change it are in the order of their chains
  chained : (calls : List Event) → ((z : Event) → IsIn z calls → Live plan z × (writes_name plan name z (kind plan z) ≡ true)) → IsFalling plan calls → IsInOrder plan calls
  chained [] those falling = tt
  chained (x ∷ xs) those falling =
      let here = those x (inl refl) in (
        (λ z i.
            let there = those z (inr i) in
            let apart = falling.0 z i in
            later x z here.0 there.0 here.1 there.1 apart.0 apart.1),
        chained xs (λ z i. those z (inr i)) falling.1,
      )

  -- an update is of one of the calls
  update_in : (calls : List Event) (us : List Update) (k : ℕ) (u : Update) → AreChanges plan name calls us → slice_get us k ≡ Some u → IsIn (event_of u.event) calls
  update_in [] us k u none is = absurd (not_in_empty k u (ap (λ l. slice_get l k) (sym none) ∙ is))
  update_in (x ∷ xs) us k u (inl h) is = inr (update_in xs us k u h.1 is)
  update_in (x ∷ xs) us k u (inr (v, others, are, it, stands, rest)) is = elim (slice_get_push_cases others v k u (ap (λ l. slice_get l k) (sym are) ∙ is)) [
    | inl h ↦ inr (update_in xs others k u rest h)
    | inr e ↦ inl (ap (λ w. event_of w.event) (sym e.1) ∙ it)
  ]

  -- and is before those that stand behind it
  in_chain : (calls : List Event) (us : List Update) → AreChanges plan name calls us → IsInOrder plan calls → (k l : ℕ) (u v : Update) → k < l → slice_get us k ≡ Some u → slice_get us l ≡ Some v →
      Before plan (event_of u.event) (event_of v.event)
  in_chain [] us none ordered k l u v lt first second = absurd (not_in_empty k u (ap (λ w. slice_get w k) (sym none) ∙ first))
  in_chain (x ∷ xs) us (inl h) ordered k l u v lt first second = in_chain xs us h.1 ordered.1 k l u v lt first second
  in_chain (x ∷ xs) us (inr (w, others, are, it, stands, rest)) ordered k l u v lt first second =
      let front = ap (λ y. slice_get y k) (sym are) ∙ first in
      let back = ap (λ y. slice_get y l) (sym are) ∙ second in
      elim (slice_get_push_cases others w k u front) [
        | inl h ↦ elim (slice_get_push_cases others w l v back) [
          | inl g ↦ in_chain xs others rest ordered.1 k l u v lt h g
          | inr e ↦ subst (λ y. Before plan (event_of u.event) y) (sym it ∙ ap (λ y. event_of y.event) e.1) (ordered.0 (event_of u.event) (update_in xs others k u rest h))
        ]
        | inr e ↦ elim (slice_get_push_cases others w l v back) [
          | inl g ↦ absurd (let within = slice_get_within others l v g in let end = e.0 in omega (arith, within, end, lt))
          | inr f ↦ absurd (let at = e.0 in let too = f.0 in omega (arith, at, too, lt))
        ]
      ]

  module _ (us : List Update) (are : AreUpdates plan (Live plan) name us) where
    ordered : IsInOrder plan are.calls
    ordered = chained are.calls (λ z i. (are.those z).0 i) are.falling

    -- so those before an event stand in front
    pub before_in_front : (y : Event) → HoldsInFront (λ z. Before plan z y) (events_in us)
    before_in_front y k l x z lt first second b =
        let u = update_of us k x first in
        let v = update_of us l z second in
        joined (subst (λ w. Before plan w z) u.2 (subst (λ w. Before plan (event_of u.0.event) w) v.2 (in_chain are.calls us are.changes ordered k l u.0 v.0 lt u.1 v.1))) b

  -- of some of the calls those before y, and what they leave
  record IsPart (y : Event) (calls : List Event) (stands : Option Event) : Type 0 where
    part : List Event
    those : (z : Event) → IsIn z part ↔ (IsIn z calls × Before plan z y)
    in_order : IsInOrder plan part
    left : stands ≡ left_by plan name part

  -- all of them
  all_before : (y : Event) (calls : List Event) → IsInOrder plan calls → (stands : Option Event) → stands ≡ left_by plan name calls →
      ((z : Event) → IsIn z calls → Before plan z y) → IsPart y calls stands
  all_before y calls ordered stands left before = record { part = calls; those = λ z. ((λ i. (i, before z i)), (λ h. h.0)); in_order = ordered; left = left }

  -- all but the first
  but_first : (y x : Event) (xs : List Event) (stands : Option Event) → (Before plan x y → ⊥) → IsPart y xs stands → IsPart y (x ∷ xs) stands
  but_first y x xs stands not_before p = record {
    part = p.part;
    those = λ z. (
      (λ i. let w = (p.those z).0 i in (inr w.0, w.1)),
      (λ h. ⊎_elim (λ e. absurd (not_before (subst (λ v. Before plan v y) e h.1))) (λ i. (p.those z).1 (i, h.1)) h.0),
    );
    in_order = p.in_order;
    left = p.left;
  }

  upto_all : (us : List Update) (n : ℕ) → n ≡ length us → standing_upto us n ≡ standing_in us
  upto_all [] zero e = refl
  upto_all (u ∷ us) zero e = cc
  upto_all us (suc k) e = let last : k ≡ length us - 1 = omega (arith, e) in ap (λ i. standing_after (slice_get us i)) last

  upto_front : (us : List Update) (u : Update) (n : ℕ) → n ≤ length us → standing_upto (us ++ u ∷ []) n ≡ standing_upto us n
  upto_front us u zero le = refl
  upto_front us u (suc k) le = ap standing_after (slice_get-append_left us (u ∷ []) k (omega (arith, le)))

  first_update : (vs : List Update) (k : ℕ) → k < length vs → (u : Update) × (slice_get vs k ≡ Some u)
  first_update [] k lt = absurd (omega (arith, lt))
  first_update (v ∷ vs) zero lt = (v, refl)
  first_update (v ∷ vs) (suc k) lt = first_update vs k (omega (arith, lt))

  -- where the last call is before y, all are, and so are all updates
  whole_part : (y : Event) (n : ℕ) (x : Event) (xs : List Event) (us : List Update) → AreChanges plan name (x ∷ xs) us → IsInOrder plan (x ∷ xs) → n ≤ length us →
      IsCut (λ z. Before plan z y) (events_in us) n → Before plan x y → IsPart y (x ∷ xs) (standing_upto us n)
  whole_part y n x xs us changes ordered within cut first =
      let before : (z : Event) → IsIn z (x ∷ xs) → Before plan z y = λ z i. ⊎_elim (λ e. subst (λ v. Before plan v y) (sym e) first) (λ j. joined (ordered.0 z j) first) i in
      let whole : n ≡ length us = elim (cases_lt n (length us)) [
        | inl lt ↦
            let u = first_update us n lt in
            let z = event_of u.0.event in
            absurd (cut.above n z (omega arith) (event_at us n u.0 u.1) (before z (update_in (x ∷ xs) us n u.0 changes u.1)))
        | inr ge ↦ omega (arith, ge, within)
      ] in
      all_before y (x ∷ xs) ordered (standing_upto us n) (upto_all us n whole ∙ standing_all plan name (x ∷ xs) us changes) before

  -- where the last update isn't before y, the cut is one of the others
  module _ (y : Event) (n : ℕ) (us others : List Update) (u : Update) (is : us ≡ others ++ u ∷ []) (within : n ≤ length us) (cut : IsCut (λ z. Before plan z y) (events_in us) n)
      (not_before : Before plan (event_of u.event) y → ⊥) where
    few : n ≤ length others
    few =
        let size : length us ≡ length others + 1 = ap length is ∙ length-append others (u ∷ []) in
        let last : slice_get us (length others) ≡ Some u = ap (λ l. slice_get l (length others)) is ∙ slice_get_push_last others u in
        elim (cases_lt (length others) n) [
          | inl lt ↦ absurd (not_before (cut.below (length others) (event_of u.event) lt (event_at us (length others) u last)))
          | inr ge ↦ ge
        ]

    longer : (k : ℕ) (z : Event) → slice_get (events_in others) k ≡ Some z → slice_get (events_in us) k ≡ Some z
    longer k z e =
        let v = update_of others k z e in
        event_at us k v.0 (ap (λ l. slice_get l k) is ∙ slice_get_push_kept others u k v.0 v.1) ∙ ap Some v.2

    shorter : IsCut (λ z. Before plan z y) (events_in others) n
    shorter = record {
      below = λ k z lt e. cut.below k z lt (longer k z e);
      above = λ k z le e. cut.above k z le (longer k z e);
    }

    same_standing : standing_upto us n ≡ standing_upto others n
    same_standing = ap (λ l. standing_upto l n) is ∙ upto_front others u n few

  part_at : (y : Event) (n : ℕ) (calls : List Event) (us : List Update) → AreChanges plan name calls us → IsInOrder plan calls → n ≤ length us → IsCut (λ z. Before plan z y) (events_in us) n →
      IsPart y calls (standing_upto us n)
  part_at y n [] us none ordered within cut =
      let zero_ : n ≡ length us = (let size = ap length none in omega (arith, size, within)) in
      all_before y [] tt (standing_upto us n) (upto_all us n zero_ ∙ ap standing_in none) (λ z i. absurd i)
  part_at y n (x ∷ xs) us (inl h) ordered within cut = elim (cases_Bool ((marks_of plan clocks m).before x y)) [
    | inl t ↦ whole_part y n x xs us (inl h) ordered within cut (((marks_of plan clocks m).tells_before x y).0 t)
    | inr f ↦ but_first y x xs (standing_upto us n) (λ b. true≢false (sym (((marks_of plan clocks m).tells_before x y).1 b) ∙ f)) (part_at y n xs us h.1 ordered.1 within cut)
  ]
  part_at y n (x ∷ xs) us (inr (u, others, is, it, stands, rest)) ordered within cut = elim (cases_Bool ((marks_of plan clocks m).before x y)) [
    | inl t ↦ whole_part y n x xs us (inr (u, others, is, it, stands, rest)) ordered within cut (((marks_of plan clocks m).tells_before x y).0 t)
    | inr f ↦
        (let not_before : Before plan x y → ⊥ = λ b. true≢false (sym (((marks_of plan clocks m).tells_before x y).1 b) ∙ f) in
        let last : Before plan (event_of u.event) y → ⊥ = λ b. not_before (subst (λ v. Before plan v y) it b) in
        but_first y x xs (standing_upto us n) not_before
        (subst (IsPart y xs) (sym (same_standing y n us others u is within cut last))
        (part_at y n xs others rest ordered.1 (few y n us others u is within cut last) (shorter y n us others u is within cut last))))
  ]

  -- what stands after the updates before y is what the calls before it leave
  pub standing_at : (us : List Update) (are : AreUpdates plan (Live plan) name us) (y : Event) (n : ℕ) → n ≤ length us → IsCut (λ z. Before plan z y) (events_in us) n →
      IsStanding plan y name (standing_upto us n)
  standing_at us are y n within cut =
      let p = part_at y n are.calls us are.changes (ordered us are) within cut in
      record {
        calls = p.part;
        history = record {
          those = λ z. (
            (λ i. let w = (p.those z).0 i in (w.1, ((are.those z).0 w.0).1)),
            (λ h. (p.those z).1 ((are.those z).1 (before_live h.0, h.1), h.0)),
          );
          in_order = p.in_order;
        };
        left = p.left;
      }

  module _ (us : List Update) (are : AreUpdates plan (Live plan) name us) (y : Event) (n : ℕ) (cut : IsCut (λ z. Before plan z y) (events_in us) n) where
    pub standing_none : n ≡ 0 → IsStanding plan y name None
    standing_none none = subst (λ k. IsStanding plan y name (standing_upto us k)) none (standing_at us are y n (omega (arith, none)) cut)

    pub standing_found : (d : Update) → n ≤ length us → (n ≡ 0 → ⊥) → IsStanding plan y name (option_map event_of (slice_index_or us (n - 1) d).standing)
    standing_found d within some =
        let next : n ≡ suc (n - 1) = omega (arith, some) in
        let last : slice_get us (n - 1) ≡ Some (slice_index_or us (n - 1) d) = update_at us (n - 1) d (omega (arith, within, some)) in
        subst (IsStanding plan y name) (ap (standing_upto us) next ∙ ap standing_after last) (standing_at us are y n within cut)

-- what stands is one of the calls
left_in : (plan : Plan) (name : ℕ) (calls : List Event) (x : Event) → left_by plan name calls ≡ Some x → IsIn x calls
left_in plan name [] x e = cc
left_in plan name (c ∷ calls) x e = elim (named_after (left_by plan name calls) c (kind plan c) name x e) [
  | inl was ↦ inr (left_in plan name calls x was)
  | inr now ↦ inl now.0
]

pub standing_within : (plan : Plan) (y : Event) (name : ℕ) (found : Option CodeEvent) → IsStanding plan y name (option_map event_of found) → IfSome found (λ e. e.at < event_count plan e.proc.number)
standing_within plan y name None s = tt
standing_within plan y name (Some e) s = live_within plan (event_of e) (before_live ((s.history.those (event_of e)).0 (left_in plan name s.calls (event_of e) (sym s.left))).0)
