-- Where no rank waits for a later stage, each event that may come is live; and stages go up from small instances to large.
use Rattle.std.proofs.Common.{◌≡◌, ℕ, zero, suc, ◌<◌, ◌≤◌, List, length, true, ◌||◌, Some, is_some, ◌⊎◌, inl, inr, refl, sym, ap, ◌∙◌, subst, arith, eq-eqb, ne_eqb}
use Rattle.std.specs.Prelude.{slice_get, nat_le}
use Rattle.std.proofs.lemmas.Bool.{cond-true, cond-false, cases_eq}
use Rattle.wire_runs.specs.Plan.{Plan, Event, Kind, Leave, Get, LookupWait, kind, event_count}
use Rattle.wire_runs.specs.Puts.{own as own_of, stored, put_count}
use Rattle.wire_runs.specs.Fences.{arrivals, is_member, is_full}
use Rattle.wire_runs.specs.Order.{Edge, Follows, Meets, Feeds, Announces, may_come, Live, live}
use Rattle.wire_runs.specs.Embeddings.{Renaming, image, IsSetOf, IsEmbedding}
use Rattle.wire_runs.specs.Patterns.{Pattern, Coding, Cast, group, instance_of, IsLawful, IsCastOf}
use Rattle.wire_runs.specs.Restrictions.{skip, back, restricted, removal, CanGo}
use Rattle.wire_runs.proofs.Basics.{event_within, list_all_at_member}
use Rattle.wire_runs.proofs.Brought.{list_all_of_members}
use Rattle.wire_runs.proofs.Images.{event_back, image_later, image_order, own_some, stored_end_some, puts_end, arrives_end}
use Rattle.wire_runs.proofs.Skip.{skip_back}
use Rattle.wire_runs.proofs.FewerFindings.{fourth, mark_at}
use Rattle.wire_runs.proofs.TurnMarks.{is_image}
use Rattle.wire_runs.proofs.WholeSets.{rises_group, group_member}
use Rattle.wire_runs.proofs.RestrictedOnce.{plays_role}
use Rattle.wire_runs.proofs.RestrictedWhole.{restrictions_embed}
use Rattle.wire_size_laws.specs.Stages.{Stages, StageKey, key_of, IsLess, IsStaged}
use Rattle.wire_size_laws.proofs.Labels.{key_up, less_up, key_same}
use Rattle.wire_size_laws.proofs.Descent.{by_keys}
use Rattle.wire_size_laws.proofs.EdgesBack.{source_kind, get_back, leave_back, source_image, edge_fewer}

-- the scripts rule out no event
abbrev pub AllMay : Plan → Type 0
AllMay plan = (y : Event) (k : Kind) → kind plan y ≡ Some k → may_come plan y (Some k) ≡ true

module _ (stages : Stages) (pattern : Pattern) (coding : Coding) (cast : Cast) (staged : IsStaged stages pattern coding cast) (all_may : AllMay (instance_of pattern coding cast)) where
  abbrev plan : Plan
  plan = instance_of pattern coding cast

  abbrev key : Event → StageKey
  key = key_of stages pattern coding cast

  abbrev AreLive : StageKey → Type 0
  AreLive at_key = (y : Event) (k : Kind) → kind plan y ≡ Some k → key y ≡ at_key → Live plan y

  -- those of one key, of which lesser keys are live
  of_key : (at_key : StageKey) → ((l : StageKey) → IsLess l at_key → AreLive l) → (m : ℕ) (y : Event) (k : Kind) → kind plan y ≡ Some k → key y ≡ at_key → y.at < m → Live plan y
  of_key at_key lesser zero y k is same lt = absurd (omega (arith, lt))
  of_key at_key lesser (suc m) y k is same lt =
      live (ap (may_come plan y) is ∙ all_may y k is) (λ x edge.
      let s = source_kind plan x y k is edge in
      elim (staged.across x y edge) [
        | inl less ↦ lesser (key x) (subst (IsLess (key x)) same less) x s.0 s.1 refl
        | inr b ↦ (
            let earlier = b.1 in
            elim (staged.along x y s.0 k s.1 is b.0 b.1) [
              | inl less ↦ lesser (key x) (subst (IsLess (key x)) same less) x s.0 s.1 refl
              | inr equal ↦ of_key at_key lesser m x s.0 s.1 (equal ∙ same) (omega (arith, earlier, lt))
            ])
      ])

  pub staged_live : (y : Event) (k : Kind) → kind plan y ≡ Some k → Live plan y
  staged_live y k is = by_keys AreLive (λ at_key lesser x l here same. of_key at_key lesser (suc x.at) x l here same (omega arith)) (key y) y k is refl

module _ (pattern : Pattern) (coding : Coding) (cast : Cast) (role : ℕ) (lawful : IsLawful pattern) (cast_is : IsCastOf pattern cast) (four : 4 ≤ length (group role cast.roles)) where
  abbrev large : Plan
  large = instance_of pattern coding cast

  abbrev small : ℕ → Plan
  small r = instance_of pattern coding (restricted r cast)

  -- one of the role, none of three
  spare : (a b c : ℕ) → (r : ℕ) × CanGo pattern cast r role × (r ≡ a → ⊥) × (r ≡ b → ⊥) × (r ≡ c → ⊥)
  spare a b c =
      let w = fourth (group role cast.roles) (rises_group role cast.roles) four a b c in
      (w.0, record { lawful = lawful; cast_is = cast_is; is = plays_role (slice_get cast.roles w.0) role (sym (group_member role cast.roles w.0) ∙ w.1); four = four }, w.2, w.3, w.4)

  module _ (stages : Stages) (staged : (r : ℕ) → slice_get cast.roles r ≡ Some role → IsStaged stages pattern coding (restricted r cast)) where
    abbrev key_there : Event → StageKey
    key_there = key_of stages pattern coding cast

    abbrev IsRight : Event → Event → Type 0
    IsRight x y = IsLess (key_there x) (key_there y) ⊎ ((x.proc ≡ y.proc) × (x.at < y.at))

    module _ (r : ℕ) (can : CanGo pattern cast r role) where
      abbrev to : Renaming
      to = removal pattern coding cast r role

      e : IsEmbedding to (small r) large
      e = restrictions_embed pattern coding cast r role can

      less_there : (x y : Event) (k l : Kind) → kind (small r) x ≡ Some k → kind (small r) y ≡ Some l
          → IsLess (key_of stages pattern coding (restricted r cast) x) (key_of stages pattern coding (restricted r cast) y) → IsLess (key_there (image to x)) (key_there (image to y))
      less_there x y k l ks ls less =
          subst (λ v. IsLess v (key_there (image to y))) (sym (key_same pattern coding cast r role can stages x k ks))
          (subst (IsLess (key_up r (key_of stages pattern coding (restricted r cast) x))) (sym (key_same pattern coding cast r role can stages y l ls)) (less_up r _ _ less))

      equal_there : (x y : Event) (k l : Kind) → kind (small r) x ≡ Some k → kind (small r) y ≡ Some l
          → key_of stages pattern coding (restricted r cast) x ≡ key_of stages pattern coding (restricted r cast) y → key_there (image to x) ≡ key_there (image to y)
      equal_there x y k l ks ls same =
          key_same pattern coding cast r role can stages x k ks ∙ ap (key_up r) same ∙ sym (key_same pattern coding cast r role can stages y l ls)

      right_there : (x y : Event) (l : Kind) → kind (small r) y ≡ Some l → Edge (small r) x y → IsRight (image to x) (image to y)
      right_there x y l is edge =
          let s = source_kind (small r) x y l is edge in
          elim ((staged r can.is).across x y edge) [
            | inl less ↦ inl (less_there x y s.0 l s.1 is less)
            | inr o ↦ inr (ap to.process o.0, image_later to (small r) large e x y o.0 o.1)
          ]

      right_images : (x y : Event) (l : Kind) → kind large (image to y) ≡ Some l → Edge large (image to x) (image to y) → IsRight (image to x) (image to y)
      right_images x y l is edge =
          let b = event_back to (small r) large e y l is in
          elim (edge_fewer pattern coding cast r role can x y edge) [
            | inl there ↦ right_there x y b.0 b.1 there
            | inr o ↦ inr o
          ]

      right_from : (x y : Event) (l : Kind) → (x.proc ≡ r → ⊥) → kind large (image to y) ≡ Some l → Edge large x (image to y) → IsRight x (image to y)
      right_from x y l ne is edge = elim (source_image pattern coding cast r role can y x ne edge) [
        | inl z ↦ subst (λ v. IsRight v (image to y)) z.1 (right_images z.0 y l is (subst (λ v. Edge large v (image to y)) (sym z.1) edge))
        | inr o ↦ inr o
      ]

    by_spare : (x y : Event) (l : Kind) → kind large y ≡ Some l → Edge large x y → IsRight x y
    by_spare x y l is edge =
        let m = mark_at pattern coding cast y.proc y.at l is in
        let s = spare x.proc y.proc m.0 in
        let i = is_image pattern coding cast s.0 role s.1 y m.0 m.1 (λ q. s.3 (sym q)) (λ q. s.4 (sym q)) in
        subst (λ v. IsRight x v) i.1
        (right_from s.0 s.1 x i.0 l (λ q. s.2 (sym q)) (ap (kind large) i.1 ∙ is) (subst (λ v. Edge large x v) (sym i.1) edge))

    across_up : (x y : Event) → Edge large x y → IsRight x y
    across_up x y (Follows same next) = inr (same, omega (arith, next))
    across_up x y (Meets members is a) = by_spare x y (Leave members) is (Meets members is a)
    across_up x y (Feeds key is other once stores) = by_spare x y (Get x.proc key) is (Feeds key is other once stores)
    across_up x y (Announces name is once) = by_spare x y (LookupWait name) is (Announces name is once)

    along_up : (x y : Event) (k l : Kind) → kind large x ≡ Some k → kind large y ≡ Some l → x.proc ≡ y.proc → x.at < y.at → IsLess (key_there x) (key_there y) ⊎ (key_there x ≡ key_there y)
    along_up x y k l ks ls same lt =
        let mx = mark_at pattern coding cast x.proc x.at k ks in
        let my = mark_at pattern coding cast y.proc y.at l ls in
        let s = spare y.proc mx.0 my.0 in
        let r = s.0 in
        let can = s.1 in
        let ix = is_image pattern coding cast r role can x mx.0 mx.1 (λ q. s.2 (sym (sym same ∙ q))) (λ q. s.3 (sym q)) in
        let iy = is_image pattern coding cast r role can y my.0 my.1 (λ q. s.2 (sym q)) (λ q. s.4 (sym q)) in
        let bx = event_back (to r can) (small r) large (e r can) ix.0 k (ap (kind large) ix.1 ∙ ks) in
        let by_ = event_back (to r can) (small r) large (e r can) iy.0 l (ap (kind large) iy.1 ∙ ls) in
        let procs : (image (to r can) ix.0).proc ≡ (image (to r can) iy.0).proc = ap (λ (v : Event). v.proc) ix.1 ∙ same ∙ sym (ap (λ (v : Event). v.proc) iy.1) in
        let one = (e r can).one_process ix.0.proc iy.0.proc procs in
        let ax : (image (to r can) ix.0).at ≡ x.at = ap (λ (v : Event). v.at) ix.1 in
        let ay : (image (to r can) iy.0).at ≡ y.at = ap (λ (v : Event). v.at) iy.1 in
        let order = image_order (to r can) (small r) large (e r can) ix.0 iy.0 one (omega (arith, ax, ay, lt)) in
        elim ((staged r can.is).along ix.0 iy.0 bx.0 by_.0 bx.1 by_.1 one order) [
          | inl less ↦ inl (subst (λ v. IsLess v (key_there y)) (ap key_there ix.1)
              (subst (IsLess (key_there (image (to r can) ix.0))) (ap key_there iy.1) (less_there r can ix.0 iy.0 bx.0 by_.0 bx.1 by_.1 less)))
          | inr same ↦ inr (sym (ap key_there ix.1) ∙ equal_there r can ix.0 iy.0 bx.0 by_.0 bx.1 by_.1 same ∙ ap key_there iy.1)
        ]

    pub staged_up : IsStaged stages pattern coding cast
    staged_up = record { along = along_up; across = across_up }

  module _ (all_may : (r : ℕ) → slice_get cast.roles r ≡ Some role → AllMay (small r)) where
    get_there : (r : ℕ) (can : CanGo pattern cast r role) (y : Event) (owner key : ℕ) → kind (small r) y ≡ Some (Get owner key)
        → may_come large (image (removal pattern coding cast r role) y) (Some (Get (skip r owner) ((removal pattern coding cast r role).key key))) ≡ true
    get_there r can y owner key is =
        let to = removal pattern coding cast r role in
        let emb = restrictions_embed pattern coding cast r role can in
        let h = all_may r can.is y _ is in
        let within = event_within (small r) y.proc y.at _ is in
        elim (cases_eq y.proc owner) [
          | inl same ↦ (
              let here : is_some (own_of (small r) owner key y.at) ≡ true = sym (cond-true _ _ _ (eq-eqb y.proc owner same)) ∙ h in
              let le : y.at ≤ event_count (small r) owner = subst (λ p. y.at ≤ event_count (small r) p) same (omega (arith, within)) in
              let there : is_some (own_of large (to.process owner) (to.key key) (to.place owner y.at)) ≡ true = own_some to (small r) large emb owner key y.at (y, _, is, refl) le ∙ here in
              cond-true _ _ _ (eq-eqb (to.process y.proc) (to.process owner) (ap to.process same))
              ∙ ap (λ p. is_some (own_of large (to.process owner) (to.key key) (to.place p y.at))) same ∙ there)
          | inr other ↦ (
              cond-false _ _ _ (ne_eqb (to.process y.proc) (to.process owner) (λ s. other (emb.one_process _ _ s)))
              ∙ ap (λ b. b || nat_le 2 (put_count large (to.process owner) (to.key key) (event_count large (to.process owner)))) (stored_end_some to (small r) large emb owner key (y, _, is, refl))
              ∙ ap (λ n. is_some (stored (small r) owner key (event_count (small r) owner)) || nat_le 2 n) (puts_end to (small r) large emb owner key (y, _, is, refl))
              ∙ sym (cond-false _ _ _ (ne_eqb y.proc owner other)) ∙ h)
        ]

    get_up : (y : Event) (owner key : ℕ) → kind large y ≡ Some (Get owner key) → may_come large y (Some (Get owner key)) ≡ true
    get_up y owner key is =
        let m = mark_at pattern coding cast y.proc y.at _ is in
        let s = spare y.proc m.0 m.0 in
        let r = s.0 in
        let can = s.1 in
        let to = removal pattern coding cast r role in
        let i = is_image pattern coding cast r role can y m.0 m.1 (λ q. s.2 (sym q)) (λ q. s.3 (sym q)) in
        let b = event_back to (small r) large (restrictions_embed pattern coding cast r role can) i.0 _ (ap (kind large) i.1 ∙ is) in
        let g = get_back to b.0 owner key b.2 in
        let there = get_there r can i.0 g.0 g.1 (b.1 ∙ ap Some g.2) in
        subst (λ v. may_come large v (Some (Get owner key)) ≡ true) i.1
        (subst (λ o. may_come large (image to i.0) (Some (Get o key)) ≡ true) g.3
        (subst (λ k. may_come large (image to i.0) (Some (Get (skip r g.0) k)) ≡ true) g.4 there))

    -- a member comes to the fence often enough
    member_comes : (y : Event) (members : List ℕ) → kind large y ≡ Some (Leave members) → (m : ℕ) → is_member members m ≡ true
        → nat_le (arrivals large y.proc members y.at) (arrivals large m members (event_count large m)) ≡ true
    member_comes y members is m inside =
        let mark = mark_at pattern coding cast y.proc y.at _ is in
        let s = spare y.proc mark.0 m in
        let r = s.0 in
        let can = s.1 in
        let to = removal pattern coding cast r role in
        let emb = restrictions_embed pattern coding cast r role can in
        let i = is_image pattern coding cast r role can y mark.0 mark.1 (λ q. s.2 (sym q)) (λ q. s.3 (sym q)) in
        let b = event_back to (small r) large emb i.0 _ (ap (kind large) i.1 ∙ is) in
        let l = leave_back to b.0 members b.2 in
        let leaves : kind (small r) i.0 ≡ Some (Leave l.0) = b.1 ∙ ap Some l.1 in
        let set : IsSetOf (small r) l.0 = (i.0, Leave l.0, leaves, refl) in
        let within = event_within (small r) i.0.proc i.0.at _ leaves in
        let there = skip_back r m (λ q. s.4 (sym q)) in
        let own_inside : is_member l.0 (back r m) ≡ true =
        sym (emb.member l.0 (back r m) set) ∙ ap (λ ms. is_member ms (to.process (back r m))) l.2 ∙ ap (is_member members) there ∙ inside in
        let full : is_full (small r) l.0 (arrivals (small r) i.0.proc l.0 i.0.at) ≡ true = all_may r can.is i.0 (Leave l.0) leaves in
        let le = list_all_at_member _ l.0 (back r m) full own_inside in
        let j : arrivals large y.proc members y.at ≡ arrivals (small r) i.0.proc l.0 i.0.at =
        sym (ap (λ (v : Event). arrivals large v.proc members v.at) i.1) ∙ ap (λ ms. arrivals large (to.process i.0.proc) ms (to.place i.0.proc i.0.at)) (sym l.2) ∙ emb.arrives l.0 i.0.proc i.0.at set (omega (arith, within)) in
        let n : arrivals large m members (event_count large m) ≡ arrivals (small r) (back r m) l.0 (event_count (small r) (back r m)) =
        ap (λ v. arrivals large v members (event_count large v)) (sym there) ∙ ap (λ ms. arrivals large (to.process (back r m)) ms (event_count large (to.process (back r m)))) (sym l.2)
        ∙ arrives_end to (small r) large emb l.0 (back r m) set in
        ap (λ v. nat_le v (arrivals large m members (event_count large m))) j ∙ ap (nat_le (arrivals (small r) i.0.proc l.0 i.0.at)) n ∙ le

    pub may_up : AllMay large
    may_up y (Get owner key) is = get_up y owner key is
    may_up y (Leave members) is = list_all_of_members _ members (member_comes y members is)
    may_up y _ is = refl
