-- Gets that share a request.
use Rattle.std.proofs.Common.{◌≡◌, ◌∙◌, ℕ, suc, ◌+◌, ◌-◌, ◌<◌, ◌≤◌, inl, inr, List, Some, None, false, map, take, drop, length, refl, sym, ap, subst, arith}
use Rattle.std.specs.Prelude.{slice_get}
use Rattle.std.proofs.lemmas.Bool.{cases_eq, cases_lt}
use Rattle.std.proofs.lemmas.Option.{same_Some, slice_get_within}
use Rattle.wire_types.specs.declared.Event.{Event as CodeEvent}
use Rattle.wire_runs.specs.Plan.{Plan, Event, Kind, Get, kind, event_of}
use Rattle.wire_runs.specs.Puts.{stored}
use Rattle.wire_runs.specs.Order.{Live, Before, Stores}
use Rattle.wire_runs.proofs.Histories.{before_live, same_process, joined}
use Rattle.wire_fates.specs.Deliveries.{AreOfOne}
use Rattle.wire_library_laws.specs.Library.{Family}
use Rattle.wire_library_laws.specs.Portable.{IsRightBefore, EndsFirst, IsAsked, Lacks}
use Rattle.wire_portable.specs.declared.libraries.Library.{Library}
use Rattle.wire_portable.specs.Libraries.{family_of, has, only_v4}
use Rattle.wire_portable.specs.Commits.{IsLastOf}
use Rattle.wire_portable.specs.Gets.{AreUnreadBeside}
use Rattle.wire_portable.specs.Judging.{IsFineMate, AreFineMates}
use Rattle.wire_portable.specs.Sharing.{AreAskedGets, AreTurns, IsApart}
use Rattle.wire_portable.proofs.Keys.{never_there, missing_before}
use Rattle.wire_portable.proofs.Waits.{mate_ends_other, mate_ends_one, mate_after, mate_later, store_later}
use Rattle.wire_portable.proofs.Parts.{behind_in, behind_at, part_within, part_in, part_at}

abbrev owner_of : Kind → ℕ
owner_of (Get owner key) = owner
owner_of _ = 0

abbrev key_of : Kind → ℕ
key_of (Get owner key) = key
key_of _ = 0

-- what has ended when a call is asked is live
pub ended_live : (plan : Plan) (y g : Event) → IsAsked plan g → EndsFirst plan y g → Live plan y
ended_live plan y g asked first = elim first.leads [
  | inl e ↦ subst (Live plan) (sym e) (asked first.last first.is)
  | inr b ↦ before_live b
]

-- what has ended when a call is asked has ended when a later call of that process is
pub ends_later : (plan : Plan) (x h i : Event) → h.proc ≡ i.proc → h.at ≤ i.at → IsAsked plan i → EndsFirst plan x h → EndsFirst plan x i
ends_later plan x h i same le asked first = elim (cases_eq h.at i.at) [
  | inl e ↦ subst (EndsFirst plan x) (λ t. record { proc = same t; at = e t }) first
  | inr ne ↦
      (let n = first.is.next in
      let is : IsRightBefore (record { proc = i.proc; at = i.at - 1 }) i = record { same = refl; next = omega (arith, le, ne) } in
      let up : Before plan first.last (record { proc = i.proc; at = i.at - 1 }) =
      same_process plan first.last (record { proc = i.proc; at = i.at - 1 }) (asked _ is) (first.is.same ∙ same) (omega (arith, n, le, ne)) in
      record {
        last = record { proc = i.proc; at = i.at - 1 };
        is = is;
        leads = inr (elim first.leads [
          | inl e ↦ subst (λ y. Before plan y (record { proc = i.proc; at = i.at - 1 })) (sym e) up
          | inr b ↦ joined b up
        ]);
      })
]

module _ (plan : Plan) (p key : ℕ) (g : Event) where
  -- so what is apart stays apart from later gets of that process
  pub apart_later : (h i : Event) → h.proc ≡ i.proc → h.at ≤ i.at → IsAsked plan i → IsApart plan p key g h → IsApart plan p key g i
  apart_later h i same le asked (inl e) = inl (sym same ∙ e)
  apart_later h i same le asked (inr (inl f)) = inr (inl (ends_later plan g h i same le asked f))
  apart_later h i same le asked (inr (inr t)) = inr (inr (record { event = t.event; its = t.its; there = t.there; first = ends_later plan t.event h i same le asked t.first }))

  pub apart_fine : (family : Family) (h : Event) → IsApart plan p key g h → IsFineMate family plan p key g h
  apart_fine family h (inl e) = λ other is ne. absurd (ne (sym e))
  apart_fine family h (inr (inl f)) = mate_ends_one plan p key g family h f
  apart_fine family h (inr (inr t)) = mate_after plan p key g family h t

  -- where no commit lacks the key, none is answered too early
  pub none_lacking : (family : Family) (hs : List Event) → ((c : Event) → Lacks plan p key c → ⊥) → AreFineMates family plan p key g hs
  none_lacking family hs none k h is other get ne a b c l = absurd (none c l)

  -- the first n of these
  abbrev pub AreFineBelow : Family → List Event → ℕ → Type 0
  AreFineBelow family hs n = (k : ℕ) (h : Event) → k < n → slice_get hs k ≡ Some h → IsFineMate family plan p key g h

  pub one_more_fine : (family : Family) (hs : List Event) (n m : ℕ) (h : Event) → m ≡ suc n → slice_get hs n ≡ Some h → IsFineMate family plan p key g h →
      AreFineBelow family hs n → AreFineBelow family hs m
  one_more_fine family hs n m h next at fine below k x lt is = elim (cases_eq k n) [
    | inl e ↦ subst (IsFineMate family plan p key g) (same_Some _ _ (sym at ∙ ap (slice_get hs) (sym e) ∙ is)) fine
    | inr ne ↦ below k x (omega (arith, lt, next, ne)) is
  ]

  pub all_fine : (family : Family) (hs : List Event) (n : ℕ) → length hs ≤ n → AreFineBelow family hs n → AreFineMates family plan p key g hs
  all_fine family hs n le below k h is = below k h (let within = slice_get_within hs k h is in omega (arith, within, le)) is

  pub ended_fine : (family : Family) (hs : List Event) (n : ℕ) → ((k : ℕ) (h : Event) → k < n → slice_get hs k ≡ Some h → EndsFirst plan h g) → AreFineBelow family hs n
  ended_fine family hs n ended k h lt is = mate_ends_other plan p key g family h (ended k h lt is)

  -- behind one that is apart all are
  pub rest_fine : (family : Family) (hs : List Event) (n : ℕ) (h : Event) → AreTurns plan p hs → slice_get hs n ≡ Some h → IsApart plan p key g h →
      AreFineBelow family hs n → AreFineMates family plan p key g hs
  rest_fine family hs n h turns at apart below k x is = elim (cases_lt k n) [
    | inl low ↦ below k x low is
    | inr high ↦ apart_fine family x (elim (cases_eq n k) [
      | inl e ↦ subst (IsApart plan p key g) (same_Some _ _ (sym at ∙ ap (slice_get hs) e ∙ is)) apart
      | inr ne ↦ (let up = turns.rising n k h x (omega (arith, high, ne)) at is in apart_later h x up.0 (let lt = up.1 in omega (arith, lt)) (turns.each k x is).asked apart)
    ])
  ]

  -- the first ones, and those behind them
  pub both_fine : (family : Family) (xs : List CodeEvent) (n : ℕ) → AreFineBelow family (map event_of xs) n → AreFineMates family plan p key g (map event_of (drop n xs)) →
      AreFineMates family plan p key g (map event_of xs)
  both_fine family xs n below behind k h is = elim (cases_lt k n) [
    | inl low ↦ below k h low is
    | inr high ↦ behind (k - n) h (behind_at xs n k h high is)
  ]

  -- the first ones, and a part behind them
  pub part_fine : (family : Family) (xs : List CodeEvent) (a b : ℕ) → a ≤ b → AreFineBelow family (map event_of xs) a → AreFineMates family plan p key g (map event_of (take (b - a) (drop a xs))) →
      AreFineBelow family (map event_of xs) b
  part_fine family xs a b le below part k h lt is = elim (cases_lt k a) [
    | inl low ↦ below k h low is
    | inr high ↦ part (k - a) h (part_at xs a (b - a) k h high (omega (arith, le, lt)) is)
  ]

-- of gets of one process those that end before a call are the first ones
pub ended_front : (plan : Plan) (p : ℕ) (g : Event) (hs : List Event) → AreTurns plan p hs → IsAsked plan g → (m n : ℕ) (y : Event) → n ≡ suc m → slice_get hs m ≡ Some y → EndsFirst plan y g →
    (k : ℕ) (h : Event) → k < n → slice_get hs k ≡ Some h → EndsFirst plan h g
ended_front plan p g hs turns asked m n y next at first k h lt is = elim (cases_eq k m) [
  | inl e ↦ subst (λ x. EndsFirst plan x g) (same_Some _ _ (sym at ∙ ap (slice_get hs) (sym e) ∙ is)) first
  | inr ne ↦ earlier h y (turns.rising k m h y (omega (arith, lt, next, ne)) is at) first
]
  where
    earlier : (h y : Event) → (h.proc ≡ y.proc) × (h.at < y.at) → EndsFirst plan y g → EndsFirst plan h g
    earlier h y low first = record {
      last = first.last;
      is = first.is;
      leads = inr (elim first.leads [
        | inl e ↦ subst (Before plan h) e (same_process plan h y (ended_live plan y g asked first) low.0 low.1)
        | inr b ↦ joined (same_process plan h y (ended_live plan y g asked first) low.0 low.1) b
      ]);
    }

-- gets of one process behind the first ones
pub turns_behind : (plan : Plan) (p : ℕ) (xs : List CodeEvent) (a : ℕ) → AreTurns plan p (map event_of xs) → AreTurns plan p (map event_of (drop a xs))
turns_behind plan p xs a turns = record {
  each = λ k h is. turns.each (a + k) h (behind_in xs a k h is);
  rising = λ k l y z lt at_y at_z. turns.rising (a + k) (a + l) y z (omega (arith, lt)) (behind_in xs a k y at_y) (behind_in xs a l z at_z);
}

-- the events from one place to another are of one process, where both ends are
pub turns_between : (plan : Plan) (p : ℕ) (xs : List CodeEvent) (a b : ℕ) → AreAskedGets plan p (map event_of xs) → AreOfOne (map event_of xs) a (b - 1) →
    AreTurns plan p (map event_of (take (b - a) (drop a xs)))
turns_between plan p xs a b gets one = record {
  each = λ k h is. gets.each (a + k) h (part_in xs a (b - a) k h is);
  rising = λ k l y z lt at_y at_z.
      (let within = part_within xs a (b - a) l z at_z in
      between (a + k) (a + l) y z (omega arith) (omega (arith, lt)) (omega (arith, within)) (part_in xs a (b - a) k y at_y) (part_in xs a (b - a) l z at_z));
}
  where
    hs : List Event
    hs = map event_of xs

    same_at : (k l : ℕ) (y z : Event) → k ≡ l → slice_get hs k ≡ Some y → slice_get hs l ≡ Some z → y ≡ z
    same_at k l y z e at_y at_z = same_Some _ _ (sym at_y ∙ ap (slice_get hs) e ∙ at_z)

    -- what stands no later is of no higher process
    upto : (k l : ℕ) (y z : Event) → k ≤ l → slice_get hs k ≡ Some y → slice_get hs l ≡ Some z → y.proc ≤ z.proc
    upto k l y z le at_y at_z = elim (cases_eq k l) [
      | inl e ↦ (let s = ap (λ (x : Event). x.proc) (same_at k l y z e at_y at_z) in omega (arith, s))
      | inr ne ↦ elim (gets.rising k l y z (omega (arith, le, ne)) at_y at_z) [ inl lt ↦ omega (arith, lt) | inr e ↦ (let s = e.0 in omega (arith, s)) ]
    ]

    between : (k l : ℕ) (y z : Event) → a ≤ k → k < l → l < b → slice_get hs k ≡ Some y → slice_get hs l ≡ Some z → (y.proc ≡ z.proc) × (y.at < z.at)
    between k l y z low lt high at_y at_z = elim (gets.rising k l y z lt at_y at_z) [
      | inr e ↦ e
      | inl less ↦
          (let from = upto a k one.first y low one.first_is at_y in
          let to = upto l (b - 1) z one.second (omega (arith, high)) at_z one.second_is in
          let same = one.same in
          absurd (omega (arith, less, from, to, same)))
    ]

-- the key of another get that is stored later than a commit, or never, isn't there after it
module _ (plan : Plan) (mate : Event) (p key q other n : ℕ) (is : kind plan mate ≡ Some (Get q other)) (also : kind plan mate ≡ Some (Get p key)) where
  same_owner : q ≡ p
  same_owner = ap owner_of (same_Some _ _ (sym is ∙ also))

  same_key : other ≡ key
  same_key = ap key_of (same_Some _ _ (sym is ∙ also))

  pub key_later : (x : Event) → x.proc ≡ q → Stores plan x other → n < x.at → stored plan p key (suc n) ≡ None
  key_later x its stores lt = store_later plan p key n x (its ∙ same_owner) (subst (Stores plan x) same_key stores) lt

  pub key_never : ((x : Event) → x.proc ≡ q → Stores plan x other → ⊥) → stored plan p key (suc n) ≡ None
  key_never never = never_there plan p key (λ x its stores. never x (its ∙ sym same_owner) (subst (Stores plan x) (sym same_key) stores)) (suc n)

-- where none of the keys is there at the last commit that lacks a get's that others read which can be under way at once with it,
-- 4.2 alone answers it by them
pub later_fine : (plan : Plan) (p key : ℕ) (g : Event) (library : Library) (hs : List Event) (e : CodeEvent) (first : ℕ) → has only_v4 library ≡ false →
    IsLastOf (Lacks plan p key) (Some e) → e.at < first → AreUnreadBeside plan p first g hs → AreFineMates (family_of library) plan p key g hs
later_fine plan p key g library hs e first not last lt unread k h at other is ne no_first no_last c l has_it = elim (unread k h other at is) [
  | inr (inl ends) ↦ absurd (no_first ends)
  | inr (inr ends) ↦ absurd (no_last ends)
  | inl none ↦ mate_later plan p key g library h e not last (λ q last_key its same.
      let mine : q ≡ p = sym same ∙ last.0.its in
      let also : kind plan h ≡ Some (Get p last_key) = subst (λ r. kind plan h ≡ Some (Get r last_key)) mine its in
      let its_key : other ≡ last_key = ap key_of (same_Some _ _ (sym is ∙ also)) in
      subst (λ r. stored plan r last_key (suc e.at) ≡ None) (sym mine)
      (missing_before plan p last_key (suc e.at) first lt (subst (λ i. stored plan p i first ≡ None) its_key none))) other is ne no_first no_last c l has_it
]
