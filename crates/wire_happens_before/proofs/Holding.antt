-- Lists of names: what is added to one of them, and that they have each name under which something stands.
use Rattle.std.proofs.Common.{◌≡◌, ◌∙◌, ap, sym, subst, ℕ, List, [], ◌∷◌, ◌++◌, ◌⊎◌, ⊎_elim}
use Rattle.std.proofs.Common.{true, Option, Some, None, length, inl, inr, eqb-true}
use Rattle.std.specs.Prelude.{slice_get, option_map, ◌≢◌, Result, Ok, Err, OnOk, OnErr}
use Rattle.std.proofs.lemmas.Bool.{cases_Bool, cases_eq, true≢false, cond_both}
use Rattle.wire_runs.specs.Plan.{Event, event_of}
use Rattle.wire_runs.specs.Step.{is_publisher}
use Rattle.wire_happens_before.specs.declared.updates.Update.{Update}
use Rattle.wire_runs.proofs.Lists.{slice_get_push_kept, slice_get_push_last}
use Rattle.wire_happens_before.specs.Updates.{updates_at, standing_in, after_publish, after_unpublish, names_at, IsNameAmong, IsAppended, TakesAway, IsCleared, AreHeld}
use Rattle.wire_happens_before.proofs.Noting.{standing_last}

-- of one process names are added, or nothing
module _ (lists : List (List Update)) (old new : List (List ℕ)) where
  pub held_same : ((p : ℕ) → names_at new p ≡ names_at old p) → AreHeld lists old → AreHeld lists new
  held_same same are = λ name p by. subst (IsNameAmong name) (sym (same p)) (are name p by)

  among_more : (name n : ℕ) (names : List ℕ) → IsNameAmong name names → IsNameAmong name (names ++ n ∷ [])
  among_more name n names (k, is) = (k, slice_get_push_kept names n k name is)

  pub held_more : (q n : ℕ) → names_at new q ≡ names_at old q ++ n ∷ [] → ((p : ℕ) → p ≢ q → names_at new p ≡ names_at old p) → AreHeld lists old → AreHeld lists new
  held_more q n here others are = λ name p by. elim (cases_eq p q) [
    | inl e ↦ subst (λ r. IsNameAmong name (names_at new r)) (sym e) (subst (IsNameAmong name) (sym here) (among_more name n (names_at old q) (subst (λ r. IsNameAmong name (names_at old r)) e (are name p by))))
    | inr ne ↦ subst (IsNameAmong name) (sym (others p ne)) (are name p by)
  ]

  -- where nothing of a process stands any more, its names may go
  pub held_cleared : (q : ℕ) → ((name : ℕ) → IsCleared q (updates_at lists name)) → ((p : ℕ) → p ≢ q → names_at new p ≡ names_at old p) → AreHeld lists old → AreHeld lists new
  held_cleared q cleared others are = λ name p by. elim (cases_eq p q) [
    | inl e ↦ absurd (true≢false (sym (subst (λ r. is_publisher r (standing_in (updates_at lists name)) ≡ true) e by) ∙ cleared name))
    | inr ne ↦ subst (IsNameAmong name) (sym (others p ne)) (are name p by)
  ]

-- a publish by a process stands after what came to a name, or its event is by that process
by_publish : (x : Event) (o : Option Event) (p : ℕ) → is_publisher p (after_publish x o) ≡ true → (is_publisher p o ≡ true) ⊎ (x.proc ≡ p)
by_publish x (Some y) p h = inl h
by_publish x None p h = inr (eqb-true x.proc p h)

by_unpublish : (q : ℕ) (o : Option Event) (p : ℕ) → is_publisher p (after_unpublish q o) ≡ true → is_publisher p o ≡ true
by_unpublish q o p h = cond_both (is_publisher q o) None o (λ r. is_publisher p r ≡ true → is_publisher p o ≡ true) (λ t k. absurd (true≢false (sym k))) (λ f k. k) h

module _ (old new : List (List Update)) (held : List (List ℕ)) where
  pub lists_same : ((n : ℕ) → updates_at new n ≡ updates_at old n) → AreHeld old held → AreHeld new held
  lists_same same are = λ name p by. are name p (ap (λ us. is_publisher p (standing_in us)) (sym (same name)) ∙ by)

  module _ (n : ℕ) (u : Update) (here : updates_at new n ≡ updates_at old n ++ u ∷ []) (others : (m : ℕ) → m ≢ n → updates_at new m ≡ updates_at old m) where
    stands_now : (p : ℕ) → is_publisher p (standing_in (updates_at new n)) ≡ true → is_publisher p (option_map event_of u.standing) ≡ true
    stands_now p by = ap (is_publisher p) (sym (ap standing_in here ∙ standing_last (updates_at old n) u)) ∙ by

    with_one : ((p : ℕ) → is_publisher p (option_map event_of u.standing) ≡ true → IsNameAmong n (names_at held p)) → AreHeld old held → AreHeld new held
    with_one it are = λ name p by. elim (cases_eq name n) [
      | inl e ↦ subst (λ m. IsNameAmong m (names_at held p)) (sym e) (it p (stands_now p (subst (λ m. is_publisher p (standing_in (updates_at new m)) ≡ true) e by)))
      | inr ne ↦ are name p (ap (λ us. is_publisher p (standing_in us)) (sym (others name ne)) ∙ by)
    ]

    pub publish_held : (x : Event) → option_map event_of u.standing ≡ after_publish x (standing_in (updates_at old n)) → IsNameAmong n (names_at held x.proc) → AreHeld old held → AreHeld new held
    publish_held x stands among are = with_one (λ p by. ⊎_elim (λ was. are n p was) (λ e. subst (λ q. IsNameAmong n (names_at held q)) e among)
        (by_publish x (standing_in (updates_at old n)) p (ap (is_publisher p) (sym stands) ∙ by))) are

    pub unpublish_held : (q : ℕ) → option_map event_of u.standing ≡ after_unpublish q (standing_in (updates_at old n)) → AreHeld old held → AreHeld new held
    unpublish_held q stands are = with_one (λ p by. are n p (by_unpublish q (standing_in (updates_at old n)) p (ap (is_publisher p) (sym stands) ∙ by))) are

  swept_by : (z : Event) (name p : ℕ) → TakesAway z (updates_at old name) (updates_at new name) → is_publisher p (standing_in (updates_at new name)) ≡ true →
      is_publisher p (standing_in (updates_at old name)) ≡ true
  swept_by z name p (inl same) by = ap (λ us. is_publisher p (standing_in us)) (sym same) ∙ by
  swept_by z name p (inr (was, u, it, none, list)) by =
      absurd (true≢false (sym (ap (is_publisher p) (sym (ap standing_in list ∙ standing_last (updates_at old name) u ∙ none)) ∙ by)))

  pub swept_held : (z : Event) → ((name : ℕ) → TakesAway z (updates_at old name) (updates_at new name)) → AreHeld old held → AreHeld new held
  swept_held z swept are = λ name p by. are name p (swept_by z name p (swept name) by)

  -- where each name of a process is cleared, so is each name
  pub all_cleared : (z : Event) → ((name : ℕ) → TakesAway z (updates_at old name) (updates_at new name)) →
      ((k n : ℕ) → slice_get (names_at held z.proc) k ≡ Some n → IsCleared z.proc (updates_at new n)) → AreHeld old held → (name : ℕ) → IsCleared z.proc (updates_at new name)
  all_cleared z swept each are name = elim (cases_Bool (is_publisher z.proc (standing_in (updates_at new name)))) [
    | inl by ↦ (let among = are name z.proc (swept_by z name z.proc (swept name) by) in each among.0 name among.1)
    | inr none ↦ none
  ]

-- one sweep after another
pub swept_twice : (z : Event) (a b c : List Update) → TakesAway z a b → TakesAway z b c → TakesAway z a c
swept_twice z a b c (inl ab) (inl bc) = inl (bc ∙ ab)
swept_twice z a b c (inl ab) (inr (by, u, it, none, list)) =
    inr (ap (λ us. is_publisher z.proc (standing_in us)) (sym ab) ∙ by, u, it, none, list ∙ ap (λ us. us ++ u ∷ []) ab)
swept_twice z a b c (inr h) (inl bc) = inr (h.0, h.1, h.2, h.3, bc ∙ h.4)
swept_twice z a b c (inr h) (inr k) =
    absurd (true≢false (sym (ap (is_publisher z.proc) (sym (ap standing_in h.4 ∙ standing_last a h.1 ∙ h.3)) ∙ k.0)))

-- what is cleared stays so
pub cleared_still : (z : Event) (a b : List Update) → TakesAway z a b → IsCleared z.proc a → IsCleared z.proc b
cleared_still z a b (inl same) cleared = ap (λ us. is_publisher z.proc (standing_in us)) same ∙ cleared
cleared_still z a b (inr h) cleared = absurd (true≢false (sym h.0 ∙ cleared))

-- what is added is cleared
pub added_cleared : (p : ℕ) (old new : List Update) (u : Update) → new ≡ old ++ u ∷ [] → option_map event_of u.standing ≡ None → IsCleared p new
added_cleared p old new u list none = ap (is_publisher p) (ap standing_in list ∙ standing_last old u ∙ none)

-- what one call to add an update leaves, whether it failed or not
module _ {A E : Type 0} (r : Result A E) (old new : List (List Update)) (n : ℕ) (u : Update) where
  abbrev pub Added : Type 0
  Added = OnOk r (updates_at new n ≡ updates_at old n ++ u ∷ []) × OnOk r ((m : ℕ) → m ≢ n → updates_at new m ≡ updates_at old m) × OnErr r ((m : ℕ) → updates_at new m ≡ updates_at old m)

pub added_swept : {A E : Type 0} (r : Result A E) (old new : List (List Update)) (n : ℕ) (u : Update) (z : Event) → Added r old new n u → is_publisher z.proc (standing_in (updates_at old n)) ≡ true →
    event_of u.event ≡ z → option_map event_of u.standing ≡ None → (m : ℕ) → TakesAway z (updates_at old m) (updates_at new m)
added_swept (Err e) old new n u z added by it none m = inl (added.2 m)
added_swept (Ok v) old new n u z added by it none m = elim (cases_eq m n) [
  | inl e ↦ subst (λ k. TakesAway z (updates_at old k) (updates_at new k)) (sym e) (inr (by, u, it, none, added.0))
  | inr ne ↦ inl (added.1 m ne)
]

pub publish_kept : {A E : Type 0} (r : Result A E) (old new : List (List Update)) (held : List (List ℕ)) (n : ℕ) (u : Update) (x : Event) → Added r old new n u →
    option_map event_of u.standing ≡ after_publish x (standing_in (updates_at old n)) → IsNameAmong n (names_at held x.proc) → AreHeld old held → AreHeld new held
publish_kept (Err e) old new held n u x added stands among are = lists_same old new held added.2 are
publish_kept (Ok v) old new held n u x added stands among are = publish_held old new held n u added.0 added.1 x stands among are

pub unpublish_kept : {A E : Type 0} (r : Result A E) (old new : List (List Update)) (held : List (List ℕ)) (n : ℕ) (u : Update) (q : ℕ) → Added r old new n u →
    option_map event_of u.standing ≡ after_unpublish q (standing_in (updates_at old n)) → AreHeld old held → AreHeld new held
unpublish_kept (Err e) old new held n u q added stands are = lists_same old new held added.2 are
unpublish_kept (Ok v) old new held n u q added stands are = unpublish_held old new held n u added.0 added.1 q stands are

-- and an update that is added
pub appended : {A E : Type 0} (r : Result A E) (old new : List (List Update)) (n : ℕ) (u : Update) (z : Event) (stands : Option Event) → Added r old new n u → event_of u.event ≡ z →
    option_map event_of u.standing ≡ stands → OnOk r (IsAppended z n stands old new)
appended (Err e) old new n u z stands added it left = tt
appended (Ok v) old new n u z stands added it left = record { update = u; it = it; left = left; list = added.0; others = added.1 }

pub among_last : (name : ℕ) (old new : List ℕ) → new ≡ old ++ name ∷ [] → IsNameAmong name new
among_last name old new is = (length old, ap (λ l. slice_get l (length old)) is ∙ slice_get_push_last old name)

-- nothing stands in no lists
pub none_held : (lists : List (List Update)) (held : List (List ℕ)) → lists ≡ [] → AreHeld lists held
none_held lists held none = λ name p by. absurd (true≢false (sym by ∙ ap (λ l. is_publisher p (standing_in (updates_at l name))) none))
