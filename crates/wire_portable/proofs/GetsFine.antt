-- What a get that waits keeps for a library.
use Rattle.std.proofs.Common.{◌≡◌, ◌∙◌, ℕ, Bool, true, false, not, List, inl, inr, refl, sym, ap}
use Rattle.std.proofs.lemmas.Bool.{true≢false}
use Rattle.wire_runs.specs.Plan.{Plan, Event}
use Rattle.wire_library_laws.specs.Portable.{IsFor, IsPortableFar, Lacks}
use Rattle.wire_portable.specs.declared.libraries.Library.{Library}
use Rattle.wire_portable.specs.declared.listed.Unportable.{Unportable}
use Rattle.wire_portable.specs.Libraries.{family_of}
use Rattle.wire_portable.specs.Adding.{AddsUnportable}
use Rattle.wire_portable.specs.Gets.{place_in, AreOpenGets}
use Rattle.wire_portable.specs.Phases.{IsThereUnlessEnded}
use Rattle.wire_portable.specs.Sharing.{AreAskedGets}
use Rattle.wire_portable.specs.Judging.{NoRewrites, IsEndedNear, IsEndedFar, AreFineMates}
use Rattle.wire_portable.specs.Searched.{MayBe, may_be, HasNoMate, IsNearFine, IsFarFine}

-- two that are added one after the other
pub both_added : (old more new : List Unportable) (P Q R : Library → Type 0) → ((library : Library) → P library → Q library → R library) →
    AddsUnportable old more P → AddsUnportable more new Q → AddsUnportable old new R
both_added old more new P Q R join first second library free =
    let b = second library free in
    let a = first library b.0 in
    (a.0, join library a.1 b.1)

-- nothing is added, and nothing asked
pub none_added : (old : List Unportable) (P : Library → Type 0) → ((library : Library) → P library) → AddsUnportable old old P
none_added old P holds library free = (free, holds library)

-- where it may not be
pub may_not : (anywhere : Bool) (plan : Plan) (near : Bool) (p q : ℕ) → may_be anywhere plan near p q ≡ false → MayBe anywhere plan near p q → ⊥
may_not true plan true p q e may = true≢false e
may_not true plan false p q e may = true≢false e
may_not false plan true p q e may = true≢false (sym (may refl) ∙ e)
may_not false plan false p q e may = true≢false (sym (ap not (may refl)) ∙ e)

-- open gets are asked
pub asked_gets : (together : Bool) (plan : Plan) (p n : ℕ) (hs : List Event) → AreOpenGets together plan p n hs → AreAskedGets plan p hs
asked_gets together plan p n hs are = record {
  each = λ k h is. (let o = are.only k h is in record { key = o.key; is = o.is; asked = o.asked });
  rising = are.rising;
}

module _ (library : Library) (plan : Plan) (p key : ℕ) (g : Event) where
  pub near_fine : IsEndedNear (family_of library) plan p key g → (NoRewrites plan → IsFor plan p key true) → IsNearFine library plan p key g
  near_fine ended for_it once = record { scope = for_it once; first = ended.first; flaky = ended.flaky }

  pub far_alone : IsEndedFar (family_of library) plan p key g → (NoRewrites plan → IsFor plan p key false) → NoRewrites plan → IsPortableFar (family_of library) plan p key g
  far_alone ended for_it once = record { scope = for_it once; first = ended }

  -- where no live commit lacks its key, it isn't answered too early by its own request
  pub none_lacking : ((x : Event) → Lacks plan p key x → ⊥) → IsEndedFar (family_of library) plan p key g
  none_lacking never at_once commit lacks = absurd (never commit lacks)

  pub no_mate : (anywhere : Bool) (hs : List Event) → AreOpenGets anywhere plan p (place_in anywhere plan g.proc) hs → AreFineMates (family_of library) plan p key g hs →
      HasNoMate anywhere library plan p key g
  no_mate anywhere hs are fine h other_key is other asked differ there =
      let at = are.all h (record { key = other_key; is = is; other = other; asked = asked; there = there }) in
      fine at.0 h at.1 other_key is differ

  -- no live commit of the owner lacks the key
  pub none_lacks : (anywhere : Bool) → ((x : Event) → Lacks plan p key x → ⊥) → HasNoMate anywhere library plan p key g
  none_lacks anywhere never h other_key is other asked differ there not_first not_last commit lacks has = absurd (never commit lacks)

  -- where its key is stored in an earlier phase, g has none
  pub none_of_phase : (anywhere : Bool) → IsThereUnlessEnded plan p key g → HasNoMate anywhere library plan p key g
  none_of_phase anywhere later h other_key is other asked differ there not_first not_last commit lacks has =
      elim (later h other_key is asked) [ inl e ↦ absurd (not_last e) | inr t ↦ t ]

  pub far_fine : (anywhere : Bool) → (NoRewrites plan → IsPortableFar (family_of library) plan p key g) → HasNoMate anywhere library plan p key g → IsFarFine anywhere library plan p key g
  far_fine anywhere alone beside = record { alone = alone; beside = beside }
