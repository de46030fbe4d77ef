-- Where each event keeps what it has to, the plan is portable.
use Rattle.std.proofs.Common.{◌≡◌, ◌≢◌, ℕ, ◌<◌, List, Bool, true, false, Some, refl, sym, ap, ◌∙◌, subst, arith}
use Rattle.std.specs.Prelude.{if◌then◌else◌}
use Rattle.std.proofs.lemmas.Bool.{true≢false, eq-eqb}
use Rattle.wire_scripts.specs.Scripts.{IsSound}
use Rattle.wire_runs.specs.Plan.{Plan, Event, Kind, Get, GetNow, Publish, Unpublish, UnpublishAll, Fixed, kind, event_count, node_of, same_node}
use Rattle.wire_runs.specs.State.{State, next_event}
use Rattle.wire_runs.specs.Step.{IsReachable}
use Rattle.wire_runs.proofs.Basics.{event_within}
use Rattle.wire_runs.proofs.Due.{reachable_sound}
use Rattle.wire_library_laws.specs.Portable.{IsAsked, AreNamesFine, IsPortable}
use Rattle.wire_library_laws.specs.Anywhere.{IsPortableAnywhere}
use Rattle.wire_portable.specs.declared.libraries.Library.{Library}
use Rattle.wire_portable.specs.declared.libraries.Library.TheVariants.{V4, V5, V7}
use Rattle.wire_portable.specs.Judging.{NoRewrites}
use Rattle.wire_portable.specs.Libraries.{family_of}
use Rattle.wire_portable.specs.Nows.{GetsAreFor, IsFineNow}
use Rattle.wire_portable.specs.Searched.{Searched, plan_in, words_in, IsGetFine}
use Rattle.wire_portable.specs.Kept.{IsCallFine, IsEventFine, AreAllFine}
use Rattle.wire_portable.specs.Unportable.{IsUnblamed, AreUnportableOn}
use Rattle.wire_portable.specs.declared.listed.Unportable.{Unportable}
use Rattle.wire_portable.proofs.PlainFences.{plain_fences}

-- all together, or a number of its own
abbrev zero_or : Bool → ℕ → ℕ
zero_or together n = if together then 0 else n

names_all : (library : Library) → (family_of library).names ≡ true
names_all V4 = refl
names_all V5 = refl
names_all V7 = refl

-- what comes next in a run is asked
next_asked : (plan : Plan) (s : State) (p : ℕ) → IsReachable plan s → IsAsked plan (next_event s p)
next_asked plan s p r y last =
    let next = last.next in
    let same = last.same in
    (reachable_sound plan s r).live_done y (subst (λ q. y.at < s.done q) (sym same) (omega (arith, next)))

module _ (v : Searched) (library : Library) (sound : IsSound v.scripts) (each : (y : Event) → y.at < event_count (plan_in v) y.proc → IsEventFine v library y) where
  fine : (y : Event) (k : Kind) → kind (plan_in v) y ≡ Some k → IsAsked (plan_in v) y → IsCallFine v library y (Some k)
  fine y k is asked = subst (IsCallFine v library y) is ((each y (event_within (plan_in v) y.proc y.at k is)).call asked)

  no_rewrite : NoRewrites (plan_in v)
  no_rewrite x y again = (each y (event_within (plan_in v) y.proc y.at _ again.later_is)).put x again

  get_fine : (g : Event) (p key : ℕ) → kind (plan_in v) g ≡ Some (Get p key) → g.proc ≢ p → IsAsked (plan_in v) g → IsGetFine v.anywhere library (plan_in v) p key g
  get_fine g p key is other asked = fine g (Get p key) is asked other

  gets_for : GetsAreFor v.anywhere (plan_in v)
  gets_for z p key is other asked may = (((get_fine z p key is other asked).far may).alone no_rewrite).scope

  now_fine : (g : Event) (p key : ℕ) → kind (plan_in v) g ≡ Some (GetNow p key) → g.proc ≢ p → IsAsked (plan_in v) g →
      IsFineNow v.anywhere (family_of library) (words_in v library) (plan_in v) p key g
  now_fine g p key is other asked = fine g (GetNow p key) is asked other no_rewrite gets_for

  names_fine : AreNamesFine (plan_in v)
  names_fine = record {
    fresh = λ s p name r is. fine (next_event s p) (Publish name) is (next_asked (plan_in v) s p r) s r refl;
    held = λ s p name r is. fine (next_event s p) (Unpublish name) is (next_asked (plan_in v) s p r) s r refl;
  }

  -- another node than p's is another process
  elsewhere : (p q : ℕ) → same_node (plan_in v) p q ≡ false → q ≢ p
  elsewhere p q node e = true≢false (sym (eq-eqb _ _ (ap (node_of (plan_in v)) (sym e))) ∙ node)

  pub portable_here : v.anywhere ≡ false → IsPortable (family_of library) (words_in v library) (plan_in v)
  portable_here here = record {
    no_rewrite = no_rewrite;
    near = λ g p key of. (get_fine g p key of.is of.other of.asked).near (λ e. of.where_it_is) no_rewrite;
    far = λ g p key of. ((get_fine g p key of.is of.other of.asked).far (λ e. of.where_it_is)).alone no_rewrite;
    mates = λ g h p key other_key of oh ne same. ((get_fine g p key of.is of.other of.asked).far (λ e. of.where_it_is)).beside h other_key oh.is oh.other oh.asked ne
        (ap (zero_or v.anywhere) (sym same));
    near_now = λ g p key is other node asked. (now_fine g p key is other asked).near (λ e. node);
    far_now = λ g p key is node asked. (now_fine g p key is (elsewhere p g.proc node) asked).there here (λ e. node);
    fences = plain_fences v.scripts sound library v.rows v.sets (λ y within. (each y within).arrival);
    named = λ y name is asked. names_all library;
    names = names_fine;
    star = λ y is asked. fine y UnpublishAll is asked;
    reserved = λ y fixed asked. fine y (Fixed fixed.0) fixed.1 asked;
  }

  pub portable_anywhere : v.anywhere ≡ true → IsPortableAnywhere (family_of library) (words_in v library) (plan_in v)
  portable_anywhere away = record {
    no_rewrite = no_rewrite;
    near = λ g p key is other asked. (get_fine g p key is other asked).near (λ e. absurd (true≢false (sym away ∙ e))) no_rewrite;
    far = λ g p key is other asked. ((get_fine g p key is other asked).far (λ e. absurd (true≢false (sym away ∙ e)))).alone no_rewrite;
    mates = λ g h p key other_key is ish other otherh asked askedh ne. ((get_fine g p key is other asked).far (λ e. absurd (true≢false (sym away ∙ e)))).beside h other_key ish otherh askedh ne
        (in_one_place v.anywhere away (node_of (plan_in v) h.proc) (node_of (plan_in v) g.proc));
    near_now = λ g p key is other asked. (now_fine g p key is other asked).near (λ e. absurd (true≢false (sym away ∙ e)));
    far_now = λ g p key is other asked. (now_fine g p key is other asked).away away;
    fences = plain_fences v.scripts sound library v.rows v.sets (λ y within. (each y within).arrival);
    named = λ y name is asked. names_all library;
    names = names_fine;
    star = λ y is asked. fine y UnpublishAll is asked;
    reserved = λ y fixed asked. fine y (Fixed fixed.0) fixed.1 asked;
  }
    where
      in_one_place : (b : Bool) → b ≡ true → (m n : ℕ) → zero_or b m ≡ zero_or b n
      in_one_place b e m n = ap (λ c. zero_or c m) e ∙ sym (ap (λ c. zero_or c n) e)

-- so the lines tell, on its nodes or wherever its processes are
pub portable_on : (v : Searched) (lines : List Unportable) → IsSound v.scripts → ((library : Library) → IsUnblamed library lines → AreAllFine v library) →
    AreUnportableOn v.anywhere v.scripts v.rows lines
portable_on v lines sound fine = go v.anywhere refl
  where
    go : (b : Bool) → v.anywhere ≡ b → AreUnportableOn b v.scripts v.rows lines
    go false here = λ library u. portable_here v library sound (fine library u) here
    go true away = λ library u. portable_anywhere v library sound (fine library u) away
