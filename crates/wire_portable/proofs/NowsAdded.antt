-- What a get-now has to keep, part by part.
use Rattle.std.proofs.Common.{◌≡◌, ◌≢◌, ◌∙◌, ap, sym, refl, subst, ℕ, List, Bool, true, false, not, Some}
use Rattle.std.proofs.lemmas.Bool.{true≢false}
use Rattle.wire_runs.specs.Plan.{Plan, Event, GetNow, kind, same_node}
use Rattle.wire_scripts.specs.Map.{job_at}
use Rattle.wire_scripts.specs.Planned.{plan_of}
use Rattle.wire_scripts.specs.Scripts.{Scripts}
use Rattle.wire_library_laws.specs.Library.{Family, Words}
use Rattle.wire_library_laws.specs.Portable.{IsAsked, IsPortableNow}
use Rattle.wire_library_laws.specs.Anywhere.{IsPortableNowAnywhere}
use Rattle.wire_portable.specs.declared.libraries.Libraries.{Libraries}
use Rattle.wire_portable.specs.declared.libraries.Library.{Library}
use Rattle.wire_portable.specs.declared.listed.Unportable.{Unportable}
use Rattle.wire_portable.specs.Adding.{AddsUnportable}
use Rattle.wire_portable.specs.Judging.{NoRewrites}
use Rattle.wire_portable.specs.Kept.{IsNowFine}
use Rattle.wire_portable.specs.Libraries.{family_of, has, all}
use Rattle.wire_portable.specs.Nows.{GetsAreFor, AreForReaders, AreListedGets, IsNearNowFine, IsFarNowFine, IsLiveNow}
use Rattle.wire_portable.specs.Searched.{Searched, plan_in, words_in, MayBe, may_be}
use Rattle.wire_portable.proofs.Added.{adds_nothing, adds_all, adds_both}
use Rattle.wire_portable.proofs.Carried.{now_live, for_readers}

not_both : (b : Bool) → not b ≡ false → b ≡ false → ⊥
not_both true a e = true≢false e
not_both false a e = true≢false a

-- where it is said that q may not be there, it isn't
pub not_may : (anywhere : Bool) (plan : Plan) (near : Bool) (p q : ℕ) → may_be anywhere plan near p q ≡ false → MayBe anywhere plan near p q → ⊥
not_may true plan true p q e may = true≢false e
not_may true plan false p q e may = true≢false e
not_may false plan true p q e may = true≢false (sym (may refl) ∙ e)
not_may false plan false p q e may = not_both (same_node plan p q) e (may refl)

not_true : (b : Bool) → not b ≡ true → b ≡ false
not_true true h = sym h
not_true false h = refl

-- and where it is said that it may be on another node, it may
pub may_far : (anywhere : Bool) (plan : Plan) (p q : ℕ) → may_be anywhere plan false p q ≡ true → MayBe anywhere plan false p q
may_far true plan p q e a = absurd (true≢false a)
may_far false plan p q e a = not_true (same_node plan p q) e

pub live_now : (plan : Plan) (p key : ℕ) (g : Event) → kind plan g ≡ Some (GetNow p key) → g.proc ≢ p → IsAsked plan g → IsLiveNow plan p key g
live_now plan p key g is other asked = record { is = is; another = other; is_live = now_live plan g p key is asked }

module _ (v : Searched) (p key : ℕ) (g : Event) where
  abbrev Near : Library → Type 0
  Near library = MayBe v.anywhere (plan_in v) true p g.proc → IsNearNowFine (plan_in v) p key g

  abbrev Far : Library → Type 0
  Far library = MayBe v.anywhere (plan_in v) false p g.proc → IsFarNowFine v.anywhere (family_of library) (words_in v library) (plan_in v) p key g

  pub not_near : (xs : List Unportable) → may_be v.anywhere (plan_in v) true p g.proc ≡ false → AddsUnportable xs xs Near
  not_near xs e = adds_nothing xs Near (λ library may. absurd (not_may v.anywhere (plan_in v) true p g.proc e may))

  pub not_far : (xs : List Unportable) → may_be v.anywhere (plan_in v) false p g.proc ≡ false → AddsUnportable xs xs Far
  not_far xs e = adds_nothing xs Far (λ library may. absurd (not_may v.anywhere (plan_in v) false p g.proc e may))

  pub fine_near : (xs : List Unportable) → IsNearNowFine (plan_in v) p key g → AddsUnportable xs xs Near
  fine_near xs fine = adds_nothing xs Near (λ library may. fine)

  pub blamed_near : (xs ys : List Unportable) (s : Libraries) → s ≡ all → AddsUnportable xs ys (λ library. has s library ≡ false) → AddsUnportable xs ys Near
  blamed_near xs ys s e h = adds_all xs ys Near (λ library u. let t = h library u in (t.0, ap (λ r. has r library) (sym e) ∙ t.1))

  pub blamed_far : (xs ys : List Unportable) (s : Libraries) →
      ((library : Library) → has s library ≡ false → IsFarNowFine v.anywhere (family_of library) (words_in v library) (plan_in v) p key g) →
      AddsUnportable xs ys (λ library. has s library ≡ false) → AddsUnportable xs ys Far
  blamed_far xs ys s fine h = λ library u. let t = h library u in (t.0, λ may. fine library t.1)

  -- both parts
  now_fine : (library : Library) → Near library → Far library → IsNowFine v library p key g
  now_fine library near far once gets = record {
    near = λ may. near may once;
    there = λ a may. (far may).there a once gets;
    away = λ a. (far (λ b. absurd (true≢false (sym a ∙ b)))).away a once gets;
  }

  pub now_added : (xs ys zs : List Unportable) → AddsUnportable xs ys Near → AddsUnportable ys zs Far → AddsUnportable xs zs (λ library. IsNowFine v library p key g)
  now_added xs ys zs a b = adds_both xs ys zs Near Far (λ library. IsNowFine v library p key g) now_fine a b

  -- by what is told of the plan's nodes, or of any
  pub told_there : (family : Family) (words : Words) → v.anywhere ≡ false → (NoRewrites (plan_in v) → GetsAreFor v.anywhere (plan_in v) → IsPortableNow family words (plan_in v) p key g) →
      IsFarNowFine v.anywhere family words (plan_in v) p key g
  told_there family words e fine = record { there = λ a once gets. fine once gets; away = λ a. absurd (true≢false (sym a ∙ e)) }

  pub told_away : (family : Family) (words : Words) → v.anywhere ≡ true → (NoRewrites (plan_in v) → GetsAreFor v.anywhere (plan_in v) → IsPortableNowAnywhere family words (plan_in v) p key g) →
      IsFarNowFine v.anywhere family words (plan_in v) p key g
  told_away family words e fine = record { there = λ a. absurd (true≢false (sym e ∙ a)); away = λ a once gets. fine once gets }

-- the gets that are listed, of the same scripts by another name
pub listed_as : (a b : Bool) (s t : Scripts) (p : ℕ) (g : Event) (places : List Event) → a ≡ b → s ≡ t → AreListedGets a (plan_of s) p g places → AreListedGets b (plan_of t) p g places
listed_as a b s t p g places e f are = subst (λ r. AreListedGets b (plan_of r) p g places) f (subst (λ c. AreListedGets c (plan_of s) p g places) e are)

module _ (v : Searched) (p key : ℕ) (g : Event) (places : List Event) (library : Library) where
  abbrev Told : Bool → Scripts → Type 0
  Told true s = (words : Words) → words.job ≡ job_at s.processes → NoRewrites (plan_of s) → AreForReaders (plan_of s) p places → IsPortableNowAnywhere (family_of library) words (plan_of s) p key g
  Told false s = (words : Words) → words.job ≡ job_at s.processes → NoRewrites (plan_of s) → AreForReaders (plan_of s) p places → IsPortableNow (family_of library) words (plan_of s) p key g

  readers : (anywhere : Bool) → v.anywhere ≡ anywhere → AreListedGets anywhere (plan_in v) p g places → MayBe v.anywhere (plan_in v) false p g.proc → GetsAreFor v.anywhere (plan_in v) →
      AreForReaders (plan_in v) p places
  readers anywhere e are far gets =
      for_readers (plan_in v) p g places anywhere (subst (λ b. GetsAreFor b (plan_in v)) e gets) are (subst (λ b. MayBe b (plan_in v) false p g.proc) e far)

  pub away_fine : (s : Scripts) → s ≡ v.scripts → v.anywhere ≡ true → MayBe v.anywhere (plan_in v) false p g.proc → AreListedGets true (plan_of s) p g places → Told true s →
      IsFarNowFine v.anywhere (family_of library) (words_in v library) (plan_in v) p key g
  away_fine s e a far are told =
      let here = subst (Told true) e told in
      let listed = subst (λ r. AreListedGets true (plan_of r) p g places) e are in
      told_away v p key g (family_of library) (words_in v library) a (λ once gets. here (words_in v library) refl once (readers true a listed far gets))

  pub there_fine : (s : Scripts) → s ≡ v.scripts → v.anywhere ≡ false → MayBe v.anywhere (plan_in v) false p g.proc → AreListedGets false (plan_of s) p g places → Told false s →
      IsFarNowFine v.anywhere (family_of library) (words_in v library) (plan_in v) p key g
  there_fine s e a far are told =
      let here = subst (Told false) e told in
      let listed = subst (λ r. AreListedGets false (plan_of r) p g places) e are in
      told_there v p key g (family_of library) (words_in v library) a (λ once gets. here (words_in v library) refl once (readers false a listed far gets))
