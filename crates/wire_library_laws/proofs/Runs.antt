-- A run of a library on a portable plan is an interleaving by the rules.
use Rattle.std.proofs.Common.{◌≡◌, ℕ, List, [], ◌∷◌, true, Option, Some, is_some, refl, sym, ap, ◌∙◌, subst, eq-eqb}
use Rattle.std.specs.Prelude.{if◌then◌else◌}
use Rattle.wire_runs.specs.Plan.{Plan, Kind, Put, Commit, Arrive, Leave, Get, GetNow, Publish, Lookup, LookupWait, Unpublish, UnpublishAll, Fixed, Event}
use Rattle.wire_runs.specs.State.{Answer, Success, Duplicate, State, start, next_event, next_kind, IsDone}
use Rattle.wire_runs.specs.Names.{calls_name}
use Rattle.std.proofs.lemmas.Bool.{cond-true}
use Rattle.wire_runs.specs.Step.{may_do, reply, is_enabled, step}
use Rattle.wire_runs.proofs.Runs.{run_push, legal_push}
use Rattle.wire_library_laws.specs.Library.{Family, Words, Moment, Asks, Says, answered, told, completed, IsOpen, IsPlainFence, IsFine, IsClean, KeepsName, MaySay, CanCome, asks, says, IsLibraryRun}
use Rattle.wire_library_laws.specs.Portable.{IsPortable}
use Rattle.wire_library_laws.specs.Promised.{IsByRules, Refines}
use Rattle.wire_library_laws.proofs.Past.{AllByRules, newest, reached, sound, asked}
use Rattle.wire_library_laws.proofs.Gets.{get_is}
use Rattle.wire_library_laws.proofs.Got.{Got, got_all}
use Rattle.wire_library_laws.proofs.Nows.{now_is}

-- what the answer is, and that it can come by the rules
abbrev IsLawful : Plan → State → ℕ → Answer → Option Kind → Type 0
IsLawful plan s p a o = (may_do plan s (next_event s p) o ≡ true) × (a ≡ reply plan s (next_event s p) o)

module _ (family : Family) (words : Words) (plan : Plan) (portable : IsPortable family words plan) where
  -- a fence that is plain by its live calls is plain by those that are made
  pub plain_so_far : (h : List Moment) → AllByRules plan h → (members : List ℕ) (j : ℕ) → IsPlainFence words plan (IsDone (told plan h)) members j
  plain_so_far h all members j =
      let f = portable.fences members j in
      let live = (sound plan h all).live_done in
      record { sign = f.sign; alike = λ z collect d. f.alike z collect (live z d); agree = λ y z a b dy dz. f.agree y z a b (live y dy) (live z dz) }

  -- names are kept as the rules do
  fine : (h : List Moment) → AllByRules plan h → (name p : ℕ) (o : Option Kind) → next_kind plan (told plan h) p ≡ o → IsFine family name (told plan h) p o
  fine h all name p (Some (Publish n)) is = λ e. portable.names.fresh (told plan h) p name (reached plan h all) (is ∙ ap (λ k. Some (Publish k)) e)
  fine h all name p (Some (Unpublish n)) is = λ e. portable.names.held (told plan h) p name (reached plan h all) (is ∙ ap (λ k. Some (Unpublish k)) e)
  fine h all name p (Some UnpublishAll) is = portable.star (next_event (told plan h) p) is (asked plan h all (next_event (told plan h) p) refl)
  fine h all name p _ is = tt

  clean : (h : List Moment) → AllByRules plan h → (name : ℕ) → IsClean family plan name h
  clean [] all name = tt
  clean (Asks q ∷ past) all name = clean past all.1 name
  clean (Says q a ∷ past) all name = (fine past all.1 name q (next_kind plan (told plan past) q) refl, clean past all.1 name)

  pub keeps : (h : List Moment) → AllByRules plan h → (p name : ℕ) (k : Kind) → next_kind plan (told plan h) p ≡ Some k → calls_name plan name (next_event (told plan h) p) (Some k) ≡ true →
      KeepsName family plan name h
  keeps h all p name k is calls =
      (portable.named (next_event (told plan h) p) name (ap (calls_name plan name (next_event (told plan h) p)) is ∙ calls) (asked plan h all (next_event (told plan h) p) refl), clean h all name)

  lawful : (before past : List Moment) → AllByRules plan past → Got plan (told plan past) → (p : ℕ) (a : Answer) → IsOpen plan before past p → (k : Kind) → next_kind plan (told plan past) p ≡ Some k →
      MaySay family words plan before past p a k → IsLawful plan (told plan past) p a (Some k)
  lawful before past all known p a opened (Put key scope) is said = (refl, said)
  lawful before past all known p a opened Commit is said = (refl, said)
  lawful before past all known p a opened (Arrive members collect) is said = (refl, said)
  lawful before past all known p a opened (Leave members) is said = said (plain_so_far past all members _)
  lawful before past all known p a opened (Get owner key) is said = get_is family words plan portable before past all p opened owner key is a said
  lawful before past all known p a opened (GetNow owner key) is said = (refl, now_is family words plan portable past all p owner key is known a said)
  lawful before past all known p a opened (Publish name) is said =
      let none = portable.names.fresh (told plan past) p name (reached plan past all) is in
      (refl, said (keeps past all p name (Publish name) is (eq-eqb name name refl)) (λ e. none) ∙ sym (ap (λ (o : Option Event). if is_some o then Duplicate else Success) none))
  lawful before past all known p a opened (Lookup name) is said = (refl, said (keeps past all p name (Lookup name) is (eq-eqb name name refl)))
  lawful before past all known p a opened (LookupWait name) is said = said (keeps past all p name (LookupWait name) is (eq-eqb name name refl))
  lawful before past all known p a opened (Unpublish name) is said =
      let held = portable.names.held (told plan past) p name (reached plan past all) is in
      (refl, said (keeps past all p name (Unpublish name) is (eq-eqb name name refl)) (λ e. held) ∙ sym (cond-true _ _ _ held))
  lawful before past all known p a opened UnpublishAll is said =
      (refl, said (portable.star (next_event (told plan past) p) is (asked plan past all (next_event (told plan past) p) refl)))
  lawful before past all known p a opened (Fixed r) is said =
      (refl, said (portable.reserved (next_event (told plan past) p) (r, is) (asked plan past all (next_event (told plan past) p) refl)))

  -- one answer more
  answer_more : (past : List Moment) (p : ℕ) (a : Answer) → IsByRules plan past → IsLawful plan (told plan past) p a (next_kind plan (told plan past) p) → IsByRules plan (Says p a ∷ past)
  answer_more past p a by l = record {
    is_run = legal_push plan start (completed past) p by.is_run (subst (λ s. is_enabled plan s p ≡ true) (sym by.same) l.0);
    same = run_push plan start (completed past) p ∙ ap (λ s. step plan s p) by.same ∙ sym (ap (answered plan (told plan past) p) l.1);
  }

  moment_more : (past : List Moment) (m : Moment) → AllByRules plan past → Got plan (told plan past) → CanCome family words plan past m → IsByRules plan (m ∷ past)
  moment_more past _ all known (asks {p = p}) = let g = newest plan past all in record { is_run = g.is_run; same = g.same }
  moment_more past _ all known (says {p = p} {a = a} before k is opened said) =
      answer_more past p a (newest plan past all) (subst (IsLawful plan (told plan past) p a) (sym is) (lawful before past all known p a opened k is said))

  pub all_by_rules : (h : List Moment) → IsLibraryRun family words plan h → AllByRules plan h
  all_by_rules [] run_ = record { is_run = tt; same = refl }
  all_by_rules (m ∷ past) run_ = let all = all_by_rules past run_.1 in (moment_more past m all (got_all family words plan portable past all run_.1) run_.0, all)

pub refines : Refines
refines family words plan h portable run_ = newest plan h (all_by_rules family words plan portable h run_)
