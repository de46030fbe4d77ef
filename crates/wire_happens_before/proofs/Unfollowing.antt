-- Events of these kinds don't only follow: in some plan such an event can't come, has another source, or changes a name.
use Rattle.std.proofs.Common.{◌≡◌, ℕ, zero, suc, List, [], ◌∷◌, Some, None, refl, sym, ◌∙◌, subst, arith}
use Rattle.std.specs.Prelude.{false, ◌==◌, replicate}
use Rattle.std.proofs.lemmas.Bool.{true≢false, cond-true, eq-eqb}
use Rattle.std.proofs.lemmas.List.{get_or-replicate}
use Rattle.wire_runs.specs.Plan.{Plan, Event, CallFence, CallPublish, CallLookupWait, Leave, Get, Publish, LookupWait, Unpublish, UnpublishAll, set_of, kinds, kind_at, event_count}
use Rattle.wire_runs.specs.Order.{Announces, PublishesOnce, may_come}
use Rattle.wire_runs.specs.Names.{takes_name}
use Rattle.wire_scripts.specs.Scripts.{set_at}
use Rattle.wire_plan.specs.Kinds.{kind_of}
use Rattle.wire_plan.specs.declared.kind.Kind.{Kind as CodeKind}
use Rattle.wire_happens_before.specs.Following.{OnlyFollows}

some_is_none : {A : Type 0} (a : A) → Some a ≡ None → ⊥
some_is_none a e = absurd (cc)

-- a kind of the code that is another follows as that does
pub as_kind : (k l : CodeKind) → k ≡ l → ((sets : List (List ℕ)) → OnlyFollows (kind_of sets k)) → (sets : List (List ℕ)) → OnlyFollows (kind_of sets l)
as_kind k l is follows sets = subst (λ kind. OnlyFollows (kind_of sets kind)) is (follows sets)

-- a get of the caller's own key comes only after a put of it
pub get_waits : (owner key : ℕ) → OnlyFollows (Get owner key) → ⊥
get_waits owner key follows =
    let nobody : Plan = record { processes = []; keep = false } in
    true≢false (sym (follows.comes nobody (record { proc = owner; at = 0 })) ∙ cond-true (owner == owner) _ _ (eq-eqb owner owner refl))

-- the end of a fence that a member doesn't call never comes
missed : Plan
missed = record { processes = record { node = 0; calls = [] } ∷ (record { node = 0; calls = CallFence (0 ∷ []) false ∷ [] } ∷ []); keep = false }

never_ends : may_come missed (record { proc = 1; at = 1 }) (Some (Leave (0 ∷ []))) ≡ false
unfolding missed kinds kind_at event_count
never_ends = refl

pub leave_waits : (set : ℕ) → ((sets : List (List ℕ)) → OnlyFollows (Leave (set_of (set_at sets set)))) → ⊥
leave_waits set follows =
    let sets : List (List ℕ) = replicate (suc set) (0 ∷ []) in
    let is : set_at sets set ≡ 0 ∷ [] = get_or-replicate (suc set) set (0 ∷ []) [] (omega arith) in
    let alone : OnlyFollows (Leave (0 ∷ [])) = subst (λ members. OnlyFollows (Leave (set_of members))) is (follows sets) in
    true≢false (sym (alone.comes missed (record { proc = 1; at = 1 })) ∙ never_ends)

-- a waiting lookup waits for the one publish of its name
announced : ℕ → Plan
announced name = record {
  processes = record { node = 0; calls = CallPublish name ∷ [] } ∷ (record { node = 0; calls = CallLookupWait name ∷ [] } ∷ []);
  keep = false;
}

abbrev event : ℕ → ℕ → Event
event p i = record { proc = p; at = i }

one_publish : (name p i : ℕ) → kind_at (announced name) p i ≡ Some (Publish name) → event p i ≡ event 0 0
unfolding announced kinds kind_at
one_publish name zero zero e = refl
one_publish name zero (suc i) e = absurd (cc)
one_publish name (suc zero) zero e = absurd (cc)
one_publish name (suc zero) (suc i) e = absurd (cc)
one_publish name (suc (suc p)) i e = absurd (cc)

no_end : (name p i : ℕ) → takes_name (announced name) name (record { proc = p; at = i }) (kind_at (announced name) p i) ≡ false
unfolding announced kinds kind_at
no_end name zero zero = refl
no_end name zero (suc i) = refl
no_end name (suc zero) zero = refl
no_end name (suc zero) (suc i) = refl
no_end name (suc (suc p)) i = refl

pub lookup_wait_waits : (name : ℕ) → OnlyFollows (LookupWait name) → ⊥
unfolding announced kinds kind_at
lookup_wait_waits name follows =
    let x : Event = record { proc = 0; at = 0 } in
    let y : Event = record { proc = 1; at = 0 } in
    let once : PublishesOnce (announced name) x name = record { is = refl; only = λ z e. one_publish name z.proc z.at e; stays = λ z. no_end name z.proc z.at } in
    some_is_none x (sym (follows.alone (announced name) x y refl (Announces name refl once)))

-- these change what is published
pub publish_changes : (name : ℕ) → OnlyFollows (Publish name) → ⊥
publish_changes name follows =
    let y : Event = record { proc = 0; at = 0 } in
    some_is_none y (sym (cond-true (name == name) (Some y) None (eq-eqb name name refl)) ∙ follows.keeps y name None)

pub unpublish_changes : (name : ℕ) → OnlyFollows (Unpublish name) → ⊥
unpublish_changes name follows =
    let y : Event = record { proc = 0; at = 0 } in
    some_is_none y (sym (follows.keeps y name (Some y)) ∙ cond-true (name == name) None (Some y) (eq-eqb name name refl))

pub unpublish_all_changes : OnlyFollows UnpublishAll → ⊥
unpublish_all_changes follows =
    let y : Event = record { proc = 0; at = 0 } in
    some_is_none y (sym (follows.keeps y 0 (Some y)))
