-- One rank fewer: a name that is published once and never taken away among the others, is so among all.
use Rattle.std.proofs.Common.{◌≡◌, ℕ, zero, suc, List, [], ◌∷◌, ◌++◌, map, Bool, true, false, Option, Some, None, inl, inr, refl, sym, ap, ◌∙◌, subst, arith, eq-eqb, eqb-true}
use Rattle.std.specs.Prelude.{slice_get}
use Rattle.std.proofs.lemmas.Bool.{cases_eq, true≢false, false_from_ne_true}
use Rattle.std.proofs.lemmas.Option.{none-some, same_Some}
use Rattle.wire_runs.specs.Plan.{Plan, Event}
use Rattle.wire_runs.specs.Plan.{Kind, Publish, Unpublish, UnpublishAll, kinds_of, kind, kind_at}
use Rattle.wire_runs.specs.Fences.{is_member}
use Rattle.wire_runs.specs.Embeddings.{Renaming, image_kind, IsNameOf}
use Rattle.wire_runs.specs.Parts.{MayLeave, IsPartEach}
use Rattle.wire_runs.specs.Patterns.{Line, LinePut, LineCommit, LineFence, LineGet, LineGetNow, LinePublish, LineLookup, LineLookupWait, LineUnpublish, LineUnpublishAll, LineFixed}
use Rattle.wire_runs.specs.Patterns.{Step, Once, Loop, Pattern, Coding, Cast, group, who, call_in, turns, loop_calls, step_calls, calls_from, instance_of}
use Rattle.wire_runs.specs.Restrictions.{skip, back, without, restricted, renamed_code, script_in, pieces_of, removal, CanGo}
use Rattle.wire_runs.proofs.Skip.{skip_one, skip_back, back_skip, without_get}
use Rattle.wire_runs.proofs.WholeSets.{rises_group, member_map_not, group_member, plays, not_two, three_left}
use Rattle.wire_runs.proofs.RestrictedCalls.{instance_kinds, kinds_append, code_one}
use Rattle.wire_runs.specs.Plan.{event_count}
use Rattle.wire_runs.specs.Names.{publishes, takes_name}
use Rattle.wire_runs.specs.Order.{PublishesOnce}
use Rattle.wire_runs.specs.Embeddings.{image}
use Rattle.wire_runs.proofs.Basics.{event_within}
use Rattle.wire_runs.proofs.MoreReads.{publish_event}
use Rattle.wire_runs.proofs.Due.{place_path}
use Rattle.wire_runs.proofs.Parts.{here, kinds_agree, publishes_track, back_end, kept_before, waits_at}
use Rattle.wire_runs.proofs.RestrictedEach.{restricted_each}
use Rattle.wire_runs.proofs.NamesToo.{publishing, unpublishing, has_at, at_has, IsTest, publish_test, unpublish_test, steps_too}

-- each name that is published is a code
abbrev IsCoded : Coding → Kind → Type 0
IsCoded coding (Publish n) = (base : ℕ) × (indices : List ℕ) × (n ≡ coding.code base indices)
IsCoded coding _ = Unit {0}

abbrev AreCoded : Coding → List Kind → Type 0
AreCoded coding [] = Unit {0}
AreCoded coding (k ∷ ks) = IsCoded coding k × AreCoded coding ks

coded_at : (coding : Coding) (ks : List Kind) → AreCoded coding ks → (i : ℕ) (k : Kind) → slice_get ks i ≡ Some k → IsCoded coding k
coded_at coding [] a i k is = absurd (none-some k is)
coded_at coding (l ∷ ks) a zero k is = subst (IsCoded coding) (same_Some _ _ is) a.0
coded_at coding (l ∷ ks) a (suc i) k is = coded_at coding ks a.1 i k is

coded_both : (coding : Coding) (xs ys : List Kind) → AreCoded coding xs → AreCoded coding ys → AreCoded coding (xs ++ ys)
coded_both coding [] ys a b = b
coded_both coding (x ∷ xs) ys a b = (a.0, coded_both coding xs ys a.1 b)

coded_line : (coding : Coding) (cast : Cast) (v e : ℕ) (line : Line) → AreCoded coding (kinds_of (call_in coding cast v e line ∷ []))
coded_line coding cast v e (LinePut key scope) = (tt, tt)
coded_line coding cast v e LineCommit = (tt, tt)
coded_line coding cast v e (LineFence items collect) = (tt, (tt, tt))
coded_line coding cast v e (LineGet owner key) = (tt, tt)
coded_line coding cast v e (LineGetNow owner key) = (tt, tt)
coded_line coding cast v e (LinePublish name) = ((name.base, map (who cast v e) name.indices, refl), tt)
coded_line coding cast v e (LineLookup name) = (tt, tt)
coded_line coding cast v e (LineLookupWait name) = (tt, tt)
coded_line coding cast v e (LineUnpublish name) = (tt, tt)
coded_line coding cast v e LineUnpublishAll = (tt, tt)
coded_line coding cast v e (LineFixed reply) = (tt, tt)

coded_lines : (coding : Coding) (cast : Cast) (v e : ℕ) (lines : List Line) → AreCoded coding (kinds_of (map (call_in coding cast v e) lines))
coded_lines coding cast v e [] = tt
coded_lines coding cast v e (line ∷ lines) =
    subst (AreCoded coding) (sym (kinds_append (call_in coding cast v e line ∷ []) (map (call_in coding cast v e) lines))) (coded_both coding _ _ (coded_line coding cast v e line) (coded_lines coding cast v e lines))

coded_loop : (coding : Coding) (cast : Cast) (v : ℕ) (lines : List Line) (es : List ℕ) → AreCoded coding (kinds_of (loop_calls coding cast v lines es))
coded_loop coding cast v lines [] = tt
coded_loop coding cast v lines (e ∷ es) =
    subst (AreCoded coding) (sym (kinds_append (map (call_in coding cast v e) lines) (loop_calls coding cast v lines es))) (coded_both coding _ _ (coded_lines coding cast v e lines) (coded_loop coding cast v lines es))

coded_step : (coding : Coding) (cast : Cast) (v i : ℕ) (step : Step) → AreCoded coding (kinds_of (step_calls coding cast v i step))
coded_step coding cast v i (Once line) = coded_line coding cast v v line
coded_step coding cast v i (Loop other mode lines) = coded_loop coding cast v lines (turns cast v i other mode)

coded_steps : (coding : Coding) (cast : Cast) (v i : ℕ) (steps : List Step) → AreCoded coding (kinds_of (calls_from coding cast v i steps))
coded_steps coding cast v i [] = tt
coded_steps coding cast v i (step ∷ steps) =
    subst (AreCoded coding) (sym (kinds_append (step_calls coding cast v i step) (calls_from coding cast v (suc i) steps)))
    (coded_both coding _ _ (coded_step coding cast v i step) (coded_steps coding cast v (suc i) steps))

-- the kind of an event of an instance
pub instance_at : (pattern : Pattern) (coding : Coding) (cast : Cast) (p i : ℕ) →
    kind_at (instance_of pattern coding cast) p i ≡ slice_get (kinds_of (calls_from coding cast p 0 (script_in pattern (slice_get cast.roles p)))) i
unfolding kind_at
instance_at pattern coding cast p i = ap (λ ks. slice_get ks i) (instance_kinds pattern coding cast p)

pub publish_back : (to : Renaming) (k : Kind) (name : ℕ) → image_kind to k ≡ Publish name → (own : ℕ) × (to.name own ≡ name) × (k ≡ Publish own)
publish_back to (Publish own) name h = (own, (let s : Some (Publish (to.name own)) ≡ Some (Publish name) = ap Some h in cc), refl)
publish_back to _ name h = cc

pub unpublish_back : (to : Renaming) (k : Kind) (name : ℕ) → image_kind to k ≡ Unpublish name → (own : ℕ) × (to.name own ≡ name) × (k ≡ Unpublish own)
unpublish_back to (Unpublish own) name h = (own, (let s : Some (Unpublish (to.name own)) ≡ Some (Unpublish name) = ap Some h in cc), refl)
unpublish_back to _ name h = cc

pub all_back : (to : Renaming) (k : Kind) → image_kind to k ≡ UnpublishAll → k ≡ UnpublishAll
all_back to UnpublishAll h = refl
all_back to _ h = cc

pub plays_role : (o : Option ℕ) (role : ℕ) → plays o role ≡ true → o ≡ Some role
plays_role None role h = absurd (true≢false (sym h))
plays_role (Some x) role h = ap Some (eqb-true x role h)

module _ (pattern : Pattern) (coding : Coding) (cast : Cast) (r role : ℕ) (can : CanGo pattern cast r role) where
  abbrev to : Renaming
  to = removal pattern coding cast r role

  abbrev small : Plan
  small = instance_of pattern coding (restricted r cast)

  abbrev large : Plan
  large = instance_of pattern coding cast

  abbrev those_left : List ℕ
  those_left = group role (without r cast.roles)

  each : IsPartEach to small large (pieces_of pattern coding cast r)
  each = restricted_each pattern coding cast r role can

  -- what those of r's role do, they do by its script
  of_script : (p : ℕ) → slice_get cast.roles p ≡ Some role → (i : ℕ) → kind_at large p i ≡ slice_get (kinds_of (calls_from coding cast p 0 (pattern.script role))) i
  of_script p is i = instance_at pattern coding cast p i ∙ ap (λ o. slice_get (kinds_of (calls_from coding cast p 0 (script_in pattern o))) i) is

  pub left_plays : (q : ℕ) → is_member those_left q ≡ true → slice_get cast.roles (skip r q) ≡ Some role
  left_plays q m = plays_role _ role (ap (λ o. plays o role) (sym (without_get r cast.roles q)) ∙ sym (group_member role (without r cast.roles) q) ∙ m)

  module _ (x : Event) (name : ℕ) (o : PublishesOnce small x name) where
    named : IsNameOf small name
    named = (x, Publish name, o.is, refl)

    coded : IsCoded coding (Publish name)
    coded = coded_at coding _ (coded_steps coding (restricted r cast) x.proc 0 (script_in pattern (slice_get (without r cast.roles) x.proc))) x.at (Publish name)
        (sym (instance_at pattern coding (restricted r cast) x.proc x.at) ∙ o.is)

    name_is : to.name name ≡ coding.code coded.0 (map (skip r) coded.1)
    name_is = ap (λ n. renamed_code coding r name (coding.decode n)) coded.2 ∙ ap (renamed_code coding r name) (coding.decodes coded.0 coded.1)

    tests : (test : Kind → Bool) → IsTest pattern coding cast r role can (to.name name) (map (skip r) coded.1) coded.0 name_is (member_map_not r coded.1) test → (i : ℕ) (k : Kind) →
        kind_at large r i ≡ Some k → test k ≡ true → (bad : ℕ) × ((q : ℕ) → is_member those_left q ≡ true → (skip r q ≡ bad → ⊥) → (j : ℕ) × (l : Kind) × (kind_at large (skip r q) j ≡ Some l) × (test l ≡ true))
    tests test t i k is h =
        let w = steps_too pattern coding cast r role can (to.name name) (map (skip r) coded.1) coded.0 name_is (member_map_not r coded.1) test t 0 false (pattern.script role) (can.lawful.steps role)
        (at_has test _ i k (sym (of_script r can.is i) ∙ is) h) in
        (w.0, λ q m ne. (let f = has_at test _ (w.1 (skip r q) ne) in (f.0, f.1, of_script (skip r q) (left_plays q m) f.0 ∙ f.2, f.3)))

    -- an event of another process
    kept_publish : (q i : ℕ) → kind_at large (skip r q) i ≡ Some (Publish (to.name name)) → record { proc = skip r q; at = i } ≡ image to x
    kept_publish q i is = elim (here to small large (pieces_of pattern coding cast r) each q i (event_within large (skip r q) i _ is)) [
      | inl a ↦ (
          let b = publish_back to a.what (to.name name) (same_Some _ _ (sym a.large_is ∙ is)) in
          let own : b.0 ≡ name = code_one coding r b.0 name b.1 in
          let y : Event = record { proc = q; at = kept_before (pieces_of pattern coding cast r q) i } in
          let s = o.only y (a.small_is ∙ ap Some (b.2 ∙ ap Publish own)) in
          place_path (record { proc = skip r q; at = i }) (skip r q) (to.place q (kept_before (pieces_of pattern coding cast r q) i)) refl (sym a.stands) ∙ ap (image to) s)
      | inr a ↦ absurd (
          let m = subst (MayLeave to small (waits_at (kind_at small q) false (kept_before (pieces_of pattern coding cast r q) i))) (same_Some _ _ (sym a.large_is ∙ is)) a.may_leave in
          m name named refl)
    ]

    r_never : (i : ℕ) → kind_at large r i ≡ Some (Publish (to.name name)) → ⊥
    r_never i is =
        let w = tests (publishing (to.name name)) (publish_test pattern coding cast r role can (to.name name) (map (skip r) coded.1) coded.0 name_is (member_map_not r coded.1)) i _ is (eq-eqb _ _ refl) in
        not_two those_left (back r w.0) x.proc (rises_group role (without r cast.roles)) (three_left role r cast.roles can.four) (λ q m. elim (cases_eq (skip r q) w.0) [
          | inl s ↦ inl (sym (back_skip r q) ∙ ap (back r) s)
          | inr ne ↦ (
              let f = w.1 q m ne in
              inr (skip_one r q x.proc (ap (λ (v : Event). v.proc) (kept_publish q f.0 (f.2 ∙ ap Some (published f.1 f.3))))))
        ])
      where
        published : (k : Kind) → publishing (to.name name) k ≡ true → k ≡ Publish (to.name name)
        published (Publish n) h = ap Publish (eqb-true n (to.name name) h)
        published _ h = absurd (true≢false (sym h))

    kept_unpublish : (q i : ℕ) → kind_at large (skip r q) i ≡ Some (Unpublish (to.name name)) → ⊥
    kept_unpublish q i is = elim (here to small large (pieces_of pattern coding cast r) each q i (event_within large (skip r q) i _ is)) [
      | inl a ↦ (
          let b = unpublish_back to a.what (to.name name) (same_Some _ _ (sym a.large_is ∙ is)) in
          let y : Event = record { proc = q; at = kept_before (pieces_of pattern coding cast r q) i } in
          true≢false (sym (ap (takes_name small name y) (a.small_is ∙ ap Some b.2) ∙ eq-eqb b.0 name (code_one coding r b.0 name b.1)) ∙ o.stays y))
      | inr a ↦ (
          let m = subst (MayLeave to small (waits_at (kind_at small q) false (kept_before (pieces_of pattern coding cast r q) i))) (same_Some _ _ (sym a.large_is ∙ is)) a.may_leave in
          m name named refl)
    ]

    r_keeps : (i : ℕ) → kind_at large r i ≡ Some (Unpublish (to.name name)) → ⊥
    r_keeps i is =
        let w = tests (unpublishing (to.name name)) (unpublish_test pattern coding cast r role can (to.name name) (map (skip r) coded.1) coded.0 name_is (member_map_not r coded.1)) i _ is (eq-eqb _ _ refl) in
        not_two those_left (back r w.0) (back r w.0) (rises_group role (without r cast.roles)) (three_left role r cast.roles can.four) (λ q m. elim (cases_eq (skip r q) w.0) [
          | inl s ↦ inl (sym (back_skip r q) ∙ ap (back r) s)
          | inr ne ↦ absurd (let f = w.1 q m ne in kept_unpublish q f.0 (f.2 ∙ ap Some (unpublished f.1 f.3)))
        ])
      where
        unpublished : (k : Kind) → unpublishing (to.name name) k ≡ true → k ≡ Unpublish (to.name name)
        unpublished (Unpublish n) h = ap Unpublish (eqb-true n (to.name name) h)
        unpublished _ h = absurd (true≢false (sym h))

    kept_all : (q i : ℕ) → kind_at large (skip r q) i ≡ Some UnpublishAll → publishes large (skip r q) (to.name name) (event_count large (skip r q)) ≡ true → ⊥
    kept_all q i is h = elim (here to small large (pieces_of pattern coding cast r) each q i (event_within large (skip r q) i _ is)) [
      | inl a ↦ (
          let b = all_back to a.what (same_Some _ _ (sym a.large_is ∙ is)) in
          let y : Event = record { proc = q; at = kept_before (pieces_of pattern coding cast r q) i } in
          let p : publishes small q name (event_count small q) ≡ true =
          ap (publishes small q name) (sym (back_end to small large (pieces_of pattern coding cast r) each q))
          ∙ sym (publishes_track to small large (pieces_of pattern coding cast r) each q name named (event_count large (skip r q)) (omega arith)) ∙ h in
          true≢false (sym (ap (takes_name small name y) (a.small_is ∙ ap Some b) ∙ p) ∙ o.stays y))
      | inr a ↦ subst (MayLeave to small (waits_at (kind_at small q) false (kept_before (pieces_of pattern coding cast r q) i))) (same_Some _ _ (sym a.large_is ∙ is)) a.may_leave
    ]

    taken : (p i : ℕ) (k : Option Kind) → kind_at large p i ≡ k → takes_name large (to.name name) (record { proc = p; at = i }) k ≡ true → ⊥
    taken p i None is t = true≢false (sym t)
    taken p i (Some (Unpublish n)) is t =
        let same : Some (Unpublish n) ≡ Some (Unpublish (to.name name)) = ap (λ v. Some (Unpublish v)) (eqb-true n (to.name name) t) in
        elim (cases_eq p r) [
          | inl s ↦ r_keeps i (ap (λ v. kind_at large v i) (sym s) ∙ is ∙ same)
          | inr ne ↦ kept_unpublish (back r p) i (ap (λ v. kind_at large v i) (skip_back r p ne) ∙ is ∙ same)
        ]
    taken p i (Some UnpublishAll) is t = elim (cases_eq p r) [
      | inl s ↦ (let f = publish_event large p (to.name name) (event_count large p) t in r_never f.0 (ap (λ v. kind_at large v f.0) (sym s) ∙ f.2))
      | inr ne ↦ kept_all (back r p) i (ap (λ v. kind_at large v i) (skip_back r p ne) ∙ is)
          (ap (λ v. publishes large v (to.name name) (event_count large v)) (skip_back r p ne) ∙ t)
    ]
    taken p i (Some _) is t = true≢false (sym t)

    pub once_there : PublishesOnce large (image to x) (to.name name)
    once_there = record {
      is = kinds_agree to small large (pieces_of pattern coding cast r) each x _ o.is;
      only = λ y is. elim (cases_eq y.proc r) [
        | inl s ↦ absurd (r_never y.at (ap (λ v. kind_at large v y.at) (sym s) ∙ is))
        | inr ne ↦ place_path y (skip r (back r y.proc)) y.at (sym (skip_back r y.proc ne)) refl ∙ kept_publish (back r y.proc) y.at (ap (λ v. kind_at large v y.at) (skip_back r y.proc ne) ∙ is)
      ];
      stays = λ y. false_from_ne_true _ (λ t. taken y.proc y.at (kind large y) refl t);
    }
