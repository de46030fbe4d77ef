-- When names are fine: by the replies of the plain run, or since each is published once for good.
use Rattle.std.proofs.Common.{◌≡◌, ℕ, [], ◌∷◌, true, Option, Some, None, is_some, inl, inr, refl, sym, ap, ◌∙◌, subst, arith}
use Rattle.std.specs.Prelude.{slice_get}
use Rattle.std.proofs.lemmas.Bool.{cond-true, cond-false, cases_Bool}
use Rattle.wire_runs.specs.Plan.{Plan, Publish, Event}
use Rattle.wire_runs.specs.State.{State, next_event, next_kind, IsDone}
use Rattle.wire_runs.specs.Step.{is_publisher, may_do, reply, is_enabled, step, IsReachable}
use Rattle.wire_runs.specs.Races.{IsSettled}
use Rattle.wire_runs.specs.Laws.{plain_end}
use Rattle.wire_runs.proofs.Due.{reachable_sound}
use Rattle.wire_runs.proofs.Known.{reply_now, reachable_known}
use Rattle.wire_runs.proofs.Lists.{slice_get-append_kept}
use Rattle.wire_runs.proofs.Onward.{reached_on, replies_on}
use Rattle.wire_runs.proofs.SoFar.{to_plain_end}
use Rattle.wire_library_laws.specs.Promised.{NamesByReplies, NamesOnce}

pub names_once : NamesOnce
names_once plan plain = record {
  fresh = λ s p name r is. none s p name r is (s.names name) refl;
  held = λ s p name r is. absurd (plain.stay (next_event s p) name is);
}
  where
    none : (s : State) (p name : ℕ) → IsReachable plan s → next_kind plan s p ≡ Some (Publish name) → (o : Option Event) → s.names name ≡ o → o ≡ None
    none s p name r is None e = refl
    none s p name r is (Some x) e =
        let n = (reachable_sound plan s r).named name x e in
        let d : IsDone s (next_event s p) = subst (IsDone s) (plain.once x (next_event s p) name n.0 is) n.1 in
        absurd (omega (arith, d))

-- a reply that comes next is the plain run's
plain_says : (plan : Plan) → IsSettled plan → (s : State) (p : ℕ) → IsReachable plan s → is_enabled plan s p ≡ true →
    slice_get ((plain_end plan).replies p) (s.done p) ≡ Some (reply plan s (next_event s p) (next_kind plan s p))
plain_says plan settled s p r may =
    let k = reachable_known plan settled s r in
    let on = reached_on plan s (p ∷ []) r (may, tt) in
    let to_end = to_plain_end plan settled (step plan s p) on in
    let more = replies_on plan to_end.0 (step plan s p) p in
    ap (λ (t : State). slice_get (t.replies p) (s.done p)) (sym to_end.2) ∙ ap (λ xs. slice_get xs (s.done p)) more.1
    ∙ slice_get-append_kept ((step plan s p).replies p) more.0 (s.done p) _ (reply_now plan s p (k.lengths p))

pub names_by_replies : NamesByReplies
names_by_replies plan settled none = record {
  fresh = λ s p name r is. free s p name r is (s.names name) refl;
  held = λ s p name r is. elim (cases_Bool (is_publisher p (s.names name))) [
    | inl t ↦ t
    | inr f ↦
        absurd (none.unpublishes (next_event s p) name is
        (plain_says plan settled s p r (ap (may_do plan s (next_event s p)) is) ∙ ap Some (ap (reply plan s (next_event s p)) is ∙ cond-false _ _ _ f)))
  ];
}
  where
    free : (s : State) (p name : ℕ) → IsReachable plan s → next_kind plan s p ≡ Some (Publish name) → (o : Option Event) → s.names name ≡ o → s.names name ≡ None
    free s p name r is None e = e
    free s p name r is (Some x) e =
        absurd (none.publishes (next_event s p) name is
        (plain_says plan settled s p r (ap (may_do plan s (next_event s p)) is) ∙ ap Some (ap (reply plan s (next_event s p)) is ∙ cond-true _ _ _ (ap is_some e))))
