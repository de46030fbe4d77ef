-- An order of steps, one step at a time.
use Rattle.std.proofs.Common.{◌≡◌, ◌∙◌, ap, sym, subst, ℕ, suc, List, [], ◌∷◌, ◌++◌, take, true, Some, append_assoc}
use Rattle.std.specs.Prelude.{slice_get}
use Rattle.std.proofs.lemmas.List.{append-nil}
use Rattle.wire_runs.specs.State.{start}
use Rattle.wire_runs.specs.Step.{is_enabled, IsInterleaving, run, run_from, IsEnd}
use Rattle.wire_runs.specs.PlainRun.{plain_run}
use Rattle.wire_runs.specs.Races.{IsSettled}
use Rattle.wire_runs.proofs.PlainRun.{plain_runs}
use Rattle.wire_runs.proofs.Runs.{legal_push, run_append, legal_append}
use Rattle.wire_runs.proofs.Lists.{take_get}
use Rattle.wire_core.specs.Course.{Course, plan_in, state_of}
use Rattle.wire_core.specs.Following.{Follows}

-- no step
pub follows_none : (course : Course) (order : List ℕ) → Follows course (take 0 order) course
follows_none course order = record { enabled = tt; taken = λ i. record { scripts = course.scripts; history = sym (append-nil course.history) i } }

-- and one more, of a process that is enabled
pub follows_push : (old now new : Course) (order : List ℕ) (p : ℕ) → Follows old order now → is_enabled (plan_in now) (state_of now) p ≡ true →
    new ≡ record { scripts = now.scripts; history = now.history ++ p ∷ [] } → Follows old (order ++ p ∷ []) new
follows_push old now new order p follows on new_is =
    let there : is_enabled (plan_in old) (run_from (plan_in old) (state_of old) order) p ≡ true =
    ap (λ s. is_enabled (plan_in old) s p) (sym (run_append (plan_in old) start old.history order))
    ∙ ap (λ c. is_enabled (plan_in c) (state_of c) p) (sym follows.taken) ∙ on in
    record {
      enabled = legal_push (plan_in old) (state_of old) order p follows.enabled there;
      taken = new_is ∙ ap (λ (c : Course). record { scripts = c.scripts; history = c.history ++ p ∷ [] }) follows.taken
          ∙ (λ i. record { scripts = old.scripts; history = append_assoc old.history order (p ∷ []) i });
    }

-- the next of an order
pub follows_more : (old now new : Course) (order : List ℕ) (n p : ℕ) → Follows old (take n order) now → slice_get order n ≡ Some p → is_enabled (plan_in now) (state_of now) p ≡ true →
    new ≡ record { scripts = now.scripts; history = now.history ++ p ∷ [] } → Follows old (take (suc n) order) new
follows_more old now new order n p follows is on new_is = subst (λ xs. Follows old xs new) (sym (take_get order n p is)) (follows_push old now new (take n order) p follows on new_is)

-- where the history so far is an interleaving, it still is one after steps that are followed
pub legal_still : (old new : Course) (order : List ℕ) → Follows old order new → IsInterleaving (plan_in old) start old.history → IsInterleaving (plan_in new) start new.history
legal_still old new order follows legal = subst (λ (c : Course). IsInterleaving (plan_in c) start c.history) (sym follows.taken)
    (legal_append (plan_in old) start old.history order legal follows.enabled)

-- where nothing was done before, the plan is settled and nobody may go on after the steps, the plain run ends in the same state
pub ends_plainly : (old new : Course) (order : List ℕ) → Follows old order new → old.history ≡ [] → IsSettled (plan_in new) → IsEnd (plan_in new) (state_of new) →
    state_of new ≡ run (plan_in new) (plain_run (plan_in new))
ends_plainly old new order follows is_new settled ended =
    let legal : IsInterleaving (plan_in old) start old.history = subst (IsInterleaving (plan_in old) start) (sym is_new) tt in
    (plain_runs (plan_in new)).is_the_end settled new.history (legal_still old new order follows legal) ended
