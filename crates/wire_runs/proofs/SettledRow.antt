-- A plan that is settled: a put, a commit, and a get by the node's other process.
use Rattle.std.proofs.Common.{◌≡◌, ℕ, zero, suc, [], ◌∷◌, true, false, Option, Some, None, refl, arith}
use Rattle.wire_runs.specs.Plan.{Plan, CallPut, CallCommit, CallGet, Kind, Put, Commit, Get, GetNow, kinds, kind_at, node_of, event_count}
use Rattle.wire_types.specs.declared.Scope.{Scope}
use Rattle.wire_types.specs.declared.Scope.TheVariants.{Global}
use Rattle.wire_runs.specs.State.{State, Value}
use Rattle.wire_runs.specs.Step.{is_enabled, step, run}
use Rattle.wire_runs.specs.Names.{writes_name}
use Rattle.wire_runs.specs.Races.{IsSettled}
use Rattle.wire_runs.specs.Laws.{IsCutOf, plain_end, IsPlainSoFar}
use Rattle.wire_runs.proofs.SoFar.{replies_are_plain}
use Rattle.wire_runs.proofs.OneMore.{one_event_between}

pub row : Plan
row = record { processes = record { node = 0; calls = CallPut 7 Global ∷ (CallCommit ∷ []) } ∷ (record { node = 0; calls = CallGet 0 7 ∷ [] } ∷ []); keep = false }

-- the events of the plan, one by one: what holds of each of them and of nothing holds of all
each_event : (P : Option Kind → Type 0) → P None → P (Some (Put 7 Global)) → P (Some Commit) → P (Some (Get 0 7)) → (p i : ℕ) → P (kind_at row p i)
unfolding row kinds kind_at
each_event P n a b c zero zero = a
each_event P n a b c zero (suc zero) = b
each_event P n a b c zero (suc (suc i)) = n
each_event P n a b c (suc zero) zero = c
each_event P n a b c (suc zero) (suc i) = n
each_event P n a b c (suc (suc p)) i = n

-- a put stands at the number 0
put_at_zero : (p i key : ℕ) (scope : Scope) → kind_at row p i ≡ Some (Put key scope) → i ≡ 0
unfolding row kinds kind_at
put_at_zero zero zero key scope e = refl
put_at_zero zero (suc zero) key scope e = cc
put_at_zero zero (suc (suc i)) key scope e = cc
put_at_zero (suc zero) zero key scope e = cc
put_at_zero (suc zero) (suc i) key scope e = cc
put_at_zero (suc (suc p)) i key scope e = cc

pub row_is_settled : IsSettled row
row_is_settled = record {
  no_rewrite = λ x y r. (let l = r.later in let z = put_at_zero y.proc y.at r.key r.later_scope r.later_is in omega (arith, l, z));
  no_node_race = λ x y key r. each_event (λ o. (o ≡ Some (GetNow x.proc key)) → ⊥) (λ e. cc) (λ e. cc) (λ e. cc) (λ e. cc) y.proc y.at r.near.is;
  no_delivery_race = λ x y owner key r. each_event (λ o. (o ≡ Some (GetNow owner key)) → ⊥) (λ e. cc) (λ e. cc) (λ e. cc) (λ e. cc) y.proc y.at r.is;
  no_name_race = λ x y name r. each_event (λ o. (writes_name row name x o ≡ true) → ⊥) (λ e. cc) (λ e. cc) (λ e. cc) (λ e. cc) x.proc x.at r.x_writes;
}

-- The laws, for the state after the put

after_put : State
after_put = run row (0 ∷ [])

put_cut : IsCutOf row after_put.done after_put
unfolding row kinds kind_at after_put
put_cut = record { reached = (0 ∷ [], (refl, tt), refl); done = λ p. refl }

-- one event of process 0 more is its commit
commit_between : (is_enabled row after_put 0 ≡ true) × (step row after_put 0 ≡ run row (0 ∷ (0 ∷ [])))
unfolding row kinds kind_at after_put
commit_between = one_event_between row after_put.done 0 after_put (run row (0 ∷ (0 ∷ []))) row_is_settled put_cut (record { reached = (0 ∷ (0 ∷ []), (refl, (refl, tt)), refl); done = λ p. refl })

-- the put was answered as in the plain run, in which the get has the value
put_is_plain : IsPlainSoFar row after_put
put_is_plain = replies_are_plain row after_put row_is_settled put_cut.reached

get_in_plain_run : (plain_end row).replies 1 ≡ Value (record { proc = 0; at = 0 }) ∷ []
unfolding row kinds kind_at node_of event_count
get_in_plain_run = refl
