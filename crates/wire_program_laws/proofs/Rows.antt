-- A small program that branches, played through: process 1 gets the key of process 0, and makes no more calls if its
-- value is 0; else it would publish a name.
use Rattle.std.proofs.Common.{◌≡◌, ℕ, zero, suc, ◌<◌, ◌≤◌, List, [], ◌∷◌, true, false, Option, Some, None, inr, refl, arith}
use Rattle.wire_runs.specs.Plan.{Plan, Event, Call, CallPut, CallCommit, CallGet, CallPublish, Kind, Put, Commit, Get, GetNow, kinds, kind_at, node_of, event_count, process_count}
use Rattle.wire_types.specs.declared.Scope.TheVariants.{Global}
use Rattle.wire_runs.specs.State.{start}
use Rattle.wire_runs.specs.Step.{IsInterleaving, run, IsEnd}
use Rattle.wire_runs.specs.Ends.{calls_of}
use Rattle.wire_runs.specs.Names.{writes_name}
use Rattle.wire_runs.specs.Races.{IsSettled}
use Rattle.wire_types.specs.declared.Scope.{Scope}
use Rattle.wire_runs.proofs.Due.{reachable_sound}
use Rattle.wire_runs.proofs.PlainRun.{plain_runs}
use Rattle.wire_program_laws.specs.Runs.{IsSameHead}
use Rattle.wire_program_laws.specs.Programs.{Text, Told, Program, event, told, AreChosen, IsRunOf}
use Rattle.wire_program_laws.proofs.Programs.{programs_tell}

-- a put, a commit, and a get by the node's other process
row : Plan
row = record { processes = record { node = 0; calls = CallPut 7 Global ∷ (CallCommit ∷ []) } ∷ (record { node = 0; calls = CallGet 0 7 ∷ [] } ∷ []); keep = false }

-- the events of the plan, one by one: what holds of each of them and of nothing holds of all
each_event : (P : Option Kind → Type 0) → P None → P (Some (Put 7 Global)) → P (Some Commit) → P (Some (Get 0 7)) → (p i : ℕ) → P (kind_at row p i)
unfolding row kinds kind_at
each_event P n a b c zero zero = a
each_event P n a b c zero (suc zero) = b
each_event P n a b c zero (suc (suc i)) = n
each_event P n a b c (suc zero) zero = c
each_event P n a b c (suc zero) (suc i) = n
each_event P n a b c (suc (suc p)) i = n

-- a put stands at the number 0
put_at_zero : (p i key : ℕ) (scope : Scope) → kind_at row p i ≡ Some (Put key scope) → i ≡ 0
unfolding row kinds kind_at
put_at_zero zero zero key scope e = refl
put_at_zero zero (suc zero) key scope e = cc
put_at_zero zero (suc (suc i)) key scope e = cc
put_at_zero (suc zero) zero key scope e = cc
put_at_zero (suc zero) (suc i) key scope e = cc
put_at_zero (suc (suc p)) i key scope e = cc

row_is_settled : IsSettled row
row_is_settled = record {
  no_rewrite = λ x y r. (let l = r.later in let z = put_at_zero y.proc y.at r.key r.later_scope r.later_is in omega (arith, l, z));
  no_node_race = λ x y key r. each_event (λ o. (o ≡ Some (GetNow x.proc key)) → ⊥) (λ e. cc) (λ e. cc) (λ e. cc) (λ e. cc) y.proc y.at r.near.is;
  no_delivery_race = λ x y owner key r. each_event (λ o. (o ≡ Some (GetNow owner key)) → ⊥) (λ e. cc) (λ e. cc) (λ e. cc) (λ e. cc) y.proc y.at r.is;
  no_name_race = λ x y name r. each_event (λ o. (writes_name row name x o ≡ true) → ⊥) (λ e. cc) (λ e. cc) (λ e. cc) (λ e. cc) x.proc x.at r.x_writes;
}

by_text : List Text → Option Call
by_text ((zero ∷ []) ∷ []) = None
by_text _ = Some (CallPublish 3)

chooses : ℕ → List Told → Option Call
chooses zero [] = Some (CallPut 7 Global)
chooses zero (a ∷ []) = Some CallCommit
chooses zero (a ∷ (b ∷ more)) = None
chooses (suc zero) [] = Some (CallGet 0 7)
chooses (suc zero) (a ∷ []) = by_text a.texts
chooses (suc zero) (a ∷ (b ∷ more)) = None
chooses (suc (suc p)) past = None

says_it : ℕ → List Told → Text
says_it zero [] = 0 ∷ []
says_it _ _ = []

spoken : ℕ → ℕ → Text
spoken zero zero = 0 ∷ []
spoken _ _ = []

text : Event → Text
text x = spoken x.proc x.at

program : Program
program = record { choose = chooses; says = says_it }

order : List ℕ
order = 0 ∷ (0 ∷ (1 ∷ []))

legal : IsInterleaving row start order
unfolding order row kinds kind_at node_of event_count
legal = (refl, (refl, (refl, tt)))

whole_run : IsRunOf program row text order
unfolding by_text chooses says_it spoken text program order row kinds kind_at node_of event_count
whole_run = record { is_run = legal; chosen = chosen; said = said }
  where
    chosen : (p : ℕ) → p < process_count row → AreChosen program row text (run row order) p 0 (calls_of row p)
    chosen zero lt = (refl, inr (omega arith, (refl, inr (omega arith, refl))))
    chosen (suc zero) lt = (refl, inr (omega arith, refl))
    chosen (suc (suc p)) lt = absurd (omega (arith, lt))

    said : (p i : ℕ) → i ≤ (run row order).done p → text (event p i) ≡ program.says p (told row text ((run row order).replies p) p i)
    said zero zero le = refl
    said zero (suc zero) le = refl
    said zero (suc (suc zero)) le = refl
    said zero (suc (suc (suc i))) le = absurd (omega (arith, le))
    said (suc zero) zero le = refl
    said (suc zero) (suc zero) le = refl
    said (suc zero) (suc (suc i)) le = absurd (omega (arith, le))
    said (suc (suc p)) zero le = refl
    said (suc (suc p)) (suc i) le = let none : (run row order).done (suc (suc p)) ≤ 0 = (reachable_sound row (run row order) (order, legal, refl)).within (suc (suc p)) in absurd (omega (arith, le, none))

whole_ends : IsEnd row (run row order)
unfolding order row kinds kind_at node_of event_count
whole_ends zero = refl
whole_ends (suc zero) = refl
whole_ends (suc (suc p)) = refl

-- so each complete run of the program makes these three calls, whatever comes first
told_by_one : (a : Plan) (other : Event → Text) (v : List ℕ) → IsRunOf program a other v → IsSameHead a row → IsEnd a (run a v) → a ≡ row
told_by_one a other v is_run head over = (programs_tell program a row other text v order ((plain_runs row).is_the_end row_is_settled) whole_run whole_ends is_run head).same_plan over
