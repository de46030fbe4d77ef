-- A circle in a table of waits is a deadlock, and a deadlock a circle in it. Who waits for nobody by the table waits for no
-- rank.
use Rattle.std.proofs.Common.{◌≡◌, ◌<◌, ◌↔◌, ℕ, List, [], ◌∷◌, length, slice_index, Some, None, inl, inr, refl, Bool, true, ◌==◌, arith}
use Rattle.std.specs.Prelude.{Option, Vec, MatchOption, nat_lt}
use Rattle.std.specs.List.{Contains}
use Rattle.std.proofs.lemmas.Bool.{and_parts, and_from, ltb-true, lt-ltb, eqb-true, eq-eqb}
use Rattle.std.specs.declared.alloc.Global.{Global}
use Rattle.wire_runs.specs.Plan.{Plan, event_count}
use Rattle.wire_runs.specs.State.{State}
use Rattle.wire_circles.specs.Circles.{IsCircle, WaitsFor, waited_by}
use Rattle.wire_circles.specs.Deadlocks.{RankWaits, IsDeadlock}
use Rattle.wire_standstill.specs.Standstill.{AreWaits, AreWaitedBy, IsDeadlockOrNone, WaitsForNoRank, WaitForNoRank, is_root, roots, circle_in}

around : (One Other : ℕ → ℕ → Type 0) → ((p q : ℕ) → One p q → Other p q) → (circle : List ℕ) → IsCircle One circle → IsCircle Other circle
around One Other so circle is = record {
  some = is.some;
  each = λ i low. so _ _ (is.each i low);
  closed = so _ _ is.closed;
  once = is.once;
}

pub found_there : (plan : Plan) (s : State) (waits : List (Vec ℕ Global)) → AreWaits plan s waits → (circle : Option (Vec ℕ Global)) →
    MatchOption circle ((c : List ℕ) → IsCircle (WaitsFor waits) c → ⊥) (λ c. IsCircle (WaitsFor waits) c.items) → IsDeadlockOrNone plan s (circle_in circle)
found_there plan s waits are None none = inr (refl, λ c is. none c (around (RankWaits plan s) (WaitsFor waits) (λ p q w. (are p q).1 w) c is))
found_there plan s waits are (Some c) is = inl (around (WaitsFor waits) (RankWaits plan s) (λ p q w. (are p q).0 w) c.items is)

-- where a list is empty, nobody is in it, and where nobody is, it is
nobody_in : (xs : List ℕ) → length xs ≡ 0 → (q : ℕ) → Contains xs q → ⊥
nobody_in xs none q (k, low, there) = absurd (omega (arith, none, low))

none_in : (xs : List ℕ) → ((q : ℕ) → Contains xs q → ⊥) → length xs ≡ 0
none_in [] nobody = refl
none_in (x ∷ xs) nobody = absurd (nobody x (0, omega arith, refl))

pub waits_for_no_rank : (plan : Plan) (s : State) (waits : List (Vec ℕ Global)) → AreWaits plan s waits → (p : ℕ) → (is_root plan s waits p ≡ true) ↔ WaitsForNoRank plan s p
waits_for_no_rank plan s waits are p = (to, from)
  where
    has_left : Bool
    has_left = nat_lt (s.done p) (event_count plan p)

    is_alone : Bool
    is_alone = length (waited_by waits p) == 0

    to : is_root plan s waits p ≡ true → WaitsForNoRank plan s p
    to h =
        let both = and_parts has_left is_alone h in
        record {
          left = ltb-true (s.done p) (event_count plan p) both.0;
          nobody = λ q w. nobody_in (waited_by waits p) (eqb-true (length (waited_by waits p)) 0 both.1) q ((are p q).1 w);
        }

    from : WaitsForNoRank plan s p → is_root plan s waits p ≡ true
    from w =
        and_from has_left is_alone (lt-ltb (s.done p) (event_count plan p) w.left)
        (eq-eqb (length (waited_by waits p)) 0 (none_in (waited_by waits p) (λ q listed. w.nobody q ((are p q).0 listed))))

-- the roots of a table of waits are the ranks that wait for no rank
pub roots_wait : (plan : Plan) (s : State) (waits : List (Vec ℕ Global)) (never : List ℕ) → AreWaits plan s waits → never ≡ roots plan s waits → WaitForNoRank plan s never
roots_wait plan s waits never are is = record { is_so = is_root plan s waits; tells = waits_for_no_rank plan s waits are; are = is }
