-- The first call that doesn't succeed, process by process.
use Rattle.std.proofs.Common.{◌≡◌, ◌∙◌, inl, inr, ap, sym, subst, ℕ, zero, suc, ◌+◌, ◌^◌, ◌<◌, List, [], ◌∷◌, length, slice_get, true, false, arith}
use Rattle.std.proofs.lemmas.Bool.{cases_lt}
use Rattle.std.proofs.lemmas.List.Sums.{sum_by-cons}
use Rattle.wire_types.specs.Outcome.{Ends}
use Rattle.wire_types.specs.declared.CallAt.{CallAt}
use Rattle.wire_scripts.specs.Scripts.{Scripts, Process, call_count, calls_in}
use Rattle.wire_command.specs.Success.{succeeds}
use Rattle.wire_commands.specs.Complete.{end_of, end_at, IsCall, EverySucceeds, StandsBefore, IsFirstFailure}

-- no process has more calls than all have
pub calls_fit : (ps : List Process) (p : ℕ) → call_count ps < 2 ^ 31 → length (calls_in (slice_get ps p)) < 2 ^ 31
calls_fit [] p few = omega arith
calls_fit (q ∷ qs) zero few = omega (arith, sum_by-cons (λ (r : Process). length r.calls) q qs, few)
calls_fit (q ∷ qs) (suc p) few = calls_fit qs p (omega (arith, sum_by-cons (λ (r : Process). length r.calls) q qs, few))

-- a process that has a call is there
there : (ps : List Process) (p n : ℕ) → n < length (calls_in (slice_get ps p)) → p < length ps
there [] p n lt = absurd (omega (arith, lt))
there (q ∷ qs) zero n lt = omega arith
there (q ∷ qs) (suc p) n lt = let rest = there qs p n lt in omega (arith, rest)

-- the first n calls of process p succeed
abbrev pub Succeed : Ends → ℕ → ℕ → Type 0
Succeed ends p n = (m : ℕ) → m < n → succeeds (end_of ends p m) ≡ true

-- all calls of the first n processes succeed
abbrev pub Below : Scripts → Ends → ℕ → Type 0
Below s ends n = (y : CallAt) → IsCall s y → y.proc.number < n → succeeds (end_at ends y) ≡ true

pub one_more : (s : Scripts) (ends : Ends) (p calls : ℕ) → calls ≡ length (calls_in (slice_get s.processes p)) → Succeed ends p calls → Below s ends p → Below s ends (p + 1)
one_more s ends p calls count all below y has lt = elim (cases_lt y.proc.number p) [
  | inl lower ↦ below y has lower
  | inr not_lower ↦
      let is : y.proc.number ≡ p = omega (arith, not_lower, lt) in
      let fits : y.call < calls = subst (λ k. y.call < k) (ap (λ q. length (calls_in (slice_get s.processes q))) is ∙ sym count) has in
      subst (λ q. succeeds (end_of ends q y.call) ≡ true) (sym is) (all y.call fits)
]

pub all_succeed : (s : Scripts) (ends : Ends) → Below s ends (length s.processes) → EverySucceeds s ends
all_succeed s ends below y has = below y has (there s.processes y.proc.number y.call has)

pub is_first : (s : Scripts) (ends : Ends) (p calls n : ℕ) → calls ≡ length (calls_in (slice_get s.processes p)) → n < calls → succeeds (end_of ends p n) ≡ false → Succeed ends p n →
    Below s ends p → IsFirstFailure s ends (record { proc = record { number = p }; call = n })
is_first s ends p calls n count fits fails all below = record {
  there = subst (λ k. n < k) count fits;
  fails = fails;
  first = earlier;
}
  where
    earlier : (y : CallAt) → IsCall s y → StandsBefore y (record { proc = record { number = p }; call = n }) → succeeds (end_at ends y) ≡ true
    earlier y has (inl lower) = below y has lower
    earlier y has (inr (is, lt)) = subst (λ q. succeeds (end_of ends q y.call) ≡ true) (sym is) (all y.call lt)
