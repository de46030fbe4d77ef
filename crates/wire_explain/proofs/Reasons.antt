-- Why a rank isn't enabled.
use Rattle.std.proofs.Common.{◌≡◌, ◌∙◌, ap, sym, refl, ℕ, Bool, true, false, cond, not, nat_le, ◌==◌, List, [], ◌∷◌, length, Option, Some, None, inl, inr, arith}
use Rattle.std.specs.Prelude.{filter, is_some}
use Rattle.std.specs.List.{list_all}
use Rattle.std.proofs.lemmas.Bool.{cases_Bool, eq-eqb, ne_eqb, true≢false}
use Rattle.wire_runs.specs.Plan.{Plan, Kind, Leave, Get, LookupWait, same_node, admits}
use Rattle.wire_runs.specs.Puts.{own, stored, scope_of}
use Rattle.wire_runs.specs.Fences.{arrivals}
use Rattle.wire_runs.specs.State.{State, next_event}
use Rattle.wire_runs.specs.Step.{is_seen, may_do}
use Rattle.wire_runs.specs.Sight.{Shown, Outside, held, served}
use Rattle.wire_explain.specs.Told.{AreReasons, can_wait}

-- all pass exactly where none is left that doesn't
all_pass : (f : ℕ → Bool) (xs : List ℕ) → list_all f xs ≡ (length (filter (λ x. not (f x)) xs) == 0)
all_pass f [] = refl
all_pass f (x ∷ xs) = elim (cases_Bool (f x)) [
  | inl passes ↦ rw passes (all_pass f xs)
  | inr fails ↦ rw fails (sym (ne_eqb (length (x ∷ filter (λ y. not (f y)) xs)) 0 (λ e. absurd (omega (arith, e)))))
]

held_seen : (o : Option ℕ) → is_seen (held o) ≡ is_some o
held_seen None = refl
held_seen (Some put) = refl

served_seen : (plan : Plan) (p : ℕ) (same : Bool) (o : Option ℕ) → is_seen (served plan p same o) ≡ is_some o
served_seen plan p same None = refl
served_seen plan p same (Some put) = go (admits (scope_of plan p put) same)
  where
    go : (b : Bool) → is_seen (cond b (Shown put) Outside) ≡ true
    go true = refl
    go false = refl

other_enabled : (plan : Plan) (s : State) (p : ℕ) (kind : Kind) → can_wait kind ≡ false → may_do plan s (next_event s p) (Some kind) ≡ true
other_enabled plan s p (Get owner key) is = absurd (true≢false is)
other_enabled plan s p (Leave members) is = absurd (true≢false is)
other_enabled plan s p (LookupWait name) is = absurd (true≢false is)
other_enabled plan s p _ is = refl

pub reasons : AreReasons
reasons plan s p = record {
  ended = λ is. ap (may_do plan s (next_event s p)) is;
  fence = λ members is. ap (may_do plan s (next_event s p)) is ∙ all_pass (λ m. nat_le (arrivals plan p members (s.done p)) (arrivals plan m members (s.done m))) members;
  key = λ owner key is other. ap (may_do plan s (next_event s p)) is
      ∙ ap (λ b. is_seen (cond b (held (own plan owner key (s.done p))) (served plan owner (same_node plan owner p) (stored plan owner key (s.done owner))))) (ne_eqb p owner (λ e. other (sym e)))
      ∙ served_seen plan owner (same_node plan owner p) (stored plan owner key (s.done owner));
  own_key = λ key is. ap (may_do plan s (next_event s p)) is
      ∙ ap (λ b. is_seen (cond b (held (own plan p key (s.done p))) (served plan p (same_node plan p p) (stored plan p key (s.done p))))) (eq-eqb p p refl)
      ∙ held_seen (own plan p key (s.done p));
  name = λ name is. ap (may_do plan s (next_event s p)) is;
  others = λ kind is plain. ap (may_do plan s (next_event s p)) is ∙ other_enabled plan s p kind plain;
}
