-- One complete run of a program tells of all its runs, if its plan has one end.
use Rattle.std.proofs.Common.{◌≡◌, ℕ, suc, ◌<◌, ◌≤◌, List, [], ◌∷◌, take, true, inl, inr, refl, sym, ap, ◌∙◌, subst, arith, take_at}
use Rattle.std.proofs.lemmas.Bool.{cases_eq}
use Rattle.wire_runs.specs.Plan.{Plan, kind_at}
use Rattle.wire_runs.specs.State.{State, start, next_kind}
use Rattle.wire_runs.specs.Step.{is_enabled, step, IsInterleaving, run, run_from, IsEnd, IsReachable}
use Rattle.wire_runs.specs.PlainRun.{plain_from}
use Rattle.wire_runs.specs.Laws.{HasOneEnd, plain_end}
use Rattle.wire_runs.proofs.Length.{left_from}
use Rattle.wire_runs.proofs.Due.{reachable_sound, done_same, done_other}
use Rattle.wire_runs.proofs.Onward.{reached_on, done_on, replies_on}
use Rattle.wire_runs.proofs.PlainRun.{plain_is_run, plain_ends}
use Rattle.wire_program_laws.specs.Runs.{IsSameHead, IsCommon, AreOfOneProgram, IsToldBy, OneRunTells}
use Rattle.wire_program_laws.proofs.Ahead.{enabled_same, step_same}
use Rattle.wire_program_laws.proofs.Named.{reachable_named}

module _ (a b : Plan) (v w : List ℕ) (alike : HasOneEnd b) (legal : IsInterleaving b start w) (ends : IsEnd b (run b w)) (head : IsSameHead a b)
    (one : AreOfOneProgram a b v w) where
  -- the end of w is that of the plain run
  the_end : run b w ≡ plain_end b
  the_end = alike w legal ends

  -- from each state that a run can reach, a run goes on to this end
  to_the_end : (s : State) → IsReachable b s → (u : List ℕ) × IsInterleaving b s u × (run_from b s u ≡ plain_end b)
  to_the_end s r =
      let left = left_from b.processes s.done 0 in
      let u = plain_from b left s in
      let is_run = plain_is_run b left s in
      let on = reached_on b s u r is_run in
      (u, is_run, sym on.2 ∙ alike on.0 on.1 (subst (IsEnd b) (sym on.2) (plain_ends b left s (omega arith))))

  -- what is done so far is done there, with the same replies
  done_there : (s : State) → IsReachable b s → (p : ℕ) → s.done p ≤ (plain_end b).done p
  done_there s r p = let on = to_the_end s r in let up = done_on b on.0 s p in let there = ap (λ (t : State). t.done p) on.2 in omega (arith, up, there)

  replies_there : (s : State) → IsReachable b s → (p : ℕ) → s.replies p ≡ take (s.done p) ((plain_end b).replies p)
  replies_there s r p =
      let on = to_the_end s r in
      let m = replies_on b on.0 s p in
      sym (ap (λ (t : State). take (s.done p) (t.replies p)) (sym on.2) ∙ ap (take (s.done p)) m.1 ∙ take_at (s.replies p) m.0 (s.done p) ((reachable_named b s r).lengths p))

  -- what v has come to, and what is left of it
  record Now (s : State) (rest : List ℕ) : Type 0 where
    in_first : IsReachable a s
    in_second : IsReachable b s
    same : (p i : ℕ) → i < s.done p → kind_at a p i ≡ kind_at b p i
    goes_on : run a v ≡ run_from a s rest

  common : (s : State) (rest : List ℕ) → Now s rest → IsCommon a b v w s
  common s rest now =
      record {
        in_first = record {
          reached = now.in_first;
          within = λ p. (let up = done_on a rest s p in let there = ap (λ (t : State). t.done p) now.goes_on in omega (arith, up, there));
          replies = λ p. (
              let m = replies_on a rest s p in
              sym (ap (λ (t : State). take (s.done p) (t.replies p)) now.goes_on ∙ ap (take (s.done p)) m.1 ∙ take_at (s.replies p) m.0 (s.done p) ((reachable_named b s now.in_second).lengths p)));
        };
        in_second = record {
          reached = now.in_second;
          within = λ p. (let low = done_there s now.in_second p in let there = ap (λ (t : State). t.done p) the_end in omega (arith, low, there));
          replies = λ p. replies_there s now.in_second p ∙ ap (λ (t : State). take (s.done p) (t.replies p)) (sym the_end);
        };
        same = now.same;
      }

  next_same : (s : State) (rest : List ℕ) → Now s rest → (p : ℕ) → next_kind a s p ≡ next_kind b s p
  next_same s rest now = one s (common s rest now)

  module _ (s : State) (rest : List ℕ) (now : Now s rest) where
    may_alike : (p : ℕ) → is_enabled a s p ≡ is_enabled b s p
    may_alike p = enabled_same a b head s (reachable_sound a s now.in_first).within (reachable_sound b s now.in_second).within now.same p (next_same s rest now p)

    does_alike : (p : ℕ) → step a s p ≡ step b s p
    does_alike p = step_same a b head s (reachable_sound a s now.in_first).within (reachable_sound b s now.in_second).within now.same p (next_same s rest now p)

    same_calls : (p i : ℕ) → i ≤ s.done p → kind_at a p i ≡ kind_at b p i
    same_calls p i le = elim (cases_eq i (s.done p)) [
      | inl e ↦ subst (λ k. kind_at a p k ≡ kind_at b p k) (sym e) (next_same s rest now p)
      | inr ne ↦ now.same p i (omega (arith, le, ne))
    ]

  -- a step of v is a step of the other plan
  onward : (s : State) (q : ℕ) (rest : List ℕ) → Now s (q ∷ rest) → is_enabled a s q ≡ true → Now (step a s q) rest
  onward s q rest now may = record {
    in_first = reached_on a s (q ∷ []) now.in_first (may, tt);
    in_second = subst (IsReachable b) (sym (does_alike s (q ∷ rest) now q))
        (reached_on b s (q ∷ []) now.in_second (sym (may_alike s (q ∷ rest) now q) ∙ may, tt));
    same = λ p i lt. same_calls s (q ∷ rest) now p i (elim (cases_eq p q) [
      | inl e ↦ (let d : (step a s q).done p ≡ suc (s.done p) = subst (λ r. (step a s q).done r ≡ suc (s.done r)) (sym e) (done_same a s q) in omega (arith, lt, d))
      | inr ne ↦ (let d = done_other a s q p ne in omega (arith, lt, d))
    ]);
    goes_on = now.goes_on;
  }

  -- what is told of the rest of v
  record Told (s : State) (rest : List ℕ) : Type 0 where
    is_run : IsInterleaving b s rest
    same_state : run_from a s rest ≡ run_from b s rest
    at_end : Now (run_from a s rest) []

  told : (rest : List ℕ) (s : State) → Now s rest → IsInterleaving a s rest → Told s rest
  told [] s now h = record { is_run = tt; same_state = refl; at_end = now }
  told (q ∷ rest) s now h =
      let t = told rest (step a s q) (onward s q rest now h.0) h.1 in
      let does = does_alike s (q ∷ rest) now q in
      record {
        is_run = (sym (may_alike s (q ∷ rest) now q) ∙ h.0, subst (λ z. IsInterleaving b z rest) does t.is_run);
        same_state = t.same_state ∙ ap (λ z. run_from b z rest) does;
        at_end = t.at_end;
      }

  at_start : Now start v
  at_start = record {
    in_first = ([], tt, refl);
    in_second = ([], tt, refl);
    same = λ p i lt. absurd (omega (arith, lt));
    goes_on = refl;
  }

  tells : IsInterleaving a start v → IsToldBy a b v w
  tells h =
      let t = told v start at_start h in
      record {
        both = record { is_run = t.is_run; same_state = t.same_state; same_calls = same_calls (run a v) [] t.at_end };
        one_end = λ over.
            t.same_state
            ∙ alike v t.is_run
            (subst (IsEnd b) t.same_state (λ p. sym (may_alike (run a v) [] t.at_end p) ∙ over p))
            ∙ sym the_end;
      }

  -- the end of v is part of both
  pub whole_is_common : IsInterleaving a start v → IsCommon a b v w (run a v)
  whole_is_common h = common (run a v) [] (told v start at_start h).at_end

pub one_run_tells : OneRunTells
one_run_tells a b v w alike legal ends h head one = tells a b v w alike legal ends head one h
