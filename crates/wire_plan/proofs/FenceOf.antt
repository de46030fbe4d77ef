-- The fence of an event, by the number that its call has in the table of fences.
use Rattle.std.proofs.Common.{◌≡◌, ◌∙◌, ap, sym, refl, subst, ℕ, suc, ◌+◌, ◌<◌, length, take, Bool, true, Option, Some, None, arith, ◌⊎◌, inl, inr}
use Rattle.std.specs.Prelude.{is_some}
use Rattle.std.proofs.lemmas.Bool.{true≢false}
use Rattle.std.proofs.lemmas.Option.{slice_get-get_or, same_Some}
use Rattle.wire_runs.specs.Plan.{Plan, Kind, Leave, kind_at, event_count, set_of}
use Rattle.wire_runs.specs.Fences.{arrivals, arrivals_with}
use Rattle.wire_types.specs.declared.Call.TheVariants as written
use Rattle.wire_scripts.specs.Scripts.{Scripts, call_at, set_at}
use Rattle.wire_scripts.specs.Planned.{plan_of}
use Rattle.wire_fence.specs.FenceTable.{FenceTable, AreFencesOf, IsFenceOf, fence_over, fence_count, fence_at, fence_number}
use Rattle.wire_fence.proofs.Events.{calls_are_arrivals}
use Rattle.wire_runs.specs.Ends.{call_number, calls_of}
use Rattle.wire_runs.proofs.Basics.{event_within}
use Rattle.wire_plan.specs.Meetings.{is_of_fence, fence_members, IsMet}
use Rattle.wire_plan.proofs.Behind.{IsBehind, IsPart, First, Second, Other, part, start_of, start_more, calls_by, event_behind, event_stands, number_behind}

-- the set of a fence is written as sets are
canonical : (s : Scripts) (table : FenceTable) (set : ℕ) → AreFencesOf s table → set < length s.sets → set_of (set_at s.sets set) ≡ set_at s.sets set
canonical s table set fences lt = fences.sound.sets.canonical set (set_at s.sets set) (slice_get-get_or s.sets set _ lt)

-- what is said of an event of a fence call
module _ (s : Scripts) (table : FenceTable) (fences : AreFencesOf s table) (p at c i set : ℕ) (collect : Bool) (e : Kind) (is : kind_at (plan_of s) p at ≡ Some e)
    (called : call_at s.processes p c ≡ Some (written.Fence set collect)) (place : at ≡ start_of s (calls_by s p) c + i) (half : is_of_fence (Some e) ≡ true)
    (members_is : fence_members (Some e) ≡ set_of (set_at s.sets set)) where
  in_table : IsFenceOf s table p c set
  in_table = fences.calls p c set collect called

  there : set < length s.sets
  there = (fences.sound.members p c set collect called).0

  counted : arrivals (plan_of s) p (set_at s.sets set) (start_of s (calls_by s p) c + 2) ≡ fence_count set (take (suc c) (calls_by s p))
  counted = ap (arrivals (plan_of s) p (set_at s.sets set)) (sym (start_more s (calls_by s p) c (written.Fence set collect) called)) ∙ calls_are_arrivals s p (suc c) set fences.sound there

  second : kind_at (plan_of s) p (start_of s (calls_by s p) c + 1) ≡ Some (Leave (set_of (set_at s.sets set)))
  second = event_stands s p c 1 (written.Fence set collect) (Leave (set_of (set_at s.sets set))) called refl

  -- the end of a fence is no arrival
  first_counts : arrivals (plan_of s) p (set_at s.sets set) (suc (start_of s (calls_by s p) c)) ≡ arrivals (plan_of s) p (set_at s.sets set) (start_of s (calls_by s p) c + 2)
  first_counts =
      let n = start_of s (calls_by s p) c in
      let members = set_at s.sets set in
      let two : n + 2 ≡ suc (n + 1) = omega arith in
      let one : suc n ≡ n + 1 = omega arith in
      ap (arrivals (plan_of s) p members) one
      ∙ ap (arrivals_with members (arrivals (plan_of s) p members (n + 1))) (sym second)
      ∙ ap (arrivals (plan_of s) p members) (sym two)

  nth : (i ≡ 0) ⊎ (i ≡ 1) → arrivals (plan_of s) p (set_at s.sets set) (suc at) ≡ fence_count set (take (suc c) (calls_by s p))
  nth (inl none) = let here : suc at ≡ suc (start_of s (calls_by s p) c) = omega (arith, place, none) in ap (arrivals (plan_of s) p (set_at s.sets set)) here ∙ first_counts ∙ counted
  nth (inr one) = let here : suc at ≡ start_of s (calls_by s p) c + 2 = omega (arith, place, one) in ap (arrivals (plan_of s) p (set_at s.sets set)) here ∙ counted

  pub met_with : (i ≡ 0) ⊎ (i ≡ 1) → (number : ℕ) → Some number ≡ fence_number table p c → IsMet s table (record { proc = p; at = at }) number
  met_with half number found = record {
    fence = fence_over s set (fence_count set (take (suc c) (calls_by s p)));
    there = subst (λ n. fence_at table n ≡ Some (fence_over s set (fence_count set (take (suc c) (calls_by s p))))) (sym (same_Some _ _ (found ∙ in_table.is))) in_table.fence;
    members = sym (ap fence_members is ∙ members_is ∙ canonical s table set fences there);
    member = (fences.sound.members p c set collect called).1;
    nth = nth half;
  }

  pub numbered : is_some (fence_number table p c) ≡ true
  numbered = ap is_some in_table.is

-- call number c of p has a number in the table, which is that of the fence of its event number `at`
pub record HasFenceAt (s : Scripts) (table : FenceTable) (p at c : ℕ) : Type 0 where
  pub numbered : is_some (fence_number table p c) ≡ true
  pub met : (number : ℕ) → Some number ≡ fence_number table p c → IsMet s table (record { proc = p; at = at }) number

-- so for the call of the event
abbrev pub HasFence : Scripts → FenceTable → ℕ → ℕ → Type 0
HasFence s table p at = HasFenceAt s table p at (call_number (calls_of (plan_of s) p) at)

pub has_fence : (s : Scripts) (table : FenceTable) (p at : ℕ) → AreFencesOf s table → is_of_fence (kind_at (plan_of s) p at) ≡ true → HasFence s table p at
has_fence s table p at fences half = go (kind_at (plan_of s) p at) refl half
  where
    with_part : (e : Kind) → kind_at (plan_of s) p at ≡ Some e → is_of_fence (Some e) ≡ true → (b : IsBehind s (calls_by s p) at e) → IsPart s b.call b.i e → HasFence s table p at
    with_part e is half b (First set collect call_is i_is e_is) =
        let called : call_at s.processes p b.c ≡ Some (written.Fence set collect) = b.is ∙ ap Some call_is in
        subst (HasFenceAt s table p at) (sym (number_behind s p at e b)) (record {
          numbered = numbered s table fences p at b.c b.i set collect e is called b.place half (ap (λ x. fence_members (Some x)) e_is);
          met = met_with s table fences p at b.c b.i set collect e is called b.place half (ap (λ x. fence_members (Some x)) e_is) (inl i_is);
        })
    with_part e is half b (Second set collect call_is i_is e_is) =
        let called : call_at s.processes p b.c ≡ Some (written.Fence set collect) = b.is ∙ ap Some call_is in
        subst (HasFenceAt s table p at) (sym (number_behind s p at e b)) (record {
          numbered = numbered s table fences p at b.c b.i set collect e is called b.place half (ap (λ x. fence_members (Some x)) e_is);
          met = met_with s table fences p at b.c b.i set collect e is called b.place half (ap (λ x. fence_members (Some x)) e_is) (inr i_is);
        })
    with_part e is half b (Other apart names) = absurd (true≢false (sym half ∙ apart))

    go : (o : Option Kind) → kind_at (plan_of s) p at ≡ o → is_of_fence o ≡ true → HasFence s table p at
    go None is h = absurd (true≢false (sym h))
    go (Some e) is h = let b = event_behind s p at e is in with_part e is h b (part s b.call b.i e b.here)

-- it is one of its process's events
pub of_fence_within : (plan : Plan) (p at : ℕ) → is_of_fence (kind_at plan p at) ≡ true → at < event_count plan p
of_fence_within plan p at half = go (kind_at plan p at) refl half
  where
    go : (o : Option Kind) → kind_at plan p at ≡ o → is_of_fence o ≡ true → at < event_count plan p
    go None is h = absurd (true≢false (sym h))
    go (Some e) is h = event_within plan p at e is
