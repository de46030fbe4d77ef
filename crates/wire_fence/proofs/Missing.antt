-- The counts of members that are missing.
use Rattle.std.proofs.Common.{◌≡◌, ◌∙◌, ℕ, suc, ◌+◌, ◌-◌, ◌<◌, List, map, length, Bool, false, cond, ◌==◌, nat_le, Option, Some, option_map, refl, sym, ap, subst, inl, inr, arith}
use Rattle.std.specs.Str.{bytes_eq}
use Rattle.std.specs.Cmp.Lexicographic.{bytes_decides}
use Rattle.std.proofs.lemmas.Bool.{cases_Bool, cases_eq, cases_lt, le-leb, lt-leb}
use Rattle.std.proofs.lemmas.Option.{same_Some, slice_get_within, slice_get-map, get_or_from_slice_get}
use Rattle.std.proofs.lemmas.List.{length-map, length-set, get_or-set_same, get_or-set_other}
use Rattle.wire_runs.specs.Plan.{Kind, Arrive, kind_at, update}
use Rattle.wire_runs.specs.Fences.{arrivals_with, arrivals, is_complete}
use Rattle.wire_runs.proofs.Basics.{update_same, update_other}
use Rattle.wire_scripts.specs.Scripts.{Scripts, IsSound, set_at}
use Rattle.wire_scripts.specs.Planned.{plan_of}
use Rattle.wire_fence.specs.FenceTable.{FenceInfo, FenceTable, IsFence, AreFencesOf, fence_at}
use Rattle.wire_fence.specs.Arrivals.{arrived, missing_at, one_arrived, TellsMissing, IsArriving}
use Rattle.wire_fence.specs.Missing.{OtherEventsKeep, ArrivalCounts, SomebodyIsMissing, ArrivingIsMissing}
use Rattle.wire_fence.proofs.Counts.{AreDistinct, count_same, count_none, count_short, count_one_more, all_by_count, canonical_distinct, none_missing}
use Rattle.wire_fence.proofs.Events.{set_canonical, same_fence}

-- where p's event changes nothing at a fence
arrived_same : (s : Scripts) (cut : ℕ → ℕ) (p : ℕ) (fence : FenceInfo) →
    nat_le fence.nth (arrivals (plan_of s) p fence.members (suc (cut p))) ≡ nat_le fence.nth (arrivals (plan_of s) p fence.members (cut p)) →
    arrived s (update cut p (suc (cut p))) fence ≡ arrived s cut fence
arrived_same s cut p fence same =
    count_same (λ m. nat_le fence.nth (arrivals (plan_of s) m fence.members (update cut p (suc (cut p)) m))) (λ m. nat_le fence.nth (arrivals (plan_of s) m fence.members (cut m)))
    (λ m. elim (cases_eq m p) [
      | inl here ↦
          ap (λ n. nat_le fence.nth (arrivals (plan_of s) n fence.members (update cut p (suc (cut p)) n))) here
          ∙ ap (λ v. nat_le fence.nth (arrivals (plan_of s) p fence.members v)) (update_same cut p (suc (cut p)))
          ∙ same
          ∙ ap (λ n. nat_le fence.nth (arrivals (plan_of s) n fence.members (cut n))) (sym here)
      | inr other ↦ ap (λ v. nat_le fence.nth (arrivals (plan_of s) m fence.members v)) (update_other cut p (suc (cut p)) m other)
    ])
    fence.members

not_arriving : (members : List ℕ) (n : ℕ) (o : Option Kind) → ((others : List ℕ) (collect : Bool) → o ≡ Some (Arrive others collect) → ⊥) → arrivals_with members n o ≡ n
not_arriving members n (Some (Arrive others collect)) none = absurd (none others collect refl)
not_arriving members n _ none = refl

pub other_events_keep : OtherEventsKeep
other_events_keep s cut table missing p none tells = record {
  count = tells.count;
  each = λ number fence there.
      let same = arrived_same s cut p fence (ap (nat_le fence.nth) (not_arriving fence.members (arrivals (plan_of s) p fence.members (cut p)) (kind_at (plan_of s) p (cut p)) none)) in
      ap (λ n. missing_at missing number + n) same ∙ tells.each number fence there;
}

pub somebody_is_missing : SomebodyIsMissing
somebody_is_missing s cut table missing number p fence there member before tells =
    let short = count_short (λ m. nat_le fence.nth (arrivals (plan_of s) m fence.members (cut m))) fence.members p member before in
    let sum = tells.each number fence there in
    omega (arith, short, sum)

-- the arrival is counted
arrival_step : (s : Scripts) (p n : ℕ) (members others : List ℕ) (collect : Bool) → kind_at (plan_of s) p n ≡ Some (Arrive others collect) →
    arrivals (plan_of s) p members (suc n) ≡ cond (bytes_eq others members) (suc (arrivals (plan_of s) p members n)) (arrivals (plan_of s) p members n)
arrival_step s p n members others collect is = ap (arrivals_with members (arrivals (plan_of s) p members n)) is

arrives_next : (s : Scripts) (cut : ℕ → ℕ) (table : FenceTable) (number p : ℕ) (arriving : IsArriving s cut table number p) →
    suc (arrivals (plan_of s) p arriving.fence.members (cut p)) ≡ arriving.fence.nth
arrives_next s cut table number p arriving =
    let members = arriving.fence.members in
    sym (
    arrival_step s p (cut p) members members arriving.collect arriving.event
    ∙ ap (λ b. cond b (suc (arrivals (plan_of s) p members (cut p))) (arrivals (plan_of s) p members (cut p))) ((bytes_decides members members).1 refl)
    )
    ∙ arriving.nth

not_yet : (s : Scripts) (cut : ℕ → ℕ) (table : FenceTable) (number p : ℕ) (arriving : IsArriving s cut table number p) →
    nat_le arriving.fence.nth (arrivals (plan_of s) p arriving.fence.members (cut p)) ≡ false
not_yet s cut table number p arriving =
    let next = arrives_next s cut table number p arriving in
    lt-leb arriving.fence.nth (arrivals (plan_of s) p arriving.fence.members (cut p)) (omega (arith, next))

pub arriving_is_missing : ArrivingIsMissing
arriving_is_missing s cut table missing number p arriving tells =
    somebody_is_missing s cut table missing number p arriving.fence arriving.there arriving.member (not_yet s cut table number p arriving) tells

-- the members of a fence are there once
members_distinct : (s : Scripts) (fence : FenceInfo) → IsSound s → IsFence s fence → AreDistinct fence.members
members_distinct s fence sound is =
    subst AreDistinct (sym (ap (λ (f : FenceInfo). f.members) is.is)) (canonical_distinct (set_at s.sets fence.set) (set_canonical s fence.set sound is.of_set))

arrived_more : (s : Scripts) (cut : ℕ → ℕ) (table : FenceTable) (number p : ℕ) → AreFencesOf s table → (arriving : IsArriving s cut table number p) →
    arrived s (update cut p (suc (cut p))) arriving.fence ≡ suc (arrived s cut arriving.fence)
arrived_more s cut table number p fences arriving =
    let fence = arriving.fence in
    count_one_more
    (λ m. nat_le fence.nth (arrivals (plan_of s) m fence.members (cut m)))
    (λ m. nat_le fence.nth (arrivals (plan_of s) m fence.members (update cut p (suc (cut p)) m)))
    p
    (λ m other. ap (λ v. nat_le fence.nth (arrivals (plan_of s) m fence.members v)) (sym (update_other cut p (suc (cut p)) m other)))
    (not_yet s cut table number p arriving)
    (ap (λ v. nat_le fence.nth (arrivals (plan_of s) p fence.members v)) (update_same cut p (suc (cut p))) ∙ ap (nat_le fence.nth) arriving.nth ∙ le-leb fence.nth fence.nth (omega arith))
    fence.members
    (members_distinct s fence fences.sound (fences.each number fence arriving.there))
    arriving.member

-- other fences don't see it
pub le_same : (j n : ℕ) → (j ≡ suc n → ⊥) → nat_le j (suc n) ≡ nat_le j n
le_same j n other = elim (cases_lt n j) [
  | inl low ↦ lt-leb j (suc n) (omega (arith, low, other)) ∙ sym (lt-leb j n low)
  | inr le ↦ le-leb j (suc n) (omega (arith, le)) ∙ sym (le-leb j n le)
]

arrived_elsewhere : (s : Scripts) (cut : ℕ → ℕ) (table : FenceTable) (number other p : ℕ) (fence : FenceInfo) → AreFencesOf s table → IsArriving s cut table number p →
    fence_at table other ≡ Some fence → (other ≡ number → ⊥) → arrived s (update cut p (suc (cut p))) fence ≡ arrived s cut fence
arrived_elsewhere s cut table number other p fence fences arriving there ne =
    let before = arrivals (plan_of s) p fence.members (cut p) in
    arrived_same s cut p fence (
    ap (nat_le fence.nth) (arrival_step s p (cut p) fence.members arriving.fence.members arriving.collect arriving.event)
    ∙ elim (cases_Bool (bytes_eq arriving.fence.members fence.members)) [
      | inl t ↦
          let members = (bytes_decides arriving.fence.members fence.members).0 t in
          let next = ap (λ xs. suc (arrivals (plan_of s) p xs (cut p))) (sym members) ∙ arrives_next s cut table number p arriving in
          ap (λ b. nat_le fence.nth (cond b (suc before) before)) t
          ∙ le_same fence.nth before (λ e. ne (same_fence s table other number fence arriving.fence fences there arriving.there (sym members) (e ∙ next)))
      | inr f ↦ ap (λ b. nat_le fence.nth (cond b (suc before) before)) f
    ]
    )

pub arrival_counts : ArrivalCounts
arrival_counts s cut table missing number p fences arriving tells = record {
  count = length-set missing number (missing_at missing number - 1) ∙ tells.count;
  each = λ other fence there. elim (cases_eq other number) [
    | inl here ↦
        let count = tells.count in
        let within = slice_get_within table.fences number arriving.fence arriving.there in
        let low : number < length missing = omega (arith, count, within) in
        let same : fence ≡ arriving.fence = same_Some fence arriving.fence (sym there ∙ ap (fence_at table) here ∙ arriving.there) in
        let now = get_or-set_same missing number (missing_at missing number - 1) 0 low in
        let more = arrived_more s cut table number p fences arriving in
        let some = arriving_is_missing s cut table missing number p arriving tells in
        let sum = tells.each number arriving.fence arriving.there in
        let all : missing_at (one_arrived number missing) number + arrived s (update cut p (suc (cut p))) arriving.fence ≡ length arriving.fence.members = omega (arith, now, more, some, sum) in
        ap (λ n. missing_at (one_arrived number missing) n + arrived s (update cut p (suc (cut p))) fence) here
        ∙ ap (λ f. missing_at (one_arrived number missing) number + arrived s (update cut p (suc (cut p))) f) same
        ∙ all
        ∙ ap (λ (f : FenceInfo). length f.members) (sym same)
    | inr ne ↦
        ap (λ n. n + arrived s (update cut p (suc (cut p))) fence) (get_or-set_other missing number other (missing_at missing number - 1) 0 ne)
        ∙ ap (λ n. missing_at missing other + n) (arrived_elsewhere s cut table number other p fence fences arriving there ne)
        ∙ tells.each other fence there
  ];
}

-- nobody has arrived before the first event
pub none_arrived : (s : Scripts) (fence : FenceInfo) → 0 < fence.nth → arrived s (λ p. 0) fence ≡ 0
none_arrived s fence from_one = count_none (λ m. nat_le fence.nth 0) (λ m. lt-leb fence.nth 0 from_one) fence.members

-- nobody is missing at a fence that is complete
pub complete_is : (s : Scripts) (cut : ℕ → ℕ) (table : FenceTable) (missing : List ℕ) (number : ℕ) (fence : FenceInfo) → TellsMissing s cut table missing → fence_at table number ≡ Some fence →
    (missing_at missing number == 0) ≡ is_complete (plan_of s) cut fence.members fence.nth
complete_is s cut table missing number fence tells there =
    none_missing (missing_at missing number) (arrived s cut fence) (length fence.members) (tells.each number fence there)
    ∙ all_by_count (λ m. nat_le fence.nth (arrivals (plan_of s) m fence.members (cut m))) fence.members

pub tells_first : (s : Scripts) (table : FenceTable) (missing : List ℕ) → AreFencesOf s table → missing ≡ map (λ (f : FenceInfo). length f.members) table.fences → TellsMissing s (λ p. 0) table missing
tells_first s table missing fences is = record {
  count = ap length is ∙ length-map table.fences (λ (f : FenceInfo). length f.members);
  each = λ number fence there.
      let nobody = none_arrived s fence (fences.each number fence there).from_one in
      let size : missing_at missing number ≡ length fence.members =
      ap (λ xs. missing_at xs number) is
      ∙ get_or_from_slice_get (map (λ (f : FenceInfo). length f.members) table.fences) number (length fence.members) 0
      (slice_get-map (λ (f : FenceInfo). length f.members) table.fences number ∙ ap (option_map (λ (f : FenceInfo). length f.members)) there)
      in
      omega (arith, nobody, size);
}
