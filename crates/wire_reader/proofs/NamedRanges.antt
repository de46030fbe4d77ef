-- The processes that a target names stand together.
use Rattle.std.proofs.Common.{◌≡◌, ◌∙◌, ◌↔◌, ap, sym, subst, refl, ℕ, zero, suc, ◌+◌, ◌<◌, ◌≤◌, List, [], ◌∷◌, Bool, true, false, cond, Some, length, map, get_or, arith, inl, inr}
use Rattle.std.specs.Prelude.{◌==◌, not, slice_get}
use Rattle.std.specs.List.{position_or_len}
use Rattle.std.proofs.lemmas.Bool.{cases_lt, true≢false}
use borrow.Author.Tests.{eqb-true, eq-eqb}
use Rattle.wire_lines.proofs.Colon.{and_left, and_right}
use Rattle.wire_reader.specs.FirstPass.{Started, Declared}
use Rattle.wire_reader.specs.Reads.{is_proc}
use Rattle.wire_reader.specs.Within.{IsDeclared}
use Rattle.wire_reader.specs.Drafted.{started_of}
use Rattle.wire_reader.specs.declared.draft.Started.{Started as Building}
use Rattle.wire_reader.specs.Targets.{passes_at, IsRangeOf}
use Rattle.wire_reader.specs.declared.members.Target.TheVariants.{One, Every}
use Rattle.wire_reader.proofs.Ranked.{one_process}
use Rattle.wire_reader.proofs.Standing.{declared_good, seen_at}

there_is : (ps : List Started) (k : ℕ) → k < length ps → (p : Started) × (slice_get ps k ≡ Some p)
there_is [] k lt = absurd (omega (arith, lt))
there_is (p ∷ ps) zero lt = (p, refl)
there_is (p ∷ ps) (suc k) lt = there_is ps k (omega (arith, lt))

after_one : (m : ℕ) → suc m ≡ 1 + m
after_one m = omega arith

module _ (f : Started → Bool) where
  passes_there : (ps : List Started) (k : ℕ) (p : Started) → slice_get ps k ≡ Some p → f p ≡ true → passes_at f ps k ≡ true
  passes_there [] k p at h = absurd (cc)
  passes_there (x ∷ ps) zero p at h = let same : x ≡ p = cc in ap f same ∙ h
  passes_there (x ∷ ps) (suc k) p at h = passes_there ps k p at h

  who_passes : (ps : List Started) (k : ℕ) → passes_at f ps k ≡ true → (p : Started) × (slice_get ps k ≡ Some p) × (f p ≡ true)
  who_passes [] k h = absurd (true≢false (sym h))
  who_passes (x ∷ ps) zero h = (x, refl, h)
  who_passes (x ∷ ps) (suc k) h = who_passes ps k h

  -- the first place that passes
  first_passes : (ps : List Started) → position_or_len f ps < length ps → passes_at f ps (position_or_len f ps) ≡ true
  first_passes [] lt = absurd (omega (arith, lt))
  first_passes (x ∷ ps) lt = go (f x) refl lt (first_passes ps)
    where
      go : (t : Bool) → f x ≡ t → cond (not t) (1 + position_or_len f ps) 0 < suc (length ps) → (position_or_len f ps < length ps → passes_at f ps (position_or_len f ps) ≡ true)
          → passes_at f (x ∷ ps) (cond (not t) (1 + position_or_len f ps) 0) ≡ true
      go true e lt rest = e
      go false e lt rest = subst (λ m. passes_at f (x ∷ ps) m ≡ true) (after_one (position_or_len f ps)) (rest (omega (arith, lt)))

  first_least : (ps : List Started) (k : ℕ) → passes_at f ps k ≡ true → position_or_len f ps ≤ k
  first_least [] k h = absurd (true≢false (sym h))
  first_least (x ∷ ps) zero h = rw h (omega arith)
  first_least (x ∷ ps) (suc k) h =
      let rest = first_least ps k h in
      elim (f x) as (λ t. cond (not t) (1 + position_or_len f ps) 0 ≤ suc k) [ true ↦ omega arith | false ↦ omega (arith, rest) ]

get_within : (ps : List Started) (k : ℕ) (p : Started) → slice_get ps k ≡ Some p → k < length ps
get_within [] k p at = absurd (cc)
get_within (x ∷ ps) zero p at = omega arith
get_within (x ∷ ps) (suc k) p at = let h = get_within ps k p at in omega (arith, h)

-- the process of a job and a rank, if there is one
pub one_range : (d : Declared) (job rank place past : ℕ) → IsDeclared d → place ≡ position_or_len (is_proc job rank) d.processes →
    past ≤ place + 1 → past ≤ length d.processes → (place < length d.processes → place < past) → IsRangeOf d (One job rank) place past
one_range d job rank place past declared is low within some k = (
  (λ h.
      let from = h.0 in
      let to = h.1 in
      let here : k ≡ position_or_len (is_proc job rank) d.processes = omega (arith, from, to, low, is) in
      let there : position_or_len (is_proc job rank) d.processes < length d.processes = omega (arith, from, to, low, within, is) in
      subst (λ i. passes_at (is_proc job rank) d.processes i ≡ true) (sym here) (first_passes (is_proc job rank) d.processes there)),
  (λ t. only t (first_least (is_proc job rank) d.processes k t) (who_passes (is_proc job rank) d.processes k t)),
)
  where
    first : ℕ
    first = position_or_len (is_proc job rank) d.processes

    only : passes_at (is_proc job rank) d.processes k ≡ true → first ≤ k → (p : Started) × (slice_get d.processes k ≡ Some p) × (is_proc job rank p ≡ true) → (place ≤ k) × (k < past)
    only t least who =
        let most = get_within d.processes k who.0 who.1 in
        let early : first < length d.processes = omega (arith, least, most) in
        let other = who_passes (is_proc job rank) d.processes first (first_passes (is_proc job rank) d.processes early) in
        let same : k ≡ first = one_process (λ j. 0) d.processes k first who.0 other.0 (declared_good d declared).ranked who.1 other.1
        (job_of who.0 who.2 ∙ sym (job_of other.0 other.2)) (rank_of who.0 who.2 ∙ sym (rank_of other.0 other.2)) in
        let high = some (omega (arith, early, is)) in
        (omega (arith, same, is), omega (arith, same, is, high))
      where
        job_of : (p : Started) → is_proc job rank p ≡ true → p.job ≡ job
        job_of p h = eqb-true p.job job (and_left (p.job == job) (p.rank == rank) h)

        rank_of : (p : Started) → is_proc job rank p ≡ true → p.rank ≡ rank
        rank_of p h = eqb-true p.rank rank (and_right (p.job == job) (p.rank == rank) h)

-- the processes of a job
pub every_range : (d : Declared) (job first past : ℕ) → past ≤ length d.processes → ((k : ℕ) (p : Started) → slice_get d.processes k ≡ Some p → (k < first) ↔ (p.job < job)) →
    ((k : ℕ) (p : Started) → slice_get d.processes k ≡ Some p → (k < past) ↔ (p.job ≤ job)) → IsRangeOf d (Every job) first past
every_range d job first past within before through k = (
  (λ h.
      let from = h.0 in
      let to = h.1 in
      let who = there_is d.processes k (omega (arith, to, within)) in
      let most = (through k who.0 who.1).0 to in
      let same : who.0.job ≡ job = elim (cases_lt who.0.job job) [
        | inl lower ↦ let early = (before k who.0 who.1).1 lower in absurd (omega (arith, early, from))
        | inr least ↦ omega (arith, most, least)
      ] in
      passes_there (λ p. p.job == job) d.processes k who.0 who.1 (eq-eqb who.0.job job same)),
  (λ t.
      let who = who_passes (λ p. p.job == job) d.processes k t in
      let same = eqb-true who.0.job job who.2 in (
        (elim (cases_lt k first) [
          | inl early ↦ let lower = (before k who.0 who.1).0 early in absurd (omega (arith, lower, same))
          | inr le ↦ omega (arith, le)
        ]),
        (through k who.0 who.1).1 (omega (arith, same)),
      )),
)

-- how many processes stand before those of a job
pub stand_before : (bs : List Building) (job first k : ℕ) (p : Started) → slice_get (map started_of bs) k ≡ Some p → ((i : ℕ) (b : Building) → i < first → (get_or bs i b).job < job)
    → ((i : ℕ) (b : Building) → first ≤ i → i < length bs → job ≤ (get_or bs i b).job) → (k < first) ↔ (p.job < job)
stand_before bs job first k p at below above =
    let r = seen_at bs k p at in
    let b = any bs k r.0 in
    let is = ap (λ (x : Started). x.job) (r.1 b) in (
      (λ lt. let low = below k b lt in omega (arith, low, is)),
      (λ lt. elim (cases_lt k first) [
        | inl early ↦ early
        | inr late ↦ let high = above k b late r.0 in absurd (omega (arith, high, is, lt))
      ]),
    )
  where
    any : (xs : List Building) (i : ℕ) → i < length xs → Building
    any [] i lt = absurd (omega (arith, lt))
    any (x ∷ xs) i lt = x

pub stand_through : (bs : List Building) (job past k : ℕ) (p : Started) → slice_get (map started_of bs) k ≡ Some p → ((i : ℕ) (b : Building) → i < past → (get_or bs i b).job ≤ job)
    → ((i : ℕ) (b : Building) → past ≤ i → i < length bs → job < (get_or bs i b).job) → (k < past) ↔ (p.job ≤ job)
stand_through bs job past k p at below above =
    let both = stand_before bs (job + 1) past k p at (λ i b lt. let low = below i b lt in omega (arith, low)) (λ i b le lt. let high = above i b le lt in omega (arith, high)) in
    ((λ lt. let low = both.0 lt in omega (arith, low)), (λ le. both.1 (omega (arith, le))))
