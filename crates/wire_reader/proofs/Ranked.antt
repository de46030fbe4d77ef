-- What is declared: jobs have names of their own, processes stand in the order of their jobs, and the ranks of each job's
-- processes count from 0.
use Rattle.std.proofs.Common.{◌≡◌, ◌∙◌, ap, sym, subst, refl, ℕ, zero, suc, ◌+◌, ◌-◌, ◌<◌, ◌≤◌, List, [], ◌∷◌, ◌++◌, true, false, cond, Some, length, IsTrue, arith, length-append, true≢false}
use Rattle.std.proofs.Common.{if◌then◌else◌}
use Rattle.std.specs.Prelude.{◌==◌, ◌||◌, not, ⊤, slice_get}
use Rattle.std.specs.Str.{bytes_eq}
use Rattle.std.proofs.lemmas.Slice.Eq.{bytes_eq-Decides}
use Rattle.std.proofs.lemmas.Bool.{or_from, or_parts}
use borrow.Author.Tests.{ltb-true, eqb-true, eq-eqb, ne_eqb}
use Rattle.wire_types.specs.declared.Version.{Version}
use Rattle.wire_lines.specs.Said.{Call, Said, Header, Keep, Node, Job, Rank, Calls, IsLawfulLine, is_name}
use Rattle.wire_scripts.specs.Scripts.{text_at}
use Rattle.wire_reader.specs.declared.limits.Size.{Size}
use Rattle.wire_reader.specs.Limits.{largest}
use Rattle.wire_reader.proofs.Within.{processes_low}
use Rattle.wire_reader.specs.FirstPass.{Name, Started, Declared, nothing, is_among, number_or_count, is_short_name, after, with_call}
use Rattle.wire_reader.proofs.Changed.{IsTaken, Runs, ranks_with}
use Rattle.wire_reader.proofs.DeclaredLines.{AllBelow, below_more, below_push}

same_self : (x : Name) → bytes_eq x x ≡ true
same_self x = (bytes_eq-Decides x x).1 refl

differ : (x y : Name) → bytes_eq y x ≡ false → bytes_eq x y ≡ false
differ x y h = elim (bytes_eq x y) as (λ t. bytes_eq x y ≡ t → t ≡ false) [
  | true ↦ λ e. absurd (true≢false (sym ((bytes_eq-Decides y x).1 (sym ((bytes_eq-Decides x y).0 e))) ∙ h))
  | false ↦ λ e. refl
] refl

-- no name is there twice
abbrev pub AreApart : List Name → Type 0
AreApart [] = ⊤
AreApart (x ∷ xs) = (is_among xs x ≡ false) × AreApart xs

none_push : (xs : List Name) (x y : Name) → is_among xs x ≡ false → bytes_eq x y ≡ false → is_among (xs ++ y ∷ []) x ≡ false
none_push [] x y h k = or_from (bytes_eq x y) false k refl
none_push (z ∷ xs) x y h k = or_from (bytes_eq x z) (is_among (xs ++ y ∷ []) x) (or_parts (bytes_eq x z) (is_among xs x) h).0 (none_push xs x y (or_parts (bytes_eq x z) (is_among xs x) h).1 k)

apart_push : (xs : List Name) (y : Name) → AreApart xs → is_among xs y ≡ false → AreApart (xs ++ y ∷ [])
apart_push [] y h k = (refl, tt)
apart_push (x ∷ xs) y h k =
    (none_push xs x y h.0 (differ x y (or_parts (bytes_eq y x) (is_among xs y) k).0), apart_push xs y h.1 (or_parts (bytes_eq y x) (is_among xs y) k).1)

pub text_among : (xs : List Name) (j : ℕ) → j < length xs → is_among xs (text_at xs j) ≡ true
text_among [] j h = absurd (omega arith)
text_among (x ∷ xs) zero h = rw (same_self x) refl
text_among (x ∷ xs) (suc j) h =
    elim (bytes_eq (text_at xs j) x) as (λ t. (t || is_among xs (text_at xs j)) ≡ true) [
      | true ↦ refl
      | false ↦ text_among xs j (omega arith)
    ]

-- the number of a name is its place
pub number_at : (xs : List Name) (j : ℕ) → AreApart xs → j < length xs → number_or_count xs (text_at xs j) ≡ j
number_at [] j h small = absurd (omega arith)
number_at (x ∷ xs) zero h small = rw (same_self x) refl
number_at (x ∷ xs) (suc j) h small =
    let there : is_among xs (text_at xs j) ≡ true = text_among xs j (omega arith) in
    let rest : number_or_count xs (text_at xs j) ≡ j = number_at xs j h.1 (omega arith) in
    elim (bytes_eq (text_at xs j) x) as (λ t. bytes_eq (text_at xs j) x ≡ t → cond (not t) (1 + number_or_count xs (text_at xs j)) 0 ≡ suc j) [
      | true ↦ λ e. absurd (true≢false (sym there ∙ ap (is_among xs) ((bytes_eq-Decides (text_at xs j) x).0 e) ∙ h.0))
      | false ↦ λ e. omega arith
    ] refl

abbrev pub AreNames : List Name → Type 0
AreNames [] = ⊤
AreNames (x ∷ xs) = IsTrue (is_name x) × (is_short_name x ≡ true) × AreNames xs

names_push : (xs : List Name) (y : Name) → AreNames xs → IsTrue (is_name y) → is_short_name y ≡ true → AreNames (xs ++ y ∷ [])
names_push [] y h l s = (l, s, tt)
names_push (x ∷ xs) y h l s = (h.0, h.1, names_push xs y h.2 l s)

pub name_at : (xs : List Name) (j : ℕ) → AreNames xs → j < length xs → IsTrue (is_name (text_at xs j)) × (is_short_name (text_at xs j) ≡ true)
name_at [] j h small = absurd (omega arith)
name_at (x ∷ xs) zero h small = (h.0, h.1)
name_at (x ∷ xs) (suc j) h small = name_at xs j h.2 (omega arith)

-- how many processes of each job there are, after those before
abbrev pub with_one : (ℕ → ℕ) → ℕ → ℕ → ℕ
with_one n job j = if j == job then n j + 1 else n j

abbrev pub counts : (ℕ → ℕ) → List Started → ℕ → ℕ
counts n [] j = n j
counts n (p ∷ ps) j = counts (with_one n p.job) ps j

-- each rank is the number of processes of its job before it
abbrev pub RanksFrom : (ℕ → ℕ) → List Started → Type 0
RanksFrom n [] = ⊤
RanksFrom n (p ∷ ps) = (p.rank ≡ n p.job) × RanksFrom (with_one n p.job) ps

-- processes stand in the order of their jobs, the first of which has this number or a higher one
abbrev pub JobsFrom : ℕ → List Started → Type 0
JobsFrom m [] = ⊤
JobsFrom m (p ∷ ps) = (m ≤ p.job) × JobsFrom p.job ps

jobs_push : (m : ℕ) (ps : List Started) (p : Started) → JobsFrom m ps → AllBelow (p.job + 1) ps → m ≤ p.job → JobsFrom m (ps ++ p ∷ [])
jobs_push m [] p h b le = (le, tt)
jobs_push m (q ∷ ps) p h b le = (h.0, jobs_push q.job ps p h.1 b.1 (let s = b.0 in omega arith))

jobs_with : (m : ℕ) (ps : List Started) (c : ℕ × Call) → JobsFrom m ps → JobsFrom m (with_call ps c)
jobs_with m [] c h = h
jobs_with m (p ∷ []) c h = h
jobs_with m (p ∷ q ∷ ps) c h = (h.0, jobs_with p.job (q ∷ ps) c h.1)

ranked_push : (n : ℕ → ℕ) (ps : List Started) (p : Started) → RanksFrom n ps → p.rank ≡ counts n ps p.job → RanksFrom n (ps ++ p ∷ [])
ranked_push n [] p h e = (e, tt)
ranked_push n (q ∷ ps) p h e = (h.0, ranked_push (with_one n q.job) ps p h.1 e)

ranked_with : (n : ℕ → ℕ) (ps : List Started) (c : ℕ × Call) → RanksFrom n ps → RanksFrom n (with_call ps c)
ranked_with n [] c h = h
ranked_with n (p ∷ []) c h = h
ranked_with n (p ∷ q ∷ ps) c h = (h.0, ranked_with (with_one n p.job) (q ∷ ps) c h.1)

counts_with : (n : ℕ → ℕ) (ps : List Started) (c : ℕ × Call) (j : ℕ) → counts n (with_call ps c) j ≡ counts n ps j
counts_with n [] c j = refl
counts_with n (p ∷ []) c j = refl
counts_with n (p ∷ q ∷ ps) c j = counts_with (with_one n p.job) (q ∷ ps) c j

counts_push : (n : ℕ → ℕ) (ps : List Started) (p : Started) (j : ℕ) → counts n (ps ++ p ∷ []) j ≡ with_one (counts n ps) p.job j
counts_push n [] p j = refl
counts_push n (q ∷ ps) p j = counts_push (with_one n q.job) ps p j

none_counted : (n : ℕ → ℕ) (m : ℕ) (ps : List Started) → AllBelow m ps → n m ≡ 0 → counts n ps m ≡ 0
none_counted n m [] h e = e
none_counted n m (p ∷ ps) h e =
    let other : (m == p.job) ≡ false = ne_eqb m p.job (λ same. let s = h.0 in omega arith) in
    none_counted (with_one n p.job) m ps h.1 (rw other e)

below_with : (m : ℕ) (ps : List Started) (c : ℕ × Call) → AllBelow m ps → AllBelow m (with_call ps c)
below_with m [] c h = h
below_with m (p ∷ []) c h = h
below_with m (p ∷ q ∷ ps) c h = (h.0, below_with m (q ∷ ps) c h.1)

pub record IsGood (d : Declared) : Type 0 where
  pub names : AreNames d.jobs
  pub apart : AreApart d.jobs
  pub below : AllBelow (length d.jobs) d.processes
  pub together : JobsFrom 0 d.processes
  pub ranked : RanksFrom (λ j. 0) d.processes
  pub last : d.ranks ≡ counts (λ j. 0) d.processes (length d.jobs - 1)
  pub few : length d.processes ≤ largest.processes
  pub low : d.limits.processes ≤ largest.processes

good_kept : (d : Declared) (n : ℕ) (a : Said) → IsLawfulLine a → IsTaken d a → IsGood d → IsGood (after d n a)
good_kept d n (Header version) l t g = g
good_kept d n Keep l t g = record { names = g.names; apart = g.apart; below = g.below; together = g.together; ranked = g.ranked; last = g.last; few = g.few; low = g.low }
good_kept d n (Node name) l t g = record { names = g.names; apart = g.apart; below = g.below; together = g.together; ranked = g.ranked; last = g.last; few = g.few; low = g.low }
good_kept d n (Job name) l t g =
    let more : length (d.jobs ++ name ∷ []) ≡ length d.jobs + 1 = length-append d.jobs (name ∷ []) in
    let at : length (d.jobs ++ name ∷ []) - 1 ≡ length d.jobs = omega arith in
    record {
      names = names_push d.jobs name g.names l t.short;
      apart = apart_push d.jobs name g.apart t.again;
      below = below_more (length d.jobs) (length (d.jobs ++ name ∷ [])) d.processes (omega arith) g.below;
      together = g.together;
      ranked = g.ranked;
      last = sym (ap (counts (λ j. 0) d.processes) at ∙ none_counted (λ j. 0) (length d.jobs) d.processes g.below refl);
      few = g.few;
      low = g.low;
    }
good_kept d n (Rank node) l t g =
    let p : Started = record { job = length d.jobs - 1; rank = d.ranks; node = number_or_count d.nodes node; calls = [] } in
    let some = ltb-true _ _ t.place in
    let room = ltb-true _ _ t.room in
    let one : (length d.jobs - 1 == length d.jobs - 1) ≡ true = eq-eqb (length d.jobs - 1) (length d.jobs - 1) refl in
    record {
      names = g.names;
      apart = g.apart;
      below = below_push (length d.jobs) d.processes p g.below (omega arith);
      together = jobs_push 0 d.processes p g.together (below_more (length d.jobs) (p.job + 1) d.processes (omega arith) g.below) (omega arith);
      ranked = ranked_push (λ j. 0) d.processes p g.ranked g.last;
      last = ap (λ x. x + 1) g.last ∙ sym (counts_push (λ j. 0) d.processes p (length d.jobs - 1) ∙ rw one refl);
      few = let low = g.low in omega (arith, low, room, length-append d.processes (p ∷ []));
      low = g.low;
    }
good_kept d n (Calls c) l t g =
    record {
      names = g.names;
      apart = g.apart;
      below = below_with (length d.jobs) d.processes (n, c) g.below;
      together = jobs_with 0 d.processes (n, c) g.together;
      ranked = ranked_with (λ j. 0) d.processes (n, c) g.ranked;
      last = g.last ∙ sym (counts_with (λ j. 0) d.processes (n, c) (length d.jobs - 1));
      few = let few = g.few in omega (arith, ranks_with d.processes (n, c), few);
      low = g.low;
    }

nothing_good : (size : Size) (v : Version) → IsGood (nothing size v)
nothing_good size v = record { names = tt; apart = tt; below = tt; together = tt; ranked = tt; last = refl; few = omega arith; low = processes_low size v }

good_run : (ls : List (ℕ × Said)) (d e : Declared) → Runs ls d e → IsGood d → IsGood e
good_run [] d e r g = subst IsGood r g
good_run (l ∷ ls) d e r g = good_run ls (after d l.0 l.1) e r.2 (good_kept d l.0 l.1 r.0 r.1 g)

-- what lines declare is so
pub run_good : (size : Size) (v : Version) (ls : List (ℕ × Said)) (e : Declared) → Runs ls (nothing size v) e → IsGood e
run_good size v ls e r = good_run ls (nothing size v) e r (nothing_good size v)

-- a process's job is one of the jobs
pub below_at : (m : ℕ) (ps : List Started) (k : ℕ) (p : Started) → AllBelow m ps → slice_get ps k ≡ Some p → p.job < m
below_at m [] k p h at = absurd (cc)
below_at m (q ∷ ps) zero p h at = let same : q ≡ p = cc in subst (λ x. x.job < m) same h.0
below_at m (q ∷ ps) (suc k) p h at = below_at m ps k p h.1 at

more_counted : (n : ℕ → ℕ) (job j : ℕ) → n j ≤ with_one n job j
more_counted n job j = elim (j == job) as (λ t. n j ≤ (if t then n j + 1 else n j)) [ true ↦ omega arith | false ↦ omega arith ]

-- a rank is no less than the processes before
rank_least : (n : ℕ → ℕ) (ps : List Started) (k : ℕ) (p : Started) → RanksFrom n ps → slice_get ps k ≡ Some p → n p.job ≤ p.rank
rank_least n [] k p h at = absurd (cc)
rank_least n (q ∷ ps) zero p h at = let same : q ≡ p = cc in subst (λ x. n x.job ≤ x.rank) same (let e = h.0 in omega arith)
rank_least n (q ∷ ps) (suc k) p h at =
    let rest = rank_least (with_one n q.job) ps k p h.1 at in
    let more = more_counted n q.job p.job in
    omega arith

-- and no more than they and the processes of this list before it
pub rank_most : (n : ℕ → ℕ) (ps : List Started) (k : ℕ) (p : Started) → RanksFrom n ps → slice_get ps k ≡ Some p → p.rank ≤ n p.job + k
rank_most n [] k p h at = absurd (cc)
rank_most n (q ∷ ps) zero p h at = let same : q ≡ p = cc in subst (λ x. x.rank ≤ n x.job + 0) same (let e = h.0 in omega arith)
rank_most n (q ∷ ps) (suc k) p h at =
    let rest = rank_most (with_one n q.job) ps k p h.1 at in
    let one : with_one n q.job p.job ≤ n p.job + 1 = one_at_most p.job in
    omega arith
  where
    one_at_most : (j : ℕ) → with_one n q.job j ≤ n j + 1
    one_at_most j = elim (j == q.job) as (λ t. (if t then n j + 1 else n j) ≤ n j + 1) [ true ↦ omega arith | false ↦ omega arith ]

pub counted_once : (n : ℕ → ℕ) (j job : ℕ) → j ≡ job → with_one n job j ≡ n j + 1
counted_once n j job e = rw (eq-eqb j job e) refl

-- a job and a rank name one process
pub one_process : (n : ℕ → ℕ) (ps : List Started) (k m : ℕ) (p q : Started) → RanksFrom n ps → slice_get ps k ≡ Some p → slice_get ps m ≡ Some q → p.job ≡ q.job → p.rank ≡ q.rank → k ≡ m
one_process n [] k m p q h a b j r = absurd (cc)
one_process n (x ∷ ps) zero zero p q h a b j r = refl
one_process n (x ∷ ps) zero (suc m) p q h a b j r =
    let same : x ≡ p = cc in
    let rank : p.rank ≡ n p.job = subst (λ y. y.rank ≡ n y.job) same h.0 in
    let later = rank_least (with_one n x.job) ps m q h.1 b in
    let once = counted_once n q.job x.job (sym j ∙ sym (ap (λ y. y.job) same)) in
    let jobs : n p.job ≡ n q.job = ap n j in
    absurd (omega arith)
one_process n (x ∷ ps) (suc k) zero p q h a b j r =
    let same : x ≡ q = cc in
    let rank : q.rank ≡ n q.job = subst (λ y. y.rank ≡ n y.job) same h.0 in
    let later = rank_least (with_one n x.job) ps k p h.1 a in
    let once = counted_once n p.job x.job (j ∙ sym (ap (λ y. y.job) same)) in
    let jobs : n p.job ≡ n q.job = ap n j in
    absurd (omega arith)
one_process n (x ∷ ps) (suc k) (suc m) p q h a b j r = ap suc (one_process (with_one n x.job) ps k m p q h.1 a b j r)

-- a job with a process has one of rank 0
pub first_process : (n : ℕ → ℕ) (ps : List Started) (k : ℕ) (p : Started) → RanksFrom n ps → slice_get ps k ≡ Some p → n p.job ≡ 0
    → (m : ℕ) × (q : Started) × (slice_get ps m ≡ Some q) × (q.job ≡ p.job) × (q.rank ≡ 0)
first_process n [] k p h at z = absurd (cc)
first_process n (x ∷ ps) zero p h at z = let same : x ≡ p = cc in (zero, p, at, refl, subst (λ y. y.rank ≡ n y.job) same h.0 ∙ z)
first_process n (x ∷ ps) (suc k) p h at z =
    elim (p.job == x.job) as (λ t. (p.job == x.job) ≡ t → (m : ℕ) × (q : Started) × (slice_get (x ∷ ps) m ≡ Some q) × (q.job ≡ p.job) × (q.rank ≡ 0)) [
      | true ↦ λ e. let same = eqb-true _ _ e in (zero, x, refl, sym same, h.0 ∙ ap n (sym same) ∙ z)
      | false ↦ λ e.
          let none : with_one n x.job p.job ≡ 0 = rw e z in
          let r = first_process (with_one n x.job) ps k p h.1 at none in
          (suc r.0, r.1, r.2, r.3, r.4)
    ] refl
