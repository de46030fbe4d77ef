-- A set in its canonical words has the same members.
use Rattle.std.proofs.Common.{◌≡◌, ◌∙◌, ap, sym, subst, refl, ℕ, zero, suc, ◌+◌, ◌<◌, ◌^◌, List, [], ◌∷◌, ◌++◌, Bool, true, false, cond, Some, map, length, IsTrue, arith, true≢false, zero-add}
use Rattle.std.proofs.Common.{if◌then◌else◌}
use Rattle.std.specs.Prelude.{◌==◌, ◌||◌, ◌&&◌, not, slice_get, slice_index_or}
use Rattle.std.specs.List.{list_any, list_all, flat_map, position_or_len}
use Rattle.std.specs.Str.{bytes_eq}
use Rattle.std.proofs.lemmas.Slice.Eq.{bytes_eq-Decides}
use Rattle.std.proofs.lemmas.Bool.{lt-ltb, and_from, or_right}
use Rattle.std.proofs.lemmas.List.Folds.{list_any-append}
use Rattle.std.proofs.Math.Bool.{or-false}
use borrow.Author.Tests.{eqb-true, eq-eqb, ne_eqb}
use Rattle.wire_runs.specs.Fences.{is_member}
use Rattle.wire_runs.proofs.Basics.{list_all_at_member}
use Rattle.wire_lines.specs.Said.{Item, One, Every, Set, Own, Listed, AreLawful, IsLawfulSet, is_name}
use Rattle.wire_lines.proofs.Colon.{and_left, and_right}
use Rattle.wire_scripts.specs.Scripts.{Process, Scripts, text_at}
use Rattle.wire_scripts.specs.Canonical as text
use Rattle.wire_scripts.specs.Canonical.{members_from, is_whole, member_items, set_items, set_said}
use Rattle.wire_reader.specs.FirstPass.{Name, Started, Declared, is_among, number_or_count, is_short_name, is_short_item, is_short_set}
use Rattle.wire_reader.specs.Reads.{Seen, is_proc, proc_number, has_proc, names_it, is_in, places_from, set_members, is_declared_item, is_declared_set, process_of, scripts_with}
use Rattle.wire_reader.proofs.Ranked.{IsGood, text_among, number_at, name_at, below_at, rank_most, one_process, first_process}

same_bools : (a b : Bool) → (a ≡ true → b ≡ true) → (b ≡ true → a ≡ true) → a ≡ b
same_bools true b f g = sym (f refl)
same_bools false true f g = g refl
same_bools false false f g = refl

module _ {A B : Type 0} where
  any_flat : (q : B → Bool) (g : A → List B) (xs : List A) → list_any q (flat_map g xs) ≡ list_any (λ x. list_any q (g x)) xs
  any_flat q g [] = refl
  any_flat q g (x ∷ xs) = list_any-append q (g x) (flat_map g xs) ∙ ap (λ b. list_any q (g x) || b) (any_flat q g xs)

module _ {B : Type 0} (q : B → Bool) where
  all_both : (xs ys : List B) → list_all q xs ≡ true → list_all q ys ≡ true → list_all q (xs ++ ys) ≡ true
  all_both [] ys h k = k
  all_both (x ∷ xs) ys h k = and_from (q x) (list_all q (xs ++ ys)) (and_left (q x) (list_all q xs) h) (all_both xs ys (and_right (q x) (list_all q xs) h) k)

  any_some : (xs : List B) → list_any q xs ≡ true → 0 < length xs
  any_some [] h = absurd (true≢false (sym h))
  any_some (x ∷ xs) h = omega arith

-- a member for which it holds
some_member : (h : ℕ → Bool) (xs : List ℕ) → list_any h xs ≡ true → (m : ℕ) × (is_member xs m ≡ true) × (h m ≡ true)
some_member h [] e = absurd (true≢false (sym e))
some_member h (x ∷ xs) e =
    elim (h x) as (λ t. h x ≡ t → (t || list_any h xs) ≡ true → (m : ℕ) × (is_member (x ∷ xs) m ≡ true) × (h m ≡ true)) [
      | true ↦ λ f k. let one : (x == x) ≡ true = eq-eqb x x refl in (x, rw one refl, f)
      | false ↦ λ f k. let r = some_member h xs k in (r.0, or_right (x == r.0) (is_member xs r.0) r.1, r.2)
    ] refl e

member_some : (h : ℕ → Bool) (xs : List ℕ) (m : ℕ) → is_member xs m ≡ true → h m ≡ true → list_any h xs ≡ true
member_some h [] m e k = absurd (true≢false (sym e))
member_some h (x ∷ xs) m e k =
    elim (x == m) as (λ t. (x == m) ≡ t → (t || is_member xs m) ≡ true → (h x || list_any h xs) ≡ true) [
      | true ↦ λ f g. let same : h x ≡ true = ap h (eqb-true x m f) ∙ k in rw same refl
      | false ↦ λ f g. or_right (h x) (list_any h xs) (member_some h xs m g k)
    ] refl e

-- numbers of places start where they are counted from
none_below : (f : Started → Bool) (n m : ℕ) (ps : List Started) → m < n → is_member (places_from f n ps) m ≡ false
none_below f n m [] h = refl
none_below f n m (p ∷ ps) h =
    let rest = none_below f (n + 1) m ps (omega arith) in
    elim (f p) as (λ t. is_member (if t then n ∷ places_from f (n + 1) ps else places_from f (n + 1) ps) m ≡ false) [
      | true ↦ let other : (n == m) ≡ false = ne_eqb n m (λ e. omega arith) in rw (other, rest) refl
      | false ↦ rest
    ]

-- a process is among the places where it passes
place_is : (f : Started → Bool) (n : ℕ) (ps : List Started) (k : ℕ) (p : Started) → slice_get ps k ≡ Some p → is_member (places_from f n ps) (n + k) ≡ f p
place_is f n [] k p at = absurd (cc)
place_is f n (x ∷ ps) zero p at =
    let same : x ≡ p = cc in
    let here : (n == n + 0) ≡ true = eq-eqb n (n + 0) (omega arith) in
    let rest : is_member (places_from f (n + 1) ps) (n + 0) ≡ false = none_below f (n + 1) (n + 0) ps (omega arith) in
    elim (f x) as (λ t. is_member (if t then n ∷ places_from f (n + 1) ps else places_from f (n + 1) ps) (n + 0) ≡ t) [
      | true ↦ rw here refl
      | false ↦ rest
    ] ∙ ap f same
place_is f n (x ∷ ps) (suc k) p at =
    let other : (n == n + suc k) ≡ false = ne_eqb n (n + suc k) (λ e. omega arith) in
    let next : n + suc k ≡ n + 1 + k = omega arith in
    let rest : is_member (places_from f (n + 1) ps) (n + suc k) ≡ f p = ap (is_member (places_from f (n + 1) ps)) next ∙ place_is f (n + 1) ps k p at in
    elim (f x) as (λ t. is_member (if t then n ∷ places_from f (n + 1) ps else places_from f (n + 1) ps) (n + suc k) ≡ f p) [
      | true ↦ rw other rest
      | false ↦ rest
    ]

-- each number of a place is that of a process
place_there : (f : Started → Bool) (n : ℕ) (ps : List Started) (m : ℕ) → is_member (places_from f n ps) m ≡ true → (k : ℕ) × (p : Started) × (m ≡ n + k) × (slice_get ps k ≡ Some p)
place_there f n [] m h = absurd (true≢false (sym h))
place_there f n (x ∷ ps) m h =
    elim (n == m) as (λ t. (n == m) ≡ t → (k : ℕ) × (p : Started) × (m ≡ n + k) × (slice_get (x ∷ ps) k ≡ Some p)) [
      | true ↦ λ e. let same = eqb-true n m e in (zero, x, omega arith, refl)
      | false ↦ λ e.
          let r = place_there f (n + 1) ps m (later (f x) e h) in
          (suc r.0, r.1, (let at = r.2 in omega arith), r.3)
    ] refl
  where
    later : (t : Bool) → (n == m) ≡ false → is_member (if t then n ∷ places_from f (n + 1) ps else places_from f (n + 1) ps) m ≡ true → is_member (places_from f (n + 1) ps) m ≡ true
    later true e g = rw e at g
    later false e g = g

-- tests that agree on these processes
places_agree : (f g : Started → Bool) (n : ℕ) (ps : List Started) → ((k : ℕ) (p : Started) → slice_get ps k ≡ Some p → f p ≡ g p) → places_from f n ps ≡ places_from g n ps
places_agree f g n [] h = refl
places_agree f g n (p ∷ ps) h =
    ap (λ t. if t then n ∷ places_from f (n + 1) ps else places_from f (n + 1) ps) (h zero p refl)
    ∙ ap (λ l. if g p then n ∷ l else l) (places_agree f g (n + 1) ps (λ k q at. h (suc k) q at))

-- the processes of a job in the scripts are those that are declared
members_places : (d : Declared) (s : Seen) (n job : ℕ) (ps : List Started) → members_from n job (map (process_of d s) ps) ≡ places_from (λ p. p.job == job) n ps
members_places d s n job [] = refl
members_places d s n job (p ∷ ps) = ap (λ l. if p.job == job then n ∷ l else l) (members_places d s (n + 1) job ps)

get_within : (ps : List Started) (k : ℕ) (p : Started) → slice_get ps k ≡ Some p → k < length ps
get_within [] k p at = absurd (cc)
get_within (x ∷ ps) zero p at = omega arith
get_within (x ∷ ps) (suc k) p at = let h = get_within ps k p at in omega arith

pub process_there : (d : Declared) (s : Seen) (ps : List Started) (z : Process) (k : ℕ) (p : Started) → slice_get ps k ≡ Some p → slice_index_or (map (process_of d s) ps) k z ≡ process_of d s p
process_there d s [] z k p at = absurd (cc)
process_there d s (x ∷ ps) z zero p at = let same : x ≡ p = cc in ap (process_of d s) same
process_there d s (x ∷ ps) z (suc k) p at = process_there d s ps z k p at

position_there : (f : Started → Bool) (ps : List Started) (k : ℕ) (p : Started) → slice_get ps k ≡ Some p → f p ≡ true → position_or_len f ps < length ps
position_there f [] k p at h = absurd (cc)
position_there f (x ∷ ps) zero p at h = let same : x ≡ p = cc in let yes : f x ≡ true = ap f same ∙ h in rw yes (omega arith)
position_there f (x ∷ ps) (suc k) p at h =
    let rest = position_there f ps k p at h in
    elim (f x) as (λ t. cond (not t) (1 + position_or_len f ps) 0 < length (x ∷ ps)) [ true ↦ omega arith | false ↦ omega arith ]

-- the same, counted from 0
place_at : (f : Started → Bool) (ps : List Started) (k : ℕ) (p : Started) → slice_get ps k ≡ Some p → is_member (places_from f 0 ps) k ≡ f p
place_at f ps k p at = ap (is_member (places_from f 0 ps)) (sym (zero-add k)) ∙ place_is f 0 ps k p at

there_at : (f : Started → Bool) (ps : List Started) (m : ℕ) → is_member (places_from f 0 ps) m ≡ true → (p : Started) × (slice_get ps m ≡ Some p)
there_at f ps m h = let r = place_there f 0 ps m h in let same : m ≡ r.0 = omega arith in (r.1, ap (slice_get ps) same ∙ r.3)

-- what holds of each member's items holds of all
all_items : (q : Item → Bool) (f : ℕ → List Item) (xs : List ℕ) → ((m : ℕ) → is_member xs m ≡ true → list_all q (f m) ≡ true) → list_all q (flat_map f xs) ≡ true
all_items q f [] h = refl
all_items q f (x ∷ xs) h =
    all_both q (f x) (flat_map f xs) (h x (let one : (x == x) ≡ true = eq-eqb x x refl in rw one refl))
    (all_items q f xs (λ m e. h m (or_right (x == m) (is_member xs m) e)))

lawful_both : (xs ys : List Item) → AreLawful xs → AreLawful ys → AreLawful (xs ++ ys)
lawful_both [] ys h k = k
lawful_both (x ∷ xs) ys h k = (h.0, lawful_both xs ys h.1 k)

lawful_items : (f : ℕ → List Item) (xs : List ℕ) → ((m : ℕ) → is_member xs m ≡ true → AreLawful (f m)) → AreLawful (flat_map f xs)
lawful_items f [] h = tt
lawful_items f (x ∷ xs) h =
    lawful_both (f x) (flat_map f xs) (h x (let one : (x == x) ≡ true = eq-eqb x x refl in rw one refl))
    (lawful_items f xs (λ m e. h m (or_right (x == m) (is_member xs m) e)))

-- a process of this rank in a job of this name, or all of the job at its first process
abbrev parts : Bool → ℕ → Name → List Item
parts whole rank name = if whole then (if rank == 0 then Every name ∷ [] else []) else One name rank ∷ []

parts_named : (d : Declared) (whole : Bool) (rank j : ℕ) (name : Name) (p : Started) → number_or_count d.jobs name ≡ j
    → list_any (λ i. names_it d i p) (parts whole rank name) ≡ (if whole then ((rank == 0) && (p.job == j)) else ((p.job == j) && (p.rank == rank)))
parts_named d true rank j name p e =
    elim (rank == 0) as (λ t. list_any (λ i. names_it d i p) (if t then Every name ∷ [] else []) ≡ (t && (p.job == j))) [
      | true ↦ or-false (p.job == number_or_count d.jobs name) ∙ ap (λ n. p.job == n) e
      | false ↦ refl
    ]
parts_named d false rank j name p e = or-false (is_proc (number_or_count d.jobs name) rank p) ∙ ap (λ n. (p.job == n) && (p.rank == rank)) e

parts_declared : (d : Declared) (whole : Bool) (rank : ℕ) (name : Name) → is_among d.jobs name ≡ true → has_proc d name rank ≡ true → list_all (is_declared_item d) (parts whole rank name) ≡ true
parts_declared d true rank name h k =
    elim (rank == 0) as (λ t. list_all (is_declared_item d) (if t then Every name ∷ [] else []) ≡ true) [ true ↦ and_from (is_among d.jobs name) true h refl | false ↦ refl ]
parts_declared d false rank name h k = and_from (has_proc d name rank) true k refl

parts_short : (whole : Bool) (rank : ℕ) (name : Name) → is_short_name name ≡ true → list_all is_short_item (parts whole rank name) ≡ true
parts_short true rank name h =
    elim (rank == 0) as (λ t. list_all is_short_item (if t then Every name ∷ [] else []) ≡ true) [ true ↦ and_from (is_short_name name) true h refl | false ↦ refl ]
parts_short false rank name h = and_from (is_short_name name) true h refl

parts_lawful : (whole : Bool) (rank : ℕ) (name : Name) → IsTrue (is_name name) → rank < 10 ^ 9 → AreLawful (parts whole rank name)
parts_lawful true rank name h small =
    elim (rank == 0) as (λ t. AreLawful (if t then Every name ∷ [] else [])) [ true ↦ (h, tt) | false ↦ tt ]
parts_lawful false rank name h small = ((h, small), tt)

proc_has : (d : Declared) (m : ℕ) (q : Started) (name : Name) → slice_get d.processes m ≡ Some q → number_or_count d.jobs name ≡ q.job → has_proc d name q.rank ≡ true
unfolding has_proc
proc_has d m q name at e =
    lt-ltb (proc_number d name q.rank) (length d.processes)
    (position_there (is_proc (number_or_count d.jobs name) q.rank) d.processes m q at
    (and_from (q.job == number_or_count d.jobs name) (q.rank == q.rank) (eq-eqb q.job (number_or_count d.jobs name) (sym e)) (eq-eqb q.rank q.rank refl)))

-- a set that a process of a job says
module _ (d : Declared) (s : Seen) (g : IsGood d) (job : ℕ) (set : Set) where
  abbrev scripts : Scripts
  scripts = scripts_with d s

  abbrev members : List ℕ
  members = set_members d job set

  abbrev is_whole_job : ℕ → Bool
  is_whole_job j = is_whole scripts.processes members j

  job_name : (m : ℕ) (q : Started) → slice_get d.processes m ≡ Some q → number_or_count d.jobs (text_at d.jobs q.job) ≡ q.job
  job_name m q at = number_at d.jobs q.job g.apart (below_at (length d.jobs) d.processes m q g.below at)

  -- what is said of a process of the set
  item_parts : (m : ℕ) (q : Started) → slice_get d.processes m ≡ Some q → member_items scripts members m ≡ parts (is_whole_job q.job) q.rank (text_at d.jobs q.job)
  item_parts m q at =
      let f : Process → List Item = λ x. parts (is_whole_job x.job) x.rank (text_at d.jobs x.job) in
      ap f (process_there d s d.processes (record { job = 0; rank = 0; node = 0; calls = [] }) m q at)

  item_named : (m : ℕ) (q p : Started) → slice_get d.processes m ≡ Some q
      → list_any (λ i. names_it d i p) (member_items scripts members m) ≡ (if is_whole_job q.job then ((q.rank == 0) && (p.job == q.job)) else ((p.job == q.job) && (p.rank == q.rank)))
  item_named m q p at =
      ap (list_any (λ i. names_it d i p)) (item_parts m q at) ∙ parts_named d (is_whole_job q.job) q.rank q.job (text_at d.jobs q.job) p (job_name m q at)

  -- a job that is whole in the set has its processes there
  whole_there : (j m : ℕ) (q : Started) → is_whole_job j ≡ true → slice_get d.processes m ≡ Some q → q.job ≡ j → is_member members m ≡ true
  whole_there j m q w at e =
      list_all_at_member (is_member members) (text.job_members scripts.processes j) m w
      (ap (λ l. is_member l m) (members_places d s 0 j d.processes) ∙ place_at (λ p. p.job == j) d.processes m q at ∙ eq-eqb q.job j e)

  forward : (k m : ℕ) (p q : Started) → slice_get d.processes k ≡ Some p → slice_get d.processes m ≡ Some q → is_member members m ≡ true
      → (t : Bool) → is_whole_job q.job ≡ t → (if t then ((q.rank == 0) && (p.job == q.job)) else ((p.job == q.job) && (p.rank == q.rank))) ≡ true → is_member members k ≡ true
  forward k m p q here there h true w e = whole_there q.job k p w here (eqb-true p.job q.job (and_right (q.rank == 0) (p.job == q.job) e))
  forward k m p q here there h false w e =
      let same = one_process (λ j. 0) d.processes k m p q g.ranked here there (eqb-true p.job q.job (and_left (p.job == q.job) (p.rank == q.rank) e))
      (eqb-true p.rank q.rank (and_right (p.job == q.job) (p.rank == q.rank) e)) in
      ap (is_member members) same ∙ h

  backward : (k : ℕ) (p : Started) → slice_get d.processes k ≡ Some p → is_member members k ≡ true → (t : Bool) → is_whole_job p.job ≡ t
      → list_any (λ m. list_any (λ i. names_it d i p) (member_items scripts members m)) members ≡ true
  backward k p at h true w =
      let r = first_process (λ j. 0) d.processes k p g.ranked at refl in
      let all : is_whole_job r.1.job ≡ true = ap is_whole_job r.3 ∙ w in
      let zero_rank : (r.1.rank == 0) ≡ true = eq-eqb r.1.rank 0 r.4 in
      let same_job : (p.job == r.1.job) ≡ true = eq-eqb p.job r.1.job (sym r.3) in
      member_some (λ m. list_any (λ i. names_it d i p) (member_items scripts members m)) members r.0 (whole_there p.job r.0 r.1 w r.2 r.3)
      (item_named r.0 r.1 p r.2 ∙ rw (all, zero_rank, same_job) refl)
  backward k p at h false w =
      let job_same : (p.job == p.job) ≡ true = eq-eqb p.job p.job refl in
      let rank_same : (p.rank == p.rank) ≡ true = eq-eqb p.rank p.rank refl in
      member_some (λ m. list_any (λ i. names_it d i p) (member_items scripts members m)) members k h
      (item_named k p p at ∙ rw (w, job_same, rank_same) refl)

  -- the items name the members
  listed_is : (k : ℕ) (p : Started) → slice_get d.processes k ≡ Some p → list_any (λ i. names_it d i p) (set_items scripts members) ≡ is_member members k
  listed_is k p at =
      any_flat (λ i. names_it d i p) (member_items scripts members) members
      ∙ same_bools (list_any (λ m. list_any (λ i. names_it d i p) (member_items scripts members m)) members) (is_member members k)
      (λ e.
      let r = some_member (λ m. list_any (λ i. names_it d i p) (member_items scripts members m)) members e in
      let t = there_at (is_in d job set) d.processes r.0 r.1 in
      forward k r.0 p t.0 at t.1 r.1 (is_whole_job t.0.job) refl (sym (item_named r.0 t.0 p t.1) ∙ r.2))
      (λ e. backward k p at e (is_whole_job p.job) refl)

  -- the canonical words of the set name the same processes
  pub set_kept : (k : ℕ) (p : Started) → slice_get d.processes k ≡ Some p → is_in d job (set_said scripts job members) p ≡ is_in d job set p
  set_kept k p at =
      elim (bytes_eq members (text.job_members scripts.processes job))
      as (λ t. bytes_eq members (text.job_members scripts.processes job) ≡ t → is_in d job (if t then Own else Listed (set_items scripts members)) p ≡ is_in d job set p) [
        | true ↦ λ e.
            let same = (bytes_eq-Decides members (text.job_members scripts.processes job)).0 e ∙ members_places d s 0 job d.processes in
            sym (place_at (λ q. q.job == job) d.processes k p at) ∙ sym (ap (λ l. is_member l k) same) ∙ place_at (is_in d job set) d.processes k p at
        | false ↦ λ e. listed_is k p at ∙ place_at (is_in d job set) d.processes k p at
      ] refl

  pub members_kept : set_members d job (set_said scripts job members) ≡ members
  members_kept = places_agree (is_in d job (set_said scripts job members)) (is_in d job set) 0 d.processes set_kept

  pub set_declared : is_declared_set d (set_said scripts job members) ≡ true
  set_declared =
      elim (bytes_eq members (text.job_members scripts.processes job)) as (λ t. is_declared_set d (if t then Own else Listed (set_items scripts members)) ≡ true) [
        | true ↦ refl
        | false ↦ all_items (is_declared_item d) (member_items scripts members) members (λ m h.
            let t = there_at (is_in d job set) d.processes m h in
            let name = text_at d.jobs t.0.job in
            ap (list_all (is_declared_item d)) (item_parts m t.0 t.1)
            ∙ parts_declared d (is_whole_job t.0.job) t.0.rank name (text_among d.jobs t.0.job (below_at (length d.jobs) d.processes m t.0 g.below t.1))
            (proc_has d m t.0 name t.1 (job_name m t.0 t.1)))
      ]

  pub set_short : is_short_set (set_said scripts job members) ≡ true
  set_short =
      elim (bytes_eq members (text.job_members scripts.processes job)) as (λ t. is_short_set (if t then Own else Listed (set_items scripts members)) ≡ true) [
        | true ↦ refl
        | false ↦ all_items is_short_item (member_items scripts members) members (λ m h.
            let t = there_at (is_in d job set) d.processes m h in
            let name = name_at d.jobs t.0.job g.names (below_at (length d.jobs) d.processes m t.0 g.below t.1) in
            ap (list_all is_short_item) (item_parts m t.0 t.1) ∙ parts_short (is_whole_job t.0.job) t.0.rank (text_at d.jobs t.0.job) name.1)
      ]

  -- where the caller is in the set, there is something to say
  pub set_lawful : (k : ℕ) (p : Started) → slice_get d.processes k ≡ Some p → is_in d job set p ≡ true → IsLawfulSet (set_said scripts job members)
  set_lawful k p at h =
      elim (bytes_eq members (text.job_members scripts.processes job)) as (λ t. IsLawfulSet (if t then Own else Listed (set_items scripts members))) [
        | true ↦ tt
        | false ↦ (
          any_some (λ i. names_it d i p) (set_items scripts members) (listed_is k p at ∙ place_at (is_in d job set) d.processes k p at ∙ h),
          lawful_items (member_items scripts members) members (λ m e.
              let t = there_at (is_in d job set) d.processes m e in
              let name = name_at d.jobs t.0.job g.names (below_at (length d.jobs) d.processes m t.0 g.below t.1) in
              let small = rank_most (λ j. 0) d.processes m t.0 g.ranked t.1 in
              let within = get_within d.processes m t.0 t.1 in
              subst AreLawful (sym (item_parts m t.0 t.1)) (parts_lawful (is_whole_job t.0.job) t.0.rank (text_at d.jobs t.0.job) name.0 (let few = g.few in omega arith))),
        )
      ]
