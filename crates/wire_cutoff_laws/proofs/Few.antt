-- Few processes of each role tell of any number.
use Rattle.std.proofs.Common.{◌≡◌, ℕ, zero, suc, ◌+◌, ◌≤◌, ◌<◌, List, [], ◌∷◌, ◌++◌, map, length, Bool, true, false, not, Some, inl, inr, ◌⊎◌, refl, sym, ap, ◌∙◌, subst, arith, append_assoc, nat_lt, lt-ltb, le-ltb}
use Rattle.std.specs.Prelude.{slice_get, replicate, if◌then◌else◌}
use Rattle.std.proofs.lemmas.Bool.{cond-true, cond-false, cases_lt, cases_Bool, and_parts, true≢false}
use Rattle.std.proofs.lemmas.Option.{none-some}
use Rattle.wire_types.specs.Said.{is_reserved}
use Rattle.wire_runs.specs.Patterns as plan
use Rattle.wire_runs.specs.Patterns.{Coding, Cast, group, instance_of, IsCastOf, Chosen}
use Rattle.wire_runs.specs.Races.{IsSettled}
use Rattle.wire_pattern.specs.Pattern.{Call, Put, Commit, Fence, Get, GetNow, Publish, Lookup, LookupWait, Unpublish, UnpublishAll}
use Rattle.wire_pattern.specs.Pattern.{Line, Step, Once, Loop, Role, Pattern}
use Rattle.wire_pattern.specs.Planned.{pattern_of, line_of, step_of, steps_in, single_in, least_in, least_of}
use Rattle.wire_pattern.specs.Lawful.{IsSoundPattern}
use Rattle.wire_pattern.proofs.Lawful.{sound_is_lawful}
use Rattle.wire_pattern.specs.Instances.{Turn, roles_from}
use Rattle.wire_pattern_laws.specs.Ordered.{HasMost, in_blocks}
use Rattle.wire_pattern_laws.specs.Fuller.{only_reads, MayTake, IsFuller}
use Rattle.wire_pattern_laws.proofs.SmallOrdered.{ordered_suffice}
use Rattle.wire_pattern_laws.proofs.RoleBlocks.{order_is_blocks}
use Rattle.wire_pattern_laws.proofs.MoreTurns.{reads_whole}
use Rattle.wire_runs.proofs.PlainRun.{plain_runs}
use Rattle.wire_runs.proofs.Lists.{slice_get-map_back}
use Rattle.std.proofs.lemmas.List.{append-nil, length-map}
use Rattle.wire_cutoff_laws.specs.Sizes.{AreFewSizes, most_of}
use Rattle.wire_cutoff_laws.specs.Choices.{is_read_call, are_reads, optional_turns, chosen_by, cast_on}
use Rattle.wire_cutoff_laws.specs.Promised.{AreFewSettled, IsAnyCast, IsSettledForAll, CutoffSuffices}
use Rattle.wire_cutoff_laws.proofs.Turns.{turn, taken_or, may_be_left}

-- the sizes of these roles, of which the first is number k
unfoldable pub sizes_by : (ℕ → ℕ) → ℕ → List Role → List ℕ
sizes_by size k [] = []
sizes_by size k (role ∷ roles) = size k ∷ sizes_by size (suc k) roles

blocks_front : (size : ℕ → ℕ) (k : ℕ) (roles : List Role) → in_blocks size k ++ roles_from k (sizes_by size k roles) ≡ in_blocks size (k + length roles)
unfolding sizes_by
blocks_front size k [] = append-nil (in_blocks size k) ∙ ap (in_blocks size) none
  where
    none : k ≡ k + 0
    none = omega arith
blocks_front size k (role ∷ roles) =
    sym (append_assoc (in_blocks size k) (replicate (size k) k) (roles_from (suc k) (sizes_by size (suc k) roles)))
    ∙ blocks_front size (suc k) roles ∙ ap (in_blocks size) more
  where
    more : suc k + length roles ≡ k + suc (length roles)
    more = omega arith

blocks_are : (size : ℕ → ℕ) (roles : List Role) → roles_from 0 (sizes_by size 0 roles) ≡ in_blocks size (length roles)
blocks_are size roles = blocks_front size 0 roles ∙ ap (in_blocks size) none
  where
    none : 0 + length roles ≡ length roles
    none = omega arith

Bounded : Role → ℕ → Type 0
Bounded role n = (role.least ≤ n) × (n ≤ most_of role)

are_sizes : (size : ℕ → ℕ) (k : ℕ) (roles : List Role)
    → ((i : ℕ) (role : Role) → slice_get roles i ≡ Some role → Bounded role (size (k + i)))
    → AreFewSizes roles (sizes_by size k roles)
unfolding sizes_by Bounded
are_sizes size k [] each = tt
are_sizes size k (role ∷ roles) each = (
  subst (λ m. Bounded role (size m)) none (each 0 role refl),
  are_sizes size (suc k) roles (λ i r is. subst (λ m. Bounded r (size m)) (more i) (each (suc i) r is)),
)
  where
    none : k + 0 ≡ k
    none = omega arith

    more : (i : ℕ) → k + suc i ≡ suc k + i
    more i = omega arith

within : {A : Type 0} (xs : List A) (i : ℕ) (x : A) → slice_get xs i ≡ Some x → i < length xs
within [] i x is = absurd (none-some x is)
within (y ∷ xs) zero x is = omega arith
within (y ∷ xs) (suc i) x is = let h = within xs i x is in omega (arith, h)

from_not : (b : Bool) → not b ≡ true → b ≡ false
from_not true h = absurd (true≢false (sym h))
from_not false h = refl

-- a line that only reads is one that reads in the plan
read_line : (roles : List Role) (call : Call) (lines : List plan.Line) → is_read_call call ≡ true → only_reads (line_of roles call ∷ lines) ≡ only_reads lines
read_line roles (GetNow owner key) lines r =
    ap (λ l. only_reads (l ∷ lines)) (cond-false (is_reserved key.base) _ _ (from_not (is_reserved key.base) r))
read_line roles (Lookup name) lines r =
    ap (λ l. only_reads (l ∷ lines)) (cond-false (is_reserved name.base) _ _ (from_not (is_reserved name.base) r))
read_line roles (Put scope key value) lines r = absurd (true≢false (sym r))
read_line roles Commit lines r = absurd (true≢false (sym r))
read_line roles (Fence items collect) lines r = absurd (true≢false (sym r))
read_line roles (Get owner key) lines r = absurd (true≢false (sym r))
read_line roles (Publish name value) lines r = absurd (true≢false (sym r))
read_line roles (LookupWait name) lines r = absurd (true≢false (sym r))
read_line roles (Unpublish name) lines r = absurd (true≢false (sym r))
read_line roles UnpublishAll lines r = absurd (true≢false (sym r))

reads_are : (roles : List Role) (lines : List Line) → are_reads lines ≡ true → only_reads (map (λ l. line_of roles l.call) lines) ≡ true
reads_are roles [] r = refl
reads_are roles (line ∷ lines) r =
    read_line roles line.call (map (λ l. line_of roles l.call) lines) (and_parts (is_read_call line.call) (are_reads lines) r).0
    ∙ reads_are roles lines (and_parts (is_read_call line.call) (are_reads lines) r).1

-- the parts of a loop
group_in : plan.Step → ℕ
group_in (plan.Once line) = 0
group_in (plan.Loop group turns lines) = group

turns_in : plan.Step → plan.Turns
turns_in (plan.Once line) = plan.InOrder
turns_in (plan.Loop group turns lines) = turns

lines_in : plan.Step → List plan.Line
lines_in (plan.Once line) = []
lines_in (plan.Loop group turns lines) = lines

is_loop : plan.Step → Bool
is_loop (plan.Once line) = false
is_loop (plan.Loop group turns lines) = true

-- a step that is a loop in the plan is one in the file
record IsLoopOf (roles : List Role) (step : Step) (over : ℕ) (lines : List plan.Line) : Type 0 where
  number : ℕ
  own_lines : List Line
  is : step ≡ Loop number over Chosen own_lines
  lines_are : map (λ l. line_of roles l.call) own_lines ≡ lines

loop_of : (roles : List Role) (step : Step) (over : ℕ) (lines : List plan.Line) → step_of roles step ≡ plan.Loop over Chosen lines → IsLoopOf roles step over lines
unfolding group_in turns_in lines_in is_loop
loop_of roles (Once line) over lines e = absurd (true≢false (sym (ap is_loop e)))
loop_of roles (Loop number group turns own_lines) over lines e = record {
  number = number;
  own_lines = own_lines;
  is = ap (λ g. Loop number g turns own_lines) (ap group_in e) ∙ ap (λ t. Loop number over t own_lines) (ap turns_in e);
  lines_are = ap lines_in e;
}

-- at most so many, of whichever role
abbrev pub most_at : ℕ → ℕ
most_at least = if nat_lt least 3 then 3 else least

pub three : (least : ℕ) → (3 ≤ most_at least) × (least ≤ most_at least)
three least = elim (cases_lt least 3) [
  | inl lt ↦ (let e = cond-true (nat_lt least 3) 3 least (lt-ltb least 3 lt) in (omega (arith, e), omega (arith, e, lt)))
  | inr ge ↦ (let e = cond-false (nat_lt least 3) 3 least (le-ltb least 3 ge) in (omega (arith, e, ge), omega (arith, e, ge)))
]

module _ (p : Pattern) (sound : IsSoundPattern p) (few : AreFewSettled p) (coding : Coding) (cast : Cast) (any : IsAnyCast p cast) (most : HasMost (length p.roles) (λ role. most_at (least_of p role)) cast) where
  abbrev pub size : ℕ → ℕ
  size role = length (group role cast.roles)

  abbrev pub sizes : List ℕ
  sizes = sizes_by size 0 p.roles

  are_roles : roles_from 0 sizes ≡ cast.roles
  are_roles = blocks_are size p.roles ∙ sym ((order_is_blocks (length p.roles) cast).blocks any.in_order)

  bounded : (i : ℕ) (role : Role) → slice_get p.roles i ≡ Some role → Bounded role (size i)
  unfolding Bounded
  bounded i role is = (at_least, elim (cases_Bool role.single) [ inl y ↦ one y | inr n ↦ many n ])
    where
      there : i < length p.roles
      there = within p.roles i role is

      least_is : least_of p i ≡ role.least
      least_is = ap least_in is

      at_least : role.least ≤ size i
      at_least = let h = any.least i there in omega (arith, h, least_is)

      one : role.single ≡ true → size i ≤ most_of role
      one y = let b = cond-true role.single 1 (if nat_lt role.least 3 then 3 else role.least) y in omega (arith, alone, b)
        where
          alone : size i ≡ 1
          alone = ap length (any.is.only i (ap single_in is ∙ y)).1

      many : role.single ≡ false → size i ≤ most_of role
      many n =
          let h = most i there in let a = ap most_at least_is in
          let b = cond-false role.single 1 (if nat_lt role.least 3 then 3 else role.least) n in omega (arith, h, a, b)

  pub fit : AreFewSizes p.roles sizes
  fit = are_sizes size 0 p.roles (λ i role is. subst (λ m. Bounded role (size m)) (none i) (bounded i role is))
    where
      none : (i : ℕ) → i ≡ 0 + i
      none i = omega arith

  abbrev pub open_turns : List Turn
  open_turns = optional_turns p sizes

  abbrev pub taken : Turn → Bool
  taken t = cast.chosen t.caller t.step t.each

  abbrev pub fuller : Cast
  fuller = cast_on sizes (chosen_by open_turns (map taken open_turns)) cast.nodes

  -- what the fuller cast takes of a loop
  Takes : ℕ → ℕ → ℕ → List plan.Line → Type 0
  Takes v i e lines = (fuller.chosen v i e ≡ cast.chosen v i e) ⊎ ((only_reads lines ≡ true) × (fuller.chosen v i e ≡ true))

  takes : (v i e : ℕ) (lines : List plan.Line) (may : MayTake (pattern_of p) cast v i e lines) (step : Step)
      → slice_get (steps_in (slice_get p.roles may.role)) i ≡ Some step → IsLoopOf p.roles step may.loops_over lines → Takes v i e lines
  unfolding Takes
  takes v i e lines may step there loop = elim (taken_or open_turns taken (turn v i e)) [
    | inl same ↦ inl same
    | inr not_open ↦ elim (cases_Bool (are_reads loop.own_lines)) [
      | inl r ↦ inr (ap only_reads (sym loop.lines_are) ∙ reads_are p.roles loop.own_lines r, not_open.1)
      | inr w ↦ absurd (not_open.0 (may_be_left p (roles_from 0 sizes) v i e may.role loop.number may.loops_over loop.own_lines
          (ap (λ rs. slice_get rs v) are_roles ∙ may.role_of_p) (there ∙ ap Some loop.is) w (ap (λ rs. slice_get rs e) are_roles ∙ may.role_of_e) may.another))
    ]
  ]

  pub is_fuller : IsFuller (pattern_of p) cast fuller
  unfolding Takes
  is_fuller = record {
    roles = are_roles;
    nodes = λ v lt. refl;
    turns = λ v i e lines may. (let x = slice_get-map_back (step_of p.roles) (steps_in (slice_get p.roles may.role)) i (plan.Loop may.loops_over Chosen lines) may.step in
        takes v i e lines may x.0 x.1 (loop_of p.roles x.0 may.loops_over lines x.2));
  }

  pub small_settled : IsSettled (instance_of (pattern_of p) coding cast)
  small_settled = reads_whole (pattern_of p) coding cast fuller is_fuller (few sizes fit (map taken open_turns) (length-map open_turns taken) coding cast.nodes)

settled_for_all : (p : Pattern) → IsSoundPattern p → AreFewSettled p → IsSettledForAll p
settled_for_all p sound few coding cast any =
    ordered_suffice (pattern_of p) coding (length p.roles) (least_of p) (λ role. most_at (least_of p role)) (sound_is_lawful p sound) (λ role lt. three (least_of p role))
    (λ c is in_order least most. small_settled p sound few coding c (record { is = is; in_order = in_order; least = least }) most) cast any.is any.in_order any.least

pub cutoff_suffices : CutoffSuffices
cutoff_suffices p sound few = (
  settled_for_all p sound few,
  λ coding cast any. (plain_runs (instance_of (pattern_of p) coding cast)).is_the_end (settled_for_all p sound few coding cast any),
)
