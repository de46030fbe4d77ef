-- A sound pattern is lawful.
use Rattle.std.proofs.Common.{◌≡◌, ◌∙◌, sym, refl, subst, ℕ, suc, ◌+◌, ◌<◌, List, [], ◌∷◌, ◌++◌, Bool, true, false, map, flat_map, length, Option, Some, None, arith, if◌then◌else◌, slice_get, true≢false}
use Rattle.std.specs.Prelude.{◌==◌, ◌&&◌, ◌||◌, not}
use Rattle.std.specs.List.{list_all, list_any}
use Rattle.std.proofs.lemmas.Bool.{and_parts, or_parts}
use borrow.Author.Tests.{ne_eqb}
use Rattle.wire_types.specs.Said.{is_reserved}
use Rattle.wire_types.specs.declared.Reply.{Reply}
use Rattle.wire_runs.specs.Patterns as plan
use Rattle.wire_runs.specs.Patterns.{Who, Only, Self, Each, Turns, InOrder, Round, Chosen, KnowsWho, KnowsAll, KnowsItem, KnowsItems, KnowsLine, IsLoopLine, IsOptional, IsTurnLine, AreLoopLines, IsLawfulStep, AreSteps, IsLawful}
use Rattle.wire_pattern.specs.Pattern.{Indexed, Item, One, Group, Job, Call, Put, Commit, Fence, Get, GetNow, Publish}
use Rattle.wire_pattern.specs.Pattern.{Lookup, LookupWait, Unpublish, UnpublishAll, Line, Step, Once, Loop, Role}
use Rattle.wire_pattern.specs.Planned.{word_of, roles_of, items_of, unless_reserved, line_of, step_of, steps_in, single_in}
use Rattle.wire_pattern.specs.Instances.{job_in}
use Rattle.wire_pattern.specs.Lawful.{whos_in_item, is_each, names_each, is_known_who, is_known_item, names_known, has_role, items_in, is_optional, is_turn_call, is_commit, is_loop_call, waits_after, waits_after_all, has_commit, waits_after_step, is_sound_call, is_sound_step, are_sound_steps, has_words, is_member_call}
use Rattle.wire_pattern.specs.Sound.{SoundIsLawful}

-- what holds of a line whose reply is fixed, and of a line, holds of either
either : (P : plan.Line → Type 0) (word : Indexed) (reply : Reply) (line : plan.Line) → P (plan.LineFixed reply) → P line → P (unless_reserved word reply line)
either P word reply line fixed plain = elim (is_reserved word.base) as (λ t. P (if t then plan.LineFixed reply else line)) [ true ↦ fixed | false ↦ plain ]

module _ (jobs : ℕ) (roles : List Role) where
  know_who : (w : Who) → is_known_who roles w ≡ true → KnowsWho (λ role. single_in (slice_get roles role)) w
  know_who (Only r) h = h
  know_who Self h = tt
  know_who Each h = tt

  know_all : (ws : List Who) → list_all (is_known_who roles) ws ≡ true → KnowsAll (λ role. single_in (slice_get roles role)) ws
  know_all [] h = tt
  know_all (w ∷ ws) h = (know_who w ((and_parts _ _ h).0), know_all ws ((and_parts _ _ h).1))

  know_append : (xs ys : List plan.Item) → KnowsItems (λ role. single_in (slice_get roles role)) xs → KnowsItems (λ role. single_in (slice_get roles role)) ys
      → KnowsItems (λ role. single_in (slice_get roles role)) (xs ++ ys)
  know_append [] ys h k = k
  know_append (x ∷ xs) ys h k = (h.0, know_append xs ys h.1 k)

  know_every : (rs : List ℕ) → KnowsItems (λ role. single_in (slice_get roles role)) (map plan.Every rs)
  know_every [] = tt
  know_every (r ∷ rs) = (tt, know_every rs)

  know_item : (i : Item) → is_known_item jobs roles i ≡ true → KnowsItems (λ role. single_in (slice_get roles role)) (items_of roles i)
  know_item (One w) h = (know_who w h, tt)
  know_item (Group r) h = (tt, tt)
  know_item (Job j) h = know_every (roles_of j 0 roles)

  know_items : (is : List Item) → list_all (is_known_item jobs roles) is ≡ true → KnowsItems (λ role. single_in (slice_get roles role)) (flat_map (items_of roles) is)
  know_items [] h = tt
  know_items (i ∷ is) h = know_append (items_of roles i) (flat_map (items_of roles) is) (know_item i ((and_parts _ _ h).0)) (know_items is ((and_parts _ _ h).1))

  know_line : (call : Call) → names_known jobs roles call ≡ true → KnowsLine (λ role. single_in (slice_get roles role)) (line_of roles call)
  know_line (Put s k v) h = either (KnowsLine (λ role. single_in (slice_get roles role))) k _ (plan.LinePut (word_of k) s) tt (know_all k.indices ((and_parts _ _ h).0))
  know_line Commit h = tt
  know_line (Fence items c) h = know_items items ((and_parts _ _ h).1)
  know_line (Get o k) h = either (KnowsLine (λ role. single_in (slice_get roles role))) k _ (plan.LineGet o (word_of k)) tt (let all = know_all (o ∷ k.indices) ((and_parts _ _ h).0) in (all.0, all.1))
  know_line (GetNow o k) h = either (KnowsLine (λ role. single_in (slice_get roles role))) k _ (plan.LineGetNow o (word_of k)) tt (let all = know_all (o ∷ k.indices) ((and_parts _ _ h).0) in (all.0, all.1))
  know_line (Publish k v) h = either (KnowsLine (λ role. single_in (slice_get roles role))) k _ (plan.LinePublish (word_of k)) tt (know_all k.indices ((and_parts _ _ h).0))
  know_line (Lookup k) h = either (KnowsLine (λ role. single_in (slice_get roles role))) k _ (plan.LineLookup (word_of k)) tt (know_all k.indices ((and_parts _ _ h).0))
  know_line (LookupWait k) h = either (KnowsLine (λ role. single_in (slice_get roles role))) k _ (plan.LineLookupWait (word_of k)) tt (know_all k.indices ((and_parts _ _ h).0))
  know_line (Unpublish k) h = either (KnowsLine (λ role. single_in (slice_get roles role))) k _ (plan.LineUnpublish (word_of k)) tt (know_all k.indices ((and_parts _ _ h).0))
  know_line UnpublishAll h = tt

  -- in loops

  each_named : (ws : List Who) → list_any is_each ws ≡ true → plan.names_each ws ≡ true
  each_named [] h = h
  each_named (Only r ∷ ws) h = each_named ws h
  each_named (Self ∷ ws) h = each_named ws h
  each_named (Each ∷ ws) h = refl

  each_append : (xs ys : List plan.Item) → (plan.has_each xs ≡ true) → plan.has_each (xs ++ ys) ≡ true
  each_append [] ys h = absurd (true≢false (sym h))
  each_append (plan.Every r ∷ xs) ys h = each_append xs ys h
  each_append (plan.One (Only r) ∷ xs) ys h = each_append xs ys h
  each_append (plan.One Self ∷ xs) ys h = each_append xs ys h
  each_append (plan.One Each ∷ xs) ys h = refl

  each_behind : (xs ys : List plan.Item) → plan.has_each ys ≡ true → plan.has_each (xs ++ ys) ≡ true
  each_behind [] ys h = h
  each_behind (plan.Every r ∷ xs) ys h = each_behind xs ys h
  each_behind (plan.One (Only r) ∷ xs) ys h = each_behind xs ys h
  each_behind (plan.One Self ∷ xs) ys h = each_behind xs ys h
  each_behind (plan.One Each ∷ xs) ys h = refl

  each_item : (is : List Item) → list_any is_each (flat_map whos_in_item is) ≡ true → plan.has_each (flat_map (items_of roles) is) ≡ true
  each_item [] h = h
  each_item (One (Only r) ∷ is) h = each_item is h
  each_item (One Self ∷ is) h = each_item is h
  each_item (One Each ∷ is) h = refl
  each_item (Group r ∷ is) h = each_item is h
  each_item (Job j ∷ is) h = each_behind (map plan.Every (roles_of j 0 roles)) (flat_map (items_of roles) is) (each_item is h)

  or_none : (t a b : Bool) → (a ≡ false → b ≡ false) → (t || a) ≡ false → (t || b) ≡ false
  or_none true a b f h = h
  or_none false a b f h = f h

  none_append : (group : ℕ) (xs ys : List plan.Item) → plan.has_every group xs ≡ false → plan.has_every group ys ≡ false → plan.has_every group (xs ++ ys) ≡ false
  none_append group [] ys h k = k
  none_append group (plan.Every r ∷ xs) ys h k = or_none (r == group) (plan.has_every group xs) (plan.has_every group (xs ++ ys)) (λ g. none_append group xs ys g k) h
  none_append group (plan.One w ∷ xs) ys h k = none_append group xs ys h k

  none_every : (job group n : ℕ) (rs : List Role) → ((k : ℕ) → k < length rs → n + k ≡ group → (job_in (slice_get rs k) == job) ≡ false) → plan.has_every group (map plan.Every (roles_of job n rs)) ≡ false
  none_every job group n [] h = refl
  none_every job group n (r ∷ rs) h =
      let rest : plan.has_every group (map plan.Every (roles_of job (suc n) rs)) ≡ false = none_every job group (suc n) rs (λ k lt is. h (suc k) (omega arith) (omega arith)) in
      elim (r.job == job) as (λ t. (r.job == job) ≡ t → plan.has_every group (map plan.Every (if t then n ∷ roles_of job (suc n) rs else roles_of job (suc n) rs)) ≡ false) [
        | true ↦ λ e. (let ne : (n == group) ≡ false = ne_eqb n group (λ same. true≢false (sym e ∙ h 0 (omega arith) (omega arith))) in rw ne rest)
        | false ↦ λ e. rest
      ] refl

  none_job : (j group : ℕ) → (job_in (slice_get roles group) == j) ≡ false → plan.has_every group (map plan.Every (roles_of j 0 roles)) ≡ false
  none_job j group h = none_every j group 0 roles (λ k lt is. let same : k ≡ group = omega arith in subst (λ n. (job_in (slice_get roles n) == j) ≡ false) (sym same) h)

  none_item : (group : ℕ) (is : List Item) → list_any (has_role roles group) is ≡ false → plan.has_every group (flat_map (items_of roles) is) ≡ false
  none_item group [] h = refl
  none_item group (One w ∷ is) h = none_item group is h
  none_item group (Group r ∷ is) h = or_none (r == group) (list_any (has_role roles group) is) (plan.has_every group (flat_map (items_of roles) is)) (λ g. none_item group is g) h
  none_item group (Job j ∷ is) h =
      let none = or_parts (job_in (slice_get roles group) == j) (list_any (has_role roles group) is) h in
      none_append group (map plan.Every (roles_of j 0 roles)) (flat_map (items_of roles) is) (none_job j group none.0) (none_item group is none.1)

  loop_line : (group : ℕ) (call : Call) → (is_commit call || names_each call) ≡ true → list_any (has_role roles group) (items_in call) ≡ false → IsLoopLine group (line_of roles call)
  loop_line group (Put s k v) e w = either (IsLoopLine group) k _ (plan.LinePut (word_of k) s) tt (each_named k.indices e)
  loop_line group Commit e w = tt
  loop_line group (Fence items c) e w = (each_item items e, none_item group items w)
  loop_line group (Get o k) e w = either (IsLoopLine group) k _ (plan.LineGet o (word_of k)) tt (each_named (o ∷ k.indices) e)
  loop_line group (GetNow o k) e w = either (IsLoopLine group) k _ (plan.LineGetNow o (word_of k)) tt (each_named (o ∷ k.indices) e)
  loop_line group (Publish k v) e w = either (IsLoopLine group) k _ (plan.LinePublish (word_of k)) tt (each_named k.indices e)
  loop_line group (Lookup k) e w = either (IsLoopLine group) k _ (plan.LineLookup (word_of k)) tt tt
  loop_line group (LookupWait k) e w = either (IsLoopLine group) k _ (plan.LineLookupWait (word_of k)) tt tt
  loop_line group (Unpublish k) e w = either (IsLoopLine group) k _ (plan.LineUnpublish (word_of k)) tt (each_named k.indices e)
  loop_line group UnpublishAll e w = true≢false (sym e)

  optional : (call : Call) → is_optional call ≡ true → IsOptional (line_of roles call)
  optional (Put s k v) h = either IsOptional k _ (plan.LinePut (word_of k) s) tt tt
  optional Commit h = tt
  optional (Fence items c) h = true≢false (sym h)
  optional (Get o k) h = either IsOptional k _ (plan.LineGet o (word_of k)) tt tt
  optional (GetNow o k) h = either IsOptional k _ (plan.LineGetNow o (word_of k)) tt tt
  optional (Publish k v) h = absurd (true≢false (sym h))
  optional (Lookup k) h = either IsOptional k _ (plan.LineLookup (word_of k)) tt tt
  optional (LookupWait k) h = either IsOptional k _ (plan.LineLookupWait (word_of k)) tt tt
  optional (Unpublish k) h = absurd (true≢false (sym h))
  optional UnpublishAll h = true≢false (sym h)

  turn_line : (turns : Turns) (call : Call) → is_turn_call turns call ≡ true → IsTurnLine turns (line_of roles call)
  turn_line InOrder call h = tt
  turn_line Round call h = tt
  turn_line Chosen call h = optional call h

  not_true : (b : Bool) → not b ≡ true → b ≡ false
  not_true true h = sym h
  not_true false h = refl

  loop_lines : (caller group : ℕ) (turns : Turns) (lines : List Line) → list_all (λ l. is_sound_call jobs roles caller l.call && is_loop_call roles group turns l.call) lines ≡ true
      → AreLoopLines (λ role. single_in (slice_get roles role)) group turns (map (λ l. line_of roles l.call) lines)
  loop_lines caller group turns [] h = tt
  loop_lines caller group turns (l ∷ ls) h =
      let first = (and_parts _ _ h).0 in
      let sound = (and_parts (is_sound_call jobs roles caller l.call) (is_loop_call roles group turns l.call) first).0 in
      let loop = (and_parts (is_sound_call jobs roles caller l.call) (is_loop_call roles group turns l.call) first).1 in
      let known = (and_parts (names_known jobs roles l.call) (is_member_call roles caller l.call) ((and_parts (has_words l.call) _ sound).1)).0 in
      let fits = (and_parts (is_commit l.call || names_each l.call) _ loop).1 in (
        (know_line l.call known, (loop_line group l.call ((and_parts _ _ loop).0) (not_true _ ((and_parts _ _ fits).0)), turn_line turns l.call ((and_parts _ _ fits).1))),
        loop_lines caller group turns ls ((and_parts _ _ h).1),
      )

  -- where a put waits in the plan's lines, one waits in the pattern's
  waits_more : (u w : Bool) (call : Call) → (u ≡ true → w ≡ true) → plan.waits_line u (line_of roles call) ≡ true → waits_after w call ≡ true
  waits_more u w (Put s k v) up h = refl
  waits_more u w Commit up h = h
  waits_more u w (Fence items c) up h = up h
  waits_more u w (Get o k) up h = up (either (λ l. plan.waits_line u l ≡ true → u ≡ true) k _ (plan.LineGet o (word_of k)) (λ g. g) (λ g. g) h)
  waits_more u w (GetNow o k) up h = up (either (λ l. plan.waits_line u l ≡ true → u ≡ true) k _ (plan.LineGetNow o (word_of k)) (λ g. g) (λ g. g) h)
  waits_more u w (Publish k v) up h = up (either (λ l. plan.waits_line u l ≡ true → u ≡ true) k _ (plan.LinePublish (word_of k)) (λ g. g) (λ g. g) h)
  waits_more u w (Lookup k) up h = up (either (λ l. plan.waits_line u l ≡ true → u ≡ true) k _ (plan.LineLookup (word_of k)) (λ g. g) (λ g. g) h)
  waits_more u w (LookupWait k) up h = up (either (λ l. plan.waits_line u l ≡ true → u ≡ true) k _ (plan.LineLookupWait (word_of k)) (λ g. g) (λ g. g) h)
  waits_more u w (Unpublish k) up h = up (either (λ l. plan.waits_line u l ≡ true → u ≡ true) k _ (plan.LineUnpublish (word_of k)) (λ g. g) (λ g. g) h)
  waits_more u w UnpublishAll up h = up h

  waits_more_all : (u w : Bool) (lines : List Line) → (u ≡ true → w ≡ true) → plan.waits_lines u (map (λ l. line_of roles l.call) lines) ≡ true → waits_after_all w lines ≡ true
  waits_more_all u w [] up h = up h
  waits_more_all u w (l ∷ ls) up h = waits_more_all (plan.waits_line u (line_of roles l.call)) (waits_after w l.call) ls (waits_more u w l.call up) h

  or_more : (a b c d : Bool) → (a ≡ true → c ≡ true) → (b ≡ true → d ≡ true) → (a || b) ≡ true → (c || d) ≡ true
  or_more true b c d f g h = rw (f refl) refl
  or_more false b true d f g h = refl
  or_more false b false d f g h = g h

  waits_more_step : (u w : Bool) (step : Step) → (u ≡ true → w ≡ true) → plan.waits_step u (step_of roles step) ≡ true → waits_after_step w step ≡ true
  waits_more_step u w (Once line) up h = waits_more u w line.call up h
  waits_more_step u w (Loop n group turns lines) up h =
      or_more u (plan.waits_lines u (map (λ l. line_of roles l.call) lines)) w (waits_after_all w lines) up (waits_more_all u w lines up) h

  -- a commit of the plan's lines is one of the pattern's

  commit_is : (call : Call) (rest : List plan.Line) (later : Bool) → (plan.has_commit rest ≡ true → later ≡ true) → plan.has_commit (line_of roles call ∷ rest) ≡ true → (is_commit call || later) ≡ true
  commit_is (Put s k v) rest later up h = up (either (λ l. plan.has_commit (l ∷ rest) ≡ true → plan.has_commit rest ≡ true) k _ (plan.LinePut (word_of k) s) (λ g. g) (λ g. g) h)
  commit_is Commit rest later up h = refl
  commit_is (Fence items c) rest later up h = up h
  commit_is (Get o k) rest later up h = up (either (λ l. plan.has_commit (l ∷ rest) ≡ true → plan.has_commit rest ≡ true) k _ (plan.LineGet o (word_of k)) (λ g. g) (λ g. g) h)
  commit_is (GetNow o k) rest later up h = up (either (λ l. plan.has_commit (l ∷ rest) ≡ true → plan.has_commit rest ≡ true) k _ (plan.LineGetNow o (word_of k)) (λ g. g) (λ g. g) h)
  commit_is (Publish k v) rest later up h = up (either (λ l. plan.has_commit (l ∷ rest) ≡ true → plan.has_commit rest ≡ true) k _ (plan.LinePublish (word_of k)) (λ g. g) (λ g. g) h)
  commit_is (Lookup k) rest later up h = up (either (λ l. plan.has_commit (l ∷ rest) ≡ true → plan.has_commit rest ≡ true) k _ (plan.LineLookup (word_of k)) (λ g. g) (λ g. g) h)
  commit_is (LookupWait k) rest later up h = up (either (λ l. plan.has_commit (l ∷ rest) ≡ true → plan.has_commit rest ≡ true) k _ (plan.LineLookupWait (word_of k)) (λ g. g) (λ g. g) h)
  commit_is (Unpublish k) rest later up h = up (either (λ l. plan.has_commit (l ∷ rest) ≡ true → plan.has_commit rest ≡ true) k _ (plan.LineUnpublish (word_of k)) (λ g. g) (λ g. g) h)
  commit_is UnpublishAll rest later up h = up h

  commits : (lines : List Line) → plan.has_commit (map (λ l. line_of roles l.call) lines) ≡ true → has_commit lines ≡ true
  commits [] h = h
  commits (l ∷ ls) h = commit_is l.call (map (λ l. line_of roles l.call) ls) (has_commit ls) (commits ls) h

  false_by : (u w : Bool) → (u ≡ true → w ≡ true) → w ≡ false → u ≡ false
  false_by true w up h = absurd (true≢false (sym (up refl) ∙ h))
  false_by false w up h = refl

  or_split : (a b : Bool) → (not a || b) ≡ true → a ≡ true → b ≡ true
  or_split true b h e = h
  or_split false b h e = absurd (true≢false (sym e))

  is_step : (caller : ℕ) (u w : Bool) (step : Step) → (u ≡ true → w ≡ true) → is_sound_step jobs roles caller w step ≡ true → IsLawfulStep (λ role. single_in (slice_get roles role)) u (step_of roles step)
  is_step caller u w (Once line) up h =
      know_line line.call ((and_parts (names_known jobs roles line.call) (is_member_call roles caller line.call) ((and_parts (has_words line.call) _ ((and_parts (is_sound_call jobs roles caller line.call) _ h).0)).1)).0)
  is_step caller u w (Loop n group turns lines) up h =
      let body = (and_parts _ _ h).1 in (
        loop_lines caller group turns lines ((and_parts _ _ body).0),
        λ c.
            let both = or_split (has_commit lines) (not w && not (waits_after_all false lines)) ((and_parts _ _ body).1) (commits lines c) in (
              false_by u w up (not_true w ((and_parts _ _ both).0)),
              false_by (plan.waits_lines false (map (λ l. line_of roles l.call) lines)) (waits_after_all false lines) (waits_more_all false false lines (λ e. e)) (not_true _ ((and_parts _ _ both).1)),
            ),
      )

  are_steps : (caller : ℕ) (u w : Bool) (steps : List Step) → (u ≡ true → w ≡ true) → are_sound_steps jobs roles caller w steps ≡ true
      → AreSteps (λ role. single_in (slice_get roles role)) u (map (step_of roles) steps)
  are_steps caller u w [] up h = tt
  are_steps caller u w (step ∷ steps) up h =
      (is_step caller u w step up ((and_parts _ _ h).0), are_steps caller (plan.waits_step u (step_of roles step)) (waits_after_step w step) steps (waits_more_step u w step up) ((and_parts _ _ h).1))

pub sound_is_lawful : SoundIsLawful
sound_is_lawful p s = record { steps = λ role. go role (slice_get p.roles role) refl }
  where
    go : (role : ℕ) (o : Option Role) → slice_get p.roles role ≡ o → AreSteps (λ r. single_in (slice_get p.roles r)) false (map (step_of p.roles) (steps_in o))
    go role None e = tt
    go role (Some r) e = are_steps (length p.jobs) p.roles role false false r.steps (λ x. x) (s.steps role r e)
