-- A pattern that is declared and has no fault is sound.
use Rattle.std.proofs.Common.{◌≡◌, ◌∙◌, ap, sym, refl, subst, ℕ, zero, suc, ◌+◌, ◌<◌, ◌≤◌, List, [], ◌∷◌, ◌++◌, Bool, true, false, map, flat_map, length, Option, Some, None, arith, if◌then◌else◌, slice_get, true≢false}
use Rattle.std.specs.Prelude.{◌==◌, ◌&&◌, ◌||◌, not, nat_lt, nat_le}
use Rattle.std.specs.List.{list_all, list_any}
use Rattle.std.proofs.lemmas.List.{length-map}
use Rattle.std.proofs.lemmas.List.Folds.{list_all-append}
use borrow.Author.Tests.{leb-true, eqb-true}
use Rattle.wire_types.specs.declared.Fault.{Fault}
use Rattle.wire_types.specs.declared.Fault.TheVariants.{BadLine, UnknownName, NotMember}
use Rattle.wire_types.specs.Said.{is_word}
use Rattle.wire_lines.proofs.Colon.{and_left, and_right}
use Rattle.wire_scripts.specs.Apart.{AreDistinct}
use Rattle.wire_runs.specs.Patterns.{Who, Only, Turns}
use Rattle.wire_reader.specs.Reads.{first_of}
use Rattle.wire_pattern.specs.Pattern.{One, Group, Call, Line, Step, Once, Loop, Role, JobLine, Pattern}
use Rattle.wire_pattern.specs.declared.pattern.Job.{Job as CodeJob}
use Rattle.wire_pattern.specs.declared.pattern.Role.{Role as CodeRole}
use Rattle.wire_pattern.specs.Views.{job_by, role_by}
use Rattle.wire_pattern.specs.Instances.{job_in}
use Rattle.wire_pattern.specs.Lawful.{is_base, is_plain_name, whos_in_item, is_each, names_each, names_known, is_member_call, has_words, is_commit, is_loop_call, has_commit, waits_after_all, waits_after_step, is_sound_call, is_sound_step, are_sound_steps, HasLawfulLeast, IsSoundPattern}
use Rattle.wire_pattern_lines.specs.Said as said
use Rattle.wire_pattern_script.specs.FirstPass.{LocatedCall, LoopLines, StepLines, OnceLine, LoopOf, RoleLines, Declared}
use Rattle.wire_pattern_script.specs.Numbers.{who_of, is_single_lines, role_number, item_of, call_of, line_of, loop_of, steps_of, role_of, pattern_of}
use Rattle.wire_pattern_script.specs.Fit.{is_fit_line, is_fit_turn, is_fit_step, has_fit_steps, has_least, are_rising, IsFit}
use Rattle.wire_pattern_script.specs.Faults.{first_fault, is_declared, fits_loop, line_fault, turn_fault, step_fault, steps_fault, scripts_fault, commit_line, bad_if, commit_fault, commits_fault, third_fault, roles_fault, pattern_fault}
use Rattle.wire_pattern_script.proofs.Mapped.{all_of}

both : (a b : Bool) → a ≡ true → b ≡ true → (a && b) ≡ true
both true b h k = k
both false b h k = h

first_none : (a b : Option Fault) → first_of a b ≡ None → (a ≡ None) × (b ≡ None)
first_none None b h = (refl, h)
first_none (Some e) b h = absurd (cc)

-- words that are words, and lines that name the process of a turn where they are in a loop
abbrev is_turn_of_loop : Line → Bool
is_turn_of_loop line = has_words line.call && (is_commit line.call || names_each line.call)

abbrev has_fit_words : Step → Bool
has_fit_words (Once line) = has_words line.call && not (names_each line.call)
has_fit_words (Loop number role turns lines) = list_all is_turn_of_loop lines

module _ (d : Declared) where
  whos_each : (ps : List said.Proc) → list_any is_each (map (who_of d) ps) ≡ list_any said.is_each ps
  whos_each [] = refl
  whos_each (said.Caller ∷ ps) = whos_each ps
  whos_each (said.Each ∷ ps) = refl
  whos_each (said.Named role ∷ ps) = whos_each ps

  role_each : (b : Bool) (n : ℕ) (ws : List Who) → list_any is_each (whos_in_item (if b then One (Only n) else Group n) ++ ws) ≡ list_any is_each ws
  role_each true n ws = refl
  role_each false n ws = refl

  item_each : (i : said.Item) (ws : List Who) → list_any is_each (whos_in_item (item_of d i) ++ ws) ≡ (said.is_each_item i || list_any is_each ws)
  item_each (said.One said.Caller) ws = refl
  item_each (said.One said.Each) ws = refl
  item_each (said.One (said.Named role)) ws = role_each (is_single_lines (slice_get d.roles (role_number d role))) (role_number d role) ws
  item_each (said.Every job) ws = refl

  items_each : (is : List said.Item) → list_any is_each (flat_map whos_in_item (map (item_of d) is)) ≡ list_any said.is_each_item is
  items_each [] = refl
  items_each (i ∷ is) = item_each i (flat_map whos_in_item (map (item_of d) is)) ∙ ap (λ b. said.is_each_item i || b) (items_each is)

  each_same : (job : ℕ) (c : said.Call) → names_each (call_of d job c) ≡ said.names_each c
  each_same job (said.Put s k v) = whos_each k.indices
  each_same job said.Commit = refl
  each_same job (said.Fence said.Own c) = refl
  each_same job (said.Fence (said.Listed is) c) = items_each is
  each_same job (said.Get o k) = whos_each (o ∷ k.indices)
  each_same job (said.GetNow o k) = whos_each (o ∷ k.indices)
  each_same job (said.Publish k v) = whos_each k.indices
  each_same job (said.Lookup k) = whos_each k.indices
  each_same job (said.LookupWait k) = whos_each k.indices
  each_same job (said.Unpublish k) = whos_each k.indices
  each_same job said.UnpublishAll = refl

  commit_same : (job : ℕ) (c : said.Call) → is_commit (call_of d job c) ≡ said.is_commit c
  commit_same job (said.Put s k v) = refl
  commit_same job said.Commit = refl
  commit_same job (said.Fence set c) = refl
  commit_same job (said.Get o k) = refl
  commit_same job (said.GetNow o k) = refl
  commit_same job (said.Publish k v) = refl
  commit_same job (said.Lookup k) = refl
  commit_same job (said.LookupWait k) = refl
  commit_same job (said.Unpublish k) = refl
  commit_same job said.UnpublishAll = refl

  word_and_value : (k : said.Key) (v : List ℕ) → (said.is_lawful_key k && is_word v) ≡ true → ((is_base k.base && true) && (is_word v && true)) ≡ true
  word_and_value k v l = both _ _ (both _ _ (and_left _ _ (and_left _ _ l)) refl) (both _ _ (and_right _ _ l) refl)

  word_alone : (k : said.Key) → said.is_lawful_key k ≡ true → ((is_base k.base && true) && true) ≡ true
  word_alone k l = both _ _ (both _ _ (and_left _ _ l) refl) refl

  words_fit : (job : ℕ) (c : said.Call) → said.is_lawful_call c ≡ true → has_words (call_of d job c) ≡ true
  words_fit job (said.Put s k v) l = word_and_value k v l
  words_fit job said.Commit l = refl
  words_fit job (said.Fence set c) l = refl
  words_fit job (said.Get o k) l = word_alone k (and_right _ _ l)
  words_fit job (said.GetNow o k) l = word_alone k (and_right _ _ l)
  words_fit job (said.Publish k v) l = word_and_value k v l
  words_fit job (said.Lookup k) l = word_alone k l
  words_fit job (said.LookupWait k) l = word_alone k l
  words_fit job (said.Unpublish k) l = word_alone k l
  words_fit job said.UnpublishAll l = refl

  once_fit : (job : ℕ) (line : LocatedCall) → is_fit_line line ≡ true → has_fit_words (Once (line_of d job line)) ≡ true
  once_fit job line fit =
      both (has_words (call_of d job line.1)) _ (words_fit job line.1 (and_left _ _ fit)) (ap not (each_same job line.1) ∙ and_right _ _ fit)

  turn_fit : (job : ℕ) (line : LocatedCall) → is_fit_turn line ≡ true → is_turn_of_loop (line_of d job line) ≡ true
  turn_fit job line fit =
      both (has_words (call_of d job line.1)) _ (words_fit job line.1 (and_left _ _ fit))
      (ap (λ b. b || names_each (call_of d job line.1)) (commit_same job line.1) ∙ ap (λ b. said.is_commit line.1 || b) (each_same job line.1) ∙ and_right _ _ fit)

  turns_fit : (job : ℕ) (lines : List LocatedCall) → list_all is_fit_turn lines ≡ true → list_all is_turn_of_loop (map (line_of d job) lines) ≡ true
  turns_fit job [] fit = refl
  turns_fit job (line ∷ lines) fit =
      both (is_turn_of_loop (line_of d job line)) _ (turn_fit job line (and_left _ _ fit)) (turns_fit job lines (and_right _ _ fit))

  -- the loops over the roles of a list, and the steps of a script
  loops_fit : (job : ℕ) (l : LoopLines) (roles : List (List ℕ)) → list_all is_fit_turn l.lines ≡ true → list_all has_fit_words (map (loop_of d job l) roles) ≡ true
  loops_fit job l [] fit = refl
  loops_fit job l (role ∷ roles) fit = both (list_all is_turn_of_loop (map (line_of d job) l.lines)) _ (turns_fit job l.lines fit) (loops_fit job l roles fit)

  step_fit : (job : ℕ) (s : StepLines) → is_fit_step s ≡ true → list_all has_fit_words (steps_of d job s) ≡ true
  step_fit job (OnceLine line) fit = both (has_fit_words (Once (line_of d job line))) true (once_fit job line fit) refl
  step_fit job (LoopOf l) fit = loops_fit job l l.roles fit

  steps_fit : (job : ℕ) (ss : List StepLines) → list_all is_fit_step ss ≡ true → list_all has_fit_words (flat_map (steps_of d job) ss) ≡ true
  steps_fit job [] fit = refl
  steps_fit job (s ∷ ss) fit =
      list_all-append has_fit_words (steps_of d job s) (flat_map (steps_of d job) ss)
      ∙ both (list_all has_fit_words (steps_of d job s)) _ (step_fit job s (and_left _ _ fit)) (steps_fit job ss (and_right _ _ fit))

module _ (jobs : ℕ) (roles : List Role) (caller : ℕ) where
  -- a line without a fault
  no_fault : (a k f m : Bool) (n : ℕ) → (if not a then Some (UnknownName n) else if not (k && f) then Some (BadLine n) else if not m then Some (NotMember n) else None) ≡ None
      → (k ≡ true) × (f ≡ true) × (m ≡ true)
  no_fault false k f m n h = absurd (cc)
  no_fault true false f m n h = absurd (cc)
  no_fault true true false m n h = absurd (cc)
  no_fault true true true false n h = absurd (cc)
  no_fault true true true true n h = (refl, refl, refl)

  line_none : (fits : Bool) (line : Line) → line_fault jobs roles caller fits line ≡ None
      → (names_known jobs roles line.call ≡ true) × (fits ≡ true) × (is_member_call roles caller line.call ≡ true)
  line_none fits line h = no_fault (is_declared jobs (length roles) line.call) (names_known jobs roles line.call) fits (is_member_call roles caller line.call) line.number h

  call_sound : (c : Call) → has_words c ≡ true → names_known jobs roles c ≡ true → is_member_call roles caller c ≡ true → is_sound_call jobs roles caller c ≡ true
  call_sound c w k m = both (has_words c) _ w (both (names_known jobs roles c) _ k m)

  turn_sound : (role : ℕ) (turns : Turns) (line : Line) → is_turn_of_loop line ≡ true → turn_fault jobs roles caller role turns line ≡ None
      → (is_sound_call jobs roles caller line.call && is_loop_call roles role turns line.call) ≡ true
  turn_sound role turns line fit none =
      let n = line_none (fits_loop roles role turns line.call) line none in
      both (is_sound_call jobs roles caller line.call) _ (call_sound line.call (and_left _ _ fit) n.0 n.2)
      (both (is_commit line.call || names_each line.call) _ (and_right (has_words line.call) _ fit) n.1)

  turns_sound : (role : ℕ) (turns : Turns) (lines : List Line) → list_all is_turn_of_loop lines ≡ true → first_fault (turn_fault jobs roles caller role turns) lines ≡ None
      → list_all (λ l. is_sound_call jobs roles caller l.call && is_loop_call roles role turns l.call) lines ≡ true
  turns_sound role turns [] fit none = refl
  turns_sound role turns (line ∷ lines) fit none =
      let n = first_none _ _ none in
      both (is_sound_call jobs roles caller line.call && is_loop_call roles role turns line.call) _
      (turn_sound role turns line (and_left _ _ fit) n.0) (turns_sound role turns lines (and_right _ _ fit) n.1)

  not_bad : (bad : Bool) (n : ℕ) → (if bad then Some (BadLine n) else None) ≡ None → bad ≡ false
  not_bad true n h = absurd (cc)
  not_bad false n h = refl

  commit_here : (c more bad : Bool) (n : ℕ) (later : Option ℕ) → (bad_if bad later ≡ None → more ≡ true → bad ≡ false) → bad_if bad (if c then Some n else later) ≡ None → (c || more) ≡ true → bad ≡ false
  commit_here true more bad n later up h e = not_bad bad n h
  commit_here false more bad n later up h e = up h e

  no_bad_commit : (bad : Bool) (lines : List Line) → bad_if bad (commit_line lines) ≡ None → has_commit lines ≡ true → bad ≡ false
  no_bad_commit bad [] h e = absurd (true≢false (sym e))
  no_bad_commit bad (l ∷ ls) h e = commit_here (is_commit l.call) (has_commit ls) bad l.number (commit_line ls) (no_bad_commit bad ls) h e

  commit_right : (c w a : Bool) → (c ≡ true → (w || a) ≡ false) → (not c || (not w && not a)) ≡ true
  commit_right false w a h = refl
  commit_right true true a h = absurd (true≢false (h refl))
  commit_right true false true h = absurd (true≢false (h refl))
  commit_right true false false h = refl

  no_role_fault : (a : Bool) (n : ℕ) → (if a then None else Some (UnknownName n)) ≡ None → a ≡ true
  no_role_fault false n h = absurd (cc)
  no_role_fault true n h = refl

  step_sound : (w : Bool) (s : Step) → has_fit_words s ≡ true → step_fault jobs roles caller s ≡ None → commit_fault w s ≡ None → is_sound_step jobs roles caller w s ≡ true
  step_sound w (Once line) fit none commit =
      let n = line_none true line none in
      both (is_sound_call jobs roles caller line.call) _ (call_sound line.call (and_left _ _ fit) n.0 n.2) (and_right (has_words line.call) _ fit)
  step_sound w (Loop number role turns lines) fit none commit =
      let n = first_none _ _ none in
      both (nat_lt role (length roles)) _ (no_role_fault (nat_lt role (length roles)) number n.0)
      (both (list_all (λ x. is_sound_call jobs roles caller x.call && is_loop_call roles role turns x.call) lines) _ (turns_sound role turns lines fit n.1)
      (commit_right (has_commit lines) w (waits_after_all false lines) (no_bad_commit (w || waits_after_all false lines) lines commit)))

  steps_sound : (w : Bool) (ss : List Step) → list_all has_fit_words ss ≡ true → steps_fault jobs roles caller ss ≡ None
      → commits_fault w ss ≡ None → are_sound_steps jobs roles caller w ss ≡ true
  steps_sound w [] fit none commit = refl
  steps_sound w (s ∷ ss) fit none commit =
      let n = first_none _ _ (first_none _ _ none).1 in
      let c = first_none _ _ commit in
      both (is_sound_step jobs roles caller w s) _ (step_sound w s (and_left _ _ fit) n.0 c.0)
      (steps_sound (waits_after_step w s) ss (and_right _ _ fit) n.1 c.1)

-- the script of one role of many
script_none : (jobs : ℕ) (all : List Role) (n : ℕ) (rs : List Role) (k : ℕ) (role : Role) → scripts_fault jobs all n rs ≡ None → slice_get rs k ≡ Some role
    → steps_fault jobs all (n + k) role.steps ≡ None
script_none jobs all n [] k role h e = absurd (cc)
script_none jobs all n (r ∷ rs) zero role h e =
    let here : n ≡ n + 0 = omega arith in
    let same : r ≡ role = cc in
    subst (λ (x : Role). steps_fault jobs all (n + 0) x.steps ≡ None) same (subst (λ m. steps_fault jobs all m r.steps ≡ None) here (first_none _ _ h).0)
script_none jobs all n (r ∷ rs) (suc k) role h e =
    let there : n + 1 + k ≡ n + suc k = omega arith in
    subst (λ m. steps_fault jobs all m role.steps ≡ None) there (script_none jobs all (n + 1) rs k role (first_none _ _ h).1 e)

loops_none : (rs : List Role) (k : ℕ) (role : Role) → third_fault rs ≡ None → slice_get rs k ≡ Some role → commits_fault false role.steps ≡ None
loops_none [] k role h e = absurd (cc)
loops_none (r ∷ rs) zero role h e = let same : r ≡ role = cc in subst (λ (x : Role). commits_fault false x.steps ≡ None) same (first_none _ _ h).0
loops_none (r ∷ rs) (suc k) role h e = loops_none rs k role (first_none _ _ h).1 e

got_mapped : {X Y : Type 0} (f : X → Y) (xs : List X) (k : ℕ) (y : Y) → slice_get (map f xs) k ≡ Some y → (x : X) × (slice_get xs k ≡ Some x) × (y ≡ f x)
got_mapped f [] k y e = absurd (cc)
got_mapped f (x ∷ xs) zero y e = (x, refl, cc)
got_mapped f (x ∷ xs) (suc k) y e = got_mapped f xs k y e

all_get : {X : Type 0} (p : X → Bool) (xs : List X) (k : ℕ) (x : X) → list_all p xs ≡ true → slice_get xs k ≡ Some x → p x ≡ true
all_get p [] k x h e = absurd (cc)
all_get p (y ∷ ys) zero x h e = let same : y ≡ x = cc in subst (λ z. p z ≡ true) same (and_left _ _ h)
all_get p (y ∷ ys) (suc k) x h e = all_get p ys k x (and_right _ _ h) e

rising_from : (n : ℕ) (rs : List Role) (s : ℕ) → are_rising n (map (λ (r : Role). r.job) rs) ≡ true → s < length rs → n ≤ job_in (slice_get rs s)
rising_from n [] s h lt = absurd (omega arith)
rising_from n (r ∷ rs) zero h lt = leb-true n r.job (and_left _ _ h)
rising_from n (r ∷ rs) (suc s) h lt = let first = leb-true n r.job (and_left _ _ h) in let more = rising_from r.job rs s (and_right _ _ h) (omega arith) in omega arith

rising_get : (n : ℕ) (rs : List Role) (r s : ℕ) → are_rising n (map (λ (x : Role). x.job) rs) ≡ true → r ≤ s → s < length rs → job_in (slice_get rs r) ≤ job_in (slice_get rs s)
rising_get n [] r s h le lt = absurd (omega arith)
rising_get n (x ∷ rs) zero zero h le lt = omega arith
rising_get n (x ∷ rs) zero (suc s) h le lt = rising_from x.job rs s (and_right _ _ h) (omega arith)
rising_get n (x ∷ rs) (suc r) zero h le lt = absurd (omega arith)
rising_get n (x ∷ rs) (suc r) (suc s) h le lt = rising_get x.job rs r s (and_right _ _ h) (omega arith) (omega arith)

jobs_mapped : (d : Declared) (rs : List RoleLines) → map (λ (r : Role). r.job) (map (role_of d) rs) ≡ map (λ (r : RoleLines). r.job) rs
jobs_mapped d [] = refl
jobs_mapped d (r ∷ rs) = ap (λ t. r.job ∷ t) (jobs_mapped d rs)

names_mapped : (d : Declared) (rs : List RoleLines) → map (λ (r : Role). r.name) (map (role_of d) rs) ≡ map (λ (r : RoleLines). r.name) rs
names_mapped d [] = refl
names_mapped d (r ∷ rs) = ap (λ t. r.name ∷ t) (names_mapped d rs)

least_of : (single : Bool) (least : ℕ) → (nat_le least 9 && (not single || least == 1)) ≡ true → (single ≡ true → least ≡ 1) × (least ≤ 9)
least_of single least h = (λ is. eqb-true least 1 (go single is (and_right _ _ h)), leb-true least 9 (and_left _ _ h))
  where
    go : (s : Bool) → s ≡ true → (not s || least == 1) ≡ true → (least == 1) ≡ true
    go true e g = g
    go false e g = absurd (true≢false (sym e))

pub declared_sound : (d : Declared) → IsFit d → pattern_fault (pattern_of d) ≡ None → IsSoundPattern (pattern_of d)
declared_sound d f none =
    let p = pattern_of d in
    let n = first_none _ _ none in
    record {
      job_names = all_of (λ (j : JobLine). j.name) is_plain_name d.jobs ∙ f.named_jobs;
      jobs_apart = f.jobs_apart;
      role_names = sym (all_of (role_of d) (λ (r : Role). is_plain_name r.name) d.roles) ∙ all_of (λ (r : RoleLines). r.name) is_plain_name d.roles ∙ f.named_roles;
      roles_apart = subst AreDistinct (sym (names_mapped d d.roles)) f.roles_apart;
      in_jobs = sym (all_of (role_of d) (λ (r : Role). nat_lt r.job (length d.jobs)) d.roles) ∙ all_of (λ (r : RoleLines). r.job) (λ j. nat_lt j (length d.jobs)) d.roles ∙ f.in_jobs;
      together = λ r s le lt. rising_get 0 p.roles r s (ap (are_rising 0) (jobs_mapped d d.roles) ∙ f.rising) le lt;
      least = λ r role e. (let got = got_mapped (role_of d) d.roles r role e in
          subst HasLawfulLeast (sym got.2) (least_of got.0.single got.0.least (all_get has_least d.roles r got.0 f.least got.1)));
      steps = λ r role e. (let got = got_mapped (role_of d) d.roles r role e in
          let fit = all_get has_fit_steps d.roles r got.0 f.steps got.1 in
          let here : 0 + r ≡ r = omega arith in
          let second : steps_fault (length d.jobs) p.roles r role.steps ≡ None = subst (λ m. steps_fault (length d.jobs) p.roles m role.steps ≡ None) here (script_none (length d.jobs) p.roles 0 p.roles r role n.0 e) in
          let third = loops_none p.roles r role n.1 e in
          subst (λ (x : Role). are_sound_steps (length d.jobs) p.roles r false x.steps ≡ true) (sym got.2)
          (steps_sound (length d.jobs) p.roles r false (flat_map (steps_of d got.0.job) got.0.steps) (steps_fit d got.0.job got.0.steps fit)
          (subst (λ (x : Role). steps_fault (length d.jobs) p.roles r x.steps ≡ None) got.2 second)
          (subst (λ (x : Role). commits_fault false x.steps ≡ None) got.2 third)));
      few_jobs = (let h = f.few_jobs in omega arith);
      few_roles = (let h = f.few_roles in let e = length-map d.roles (role_of d) in omega arith);
    }

-- the same of its parts as the code has them
pub numbered_sound : (d : Declared) (jobs : List CodeJob) (roles : List CodeRole) (n : ℕ) → IsFit d → map job_by jobs ≡ (pattern_of d).jobs → map role_by roles ≡ (pattern_of d).roles
    → n ≡ length jobs → None ≡ roles_fault n (map role_by roles) → IsSoundPattern (record { keeps = d.keeps; jobs = map job_by jobs; roles = map role_by roles })
numbered_sound d jobs roles n f ej er len h =
    let count : n ≡ length (pattern_of d).jobs = len ∙ sym (length-map jobs job_by) ∙ ap length ej in
    let none : pattern_fault (pattern_of d) ≡ None = ap (λ k. roles_fault k (pattern_of d).roles) (sym count) ∙ ap (roles_fault n) (sym er) ∙ sym h in
    let got : Pattern = record { keeps = d.keeps; jobs = map job_by jobs; roles = map role_by roles } in
    let same : got ≡ pattern_of d = λ t. record { keeps = d.keeps; jobs = ej t; roles = er t } in
    subst IsSoundPattern (sym same) (declared_sound d f none)
