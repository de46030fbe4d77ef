-- All that lines declare is fit.
use Rattle.std.proofs.Common.{◌≡◌, ◌∙◌, ap, sym, refl, subst, ℕ, zero, suc, ◌+◌, ◌-◌, ◌<◌, ◌≤◌, List, [], ◌∷◌, ◌++◌, Bool, true, false, map, length, Option, Some, None, Result, Ok, Err, MatchResult, inl, inr, arith, if◌then◌else◌, length-append, true≢false}
use Rattle.std.specs.Prelude.{◌==◌, ◌&&◌, ◌||◌, not, nat_lt, nat_le, is_some}
use Rattle.std.specs.List.{list_all, list_any}
use Rattle.std.specs.Str.{bytes_eq}
use Rattle.std.proofs.lemmas.Bool.{cases_lt}
use Rattle.std.proofs.lemmas.List.{map-append}
use Rattle.std.proofs.lemmas.Slice.Eq.{bytes_eq-Decides}
use borrow.Author.Tests.{ltb-true, leb-true, lt-ltb, le-leb}
use Rattle.wire_types.specs.declared.Fault.{Fault}
use Rattle.wire_types.specs.declared.Fault.TheVariants.{TooLong, BadLine, Twice, TooMany}
use Rattle.wire_lines.proofs.Colon.{and_left, and_right}
use Rattle.wire_scripts.specs.Scripts.{text_at}
use Rattle.wire_scripts.specs.Apart.{AreDistinct}
use Rattle.wire_reader.specs.Statements.{Statement}
use Rattle.wire_reader.specs.FirstPass.{Name, is_among, is_short_name}
use Rattle.wire_pattern.specs.Pattern.{JobLine}
use Rattle.wire_pattern.specs.Lawful.{is_plain_name, is_plain_byte}
use Rattle.wire_types.specs.Said.{is_name}
use Rattle.wire_pattern_lines.specs.Said.{Said, Header, Keep, Job, Single, Many, Begin, End, Calls, Call, is_lawful, is_lawful_call, is_bare_name, is_role_name}
use Rattle.wire_pattern_script.specs.FirstPass.{LoopLines, StepLines, OnceLine, LoopOf, RoleLines, Declared, nothing, job_names, role_names, is_in_place, is_short, is_again, has_room, with_step, with_role, with_call, with_loop, after, Judges, JudgesAll, FirstPass, is_turn_right, job_limit, role_limit}
use Rattle.wire_pattern_script.specs.Fit.{is_fit_line, is_fit_turn, is_fit_step, is_fit_loop, has_fit_steps, has_least, are_rising, role_jobs, IsFit}

-- a line that is taken is in its place, short, new, and has room
taken : (a b f g : Bool) (d e : Declared) (n : ℕ)
    → Ok e ≡ (if not a then Err (BadLine n) else if not b then Err (TooLong n) else if f then Err (Twice n) else if not g then Err (TooMany n) else Ok d)
    → (a ≡ true) × (b ≡ true) × (f ≡ false) × (g ≡ true) × (e ≡ d)
taken false b f g d e n h = absurd (cc)
taken true false f g d e n h = absurd (cc)
taken true true true g d e n h = absurd (cc)
taken true true false false d e n h = absurd (cc)
taken true true false true d e n h = (refl, refl, refl, refl, cc)

all_more : {X : Type 0} (p : X → Bool) (xs : List X) (x : X) → list_all p xs ≡ true → p x ≡ true → list_all p (xs ++ x ∷ []) ≡ true
all_more p [] x h k = rw k refl
all_more p (y ∷ ys) x h k =
    let first : p y ≡ true = and_left _ _ h in
    let others : list_all p (ys ++ x ∷ []) ≡ true = all_more p ys x (and_right _ _ h) k in
    rw (first, others) refl

-- a step more changes nothing that steps don't tell
module _ {B : Type 0} (f : RoleLines → B) (same : (r : RoleLines) (steps : List StepLines) → f (record r { steps = steps }) ≡ f r) where
  map_step : (rs : List RoleLines) (s : StepLines) → map f (with_step rs s) ≡ map f rs
  map_step [] s = refl
  map_step (r ∷ []) s = ap (λ x. x ∷ []) (same r (r.steps ++ s ∷ []))
  map_step (r ∷ q ∷ rs) s = ap (λ t. f r ∷ t) (map_step (q ∷ rs) s)

all_step : (p : RoleLines → Bool) → ((r : RoleLines) (steps : List StepLines) → p (record r { steps = steps }) ≡ p r) → (rs : List RoleLines) (s : StepLines)
    → list_all p rs ≡ true → list_all p (with_step rs s) ≡ true
all_step p same [] s h = h
all_step p same (r ∷ []) s h =
    let one : p (record r { steps = r.steps ++ s ∷ [] }) ≡ true = same r (r.steps ++ s ∷ []) ∙ and_left _ _ h in rw one refl
all_step p same (r ∷ q ∷ rs) s h =
    let first : p r ≡ true = and_left _ _ h in
    let others : list_all p (with_step (q ∷ rs) s) ≡ true = all_step p same (q ∷ rs) s (and_right _ _ h) in
    rw (first, others) refl

steps_step : (rs : List RoleLines) (s : StepLines) → list_all has_fit_steps rs ≡ true → is_fit_step s ≡ true → list_all has_fit_steps (with_step rs s) ≡ true
steps_step [] s h k = h
steps_step (r ∷ []) s h k = let one : list_all is_fit_step (r.steps ++ s ∷ []) ≡ true = all_more is_fit_step r.steps s (and_left _ _ h) k in rw one refl
steps_step (r ∷ q ∷ rs) s h k =
    let first : has_fit_steps r ≡ true = and_left _ _ h in
    let others : list_all has_fit_steps (with_step (q ∷ rs) s) ≡ true = steps_step (q ∷ rs) s (and_right _ _ h) k in
    rw (first, others) refl

length_step : (rs : List RoleLines) (s : StepLines) → length (with_step rs s) ≡ length rs
length_step [] s = refl
length_step (r ∷ []) s = omega arith
length_step (r ∷ q ∷ rs) s = let h = length_step (q ∷ rs) s in omega arith

rising_more : (n m : ℕ) (ns : List ℕ) → are_rising n ns ≡ true → n ≤ m → list_all (λ k. nat_le k m) ns ≡ true → are_rising n (ns ++ m ∷ []) ≡ true
rising_more n m [] h le all = let one : nat_le n m ≡ true = le-leb n m le in rw one refl
rising_more n m (k ∷ ns) h le all =
    let first : nat_le n k ≡ true = and_left _ _ h in
    let others : are_rising k (ns ++ m ∷ []) ≡ true = rising_more k m ns (and_right _ _ h) (leb-true k m (and_left _ _ all)) (and_right _ _ all) in
    rw (first, others) refl

below_most : (n : ℕ) (ks : List ℕ) → list_all (λ k. nat_lt k n) ks ≡ true → list_all (λ k. nat_le k (n - 1)) ks ≡ true
below_most n [] h = refl
below_most n (k ∷ ks) h =
    let lt = ltb-true k n (and_left _ _ h) in
    let first : nat_le k (n - 1) ≡ true = le-leb k (n - 1) (omega arith) in
    let others : list_all (λ k. nat_le k (n - 1)) ks ≡ true = below_most n ks (and_right _ _ h) in
    rw (first, others) refl

below_more : (n : ℕ) (ks : List ℕ) → list_all (λ k. nat_lt k n) ks ≡ true → list_all (λ k. nat_lt k (n + 1)) ks ≡ true
below_more n [] h = refl
below_more n (k ∷ ks) h =
    let lt = ltb-true k n (and_left _ _ h) in
    let first : nat_lt k (n + 1) ≡ true = lt-ltb k (n + 1) (omega arith) in
    let others : list_all (λ k. nat_lt k (n + 1)) ks ≡ true = below_more n ks (and_right _ _ h) in
    rw (first, others) refl

-- names that differ
not_there : (text : Name) (texts : List Name) → list_any (bytes_eq text) texts ≡ false → (n : ℕ) → n < length texts → text ≡ text_at texts n → ⊥
not_there text [] none n lt is = omega arith
not_there text (t ∷ texts) none zero lt is = go (bytes_eq text t) none ((bytes_eq-Decides text t).1 is)
  where
    go : (b : Bool) → (b || list_any (bytes_eq text) texts) ≡ false → b ≡ true → ⊥
    go true h e = true≢false h
    go false h e = true≢false (sym e)
not_there text (t ∷ texts) none (suc n) lt is = not_there text texts (go (bytes_eq text t) none) n (omega arith) is
  where
    go : (b : Bool) → (b || list_any (bytes_eq text) texts) ≡ false → list_any (bytes_eq text) texts ≡ false
    go true h = absurd (true≢false h)
    go false h = h

at_front : (texts : List Name) (t : Name) (n : ℕ) → n < length texts → text_at (texts ++ t ∷ []) n ≡ text_at texts n
at_front [] t n lt = absurd (omega arith)
at_front (x ∷ texts) t zero lt = refl
at_front (x ∷ texts) t (suc n) lt = at_front texts t n (omega arith)

at_end : (texts : List Name) (t : Name) → text_at (texts ++ t ∷ []) (length texts) ≡ t
at_end [] t = refl
at_end (x ∷ texts) t = at_end texts t

apart_more : (texts : List Name) (t : Name) → AreDistinct texts → is_among texts t ≡ false → AreDistinct (texts ++ t ∷ [])
apart_more texts t apart new m n lm ln e =
    elim (cases_lt m (length texts)) [
      | inl a ↦ elim (cases_lt n (length texts)) [
        | inl b ↦ apart m n a b (sym (at_front texts t m a) ∙ e ∙ at_front texts t n b)
        | inr b ↦ (let end : n ≡ length texts = omega (arith, length-append texts (t ∷ [])) in
            absurd (not_there t texts new m a (sym (at_end texts t) ∙ ap (text_at (texts ++ t ∷ [])) (sym end) ∙ sym e ∙ at_front texts t m a)))
      ]
      | inr a ↦ (let last : m ≡ length texts = omega (arith, length-append texts (t ∷ [])) in
          elim (cases_lt n (length texts)) [
            | inl b ↦ absurd (not_there t texts new n b (sym (at_end texts t) ∙ ap (text_at (texts ++ t ∷ [])) (sym last) ∙ e ∙ at_front texts t n b))
            | inr b ↦ (let end : n ≡ length texts = omega (arith, length-append texts (t ∷ [])) in last ∙ sym end)
          ])
    ]

plain : (name : Name) → is_bare_name name ≡ true → is_short_name name ≡ true → is_plain_name name ≡ true
plain name bare short =
    let a : is_name name ≡ true = and_left _ _ bare in
    let b : list_all is_plain_byte name ≡ true = and_right _ _ bare in
    rw (a, b) short

fit_role : (d : Declared) (line : ℕ) (name : Name) (single : Bool) (least : ℕ) → IsFit d → 0 < length d.jobs → length d.roles < role_limit
    → is_role_name name ≡ true → is_short_name name ≡ true → is_among (role_names d) name ≡ false → (nat_le least 9 && (not single || least == 1)) ≡ true
    → IsFit (with_role d line name single least)
fit_role d line name single least f some room named short new few =
    let role : RoleLines = record { job = length d.jobs - 1; name = name; single = single; least = least; number = line; steps = [] } in
    let job_below : nat_lt (length d.jobs - 1) (length d.jobs) ≡ true = lt-ltb (length d.jobs - 1) (length d.jobs) (omega arith) in
    let names : map (λ (r : RoleLines). r.name) (d.roles ++ role ∷ []) ≡ role_names d ++ name ∷ [] = map-append (λ (r : RoleLines). r.name) d.roles (role ∷ []) in
    record {
      few_jobs = f.few_jobs;
      few_roles = omega (arith, length-append d.roles (role ∷ []));
      named_jobs = f.named_jobs;
      jobs_apart = f.jobs_apart;
      named_roles = rw names (all_more is_plain_name (role_names d) name f.named_roles (plain name (and_left _ _ named) short));
      roles_apart = subst AreDistinct (sym names) (apart_more (role_names d) name f.roles_apart new);
      in_jobs = rw (map-append (λ (r : RoleLines). r.job) d.roles (role ∷ [])) (all_more (λ j. nat_lt j (length d.jobs)) (role_jobs d) (length d.jobs - 1) f.in_jobs job_below);
      rising = rw (map-append (λ (r : RoleLines). r.job) d.roles (role ∷ [])) (rising_more 0 (length d.jobs - 1) (role_jobs d) f.rising (omega arith) (below_most (length d.jobs) (role_jobs d) f.in_jobs));
      least = all_more has_least d.roles role f.least few;
      steps = all_more has_fit_steps d.roles role f.steps refl;
      open_lines = f.open_lines;
    }

fit_step : (d : Declared) (s : StepLines) (open_loop : Option LoopLines) → IsFit d → is_fit_step s ≡ true → is_fit_loop open_loop ≡ true
    → IsFit (record d { roles = with_step d.roles s; open_loop = open_loop })
fit_step d s o f fit lines = record {
  few_jobs = f.few_jobs;
  few_roles = (let e = length_step d.roles s in let h = f.few_roles in omega arith);
  named_jobs = f.named_jobs;
  jobs_apart = f.jobs_apart;
  named_roles = rw (map_step (λ (r : RoleLines). r.name) (λ r steps. refl) d.roles s) f.named_roles;
  roles_apart = subst AreDistinct (sym (map_step (λ (r : RoleLines). r.name) (λ r steps. refl) d.roles s)) f.roles_apart;
  in_jobs = rw (map_step (λ (r : RoleLines). r.job) (λ r steps. refl) d.roles s) f.in_jobs;
  rising = rw (map_step (λ (r : RoleLines). r.job) (λ r steps. refl) d.roles s) f.rising;
  least = all_step has_least (λ r steps. refl) d.roles s f.least;
  steps = steps_step d.roles s f.steps fit;
  open_lines = lines;
}

fit_end : (d : Declared) (o : Option LoopLines) → IsFit d → is_fit_loop o ≡ true → IsFit (with_loop d o)
fit_end d None f lines = f
fit_end d (Some l) f lines = fit_step d (LoopOf l) None f lines refl

fit_call : (d : Declared) (o : Option LoopLines) (line : ℕ) (call : Call) → d.open_loop ≡ o → IsFit d → is_lawful_call call ≡ true → is_turn_right o call ≡ true → IsFit (with_call d o (line, call))
fit_call d None line call e f lawful right =
    let fit : is_fit_line (line, call) ≡ true = rw (lawful, right) refl in
    fit_step d (OnceLine (line, call)) d.open_loop f fit f.open_lines
fit_call d (Some l) line call e f lawful right =
    let fit : is_fit_turn (line, call) ≡ true = rw (lawful, right) refl in
    let lines : list_all is_fit_turn l.lines ≡ true = subst (λ o. is_fit_loop o ≡ true) e f.open_lines in
    record {
      few_jobs = f.few_jobs;
      few_roles = f.few_roles;
      named_jobs = f.named_jobs;
      jobs_apart = f.jobs_apart;
      named_roles = f.named_roles;
      roles_apart = f.roles_apart;
      in_jobs = f.in_jobs;
      rising = f.rising;
      least = f.least;
      steps = f.steps;
      open_lines = all_more is_fit_turn l.lines (line, call) lines fit;
    }

fit_after : (d : Declared) (line : ℕ) (said : Said) → is_lawful said ≡ true → is_in_place d said ≡ true → is_short said ≡ true → is_again d said ≡ false → has_room d said ≡ true → IsFit d
    → IsFit (after d line said)
fit_after d line Header lawful place short new room f = f
fit_after d line Keep lawful place short new room f = record {
  few_jobs = f.few_jobs;
  few_roles = f.few_roles;
  named_jobs = f.named_jobs;
  jobs_apart = f.jobs_apart;
  named_roles = f.named_roles;
  roles_apart = f.roles_apart;
  in_jobs = f.in_jobs;
  rising = f.rising;
  least = f.least;
  steps = f.steps;
  open_lines = f.open_lines;
}
fit_after d line (Job name) lawful place short new room f =
    let job : JobLine = record { name = name; number = line } in
    let lt = ltb-true (length d.jobs) job_limit room in
    let more : length (d.jobs ++ job ∷ []) ≡ length d.jobs + 1 = omega (arith, length-append d.jobs (job ∷ [])) in
    let names : map (λ (j : JobLine). j.name) (d.jobs ++ job ∷ []) ≡ job_names d ++ name ∷ [] = map-append (λ (j : JobLine). j.name) d.jobs (job ∷ []) in
    record {
      few_jobs = omega arith;
      few_roles = f.few_roles;
      named_jobs = rw names (all_more is_plain_name (job_names d) name f.named_jobs (plain name lawful short));
      jobs_apart = subst AreDistinct (sym names) (apart_more (job_names d) name f.jobs_apart new);
      named_roles = f.named_roles;
      roles_apart = f.roles_apart;
      in_jobs = rw more (below_more (length d.jobs) (role_jobs d) f.in_jobs);
      rising = f.rising;
      least = f.least;
      steps = f.steps;
      open_lines = f.open_lines;
    }
fit_after d line (Single name) lawful place short new room f =
    fit_role d line name true 1 f (ltb-true 0 (length d.jobs) (and_left _ _ place)) (ltb-true (length d.roles) role_limit room) lawful short new refl
fit_after d line (Many name least) lawful place short new room f =
    let few : nat_le least 9 ≡ true = and_right _ _ lawful in
    fit_role d line name false least f (ltb-true 0 (length d.jobs) (and_left _ _ place)) (ltb-true (length d.roles) role_limit (and_left _ _ room)) (and_left _ _ lawful) short new (rw few refl)
fit_after d line (Begin turns roles) lawful place short new room f = record {
  few_jobs = f.few_jobs;
  few_roles = f.few_roles;
  named_jobs = f.named_jobs;
  jobs_apart = f.jobs_apart;
  named_roles = f.named_roles;
  roles_apart = f.roles_apart;
  in_jobs = f.in_jobs;
  rising = f.rising;
  least = f.least;
  steps = f.steps;
  open_lines = refl;
}
fit_after d line End lawful place short new room f = fit_end d d.open_loop f f.open_lines
fit_after d line (Calls call) lawful place short new room f = fit_call d d.open_loop line call refl f lawful (and_right _ _ place)

fit_judged : (d e : Declared) (line : Statement) → Judges d line (Ok e) → IsFit d → IsFit e
fit_judged d e line (inl a) f = absurd (let h = a.1 in cc)
fit_judged d e line (inr a) f =
    let t = taken (is_in_place d a.0) (is_short a.0) (is_again d a.0) (has_room d a.0) (after d line.0 a.0) e line.0 a.2 in
    subst IsFit (sym t.4) (fit_after d line.0 a.0 a.1.1 t.0 t.1 t.2 t.3 f)

fit_ended : (t : Bool) (d e : Declared) (n : ℕ) → Ok e ≡ (if t then Err (BadLine n) else Ok d) → e ≡ d
fit_ended true d e n h = absurd (cc)
fit_ended false d e n h = cc

fit_all : (lines : List Statement) (d e : Declared) (last : ℕ) → JudgesAll d last lines (Ok e) → IsFit d → IsFit e
fit_all [] d e last h f = subst IsFit (sym (fit_ended (is_some d.open_loop) d e (last + 1) h)) f
fit_all (line ∷ lines) d e last h f = go (λ x m g. fit_all lines x e line.0 m g) h.0 h.1 h.2
  where
    go : ((x : Declared) → JudgesAll x line.0 lines (Ok e) → IsFit x → IsFit e)
        → (q : Result Declared Fault) → Judges d line q → MatchResult q (λ x. JudgesAll x line.0 lines (Ok e)) (λ g. Ok e ≡ Err g) → IsFit e
    go later (Ok x) j m = later x m (fit_judged d x line j f)
    go later (Err g) j m = absurd (cc)

fit_nothing : IsFit nothing
fit_nothing = record {
  few_jobs = omega arith;
  few_roles = omega arith;
  named_jobs = refl;
  jobs_apart = λ m n lm ln e. absurd (omega arith);
  named_roles = refl;
  roles_apart = λ m n lm ln e. absurd (omega arith);
  in_jobs = refl;
  rising = refl;
  least = refl;
  steps = refl;
  open_lines = refl;
}

pub first_fit : (lines : List Statement) (n : ℕ) (d : Declared) → FirstPass lines n (Ok d) → IsFit d
first_fit [] n d h = absurd (cc)
first_fit (line ∷ lines) n d (inl a) = fit_all lines nothing d line.0 a.1 fit_nothing
first_fit (line ∷ lines) n d (inr a) = absurd (let h = a.1 in cc)
