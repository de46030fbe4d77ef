-- No pattern's file has the fault of a failed read, and no text of an instance leads to one.
use Rattle.std.proofs.Common.{◌≡◌, ◌≢◌, ◌∙◌, ◌⊎◌, ◌+◌, sym, subst, refl, ℕ, List, [], ◌∷◌, length, Bool, true, false, not, Option, Some, None, Result, Ok, Err, IfErr, inl, inr, if◌then◌else◌}
use Rattle.std.specs.Prelude.{is_some, ◌||◌}
use Rattle.wire_types.specs.declared.Fault.{Fault}
use Rattle.wire_types.specs.declared.Fault.TheVariants.{Memory, Read, Write, TooLong, BadHeader, BadLine, UnknownName, Twice, NotMember, TooMany, Workers, NotReady, BadOrder}
use Rattle.wire_lines.specs.Text.{lines_of}
use Rattle.wire_reader.specs.Reads.{first_of}
use Rattle.wire_reader.specs.Statements.{Statement, statements}
use Rattle.wire_pattern.specs.Lawful.{waits_after_all, waits_after_step}
use Rattle.wire_pattern.specs.Pattern.{Line, Step, Once, Loop, Role, Pattern}
use Rattle.wire_pattern_lines.specs.Said.{Said}
use Rattle.wire_pattern_script.specs.FirstPass.{Declared, FirstPass, Judges, JudgesAll, after, has_room, is_again, is_in_place, is_short, judged, nothing}
use Rattle.wire_pattern_script.specs.Faults as faults
use Rattle.wire_pattern_script.specs.Faults.{bad_if, commit_fault, commit_line, commits_fault, first_fault, role_fault, line_fault, list_fault, listed_fault, names_fault, role_listed, scripts_fault, step_fault, steps_fault, turn_fault, fits_loop}
use Rattle.wire_pattern_script.specs.Numbers.{pattern_of}
use Rattle.wire_pattern_script.specs.Reads.{ReadsPattern, ReadsShort, unless_fault}
use Rattle.wire_instances.specs.Faults.{fault_by}

abbrev is_read : Fault → Bool
is_read Read = true
is_read _ = false

-- a result without the fault of a failed read, and a fault that isn't this
abbrev NoRead : {A : Type 0} → Result A Fault → Type 0
NoRead r = IfErr r (λ f. is_read f ≡ false)

abbrev NoneRead : Option Fault → Type 0
NoneRead None = Unit {0}
NoneRead (Some f) = is_read f ≡ false

-- the first pass

four_tests : (a b c e : Bool) (n : ℕ) (d : Declared) →
    NoRead (if a then Err (BadLine n) else if b then Err (TooLong n) else if c then Err (Twice n) else if e then Err (TooMany n) else Ok d)
four_tests true b c e n d = refl
four_tests false true c e n d = refl
four_tests false false true e n d = refl
four_tests false false false true n d = refl
four_tests false false false false n d = tt

judged_no_read : (d : Declared) (n : ℕ) (said : Said) → NoRead (judged d n said)
judged_no_read d n said = four_tests (not (is_in_place d said)) (not (is_short said)) (is_again d said) (not (has_room d said)) n (after d n said)

judges_no_read : (d : Declared) (line : Statement) (r : Result Declared Fault) → Judges d line r → NoRead r
judges_no_read d line r (inl (none, is)) = subst NoRead (sym is) refl
judges_no_read d line r (inr (said, says, is)) = subst NoRead (sym is) (judged_no_read d line.0 said)

ended_by : (loop : Bool) (last : ℕ) (d : Declared) → NoRead (if loop then Err (BadLine (last + 1)) else Ok d)
ended_by true last d = refl
ended_by false last d = tt

all_no_read : (d : Declared) (last : ℕ) (lines : List Statement) (r : Result Declared Fault) → JudgesAll d last lines r → NoRead r
all_no_read d last [] r is = subst NoRead (sym is) (ended_by (is_some d.open_loop) last d)
all_no_read d last (line ∷ lines) r (Ok e, judges, rest) = all_no_read e line.0 lines r rest
all_no_read d last (line ∷ lines) r (Err f, judges, is) = subst NoRead (sym is) (judges_no_read d line (Err f) judges)

first_no_read : (lines : List Statement) (n : ℕ) (r : Result Declared Fault) → FirstPass lines n r → NoRead r
first_no_read [] n r is = subst NoRead (sym is) refl
first_no_read (line ∷ lines) n r (inl (header, rest)) = all_no_read nothing line.0 lines r rest
first_no_read (line ∷ lines) n r (inr (other, is)) = subst NoRead (sym is) refl

-- the second pass, and the third

both_no_read : (e f : Option Fault) → NoneRead e → NoneRead f → NoneRead (first_of e f)
both_no_read None f p q = q
both_no_read (Some e) f p q = p

each_no_read : {A : Type 0} (fault : A → Option Fault) → ((x : A) → NoneRead (fault x)) → (xs : List A) → NoneRead (first_fault fault xs)
each_no_read fault none [] = tt
each_no_read fault none (x ∷ xs) = both_no_read (fault x) (first_fault fault xs) (none x) (each_no_read fault none xs)

three_tests : (a b c : Bool) (n : ℕ) → NoneRead (if a then Some (UnknownName n) else if b then Some (BadLine n) else if c then Some (NotMember n) else None)
three_tests true b c n = refl
three_tests false true c n = refl
three_tests false false true n = refl
three_tests false false false n = tt

line_no_read : (jobs : ℕ) (roles : List Role) (caller : ℕ) (fits : Bool) (line : Line) → NoneRead (line_fault jobs roles caller fits line)
line_no_read jobs roles caller fits line = three_tests _ _ _ line.number

one_test : (a : Bool) (n : ℕ) → NoneRead (if a then None else Some (UnknownName n))
one_test true n = tt
one_test false n = refl

role_no_read : (roles : List Role) (number role : ℕ) → NoneRead (role_fault roles number role)
role_no_read roles number role = one_test _ number

step_no_read : (jobs : ℕ) (roles : List Role) (caller : ℕ) (step : Step) → NoneRead (step_fault jobs roles caller step)
step_no_read jobs roles caller (Once line) = line_no_read jobs roles caller true line
step_no_read jobs roles caller (Loop number role turns lines) =
    both_no_read (role_fault roles number role) _ (role_no_read roles number role)
    (each_no_read (turn_fault jobs roles caller role turns) (λ line. line_no_read jobs roles caller (fits_loop roles role turns line.call) line) lines)

list_no_read : (roles : List Role) (number : ℕ) (steps : List Step) → NoneRead (list_fault roles number steps)
list_no_read roles number [] = tt
list_no_read roles number (step ∷ steps) = go (role_listed number step) (list_no_read roles number steps)
  where
    go : (o : Option ℕ) → NoneRead (list_fault roles number steps) → NoneRead (listed_fault roles number o (list_fault roles number steps))
    go None rest = tt
    go (Some role) rest = both_no_read (role_fault roles number role) (list_fault roles number steps) (role_no_read roles number role) rest

names_no_read : (roles : List Role) (step : Step) (steps : List Step) → NoneRead (names_fault roles step steps)
names_no_read roles (Once line) steps = tt
names_no_read roles (Loop number role turns lines) steps = list_no_read roles number steps

steps_no_read : (jobs : ℕ) (roles : List Role) (caller : ℕ) (steps : List Step) → NoneRead (steps_fault jobs roles caller steps)
steps_no_read jobs roles caller [] = tt
steps_no_read jobs roles caller (step ∷ steps) =
    both_no_read (names_fault roles step steps) (first_of (step_fault jobs roles caller step) (steps_fault jobs roles caller steps)) (names_no_read roles step steps)
    (both_no_read (step_fault jobs roles caller step) (steps_fault jobs roles caller steps) (step_no_read jobs roles caller step) (steps_no_read jobs roles caller steps))

scripts_no_read : (jobs : ℕ) (roles : List Role) (n : ℕ) (others : List Role) → NoneRead (scripts_fault jobs roles n others)
scripts_no_read jobs roles n [] = tt
scripts_no_read jobs roles n (role ∷ others) =
    both_no_read (steps_fault jobs roles n role.steps) (scripts_fault jobs roles (n + 1) others) (steps_no_read jobs roles n role.steps)
    (scripts_no_read jobs roles (n + 1) others)

bad_no_read : (bad : Bool) (line : Option ℕ) → NoneRead (bad_if bad line)
bad_no_read bad None = tt
bad_no_read true (Some number) = refl
bad_no_read false (Some number) = tt

commit_no_read : (waits : Bool) (step : Step) → NoneRead (commit_fault waits step)
commit_no_read waits (Once line) = tt
commit_no_read waits (Loop number role turns lines) = bad_no_read (waits || waits_after_all false lines) (commit_line lines)

commits_no_read : (waits : Bool) (steps : List Step) → NoneRead (commits_fault waits steps)
commits_no_read waits [] = tt
commits_no_read waits (step ∷ steps) =
    both_no_read (commit_fault waits step) (commits_fault (waits_after_step waits step) steps) (commit_no_read waits step) (commits_no_read (waits_after_step waits step) steps)

pattern_no_read : (p : Pattern) → NoneRead (faults.pattern_fault p)
pattern_no_read p =
    both_no_read (faults.second_fault (length p.jobs) p.roles) (faults.third_fault p.roles) (scripts_no_read (length p.jobs) p.roles 0 p.roles)
    (each_no_read (λ (role : Role). commits_fault false role.steps) (λ role. commits_no_read false role.steps) p.roles)

passes_no_read : (p : Pattern) (o : Option Fault) → NoneRead o → NoRead (unless_fault p o)
passes_no_read p None none = tt
passes_no_read p (Some f) none = none

short_no_read : (bytes : List ℕ) (r : Result Pattern Fault) → ReadsShort bytes r → NoRead r
short_no_read bytes r (Ok d, first, is) = subst NoRead (sym is) (passes_no_read (pattern_of d) (faults.pattern_fault (pattern_of d)) (pattern_no_read (pattern_of d)))
short_no_read bytes r (Err f, first, is) = subst NoRead (sym is) (first_no_read (statements bytes) (length (lines_of bytes)) (Err f) first)

reads_no_read : (bytes : List ℕ) (r : Result Pattern Fault) → ReadsPattern bytes r → NoRead r
reads_no_read bytes r (inl (past, is)) = subst NoRead (sym is) refl
reads_no_read bytes r (inr (within, reads)) = short_no_read bytes r reads

-- the fault of a pattern's file is no failed read
pub not_read : (bytes : List ℕ) (e : Fault) → (e ≡ Memory) ⊎ ReadsPattern bytes (Err e) → e ≢ Read
not_read bytes e (inl memory) is = let bad : Memory ≡ Read = sym memory ∙ is in cc
not_read bytes e (inr reads) is =
    let bad : is_read Read ≡ false = subst (λ f. is_read f ≡ false) is (reads_no_read bytes (Err e) reads) in cc

-- a fault on another line is a failed read only where it was
pub read_before : (lines : List ℕ) (told : Fault) → fault_by lines told ≡ Read → told ≡ Read
read_before lines Read is = refl
read_before lines Memory is = cc
read_before lines (Write n) is = cc
read_before lines (TooLong n) is = cc
read_before lines (BadHeader n) is = cc
read_before lines (BadLine n) is = cc
read_before lines (UnknownName n) is = cc
read_before lines (Twice n) is = cc
read_before lines (NotMember n) is = cc
read_before lines (TooMany n) is = cc
read_before lines Workers is = cc
read_before lines (NotReady n) is = cc
read_before lines (BadOrder n) is = cc
