-- One call, and one process, after another.
use Rattle.std.proofs.Common.{◌≡◌, ◌∙◌, ap, sym, ℕ, zero, suc, ◌+◌, ◌*◌, ◌<◌, ◌≤◌, List, [], ◌∷◌, ◌++◌, Option, None, Some, Result, Ok, Err, IfErr, IsErrAnd, ◌⊎◌, inl, inr, subst, length, map, take, drop, get_or, arith}
use Rattle.std.proofs.lemmas.List.{length-map, map_more, take_all}
use Rattle.std.proofs.lemmas.Grind.{common_steps}
use Rattle.wire_types.specs.declared.Fault.{Fault}
use Rattle.wire_types.specs.declared.Fault.TheVariants.{Memory}
use Rattle.wire_lines.specs.Views.{view_call}
use Rattle.wire_reader.specs.FirstPass.{Started, Declared}
use Rattle.wire_reader.specs.Reads.{Seen, call_fault, first_of, fault_in, first_fault}
use Rattle.wire_reader.specs.Within.{started_calls}
use Rattle.wire_reader.specs.Drafted.{placed_of, started_of}
use Rattle.wire_reader.specs.Tabled.{seen_with, seen_after, all_seen, entry_count}
use Rattle.wire_reader.specs.declared.draft.Started.{Started as Building}
use Rattle.wire_reader.specs.declared.draft.LocatedCall.{LocatedCall}

-- what is left begins with the next element
pub drop_at : {A : Type 0} (xs : List A) (i : ℕ) (x : A) → i < length xs → x ≡ get_or xs i x → drop i xs ≡ x ∷ drop (i + 1) xs
drop_at [] i x lt is = absurd (omega arith)
drop_at (y ∷ ys) zero x lt is = ap (λ z. z ∷ ys) (sym is)
drop_at (y ∷ ys) (suc i) x lt is =
    let one : suc i + 1 ≡ suc (i + 1) = omega arith in
    rw one (drop_at ys i x (omega arith) is)

-- one element more is made of the one that stands there
pub grown : {A B C : Type 0} (f : B → C) (g : A → B) (out : List C) (xs : List A) (i : ℕ) (y : C) (d : A) → i < length xs
    → out ≡ map f (map g (take i xs)) → y ≡ f (g (get_or xs i d)) → out ++ y ∷ [] ≡ map f (map g (take (i + 1) xs))
grown f g out xs i y d lt e last = grind (arith, common_steps)

-- what was taken ends with the next element
pub take_at : {A B : Type 0} (f : A → B) (xs : List A) (i : ℕ) (x : A) → i < length xs → x ≡ get_or xs i x → map f (take (i + 1) xs) ≡ map f (take i xs) ++ f x ∷ []
take_at f xs i x lt is = map_more f xs i x lt ∙ ap (λ z. map f (take i xs) ++ f z ∷ []) (sym is)

-- one element more is made
pub made_on : {A B C : Type 0} (f : B → C) (g : A → B) (out new : List C) (xs : List A) (i : ℕ) (x : A) (y : C) → i < length xs → x ≡ get_or xs i x
    → new ≡ out ++ y ∷ [] → out ≡ map f (map g (take i xs)) → y ≡ f (g x) → new ≡ map f (map g (take (i + 1) xs))
made_on f g out new xs i x y lt is pushed so_far made = pushed ∙ grown f g out xs i y x lt so_far (made ∙ ap (λ z. f (g z)) is)

-- all are made
pub made_all : {A B C : Type 0} (f : B → C) (g : A → B) (out : List C) (xs : List A) (i : ℕ) → length xs ≤ i → out ≡ map f (map g (take i xs)) → out ≡ map f (map g xs)
made_all f g out xs i past so_far = so_far ∙ ap (λ l. map f (map g l)) (take_all i xs past)

pub calls_on : (d : Declared) (all s t : Seen) (job : ℕ) (cs : List LocatedCall) (i : ℕ) (x : LocatedCall) → i < length cs → x ≡ get_or cs i x
    → all ≡ seen_after d s job (map placed_of (drop i cs)) → t ≡ seen_with d s job (view_call x.call) → all ≡ seen_after d t job (map placed_of (drop (i + 1) cs))
calls_on d all s t job cs i x lt is so_far tables =
    so_far
    ∙ ap (λ l. seen_after d s job (map placed_of l)) (drop_at cs i x lt is)
    ∙ ap (λ u. seen_after d u job (map placed_of (drop (i + 1) cs))) (sym tables)

pub call_faults_on : (d : Declared) (all : Option Fault) (p : Started) (cs : List LocatedCall) (i : ℕ) (x : LocatedCall) → i < length cs → x ≡ get_or cs i x
    → all ≡ fault_in d p (map placed_of (drop i cs)) → call_fault d p x.line (view_call x.call) ≡ None → all ≡ fault_in d p (map placed_of (drop (i + 1) cs))
call_faults_on d all p cs i x lt is so_far none =
    so_far
    ∙ ap (λ l. fault_in d p (map placed_of l)) (drop_at cs i x lt is)
    ∙ ap (λ f. first_of f (fault_in d p (map placed_of (drop (i + 1) cs)))) none

-- a fault that is handed on
pub handed_on : {A : Type 0} (r : Result A Fault) (e : Fault) (P : Fault → Type 0) → IsErrAnd r (λ f. f ≡ e) → P e → IfErr r P
handed_on (Ok a) e P never p = absurd never
handed_on (Err f) e P same p = subst P (sym same) p

-- the fault of the next call is the first of all
pub call_fault_on : (d : Declared) (all : Option Fault) (p : Started) (cs : List LocatedCall) (i : ℕ) (x : LocatedCall) (e : Fault) → i < length cs → x ≡ get_or cs i x
    → all ≡ fault_in d p (map placed_of (drop i cs)) → (e ≡ Memory) ⊎ (call_fault d p x.line (view_call x.call) ≡ Some e) → (e ≡ Memory) ⊎ (all ≡ Some e)
call_fault_on d all p cs i x e lt is so_far (inl memory) = inl memory
call_fault_on d all p cs i x e lt is so_far (inr fault) =
    inr (so_far
    ∙ ap (λ l. fault_in d p (map placed_of l)) (drop_at cs i x lt is)
    ∙ ap (λ f. first_of f (fault_in d p (map placed_of (drop (i + 1) cs)))) fault)

pub processes_on : (d : Declared) (all s t : Seen) (ps : List Building) (i : ℕ) (x : Building) → i < length ps → x ≡ get_or ps i x
    → all ≡ all_seen d s (map started_of (drop i ps)) → t ≡ seen_after d s x.job (map placed_of x.calls.items) → all ≡ all_seen d t (map started_of (drop (i + 1) ps))
processes_on d all s t ps i x lt is so_far tables =
    so_far
    ∙ ap (λ l. all_seen d s (map started_of l)) (drop_at ps i x lt is)
    ∙ ap (λ u. all_seen d u (map started_of (drop (i + 1) ps))) (sym tables)

-- there is room for the calls of the next process
pub room_for : (s : Seen) (bound : ℕ) (ps : List Building) (i : ℕ) (x : Building) → i < length ps → x ≡ get_or ps i x
    → entry_count s + 2 * started_calls (map started_of (drop i ps)) ≤ bound → entry_count s + 2 * length x.calls.items ≤ bound
room_for s bound ps i x lt is room =
    let cut = ap (λ l. started_calls (map started_of l)) (drop_at ps i x lt is) in
    omega (arith, length-map x.calls.items placed_of)

pub room_on : (s t : Seen) (bound : ℕ) (ps : List Building) (i : ℕ) (x : Building) → i < length ps → x ≡ get_or ps i x
    → entry_count s + 2 * started_calls (map started_of (drop i ps)) ≤ bound → entry_count t ≤ entry_count s + 2 * length x.calls.items
    → entry_count t + 2 * started_calls (map started_of (drop (i + 1) ps)) ≤ bound
room_on s t bound ps i x lt is room more =
    let cut = ap (λ l. started_calls (map started_of l)) (drop_at ps i x lt is) in
    omega (arith, length-map x.calls.items placed_of)

pub process_faults_on : (d : Declared) (all : Option Fault) (ps : List Building) (i : ℕ) (x : Building) → i < length ps → x ≡ get_or ps i x
    → all ≡ first_fault d (map started_of (drop i ps)) → fault_in d (started_of x) (map placed_of x.calls.items) ≡ None → all ≡ first_fault d (map started_of (drop (i + 1) ps))
process_faults_on d all ps i x lt is so_far none =
    so_far
    ∙ ap (λ l. first_fault d (map started_of l)) (drop_at ps i x lt is)
    ∙ ap (λ f. first_of f (first_fault d (map started_of (drop (i + 1) ps)))) none

-- the fault of the next process is the first of all
pub process_fault_on : (d : Declared) (all : Option Fault) (ps : List Building) (i : ℕ) (x : Building) (e : Fault) → i < length ps → x ≡ get_or ps i x
    → all ≡ first_fault d (map started_of (drop i ps)) → (e ≡ Memory) ⊎ (fault_in d (started_of x) (map placed_of x.calls.items) ≡ Some e) → (e ≡ Memory) ⊎ (all ≡ Some e)
process_fault_on d all ps i x e lt is so_far (inl memory) = inl memory
process_fault_on d all ps i x e lt is so_far (inr fault) =
    inr (so_far
    ∙ ap (λ l. first_fault d (map started_of l)) (drop_at ps i x lt is)
    ∙ ap (λ f. first_of f (first_fault d (map started_of (drop (i + 1) ps)))) fault)
