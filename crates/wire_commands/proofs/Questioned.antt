-- From what the parts of answering a question answer to what it answers.
use Rattle.std.proofs.Common.{◌≡◌, ◌≢◌, ◌∙◌, ap, subst, sym, ℕ, Bool, ◌<◌, List, length, ◌⊎◌, inl, inr, Option, Result, Ok, Err, IfErr, IfOk, OnOk, Vec, Global}
use Rattle.std.specs.Io.KnownBytes.{Appends}
use Rattle.wire_types.specs.declared.CallAt.{CallAt}
use Rattle.wire_types.specs.declared.Fault.{Fault}
use Rattle.wire_types.specs.declared.Fault.TheVariants.{Memory, Read, BadOrder}
use Rattle.wire_types.specs.Front.{WritesFront}
use Rattle.wire_scripts.specs.Scripts.{Scripts}
use Rattle.wire_scripts.specs.Planned.{plan_of}
use Rattle.wire_reader.specs.declared.Size.{Size}
use Rattle.wire_reader.specs.Question.{QuestionReads, Asks as AsksBoth, First, Second, Third, Fourth, IsCallNamed}
use Rattle.wire_runs.specs.Ends.{calls_of}
use Rattle.wire_scripts.proofs.PlannedCalls.{as_many_planned}
use Rattle.wire_commands.specs.Why.{QuestionNames}

named_there : (s : Scripts) (proc number : List ℕ) (x : CallAt) → IsCallNamed s proc number x → x.call < length (calls_of (plan_of s) x.proc.number)
named_there s proc number x named = subst (λ n. x.call < n) (as_many_planned s x.proc.number) named.numbered.there

both_there : (s : Scripts) (p n q m : List ℕ) (calls : CallAt × CallAt) → QuestionReads s p n q m (Ok calls)
    → (calls.0.call < length (calls_of (plan_of s) calls.0.proc.number)) × (calls.1.call < length (calls_of (plan_of s) calls.1.proc.number))
both_there s p n q m calls (AsksBoth x y first second is) =
    let same : calls ≡ (x, y) = cc in
    subst (λ (c : CallAt × CallAt). (c.0.call < length (calls_of (plan_of s) c.0.proc.number)) × (c.1.call < length (calls_of (plan_of s) c.1.proc.number))) (sym same)
    (named_there s p n x first, named_there s q m y second)
both_there s p n q m calls (First wrong is) = let bad : Ok calls ≡ Err (BadOrder 1) = is in absurd (cc)
both_there s p n q m calls (Second wrong is) = let bad : Ok calls ≡ Err (BadOrder 2) = is in absurd (cc)
both_there s p n q m calls (Third x first wrong is) = let bad : Ok calls ≡ Err (BadOrder 3) = is in absurd (cc)
both_there s p n q m calls (Fourth x first wrong is) = let bad : Ok calls ≡ Err (BadOrder 4) = is in absurd (cc)

-- a wrong word is no failed read
word_no_read : (s : Scripts) (p n q m : List ℕ) (e : Fault) → QuestionReads s p n q m (Err e) → e ≢ Read
word_no_read s p n q m e (AsksBoth x y first second is) at = let bad : Err e ≡ Ok (x, y) = is in cc
word_no_read s p n q m e (First wrong is) at = let bad : Err Read ≡ Err (BadOrder 1) = sym (ap Err at) ∙ is in cc
word_no_read s p n q m e (Second wrong is) at = let bad : Err Read ≡ Err (BadOrder 2) = sym (ap Err at) ∙ is in cc
word_no_read s p n q m e (Third x first wrong is) at = let bad : Err Read ≡ Err (BadOrder 3) = sym (ap Err at) ∙ is in cc
word_no_read s p n q m e (Fourth x first wrong is) at = let bad : Err Read ≡ Err (BadOrder 4) = sym (ap Err at) ∙ is in cc

pub all_there : (s : Scripts) (words : List (List ℕ)) (r : Result (CallAt × CallAt) Fault) → IfOk r (λ calls. QuestionNames s words (Ok calls))
    → IfOk r (λ calls. (calls.0.call < length (calls_of (plan_of s) calls.0.proc.number)) × (calls.1.call < length (calls_of (plan_of s) calls.1.proc.number)))
all_there s words (Ok calls) asks = both_there s _ _ _ _ calls asks
all_there s words (Err e) asks = tt

-- the plan of scripts is asked what they are asked, and answers the same
pub asked_too : (shown s : Scripts) (words : List (List ℕ)) (calls : CallAt × CallAt) → shown ≡ s → QuestionNames shown words (Ok calls) → QuestionNames s words (Ok calls)
asked_too shown s words calls is asks = subst (λ t. QuestionNames t words (Ok calls)) is asks

pub refused_too : (shown s : Scripts) (words : List (List ℕ)) (e : Fault) → shown ≡ s → (e ≡ Memory) ⊎ QuestionNames shown words (Err e) → (e ≡ Memory) ⊎ QuestionNames s words (Err e)
refused_too shown s words e is refuses = subst (λ t. (e ≡ Memory) ⊎ QuestionNames t words (Err e)) is refuses

pub refuses_too : (s plan : Scripts) (words : List (List ℕ)) (r : Result (Vec ℕ Global) Fault) → plan ≡ s → IfErr r (λ e. (e ≡ Memory) ⊎ QuestionNames plan words (Err e)) →
    IfErr r (λ e. (e ≡ Memory) ⊎ QuestionNames s words (Err e))
refuses_too s plan words r is refuses = subst (λ t. IfErr r (λ e. (e ≡ Memory) ⊎ QuestionNames t words (Err e))) is refuses

no_read_of_words : (s : Scripts) (words : List (List ℕ)) (e : Fault) → (e ≡ Memory) ⊎ QuestionNames s words (Err e) → e ≢ Read
no_read_of_words s words e (inl memory) is = let bad : Memory ≡ Read = sym memory ∙ is in cc
no_read_of_words s words e (inr refuses) is = word_no_read s _ _ _ _ e refuses is

pub words_no_read : {A : Type 0} (s : Scripts) (words : List (List ℕ)) (r : Result A Fault) → IfErr r (λ e. (e ≡ Memory) ⊎ QuestionNames s words (Err e)) → IfErr r (λ e. e ≢ Read)
words_no_read s words (Ok x) told = tt
words_no_read s words (Err e) told = λ is. no_read_of_words s words e told is
