-- The two calls that the four words of a question name: a process and the number of a call of it, twice.
use Rattle.std.specs.Prelude.{◌≡◌, ℕ, ◌+◌, ◌<◌, ◌^◌, List, length, decimal, Some, None, Result, Ok, Err, slice_get}
use Rattle.wire_types.specs.declared.CallAt.{CallAt}
use Rattle.wire_types.specs.declared.Fault.{Fault}
use Rattle.wire_types.specs.declared.Fault.TheVariants.{BadOrder}
use Rattle.wire_scripts.specs.Scripts.{Scripts, calls_in}
use Rattle.wire_reader.specs.Order.{proc_named}

-- the word is the number of a call among so many, counted from 1: its decimal digits, of which there are at most nine
pub record IsCallNumber (word : List ℕ) (count call : ℕ) : Type 0 where
  pub spelled : word ≡ decimal (call + 1)
  pub short : call + 1 < 10 ^ 9
  pub there : call < count

-- how many calls a process makes
abbrev pub calls_made : Scripts → ℕ → ℕ
calls_made s p = length (calls_in (slice_get s.processes p))

-- the two words name the call: its process, as in an order, and its number
pub record IsCallNamed (s : Scripts) (proc number : List ℕ) (x : CallAt) : Type 0 where
  pub named : proc_named s proc ≡ Some x.proc.number
  pub numbered : IsCallNumber number (calls_made s x.proc.number) x.call

-- the first word names no process
abbrev pub IsProcWrong : Scripts → List ℕ → Type 0
IsProcWrong s proc = proc_named s proc ≡ None

-- the first word names a process, and the second none of its calls
pub record IsNumberWrong (s : Scripts) (proc number : List ℕ) : Type 0 where
  pub p : ℕ
  pub named : proc_named s proc ≡ Some p
  pub none : (call : ℕ) → IsCallNumber number (calls_made s p) call → ⊥

-- what the four words name, or that the lowest wrong one is wrong
pub data QuestionReads (s : Scripts) (proc number other_proc other_number : List ℕ) (r : Result (CallAt × CallAt) Fault) : Type 0 where
  Asks : (x y : CallAt) → IsCallNamed s proc number x → IsCallNamed s other_proc other_number y → r ≡ Ok (x, y) →
      QuestionReads s proc number other_proc other_number r
  First : IsProcWrong s proc → r ≡ Err (BadOrder 1) → QuestionReads s proc number other_proc other_number r
  Second : IsNumberWrong s proc number → r ≡ Err (BadOrder 2) → QuestionReads s proc number other_proc other_number r
  Third : (x : CallAt) → IsCallNamed s proc number x → IsProcWrong s other_proc → r ≡ Err (BadOrder 3) → QuestionReads s proc number other_proc other_number r
  Fourth : (x : CallAt) → IsCallNamed s proc number x → IsNumberWrong s other_proc other_number → r ≡ Err (BadOrder 4) →
      QuestionReads s proc number other_proc other_number r

-- four words read in one way
abbrev pub OneQuestion : Type 0
OneQuestion = (s : Scripts) (p n q m : List ℕ) (a b : Result (CallAt × CallAt) Fault) → QuestionReads s p n q m a → QuestionReads s p n q m b → a ≡ b
