-- The processes of scripts, looked up by their texts.
use Rattle.std.specs.Prelude.{◌≡◌, ℕ, List, ◌++◌, Option, option_map, Result, Ok, Err}
use Rattle.std.specs.Str.{bytes_eq}
use Rattle.std.specs.HashMap.{get_by}
use Rattle.wire_types.specs.declared.Fault.{Fault}
use Rattle.wire_scripts.specs.Scripts.{Scripts}
use Rattle.wire_reader.specs.Order.{proc_named}
use Rattle.wire_reader.specs.declared.proc_words.ProcWords.{ProcWords}

-- the number of the process that a table has for a word
abbrev pub number_in : ProcWords → List ℕ → Option ℕ
number_in table word = option_map (λ p. p.number) (get_by (λ k. bytes_eq word k.items) table.procs)

-- a table has for each word the process of the scripts that the word names
abbrev pub IsTableOf : Scripts → ProcWords → Type 0
IsTableOf s table = (word : List ℕ) → number_in table word ≡ proc_named s word

-- steps that were read before the steps of the lines that are left, or the fault of these
abbrev pub steps_before : List ℕ → Result (List ℕ) Fault → Result (List ℕ) Fault
steps_before steps (Ok later) = Ok (steps ++ later)
steps_before steps (Err fault) = Err fault
