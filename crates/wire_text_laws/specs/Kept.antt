-- What the strings of the JSON forms say of scripts that were read.
use Rattle.std.specs.Prelude.{◌≡◌, ℕ, List, Option, Ok, map}
use Rattle.wire_types.specs.declared.Call.{Call}
use Rattle.wire_types.specs.declared.Value.{Value}
use Rattle.wire_scripts.specs.Scripts.{Scripts, Process}
use Rattle.wire_scripts.specs.Canonical.{process_text}
use Rattle.wire_reader.specs.declared.Size.{Size}
use Rattle.wire_reader.specs.Reads.{Reads}
use Rattle.wire_findings.specs.declared.finding.Finding.{Finding}
use Rattle.wire_words.specs.Words.{name_of, value_text, verb_text_in}
use Rattle.wire_json.specs.Json.{printed}
use Rattle.wire_report.specs.Findings.{finding_words}

-- a string has the text as it is: no byte of it is replaced
abbrev pub IsPrintedWhole : List ℕ → Type 0
IsPrintedWhole text = map printed text ≡ text

-- each text that a JSON form has in a string: a process, a step, what a reply brings, a finding, and what a call is
-- called
pub record ArePrintedWhole (s : Scripts) : Type 0 where
  pub processes : (process : Process) → IsPrintedWhole (process_text s process)
  pub steps : (p : ℕ) → IsPrintedWhole (name_of s p)
  pub values : (value : Value) → IsPrintedWhole (value_text s value)
  pub findings : (finding : Finding) → IsPrintedWhole (finding_words s finding)
  pub verbs : (call : Option Call) → IsPrintedWhole (verb_text_in call)

-- of scripts that were read no byte is replaced
abbrev pub NothingReplaced : Type 0
NothingReplaced = (size : Size) (bytes : List ℕ) (s : Scripts) → Reads size bytes (Ok s) → ArePrintedWhole s
