use Rattle.std.proofs.Common.{◌≡◌, ℕ, List, take, position}
use Rattle.std.specs.Str.{bytes_eq}
use Rattle.wire_scripts.specs.Canonical.{process_text}
use Rattle.wire_reader.specs.ProcWords.{number_in}
use Rattle.wire_reader.proofs.proc_words.ProcWords.new.Given as goal

abbrev pub invariant-loop-number : goal.invariant-loop-number
invariant-loop-number l = (word : List ℕ) → number_in l.table word ≡ position (λ q. bytes_eq word (process_text l.scripts q)) (take l.number l.scripts.processes)
