-- What a file that was read declares.
use Rattle.std.proofs.Common.{◌≡◌, ℕ, List, Result, Ok, Err, MatchResult, length, inl, inr}
use Rattle.wire_types.specs.declared.Fault.{Fault}
use Rattle.wire_types.specs.declared.Version.{Version}
use Rattle.wire_lines.specs.Text.{lines_of}
use Rattle.wire_lines.specs.Said.{Said}
use Rattle.wire_scripts.specs.Scripts.{Scripts}
use Rattle.wire_reader.specs.declared.Size.{Size}
use Rattle.wire_reader.specs.Limits.{limits_of}
use Rattle.wire_reader.specs.Statements.{statements}
use Rattle.wire_reader.specs.FirstPass.{Declared, nothing, FirstPass}
use Rattle.wire_reader.specs.Reads.{Reads, first_fault, scripts_of, second_pass}
use Rattle.wire_reader.specs.Within.{IsWithin}
use Rattle.wire_reader.proofs.Changed.{Runs, first_run}
use Rattle.wire_reader.proofs.Within.{first_of_version}
use Rattle.wire_reader.proofs.Ranked.{IsGood, run_good}
use Rattle.wire_reader.proofs.Once.{second_ok}

pub record IsDeclaredBy (size : Size) (s : Scripts) : Type 0 where
  pub version : Version
  pub d : Declared
  pub lines : List (ℕ × Said)
  pub runs : Runs lines (nothing size version) d
  pub good : IsGood d
  pub within : IsWithin (limits_of size d.version) d
  pub is : s ≡ scripts_of d

declared_short : (size : Size) (bytes : List ℕ) (s : Scripts) (q : Result Declared Fault) → FirstPass size (statements bytes) (length (lines_of bytes)) q
    → MatchResult q (λ d. Ok s ≡ second_pass d) (λ f. Ok s ≡ Err f) → IsDeclaredBy size s
declared_short size bytes s (Err f) first m = absurd (cc)
declared_short size bytes s (Ok d) first m =
    let t = first_run size (statements bytes) (length (lines_of bytes)) d first in
    record {
      d = d;
      version = t.0;
      lines = t.1;
      runs = t.2;
      good = run_good size t.0 t.1 d t.2;
      within = first_of_version size (statements bytes) (length (lines_of bytes)) d first;
      is = (second_ok d s (first_fault d d.processes) m).1;
    }

pub declared_by : (size : Size) (bytes : List ℕ) (s : Scripts) → Reads size bytes (Ok s) → IsDeclaredBy size s
declared_by size bytes s (inl h) = absurd (let e = h.1 in cc)
declared_by size bytes s (inr h) = declared_short size bytes s h.1.0 h.1.1 h.1.2
