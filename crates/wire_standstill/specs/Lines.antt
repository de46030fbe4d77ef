-- What is told where no rank can take a step, in lines.
use Rattle.std.specs.Prelude.{ℕ, zero, suc, ◌-◌, ◌==◌, List, [], ◌∷◌, ◌++◌, take, length, Option, Some, None, codes, decimal, if◌then◌else◌}
use Rattle.wire_types.specs.declared.CallAt.{CallAt}
use Rattle.wire_runs.specs.State.{State}
use Rattle.wire_scripts.specs.Scripts.{Scripts}
use Rattle.wire_explain.specs.Quote.{labelled}
use Rattle.wire_explain.specs.Stops.{said_call, standing}

-- the line of a rank: its call, and what it waits for there
abbrev pub line_at : Scripts → Option (CallAt × List ℕ) → List ℕ
line_at scripts None = []
line_at scripts (Some it) = (codes "    " ++ said_call scripts it.0) ++ labelled (codes " waits for") it.1

abbrev pub line_of : Scripts → State → ℕ → List ℕ
line_of scripts s p = line_at scripts (standing scripts s p)

abbrev pub lines_of : Scripts → State → List ℕ → List ℕ
lines_of scripts s [] = []
lines_of scripts s (p ∷ ps) = line_of scripts s p ++ lines_of scripts s ps

-- that there are so many more
abbrev pub more_line : ℕ → List ℕ
more_line zero = []
more_line (suc n) = codes "    and " ++ decimal (suc n) ++ codes " more\n"

-- the lines of the first sixteen of some ranks, and how many more there are
abbrev pub rank_lines : Scripts → State → List ℕ → List ℕ
rank_lines scripts s ranks = lines_of scripts s (take 16 ranks) ++ more_line (length ranks - 16)

-- the same below a heading, where there are any
abbrev pub part : List ℕ → Scripts → State → List ℕ → List ℕ
part heading scripts s ranks = if length ranks == 0 then [] else heading ++ rank_lines scripts s ranks

-- a deadlock, where there is one, and the ranks that wait for no rank: for what never comes, where nothing is found
abbrev pub told_of : Scripts → State → List ℕ → List ℕ → List ℕ
told_of scripts s circle never =
    part (codes "  deadlock, each for the next and the last for the first:\n") scripts s circle
    ++ part (codes "  for what never comes:\n") scripts s never
