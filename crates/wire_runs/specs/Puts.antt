-- Puts and commits, as functions of the scripts (PMIx Standard 5.0, Posting Key-Value Pairs).
-- They speak of any numbered events, so that a server's store and a process's script share them.
use Rattle.std.specs.Prelude.{ℕ, zero, suc, Option, Some, None, ◌==◌, if◌then◌else◌}
use Rattle.wire_runs.specs.Plan.{Plan, Kind, Put, Commit, kind_at}
use Rattle.wire_types.specs.declared.Scope.{Scope}
use Rattle.wire_types.specs.declared.Scope.TheVariants.{Global}

abbrev pub own_with : ℕ → ℕ → Option ℕ → Option Kind → Option ℕ
own_with key n before (Some (Put k scope)) = if k == key then Some n else before
own_with key n before _ = before

-- the number of the last put of the key among the first n events
abbrev pub own_put : (ℕ → Option Kind) → ℕ → ℕ → Option ℕ
own_put kind_of key zero = None
own_put kind_of key (suc n) = own_with key n (own_put kind_of key n) (kind_of n)

abbrev pub stored_with : Option ℕ → Option ℕ → Option Kind → Option ℕ
stored_with committed before (Some Commit) = committed
stored_with committed before _ = before

-- the number of the last put of the key that a commit follows, both among the first n events
abbrev pub stored_put : (ℕ → Option Kind) → ℕ → ℕ → Option ℕ
stored_put kind_of key zero = None
stored_put kind_of key (suc n) = stored_with (own_put kind_of key n) (stored_put kind_of key n) (kind_of n)

abbrev pub put_count_with : ℕ → ℕ → Option Kind → ℕ
put_count_with key n (Some (Put k scope)) = if k == key then suc n else n
put_count_with key n _ = n

-- how often the key is put among the first n events
abbrev pub count_puts : (ℕ → Option Kind) → ℕ → ℕ → ℕ
count_puts kind_of key zero = 0
count_puts kind_of key (suc n) = put_count_with key (count_puts kind_of key n) (kind_of n)

-- p's own last put of the key, before its event number n
abbrev pub own : Plan → ℕ → ℕ → ℕ → Option ℕ
own plan p key n = own_put (kind_at plan p) key n

-- what p's server holds under the key, before p's event number n
abbrev pub stored : Plan → ℕ → ℕ → ℕ → Option ℕ
stored plan p key n = stored_put (kind_at plan p) key n

-- how often p puts the key before its event number n
abbrev pub put_count : Plan → ℕ → ℕ → ℕ → ℕ
put_count plan p key n = count_puts (kind_at plan p) key n

abbrev pub scope_in : Option Kind → Scope
scope_in (Some (Put key scope)) = scope
scope_in _ = Global

-- the scope of p's put
abbrev pub scope_of : Plan → ℕ → ℕ → Scope
scope_of plan p i = scope_in (kind_at plan p i)
