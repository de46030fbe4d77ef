-- What is known of a result.
use Rattle.std.proofs.Common.{Result, Ok, Err, OnErr}

-- what holds anyway holds where it failed
pub on_err_anyway : {A E : Type 0} (r : Result A E) (P : Type 0) → P → OnErr r P
on_err_anyway (Ok v) P p = tt
on_err_anyway (Err e) P p = p
