-- What a function answers that hands on what another wrote.
use Rattle.std.proofs.Common.{◌≡◌, sym, subst, ℕ, ◌<◌, List, take, length, Option, Result, Ok, Err, OnOk, IfErr, is_ok}
use Rattle.std.specs.Result.{MatchResult, IsErrAnd}
use Rattle.std.specs.Io.KnownBytes.{Appends}
use Rattle.wire_types.specs.declared.fault.Fault.{Fault}
use Rattle.wire_types.specs.declared.fault.Fault.TheVariants.{Write}
use Rattle.wire_types.specs.Front.{WritesFront}

-- what holds where the other succeeded holds where this does
pub where_ok : {T E D : Type 0} (r : Result T E) (q : Result T D) (P : Type 0) → is_ok q ≡ is_ok r → OnOk r P → OnOk q P
where_ok (Ok x) (Ok y) P same holds = holds
where_ok (Ok x) (Err d) P same holds = tt
where_ok (Err e) (Ok y) P same holds = cc (same)
where_ok (Err e) (Err d) P same holds = tt

-- a fault says how many bytes went out
pub front_of : {T : Type 0} (r : Result T ℕ) (q : Result T Fault) (old new : Option (List ℕ)) (text : List ℕ) → MatchResult r (λ x. q ≡ Ok x) (λ n. IsErrAnd q (λ e. e ≡ Write n)) →
    IfErr r (λ n. Appends old new (take n text)) → IfErr r (λ n. n < length text) → IfErr q (λ e. WritesFront old new text e)
front_of (Ok x) (Ok y) old new text cases went short = tt
front_of (Ok x) (Err e) old new text cases went short = cc (cases)
front_of (Err n) (Ok y) old new text cases went short = absurd cases
front_of (Err n) (Err e) old new text cases went short = (n, cases, (short, went))
