-- From what a result that may be none says, to what follows from that.
use Rattle.std.proofs.Common.{Option, Some, None, Result, Ok, Err}
use Rattle.std.specs.Prelude.{IfOk, IfSome, IfNone}

pub some_through : {A E : Type 0} (P Q : A → Type 0) (r : Result (Option A) E) → ((v : A) → P v → Q v) → IfOk r (λ o. IfSome o (λ v. P v)) → IfOk r (λ o. IfSome o (λ v. Q v))
some_through P Q (Ok (Some v)) f h = f v h
some_through P Q (Ok None) f h = h
some_through P Q (Err e) f h = h

pub none_through : {A E : Type 0} (P Q : Type 0) (r : Result (Option A) E) → (P → Q) → IfOk r (λ o. IfNone o P) → IfOk r (λ o. IfNone o Q)
none_through P Q (Ok (Some v)) f h = h
none_through P Q (Ok None) f h = f h
none_through P Q (Err e) f h = h
