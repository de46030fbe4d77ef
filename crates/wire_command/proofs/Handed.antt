-- From what the parts of a function answer to what it answers.
use Rattle.std.proofs.Common.{◌≡◌, ◌≢◌, ◌∙◌, subst, sym, ℕ, List, Option, Result, Ok, Err, IfOk, IfErr, IsErrAnd, OnOk}
use Rattle.wire_types.specs.declared.Fault.{Fault}
use Rattle.wire_types.specs.declared.Fault.TheVariants.{Memory, Read, Write}
use Rattle.wire_types.specs.Front.{WritesFront}

-- an error that is handed on
pub handed_on : {A : Type 0} (r : Result A Fault) (e : Fault) (P : Fault → Type 0) → IsErrAnd r (λ f. f ≡ e) → P e → IfErr r P
handed_on (Ok x) e P is p = tt
handed_on (Err f) e P is p = subst P (sym is) p

-- which is no success
pub not_ok : {A : Type 0} (r : Result A Fault) (e : Fault) (P : A → Type 0) → IsErrAnd r (λ f. f ≡ e) → IfOk r P
not_ok (Ok x) e P is = absurd is
not_ok (Err f) e P is = tt

pub not_on_ok : {A : Type 0} (r : Result A Fault) (e : Fault) (P : Type 0) → IsErrAnd r (λ f. f ≡ e) → OnOk r P
not_on_ok (Ok x) e P is = absurd is
not_on_ok (Err f) e P is = tt

-- it is the error that was handed on
pub same_error : {A : Type 0} (r : Result A Fault) (e f : Fault) → IsErrAnd r (λ d. d ≡ e) → r ≡ Err f → e ≡ f
same_error (Ok x) e f is at = absurd is
same_error (Err d) e f is at = let same : d ≡ f = cc in sym is ∙ same

-- what holds of every fault holds of the one that is answered
pub err_always : {A : Type 0} (r : Result A Fault) (P : Fault → Type 0) → ((e : Fault) → P e) → IfErr r P
err_always (Ok x) P f = tt
err_always (Err e) P f = f e

-- memory that ran out is no failed read
pub memory_is_no_read : (e : Fault) → e ≡ Memory → e ≢ Read
memory_is_no_read e memory is = let bad : Memory ≡ Read = sym memory ∙ is in cc

pub memory_no_read : {A : Type 0} (r : Result A Fault) (e : Fault) → IsErrAnd r (λ d. d ≡ e) → e ≡ Memory → r ≡ Err Read → ⊥
memory_no_read r e is memory at = memory_is_no_read e memory (same_error r e Read is at)

-- nor is the writing
pub front_is_no_read : {A : Type 0} (old new : Option (List ℕ)) (text : List ℕ) (r : Result A Fault) → IfErr r (WritesFront old new text) → IfErr r (λ e. e ≢ Read)
front_is_no_read old new text (Ok x) front = tt
front_is_no_read old new text (Err e) (m, carries, (short, front)) = λ is. let bad : Write m ≡ Read = sym carries ∙ is in absurd (cc)

pub no_read_writing : {A : Type 0} (old new : Option (List ℕ)) (text : List ℕ) (r : Result A Fault) → IfErr r (WritesFront old new text) → r ≡ Err Read → ⊥
no_read_writing old new text (Ok x) front is = let bad : Ok x ≡ Err Read = is in cc
no_read_writing old new text (Err e) (m, carries, (short, front)) is = let bad : Write m ≡ Read = cc in cc

-- a fault that is none of reading
pub no_failed_read : {A : Type 0} (r : Result A Fault) → IfErr r (λ e. e ≢ Read) → r ≡ Err Read → ⊥
no_failed_read (Ok x) none is = let bad : Ok x ≡ Err Read = is in cc
no_failed_read (Err e) none is = let same : e ≡ Read = cc in none same
