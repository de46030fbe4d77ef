-- An order past its limit is judged by the first bytes of it, one more than it may have.
use Rattle.std.proofs.Common.{◌≡◌, ◌∙◌, ap, sym, refl, ℕ, ◌+◌, ◌<◌, ◌==◌, List, length, take, inl, inr, arith, Err, count_by}
use Rattle.std.proofs.lemmas.Bool.{cases_lt}
use Rattle.std.proofs.lemmas.List.{length-take, take-take, take_all}
use borrow.Author.Tests.{lt-ltb}
use Rattle.wire_types.specs.declared.Fault.TheVariants.{BadOrder}
use Rattle.wire_scripts.specs.Scripts.{Scripts}
use Rattle.wire_reader.specs.declared.limits.Size.{Size}
use Rattle.wire_reader.specs.Limits.{order_bytes}
use Rattle.wire_reader.specs.Order.{order_within, order_read}

-- past the limit only the bytes up to it tell
past : (limit : ℕ) (s : Scripts) (bytes : List ℕ) → limit < length bytes
    → order_within limit s bytes ≡ Err (BadOrder (count_by (λ b. b == 10) (take limit bytes) + 1))
past limit s bytes low = rw (lt-ltb limit (length bytes) low) refl

-- one byte past the limit tells as much as all
limited : (limit : ℕ) (s : Scripts) (bytes : List ℕ) → order_within limit s (take (limit + 1) bytes) ≡ order_within limit s bytes
limited limit s bytes = elim (cases_lt limit (length bytes)) [
  | inl low ↦
      past limit s (take (limit + 1) bytes) (omega (arith, low, length-take (limit + 1) bytes))
      ∙ ap (λ t. Err (BadOrder (count_by (λ b. b == 10) t + 1))) (take-take limit (limit + 1) bytes (omega arith))
      ∙ sym (past limit s bytes low)
  | inr high ↦ ap (order_within limit s) (take_all (limit + 1) bytes (omega (arith, high)))
]

-- and so for the limit of an order
pub order_limited : (size : Size) (s : Scripts) (bytes : List ℕ) → order_read size s (take (order_bytes size + 1) bytes) ≡ order_read size s bytes
order_limited size s bytes = limited (order_bytes size) s bytes
