use Rattle.std.proofs.Common.{◌≡◌, Some, refl, subst, length, slice_get, arith}
use Rattle.std.proofs.lemmas.Option.{slice_get_read}
use Rattle.wire_fence.proofs.register.Register.is_row.Goals as goal

pub returns : goal.returns
returns c = (
  (λ t. record {
    row = c.in-Some.row.now;
    there = subst (λ xs. slice_get xs c.args.number ≡ Some c.in-Some.row.now) c.deref.ensures.value
        (slice_get_read c.deref.result.now (length c.deref.result.now) c.args.number c.in-Some.row.now refl c.in-Some.ensures.lookup.3.0 c.in-Some.ensures.lookup.1);
    of_set = omega arith;
    is_nth = omega arith;
  }),
  (λ h. refl),
)
