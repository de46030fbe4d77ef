use Rattle.std.proofs.Common.{◌≡◌, ◌∙◌, ap, sym, rules, get_or, Some, None, Ok, Err, ℕ, List}
use Rattle.std.proofs.lemmas.List.Sorted.{answers_always}
use Rattle.std.specs.BTreeMap.{is_at}
use Rattle.std.specs.Map.{lookup, keys_of}
use Rattle.std.specs.List.Sorted.{IsStrictlySortedBy}
use Rattle.std.specs.Ordering.{nat_cmp}
use Rattle.wire_plan.specs.declared.key_rows.KeyRow.{KeyRow}
use Rattle.wire_plan.proofs.RowSearch.{searched}
use Rattle.wire_plan.proofs.key_rows.KeyRows.row.Goals as goal

pub returns-in-Ok : goal.returns-in-Ok
returns-in-Ok c =
    let rows = c.deref.result.now in
    let sorted : IsStrictlySortedBy nat_cmp (keys_of rows) = rw c.deref.ensures.value c.self.invariant in
    let by_key = c.in-Ok.ensures.position (λ (e : ℕ × KeyRow). e.0) (answers_always _ _ _ (λ f a r g called. search rules)) in
    let found : lookup (is_at (nat_cmp c.args.key)) rows ≡ Some (get_or rows c.in-Ok.place c.index.result.now).1 =
    searched rows sorted c.args.key (Ok c.in-Ok.place) c.in-Ok.ensures.bound by_key c.index.result.now in
    sym (ap (lookup (is_at (nat_cmp c.args.key))) (sym c.self.view_is ∙ sym c.deref.ensures.value) ∙ found
    ∙ ap (λ (e : ℕ × KeyRow). Some e.1) (ap (λ (xs : List (ℕ × KeyRow)). get_or xs c.in-Ok.place c.index.result.now) c.deref.ensures.value ∙ sym c.index.ensures))

pub returns-in-Err : goal.returns-in-Err
returns-in-Err c =
    let rows = c.deref.result.now in
    let sorted : IsStrictlySortedBy nat_cmp (keys_of rows) = rw c.deref.ensures.value c.self.invariant in
    let by_key = c.in-Err.ensures.position (λ (e : ℕ × KeyRow). e.0) (answers_always _ _ _ (λ f a r g called. search rules)) in
    let found : lookup (is_at (nat_cmp c.args.key)) rows ≡ None = searched rows sorted c.args.key (Err c.in-Err.field-0) c.in-Err.ensures.bound by_key in
    sym (ap (lookup (is_at (nat_cmp c.args.key))) (sym c.self.view_is ∙ sym c.deref.ensures.value) ∙ found)
