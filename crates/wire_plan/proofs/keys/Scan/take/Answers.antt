use Rattle.std.proofs.Common.{◌≡◌, ◌∙◌, ◌+◌, ◌==◌, ℕ, ap, sym, refl, cond, false, nat_lt, eqb-true, Option, Some}
use Rattle.std.specs.BTreeMap.{is_at}
use Rattle.std.specs.Ordering.{nat_cmp, is_eq}
use Rattle.std.specs.declared.cmp.Ordering.TheVariants.{Less, Equal, Greater}
use Rattle.std.proofs.lemmas.Bool.{cond_both}
use Rattle.wire_plan.specs.Kinds.{kind_of}
use Rattle.wire_plan.specs.Keys.{puts_in}
use Rattle.wire_plan.specs.declared.key_rows.KeyRow.{KeyRow}
use Rattle.wire_plan.proofs.KeyRows.{take_put, take_commit, take_other}
use Rattle.wire_plan.proofs.keys.Scan.take.Goals as goal

-- the row of another key is another one
other_key : (key q : ℕ) → (q ≡ key → ⊥) → is_at (nat_cmp key) q ≡ false
other_key key q ne =
    cond_both (nat_lt key q) Less (cond (key == q) Equal Greater) (λ r. is_eq r ≡ false) (λ _. refl)
    (λ _. cond_both (key == q) Equal Greater (λ r. is_eq r ≡ false) (λ t. absurd (ne (sym (eqb-true _ _ t)))) (λ _. refl))

pub returns-in_ok-insert-in-Put : goal.returns-in_ok-insert-in-Put
returns-in_ok-insert-in-Put c = λ events sets end is lt rows.
    let key = c.in-Put.key in
    let updates = c.in_ok-insert-in-Put.ensures.updates in
    let row : Option KeyRow → KeyRow = λ o. record { puts = puts_in o + 1; first = c.args.at; scope = c.in-Put.scope; store = c.args.self.now.commit } in
    let here = updates.1 ∙ ap Some (c.row_before-row.ensures ∙ ap row (c.copied.ensures ∙ c.get.ensures.value)) in
    take_put events c.args.at end key c.in-Put.scope _ _ c.args.self.now.commit (is ∙ ap (λ k. Some (kind_of sets k)) c.in-Put.is) lt here
    (λ q ne. updates.2 q (other_key key q ne)) rows

pub returns-in-Commit : goal.returns-in-Commit
returns-in-Commit c = λ events sets end is lt rows. take_commit events c.args.at end _ _ (is ∙ ap (λ k. Some (kind_of sets k)) c.in-Commit.is) lt rows

pub returns-in_default : goal.returns-in_default
returns-in_default c = λ events sets end is lt rows. take_other events c.args.at end sets c.args.kind _ _ is c.in_default.not-Put c.in_default.not-Commit rows
