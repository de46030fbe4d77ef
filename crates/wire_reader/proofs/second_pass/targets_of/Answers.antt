use Rattle.std.proofs.Common.{◌≡◌, ◌∙◌, ap, sym, refl, map, true, inl, inr}
use Rattle.std.specs.List.{list_all}
use Rattle.wire_lines.specs.Said as said
use Rattle.wire_lines.specs.Views.{set_by, view_item}
use Rattle.wire_reader.specs.Reads.{is_declared_set}
use Rattle.wire_reader.specs.Drafted.{declared_of, started_of}
use Rattle.wire_reader.specs.Targets.{named_in, target_by, is_declared_target, is_any_target}
use Rattle.wire_reader.proofs.Targets.{set_declared, set_named, listed_members, own_members}
use Rattle.wire_reader.proofs.second_pass.targets_of.Goals as goal

pub returns-then-not-are_declared-clause-err : goal.returns-then-not-are_declared-clause-err
returns-then-not-are_declared-clause-err c =
    let d = declared_of c.args.draft.now in
    let items = map view_item c.in-Listed.items.items in
    let set : set_by c.args.set.now ≡ said.Listed items = ap set_by c.in-Listed.is in
    let named : c.in_ok-targets-in-Listed.targets.items ≡ map (target_by d) items = c.in_ok-targets-in-Listed.ensures ∙ ap (λ l. map (target_by d) (map view_item l)) c.deref.ensures.value in
    inr (inl (
      sym (set_declared d (set_by c.args.set.now) items c.in_ok-targets-in-Listed.targets.items set named) ∙ ap (list_all (is_declared_target d)) (sym c.deref-in-Listed.ensures.value)
          ∙ sym c.if-not-are_declared.ensures,
      refl,
    ))

pub returns-then-not-is_named-clause-err : goal.returns-then-not-is_named-clause-err
returns-then-not-is_named-clause-err c =
    let d = declared_of c.args.draft.now in
    let items = map view_item c.in-Listed.items.items in
    let set : set_by c.args.set.now ≡ said.Listed items = ap set_by c.in-Listed.is in
    let named : c.in_ok-targets-in-Listed.targets.items ≡ map (target_by d) items = c.in_ok-targets-in-Listed.ensures ∙ ap (λ l. map (target_by d) (map view_item l)) c.deref.ensures.value in
    let declared : is_declared_set d (set_by c.args.set.now) ≡ true =
    sym (set_declared d (set_by c.args.set.now) items c.in_ok-targets-in-Listed.targets.items set named) ∙ ap (list_all (is_declared_target d)) (sym c.deref-in-Listed.ensures.value)
    ∙ sym c.if-not-are_declared.ensures in
    inr (inr (
      declared,
      sym (set_named d (set_by c.args.set.now) items c.in_ok-targets-in-Listed.targets.items set named c.args.caller.now.job (started_of c.args.caller.now))
          ∙ ap (λ l. is_any_target l (started_of c.args.caller.now)) (sym c.deref-in-Listed-2.ensures.value) ∙ sym c.if-not-is_named.ensures,
      refl,
    ))

pub returns-else-not-is_named-clause-declared : goal.returns-else-not-is_named-clause-declared
returns-else-not-is_named-clause-declared c =
    let d = declared_of c.args.draft.now in
    let items = map view_item c.in-Listed.items.items in
    let set : set_by c.args.set.now ≡ said.Listed items = ap set_by c.in-Listed.is in
    let named : c.in_ok-targets-in-Listed.targets.items ≡ map (target_by d) items = c.in_ok-targets-in-Listed.ensures ∙ ap (λ l. map (target_by d) (map view_item l)) c.deref.ensures.value in
    sym (set_declared d (set_by c.args.set.now) items c.in_ok-targets-in-Listed.targets.items set named) ∙ ap (list_all (is_declared_target d)) (sym c.deref-in-Listed.ensures.value)
    ∙ sym c.if-not-are_declared.ensures

pub returns-else-not-is_named-clause-caller : goal.returns-else-not-is_named-clause-caller
returns-else-not-is_named-clause-caller c =
    let d = declared_of c.args.draft.now in
    let items = map view_item c.in-Listed.items.items in
    let set : set_by c.args.set.now ≡ said.Listed items = ap set_by c.in-Listed.is in
    let named : c.in_ok-targets-in-Listed.targets.items ≡ map (target_by d) items = c.in_ok-targets-in-Listed.ensures ∙ ap (λ l. map (target_by d) (map view_item l)) c.deref.ensures.value in
    sym (set_named d (set_by c.args.set.now) items c.in_ok-targets-in-Listed.targets.items set named c.args.caller.now.job (started_of c.args.caller.now))
    ∙ ap (λ l. is_any_target l (started_of c.args.caller.now)) (sym c.deref-in-Listed-2.ensures.value) ∙ sym c.if-not-is_named.ensures

pub returns-else-not-is_named-clause-members : goal.returns-else-not-is_named-clause-members
returns-else-not-is_named-clause-members c =
    let d = declared_of c.args.draft.now in
    let items = map view_item c.in-Listed.items.items in
    let set : set_by c.args.set.now ≡ said.Listed items = ap set_by c.in-Listed.is in
    let named : c.in_ok-targets-in-Listed.targets.items ≡ map (target_by d) items = c.in_ok-targets-in-Listed.ensures ∙ ap (λ l. map (target_by d) (map view_item l)) c.deref.ensures.value in
    listed_members d (set_by c.args.set.now) items c.in_ok-targets-in-Listed.targets.items set named c.args.caller.now.job

pub returns-in_ok-own-in-Own-clause-members : goal.returns-in_ok-own-in-Own-clause-members
returns-in_ok-own-in-Own-clause-members c =
    let d = declared_of c.args.draft.now in
    ap (named_in d) c.in_ok-own-in-Own.ensures.items ∙ own_members d c.args.caller.now.job (set_by c.args.set.now) (ap set_by c.in-Own.is)
