-- The call lines of one role more.
use Rattle.std.proofs.Common.{◌≡◌, ◌∙◌, ap, sym, ℕ, ◌+◌, ◌<◌, List, ◌++◌, Bool, length, map, filter, drop, get_or, add-one}
use Rattle.std.proofs.lemmas.List.Elements.{filter-append}
use Rattle.wire_pattern.specs.declared.step.Step.{Step}
use Rattle.wire_pattern.specs.declared.pattern.Role.{Role}
use Rattle.wire_pattern.specs.Views.{step_by, role_by}
use Rattle.wire_instances.proofs.Texts.{moved, opened_list}
use Rattle.wire_pattern_waits.specs.declared.lines.CallLine.{CallLine}
use Rattle.wire_pattern_waits.specs.Lines.{verbs_in, numbered, roles_lines}

pub script_step : (test : CallLine → Bool) (roles : List Role) (n : ℕ) (role : Role) (steps : List Step) (old now all : List CallLine) → n < length roles → role ≡ get_or roles n role
    → steps ≡ role.steps.items → now ≡ old ++ filter test (numbered n 1 (verbs_in (map step_by steps)))
    → old ++ filter test (roles_lines n (map role_by (drop n roles))) ≡ all
    → now ++ filter test (roles_lines (n + 1) (map role_by (drop (n + 1) roles))) ≡ all
script_step test roles n role steps old now all h at are more inv =
    let own = numbered n 1 (verbs_in (map step_by role.steps.items)) in
    let left = roles_lines (n + 1) (map role_by (drop (n + 1) roles)) in
    moved old now (filter test own) (filter test left) _ all
    (more ∙ ap (λ ss. old ++ filter test (numbered n 1 (verbs_in (map step_by ss)))) are)
    (ap (λ rs. filter test (roles_lines n (map role_by rs))) (opened_list roles n role h at)
    ∙ ap (λ m. filter test (own ++ roles_lines m (map role_by (drop (n + 1) roles)))) (sym (add-one n))
    ∙ filter-append test own left) inv
