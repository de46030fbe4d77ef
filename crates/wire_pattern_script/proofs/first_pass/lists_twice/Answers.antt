use Rattle.std.proofs.Common.{◌≡◌, ◌∙◌, ap, sym, suc, ◌≤◌, List, length, take, arith}
use Rattle.std.specs.Prelude.{not}
use Rattle.std.proofs.lemmas.List.{length-map, take_all}
use Rattle.wire_types.specs.Texts.{texts_of}
use Rattle.wire_reader.specs.FirstPass.{Name}
use Rattle.wire_pattern_script.specs.FirstPass.{are_once, list_limit}
use Rattle.wire_pattern_script.proofs.first_pass.lists_twice.Goals as goal

whole_front : (names : List Name) → length names ≤ 8 → are_once names ≡ are_once (take (suc list_limit) names)
whole_front names few = ap are_once (sym (take_all 9 names (omega (arith, few))))

pub returns-then-roles-le-LISTED : goal.returns-then-roles-le-LISTED
returns-then-roles-le-LISTED c =
    let few = c.if-roles-le-LISTED.true in
    let count = length-map c.args.roles.now (λ v. v.now) in
    ap not (c.are_once.ensures ∙ whole_front (texts_of c.args.roles.now) (omega (arith, few, count)))
