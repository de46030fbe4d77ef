use Rattle.std.proofs.Common.{◌≡◌, ◌∙◌, ◌++◌, ◌-◌, ap, subst, take, length, OnOk, ℕ}
use Rattle.wire_core.specs.Course.{state_of}
use Rattle.wire_standstill.specs.Lines.{lines_of, more_line}
use Rattle.wire_explain.proofs.Texts.{two_joined}
use Rattle.wire_standstill.proofs.Parts.{front_is, rest_is}
use Rattle.wire_standstill.proofs.lines.push_rank_lines.Goals as goal

pub returns : goal.returns
returns c =
    let ranks = c.args.ranks.now in
    let lines = lines_of c.args.core.now.scripts (state_of c.args.core.now) in
    let n = c.min-shown.result in
    two_joined c.push_more_line.result c.args.out.now.items c.push_lines.new.out.items c.push_more_line.new.out.items (lines (take 16 ranks)) (more_line (length ranks - 16))
    (c.in_ok-push_lines.ensures ∙ ap (λ xs. c.args.out.now.items ++ lines xs) (front_is ranks n 16 c.min-shown.ensures))
    (subst (λ (k : ℕ). OnOk c.push_more_line.result (c.push_more_line.new.out.items ≡ c.push_lines.new.out.items ++ more_line k)) (rest_is ranks n 16 c.min-shown.ensures) c.push_more_line.ensures)
