use Rattle.std.proofs.Common.{rules, ◌≡◌, ◌+◌, ap, take}
use Rattle.std.specs.Prelude.{◌==◌, count_by}
use Rattle.wire_lines.proofs.text.line_past.Goals as goal

pub returns : goal.returns
returns c =
    let feeds : c.count.result ≡ count_by (λ b. b == 10) (take c.args.limit c.args.bytes.now) = search rules in
    ap (λ n. n + 1) feeds
