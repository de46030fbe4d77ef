use Rattle.std.proofs.Common.{rules, ◌≡◌, ◌-◌, sym, ap, ◌∙◌, length, Some, arith, map}
use Rattle.std.specs.Prelude.{◌==◌, count_by, slice_get}
use Rattle.std.specs.Str.Lines.{strip_carriage_return}
use Rattle.std.specs.Option.{option_copied}
use Rattle.std.proofs.lemmas.List.{length-map}
use Rattle.wire_lines.specs.Text.{pieces_of}
use Rattle.wire_lines.proofs.Lines.{counted, few_lines, unfinished, open_end, closed_end}
use Rattle.wire_lines.proofs.text.count_lines.Goals as goal

pub returns-in-Some : goal.returns-in-Some
returns-in-Some c =
    let bs = c.args.bytes.now in
    let feeds : c.count-feeds.result ≡ count_by (λ b. b == 10) bs = search rules in
    let lines : length (map strip_carriage_return (pieces_of bs)) ≡ length (pieces_of bs) = length-map (pieces_of bs) strip_carriage_return in
    let last : slice_get bs (length bs - 1) ≡ Some c.in-Some.byte.now = sym c.last.ensures.value ∙ ap option_copied c.in-Some.is in
    let one : unfinished (slice_get bs (length bs - 1)) ≡ 1 = ap unfinished last ∙ open_end c.in-Some.byte.now c.if-byte-ne10.true in
    omega (arith, feeds, lines, counted bs, few_lines bs, one)

pub returns-in_default : goal.returns-in_default
returns-in_default c =
    let bs = c.args.bytes.now in
    let feeds : c.count-feeds.result ≡ count_by (λ b. b == 10) bs = search rules in
    let lines : length (map strip_carriage_return (pieces_of bs)) ≡ length (pieces_of bs) = length-map (pieces_of bs) strip_carriage_return in
    let last : slice_get bs (length bs - 1) ≡ Some c.in-Some.byte.now = sym c.last.ensures.value ∙ ap option_copied c.in-Some.is in
    let none : unfinished (slice_get bs (length bs - 1)) ≡ 0 = ap unfinished last ∙ closed_end c.in-Some.byte.now c.if-byte-ne10.false in
    omega (arith, feeds, lines, counted bs, few_lines bs, none)
