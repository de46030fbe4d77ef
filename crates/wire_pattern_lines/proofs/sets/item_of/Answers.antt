use Rattle.std.proofs.Common.{◌≡◌, ◌∙◌, true, sym}
use Rattle.wire_pattern_lines.specs.Said.{is_bare_name}
use Rattle.wire_pattern_lines.proofs.Items.{no_item, star_once}
use Rattle.wire_pattern_lines.proofs.sets.item_of.Goals as goal

pub returns-else-is_bare_name-clause-none : goal.returns-else-is_bare_name-clause-none
returns-else-is_bare_name-clause-none c = no_item c.args.word.now c.in_default.ensures.none (λ job named e. let same = star_once _ _ (sym c.in-Some-before_star.ensures.found ∙ e) in let is : is_bare_name c.in-Some-before_star.job.now ≡ true = rw same named in cc)
