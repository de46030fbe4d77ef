use Rattle.std.proofs.Common.{◌≡◌, ◌∙◌, sym, decimal, true}
use Rattle.wire_types.specs.Said.{is_name}
use Rattle.wire_lines.proofs.Colon.{names_plain, cut_once, and_right}
use Rattle.wire_lines.proofs.word.proc_of.Goals as goal

pub returns-then-not-is_name-clause-none : goal.returns-then-not-is_name-clause-none
returns-then-not-is_name-clause-none c = λ job rank name small is.
    let parts = cut_once c.in-Some.job.now c.in-Some.rank.now job (decimal rank) c.in-Some.ensures.first (names_plain job (and_right _ _ name)) (sym c.in-Some.ensures.found ∙ is) in
    let named : is_name c.in-Some.job.now ≡ true = rw parts.0 name in
    cc (c.if-not-is_name.ensures, named)

pub returns-in-None-clause-none : goal.returns-in-None-clause-none
returns-in-None-clause-none c = λ job rank name small is.
    let parts = cut_once c.in-Some.job.now c.in-Some.rank.now job (decimal rank) c.in-Some.ensures.first (names_plain job (and_right _ _ name)) (sym c.in-Some.ensures.found ∙ is) in
    c.in-None.ensures.none rank small parts.1
