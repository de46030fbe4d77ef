use Rattle.std.proofs.Common.{ℕ, ◌∙◌, ap, sym, replicate}
use Rattle.wire_board.specs.Cuts.{procs_of}
use Rattle.wire_board.proofs.Keeps.{opens}
use Rattle.wire_board.proofs.board.Board.make.Goals as goal

pub of_words-requires : goal.of_words-requires
of_words-requires c = opens c.scripts.result.now c.deref.result.now (c.deref.ensures.value
    ∙ (c.in_ok-words.ensures ∙ ap (λ (n : ℕ). replicate n 0) (c.process_count.ensures ∙ ap procs_of (sym c.scripts.ensures.scripts))))
