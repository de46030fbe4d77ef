use Rattle.std.proofs.Common.{◌≡◌, ◌∙◌, ap, sym, false, is_some, arith}
use Rattle.std.specs.Str.{bytes_eq}
use Rattle.std.specs.HashMap.{get_by}
use Rattle.std.proofs.lemmas.Grind.{common_steps}
use Rattle.wire_reader.proofs.ProcTable.{found_after, number_comes}
use Rattle.wire_reader.proofs.proc_words.ProcWords.add.Goals as goal

pub returns-in_ok-insert : goal.returns-in_ok-insert
returns-in_ok-insert c = λ text.
    let old = c.args.self.now.procs in
    let missing : c.contains_key.result ≡ false = grind (arith, common_steps) in
    let none : is_some (get_by (λ q. bytes_eq c.args.word.items q.items) old) ≡ false =
    ap (λ w. is_some (get_by (λ q. bytes_eq w q.items) old)) (sym c.as_slice.ensures.value) ∙ sym c.contains_key.ensures ∙ missing in
    number_comes (λ p. p.number) text c.args.word.items (λ w. get_by (λ q. bytes_eq w q.items) old) (get_by (λ q. bytes_eq text q.items) c.insert.new.self) c.args.proc none
    (found_after (λ v. v.items) old c.insert.new.self c.args.word c.args.proc c.in_ok-insert.ensures.updates text)
