use Rattle.std.proofs.Common.{◌≡◌, ◌∙◌, ◌<◌, ◌≤◌, ℕ, ap, sym, refl, List, length, get_or, Bor, Option, Some, None, IfSome, MatchOption, option_copied, slice_get}
use Rattle.std.proofs.lemmas.Option.{slice_get_read, slice_get_past}
use Rattle.wire_types.specs.declared.Call.{Call}
use Rattle.wire_scripts.specs.Scripts.{calls_in}
use Rattle.wire_words.proofs.calls.find_call.Goals as goal

-- what `get` gives of a list of calls
got : (o : Option (Bor Call)) (calls : List Call) (n : ℕ) (Q : Bor Call → Type 0) → IfSome o (λ x. x.now ≡ get_or calls n x.now) → MatchOption o (length calls ≤ n) (λ x. (n < length calls) × Q x)
    → option_copied o ≡ slice_get calls n
got None calls n Q is there = sym (slice_get_past calls n there)
got (Some x) calls n Q is there = sym (slice_get_read calls (length calls) n x.now refl there.0 is)

pub returns-in-Some : goal.returns-in-Some
returns-in-Some c =
    let ps = c.args.scripts.now.processes in
    let p = c.in-Some.process.now in
    let lookup = rw (c.processes.ensures.processes, c.index.ensures) at c.in-Some.ensures.lookup in
    let found = slice_get_read ps (length ps) c.args.place.proc.number p refl lookup.3.0 lookup.1 in
    let call = rw c.calls.ensures at c.get-in-Some.ensures.lookup in
    got c.get-in-Some.result p.calls c.args.place.call _ call.1 call.3 ∙ ap (λ o. slice_get (calls_in o) c.args.place.call) (sym found)

pub returns-in-None : goal.returns-in-None
returns-in-None c =
    let lookup = rw (c.processes.ensures.processes, c.index.ensures) at c.in-None.ensures.lookup in
    ap (λ o. slice_get (calls_in o) c.args.place.call) (sym (slice_get_past c.args.scripts.now.processes c.args.place.proc.number lookup.3))
