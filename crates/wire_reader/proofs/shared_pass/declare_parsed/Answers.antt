use Rattle.std.proofs.Common.{◌≡◌, ◌∙◌, ◌∷◌, [], sym, ap, subst, length, arith, inl, inr}
use Rattle.std.specs.Vec.Iter.{into_iter_items}
use Rattle.std.proofs.lemmas.List.{nil_from_length}
use Rattle.wire_reader.specs.Drafted.{declared_of}
use Rattle.wire_reader.specs.Pieces.{AreParsed}
use Rattle.wire_reader.proofs.Declaring.{one_declared, one_refused, all_declared}
use Rattle.wire_reader.proofs.shared_pass.declare_parsed.Goals as goal

pub loop-line-init : goal.loop-line-init
loop-line-init c =
    let given = c.into_iter-line-iterator.ensures.into_iter_gives in
    let items = ap length given.0 in
    let size = given.1 in
    let fits = c.args.parsed.ok.0 in
    record { size = omega (arith, items, size, fits); so_far = λ lines parsed. (lines, parsed, λ r all. all) }

pub loop-line-preserved : goal.loop-line-preserved
loop-line-preserved c =
    let steps : into_iter_items c.loop-line.line-iterator ≡ c.in-Some.line ∷ into_iter_items c.next.new.self = c.in-Some.ensures.steps.0 in
    let was = c.loop-line.invariant.size in
    let gone = c.in-Some.ensures.steps.1 in
    let short = ap length steps in
    record {
      size = omega (arith, was, gone, short);
      so_far = λ lines parsed. one_declared (declared_of c.args.draft.now) (declared_of c.loop-line.draft) lines (declared_of c.take_said.new.draft) c.in-Some.line (into_iter_items c.next.new.self)
          c.in_default.ensures.ok (rw steps at (c.loop-line.invariant.so_far lines parsed));
    }

pub returns-in-Err-clause-err : goal.returns-in-Err-clause-err
returns-in-Err-clause-err c =
    let steps : into_iter_items c.loop-line.line-iterator ≡ c.in-Some.line ∷ into_iter_items c.next.new.self = c.in-Some.ensures.steps.0 in
    let given : into_iter_items c.into_iter-line-iterator.result ≡ c.args.parsed.items = c.into_iter-line-iterator.ensures.into_iter_gives.0 in
    elim c.in-Err.ensures.err [
      | inl m ↦ inl m
      | inr judged ↦ inr (λ lines parsed. one_refused (declared_of c.args.draft.now) (declared_of c.loop-line.draft) lines c.in-Err.fault c.in-Some.line (into_iter_items c.next.new.self)
          judged (rw steps at (c.loop-line.invariant.so_far lines (subst (λ l. AreParsed lines l) (sym given) parsed))))
    ]

pub returns-clause-ok : goal.returns-clause-ok
returns-clause-ok c = λ lines parsed.
    let given : into_iter_items c.into_iter-line-iterator.result ≡ c.args.parsed.items = c.into_iter-line-iterator.ensures.into_iter_gives.0 in
    let none = c.in-None.ensures.steps in
    let empty : into_iter_items c.loop-line.line-iterator ≡ [] = nil_from_length _ (sym c.loop-line.invariant.size ∙ none.0) in
    all_declared (declared_of c.args.draft.now) (declared_of c.loop-line.draft) lines
    (rw empty at (c.loop-line.invariant.so_far lines (subst (λ l. AreParsed lines l) (sym given) parsed)))
