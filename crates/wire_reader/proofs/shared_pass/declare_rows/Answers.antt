use Rattle.std.proofs.Common.{◌≡◌, ◌∙◌, ◌∷◌, [], sym, ap, subst, length, arith, inl, inr}
use Rattle.std.specs.Vec.Iter.{into_iter_items}
use Rattle.std.proofs.lemmas.List.{nil_from_length}
use Rattle.wire_reader.specs.Drafted.{declared_of}
use Rattle.wire_reader.specs.Pieces.{ArePiecesParsed}
use Rattle.wire_reader.proofs.Declaring.{row_declared, row_refused, rows_declared}
use Rattle.wire_reader.proofs.shared_pass.declare_rows.Goals as goal

pub loop-parsed-init : goal.loop-parsed-init
loop-parsed-init c =
    let given = c.into_iter-parsed-iterator.ensures.into_iter_gives in
    let items = ap length given.0 in
    let size = given.1 in
    let fits = c.args.rows.ok.0 in
    record { size = omega (arith, items, size, fits); so_far = λ pieces parsed. (pieces, parsed, λ r all. all) }

pub loop-parsed-preserved : goal.loop-parsed-preserved
loop-parsed-preserved c =
    let steps : into_iter_items c.loop-parsed.parsed-iterator ≡ c.in-Some.parsed ∷ into_iter_items c.next.new.self = c.in-Some.ensures.steps.0 in
    let was = c.loop-parsed.invariant.size in
    let gone = c.in-Some.ensures.steps.1 in
    let short = ap length steps in
    record {
      size = omega (arith, was, gone, short);
      so_far = λ pieces parsed. row_declared (declared_of c.args.draft.now) (declared_of c.loop-parsed.draft) pieces (declared_of c.declare_parsed.new.draft) c.in-Some.parsed (into_iter_items c.next.new.self)
          c.in_default.ensures.ok (rw steps at (c.loop-parsed.invariant.so_far pieces parsed));
    }

pub returns-in-Err-clause-err : goal.returns-in-Err-clause-err
returns-in-Err-clause-err c =
    let steps : into_iter_items c.loop-parsed.parsed-iterator ≡ c.in-Some.parsed ∷ into_iter_items c.next.new.self = c.in-Some.ensures.steps.0 in
    let given : into_iter_items c.into_iter-parsed-iterator.result ≡ c.args.rows.items = c.into_iter-parsed-iterator.ensures.into_iter_gives.0 in
    elim c.in-Err.ensures.err [
      | inl m ↦ inl m
      | inr judged ↦ inr (λ pieces parsed. row_refused (declared_of c.args.draft.now) (declared_of c.loop-parsed.draft) pieces c.in-Err.fault c.in-Some.parsed (into_iter_items c.next.new.self)
          judged (rw steps at (c.loop-parsed.invariant.so_far pieces (subst (λ l. ArePiecesParsed pieces l) (sym given) parsed))))
    ]

pub returns-clause-ok : goal.returns-clause-ok
returns-clause-ok c = λ pieces parsed.
    let given : into_iter_items c.into_iter-parsed-iterator.result ≡ c.args.rows.items = c.into_iter-parsed-iterator.ensures.into_iter_gives.0 in
    let none = c.in-None.ensures.steps in
    let empty : into_iter_items c.loop-parsed.parsed-iterator ≡ [] = nil_from_length _ (sym c.loop-parsed.invariant.size ∙ none.0) in
    rows_declared (declared_of c.args.draft.now) (declared_of c.loop-parsed.draft) pieces
    (rw empty at (c.loop-parsed.invariant.so_far pieces (subst (λ l. ArePiecesParsed pieces l) (sym given) parsed)))
