use Rattle.std.proofs.Common.{◌≡◌, ◌++◌, map, drop}
use Rattle.wire_commands.proofs.witnesses.shown_of.Given as goal

-- the calls so far, and those of the races that are left, are all calls
abbrev pub invariant-loop-one : goal.invariant-loop-one
invariant-loop-one l = l.calls.items ++ map (λ one. one.shown) (drop l.one-index l.tried) ≡ map (λ one. one.shown) l.tried
