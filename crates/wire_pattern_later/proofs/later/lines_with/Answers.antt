use Rattle.std.proofs.Common.{◌≡◌, ℕ, true, refl, subst, ◌↔◌}
use Rattle.std.specs.Prelude.{IfSome}
use Rattle.wire_pattern_waits.specs.LineSets.{has_line}
use Rattle.wire_pattern_later.specs.Later.{IsReadWith, StopsWith}
use Rattle.wire_pattern_later.proofs.later.lines_with.Goals as goal

pub returns-clause-ok : goal.returns-clause-ok
returns-clause-ok c =
    let p = c.args.pattern.now in
    let n = c.args.ranks in (
      refl,
      record {
        read = subst (λ o. IfSome o (λ v. IsReadWith p n)) c.in-Some.is c.in_ok-noted.ensures.read;
        waits = has_line c.in-Some.noted;
        tells = subst (λ o. IfSome o (λ v. (role line : ℕ) → (has_line v role line ≡ true) ↔ StopsWith p n role line)) c.in-Some.is c.in_ok-noted.ensures.ok;
        are = c.in_ok-lines.ensures;
      },
    )
