use Rattle.std.proofs.Common.{◌∙◌, ap, sym, subst}
use Rattle.std.specs.Prelude.{◌≢◌}
use Rattle.std.specs.List.{All, Contains}
use Rattle.std.specs.Option.{option_copied}
use Rattle.wire_reader.proofs.Notes.{found, missing}
use Rattle.wire_reader.proofs.noted.Noted.number_of.Goals as goal

pub returns-in-Some-clause-found : goal.returns-in-Some-clause-found
returns-in-Some-clause-found c =
    subst (λ s. Contains s (c.args.targets.now, c.in-Some.number.now)) c.self.view_is
    (found (λ v. v.items) c.args.targets.now c.self.inside.table.entries c.in-Some.number.now (sym c.get.ensures.value ∙ ap option_copied c.in-Some.is))

pub returns-in-None-clause-none : goal.returns-in-None-clause-none
returns-in-None-clause-none c =
    subst (All (λ e. e.0 ≢ c.args.targets.now)) c.self.view_is
    (missing (λ v. v.items) c.args.targets.now c.self.inside.table.entries (sym c.get.ensures.value ∙ ap option_copied c.in-None.is))
