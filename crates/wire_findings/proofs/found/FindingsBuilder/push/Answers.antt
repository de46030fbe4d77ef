use Rattle.std.proofs.Common.{◌∙◌, ap, sym, subst, ◌++◌, ◌∷◌, []}
use Rattle.wire_findings.specs.Packing.{all_told_by, AreWithin}
use Rattle.wire_findings.proofs.Packing.{one_more, within_more, within_end}
use Rattle.wire_findings.proofs.found.FindingsBuilder.push.Goals as goal

pub invariant_of-self : goal.invariant_of-self
invariant_of-self c = within_more c.self.inside.subjects.items c.pack.new.subjects.items c.self.inside.entries.items c.in_err-entry.ensures.more c.self.invariant

pub invariant_of-self-in_err-push : goal.invariant_of-self-in_err-push
invariant_of-self-in_err-push c =
    subst (λ l. AreWithin c.pack.new.subjects.items l) (sym c.in_err-push.ensures.items)
    (within_more c.self.inside.subjects.items c.pack.new.subjects.items c.self.inside.entries.items c.in_ok-entry.ensures.more c.self.invariant)

pub invariant_of-self-2 : goal.invariant_of-self-2
invariant_of-self-2 c =
    let before = within_more c.self.inside.subjects.items c.pack.new.subjects.items c.self.inside.entries.items c.in_ok-entry.ensures.more c.self.invariant in
    subst (λ l. AreWithin c.pack.new.subjects.items l) (sym c.in_ok-push.ensures.items)
    (within_end c.pack.new.subjects.items c.self.inside.entries.items c.in_ok-entry.entry before c.in_ok-entry.ensures.within)

pub returns : goal.returns
returns c =
    ap (all_told_by c.pack.new.subjects.items) c.in_ok-push.ensures.items
    ∙ one_more c.self.inside.subjects.items c.pack.new.subjects.items c.self.inside.entries.items c.in_ok-entry.entry c.args.finding c.in_ok-entry.ensures.more c.self.invariant
    c.in_ok-entry.ensures.told
    ∙ ap (λ l. l ++ c.args.finding ∷ []) c.self.view_is
