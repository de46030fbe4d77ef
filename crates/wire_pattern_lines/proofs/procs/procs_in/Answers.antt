use Rattle.std.proofs.Common.{◌≡◌, ◌∙◌, ◌<◌, ◌≢◌, List, map, length, true}
use Rattle.std.specs.List.{slice_split, list_all, join_with_byte}
use Rattle.wire_types.specs.Texts.{texts_of}
use Rattle.wire_lines.proofs.Joined.{comma}
use Rattle.wire_pattern_lines.specs.Said.{Proc, spelled_proc, is_lawful_proc}
use Rattle.wire_pattern_lines.specs.Views.{proc_by}
use Rattle.wire_pattern_lines.proofs.Parts.{joined, some_parts, some_mapped, no_list, proc_plain}
use Rattle.wire_pattern_lines.proofs.Through.{some_through, none_through}
use Rattle.wire_pattern_lines.proofs.procs.procs_in.Goals as goal

pub returns-clause-found : goal.returns-clause-found
returns-clause-found c =
    let p : texts_of c.deref.result.now ≡ slice_split comma c.args.text.now = rw c.deref.ensures.value c.in_ok-parts.ensures in
    some_through (λ v. (map spelled_proc (map proc_by v.items) ≡ texts_of c.deref.result.now) × (list_all is_lawful_proc (map proc_by v.items) ≡ true))
    (λ v. (c.args.text.now ≡ join_with_byte 44 (map spelled_proc (map proc_by v.items))) × (0 < length v.items) × (list_all is_lawful_proc (map proc_by v.items) ≡ true))
    c.procs_of.result
    (λ v h. (
      joined spelled_proc is_lawful_proc c.args.text.now (map proc_by v.items) (h.0 ∙ p),
      some_mapped proc_by v.items (some_parts spelled_proc is_lawful_proc c.args.text.now (map proc_by v.items) (h.0 ∙ p)),
      h.1,
    ))
    c.procs_of.ensures.found

pub returns-clause-none : goal.returns-clause-none
returns-clause-none c =
    let p : texts_of c.deref.result.now ≡ slice_split comma c.args.text.now = rw c.deref.ensures.value c.in_ok-parts.ensures in
    none_through ((procs : List Proc) → list_all is_lawful_proc procs ≡ true → texts_of c.deref.result.now ≢ map spelled_proc procs)
    ((procs : List Proc) → 0 < length procs → list_all is_lawful_proc procs ≡ true → c.args.text.now ≢ join_with_byte 44 (map spelled_proc procs))
    c.procs_of.result
    (λ none. no_list spelled_proc is_lawful_proc proc_plain c.args.text.now (λ ps lawful e. none ps lawful (p ∙ e)))
    c.procs_of.ensures.none
