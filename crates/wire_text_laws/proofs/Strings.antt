-- No byte of the texts in strings is replaced.
use Rattle.std.proofs.Common.{sym, subst, refl, ℕ, ◌+◌, List, [], ◌∷◌, ◌++◌, Option, Some, None, codes, decimal}
use Rattle.std.specs.Prelude.{slice_get}
use Rattle.wire_types.specs.declared.Call.{Call}
use Rattle.wire_types.specs.declared.Call.TheVariants.{Put, Commit, Fence, Get, GetNow, Publish, Lookup, LookupWait, Unpublish, UnpublishAll}
use Rattle.wire_types.specs.declared.CallAt.{CallAt}
use Rattle.wire_types.specs.declared.Value.{Value}
use Rattle.wire_types.specs.declared.Value.TheVariants as value
use Rattle.wire_scripts.specs.Scripts.{Scripts, Process, text_at, call_at}
use Rattle.wire_scripts.specs.Canonical.{process_text}
use Rattle.wire_findings.specs.declared.finding.Finding.{Finding}
use Rattle.wire_findings.specs.declared.finding.Finding.TheVariants.{Rewrite, KeyRace, NameRace}
use Rattle.wire_words.specs.Words.{name_of, text_of_process, given_text, value_text, call_text, verb_text_in}
use Rattle.wire_report.specs.Findings.{put_key_text, rewrite_text, pair_text, finding_words}
use Rattle.wire_text_laws.specs.Kept.{IsPrintedWhole, ArePrintedWhole, NothingReplaced}
use Rattle.wire_text_laws.proofs.Source.{declared_by}
use Rattle.wire_text_laws.proofs.Printable.{both_kept, decimal_kept, TextsAreKept, texts_kept}

-- two texts with one between them
parted : (xs between ys : List ℕ) → IsPrintedWhole xs → IsPrintedWhole between → IsPrintedWhole ys → IsPrintedWhole (xs ++ between ++ ys)
parted xs between ys h b k = both_kept (xs ++ between) ys (both_kept xs between h b) k

verb_kept : (call : Option Call) → IsPrintedWhole (verb_text_in call)
verb_kept None = refl
verb_kept (Some (Put scope key value)) = refl
verb_kept (Some Commit) = refl
verb_kept (Some (Get owner key)) = refl
verb_kept (Some (GetNow owner key)) = refl
verb_kept (Some (Fence set collect)) = refl
verb_kept (Some (Publish name value)) = refl
verb_kept (Some (Lookup name)) = refl
verb_kept (Some (LookupWait name)) = refl
verb_kept (Some (Unpublish name)) = refl
verb_kept (Some UnpublishAll) = refl

module _ (s : Scripts) (h : TextsAreKept s) where
  process_kept : (p : Process) → IsPrintedWhole (process_text s p)
  process_kept p = both_kept (text_at s.jobs p.job) (58 ∷ decimal p.rank) (h.jobs p.job) (both_kept (58 ∷ []) (decimal p.rank) refl (decimal_kept p.rank))

  some_kept : (o : Option Process) → IsPrintedWhole (text_of_process s o)
  some_kept None = refl
  some_kept (Some p) = process_kept p

  name_kept : (p : ℕ) → IsPrintedWhole (name_of s p)
  name_kept p = some_kept (slice_get s.processes p)

  given_kept : (o : Option Call) → IsPrintedWhole (given_text s o)
  given_kept (Some (Put scope key value)) = h.values value
  given_kept (Some (Publish name value)) = h.values value
  given_kept _ = refl

  value_kept : (b : Value) → IsPrintedWhole (value_text s b)
  value_kept value.Nothing = refl
  value_kept (value.Put place) = given_kept (call_at s.processes place.proc.number place.call)
  value_kept (value.Published place) = given_kept (call_at s.processes place.proc.number place.call)
  value_kept (value.Number n) = decimal_kept n
  value_kept (value.NodeName node) = h.nodes node

  call_kept : (x : CallAt) → IsPrintedWhole (call_text s x)
  call_kept x = parted (name_of s x.proc.number) (codes " ") (decimal (x.call + 1)) (name_kept x.proc.number) refl (decimal_kept (x.call + 1))

  put_key_kept : (o : Option Call) → IsPrintedWhole (put_key_text s o)
  put_key_kept (Some (Put scope key value)) = h.keys key
  put_key_kept _ = refl

  pair_kept : (x y : CallAt) → IsPrintedWhole (pair_text s x y)
  pair_kept x y = parted (call_text s x) (codes " ") (call_text s y) (call_kept x) refl (call_kept y)

  rewrite_kept : (x y : CallAt) → IsPrintedWhole (rewrite_text s x y)
  rewrite_kept x y =
      let put = call_at s.processes y.proc.number y.call in
      let number = decimal (y.call + 1) in
      parted (call_text s x ++ codes " " ++ number) (codes " ") (put_key_text s put) (parted (call_text s x) (codes " ") number (call_kept x) refl (decimal_kept (y.call + 1))) refl (put_key_kept put)

  race_kept : (x y : CallAt) → IsPrintedWhole (codes "race " ++ pair_text s x y)
  race_kept x y = both_kept (codes "race ") (pair_text s x y) refl (pair_kept x y)

  finding_kept : (f : Finding) → IsPrintedWhole (finding_words s f)
  finding_kept (Rewrite first later) = both_kept (codes "rewrite ") (rewrite_text s first later) refl (rewrite_kept first later)
  finding_kept (KeyRace lower higher owner key) =
      let race = codes "race " ++ pair_text s lower higher in
      let name = name_of s owner.number in
      parted (race ++ codes " key " ++ name) (codes " ") (text_at s.keys key) (parted race (codes " key ") name (race_kept lower higher) refl (name_kept owner.number)) refl (h.keys key)
  finding_kept (NameRace lower higher name) = parted (codes "race " ++ pair_text s lower higher) (codes " name ") (text_at s.names name) (race_kept lower higher) refl (h.names name)

  all_kept : ArePrintedWhole s
  all_kept = record { processes = process_kept; steps = name_kept; values = value_kept; findings = finding_kept; verbs = verb_kept }

pub nothing_replaced : NothingReplaced
nothing_replaced size bytes s read =
    let r = declared_by size bytes s read in
    all_kept s (subst TextsAreKept (sym r.is) (texts_kept size r.version r.d r.lines r.runs r.good))
