-- What is escaped in a string: a quote and a backslash, of printable bytes.
use Rattle.std.proofs.Common.{◌≡◌, refl, ap₂, ℕ, ◌<◌, List, [], ◌∷◌, ◌++◌, cond, map, arith}
use Rattle.std.specs.Prelude.{◌==◌, ◌||◌}
use Rattle.std.proofs.lemmas.Bool.Decides.{nat_tests}
use Rattle.json.specs.Print.{escape, escape_byte, escape_letter}
use Rattle.wire_types.specs.declared.Call.{Call}
use Rattle.wire_types.specs.declared.Call.TheVariants.{Put, Commit, Fence, Get, GetNow, Publish, Lookup, LookupWait, Unpublish, UnpublishAll}
use Rattle.wire_types.specs.declared.Status.{Status}
use Rattle.wire_types.specs.declared.Status.TheVariants.{Success, NotFound, ExistsOutsideScope, DuplicateKey, BadParam}
use Rattle.wire_types.specs.declared.CallEnd.{CallEnd}
use Rattle.wire_types.specs.declared.CallEnd.TheVariants.{Replied, Waiting, Ready, Unreached}
use Rattle.wire_words.specs.Words.{status_name, verb_text, end_word}
use Rattle.wire_json.specs.Json.{printed, escaped, PrintableKept}

-- a letter for a byte from the space on
letter : (b : ℕ) → 31 < b → escape_letter b ≡ cond (b == 34 || b == 92) b 0
letter b h = grind (arith, nat_tests)

one_byte : (b : ℕ) → 31 < b → escape_byte b ≡ cond (b == 34 || b == 92) (92 ∷ b ∷ []) (b ∷ [])
unfolding escape_byte
one_byte b h = rw (letter b h) (grind (arith, nat_tests))

above : (b : ℕ) → 31 < printed b
above b = grind (arith, nat_tests)

pub kept_byte : (b : ℕ) → 31 < b → b < 127 → printed b ≡ b
kept_byte b l u = grind (arith, nat_tests)

pub kept : PrintableKept
kept [] h = refl
kept (b ∷ bs) h = ap₂ (λ x y. x ∷ y) (kept_byte b h.0 h.1) (kept bs h.2)

pub same_escapes : (bs : List ℕ) → escape (map printed bs) ≡ escaped (map printed bs)
same_escapes [] = refl
same_escapes (b ∷ bs) = ap₂ (λ x y. x ++ y) (one_byte (printed b) (above b)) (same_escapes bs)

-- nothing is escaped in the words of a report
plain_status : (status : Status) → escape (status_name status) ≡ status_name status
unfolding escape_byte
plain_status Success = refl
plain_status NotFound = refl
plain_status ExistsOutsideScope = refl
plain_status DuplicateKey = refl
plain_status BadParam = refl

pub plain_end : (end : CallEnd) → escape (end_word end) ≡ end_word end
unfolding escape_byte
plain_end (Replied reply) = plain_status reply.status
plain_end Waiting = refl
plain_end Ready = refl
plain_end Unreached = refl

pub plain_verb : (call : Call) → escape (verb_text call) ≡ verb_text call
unfolding escape_byte
plain_verb (Put scope key value) = refl
plain_verb Commit = refl
plain_verb (Get owner key) = refl
plain_verb (GetNow owner key) = refl
plain_verb (Fence set collect) = refl
plain_verb (Publish name value) = refl
plain_verb (Lookup name) = refl
plain_verb (LookupWait name) = refl
plain_verb (Unpublish name) = refl
plain_verb UnpublishAll = refl
