use Rattle.std.proofs.Common.{◌≡◌, ◌≢◌, ◌∷◌, [], ℕ, List, true, codes, ap, sym, true≢false}
use Rattle.std.specs.Str.{bytes_eq}
use Rattle.wire_types.specs.Said.{is_word, spelled_scope}
use Rattle.wire_types.specs.Texts.{texts_of}
use Rattle.wire_types.specs.Verbs.{text_of_verb}
use Rattle.wire_types.specs.declared.Scope.{Scope}
use Rattle.wire_lines.proofs.Colon.{and_left, and_right}
use Rattle.wire_pattern_lines.specs.Said.{Key, Call, Put, Commit, Fence, Get, GetNow, Publish, Lookup, LookupWait, Unpublish, UnpublishAll}
use Rattle.wire_pattern_lines.specs.Said.{is_lawful_key, is_lawful_call, spelled_key, first_of_call, others_of_call}
use Rattle.wire_pattern_lines.proofs.Through.{none_through}
use Rattle.wire_pattern_lines.proofs.call.call_of.Goals as goal

no_put : (words : List (List ℕ)) → ((scope : Scope) (key : Key) (value : List ℕ) → is_lawful_key key ≡ true → is_word value ≡ true → words ≢ spelled_scope scope ∷ spelled_key key ∷ value ∷ [])
    → (call : Call) → first_of_call call ≡ codes "put" → is_lawful_call call ≡ true → words ≢ others_of_call call
no_put words none (Put s k v) f l e = none s k v (and_left _ _ l) (and_right _ _ l) e
no_put words none Commit f l e = true≢false (ap (λ w. bytes_eq w (codes "put")) (sym f))
no_put words none (Fence s c) f l e = true≢false (ap (λ w. bytes_eq w (codes "put")) (sym f))
no_put words none (Get o k) f l e = true≢false (ap (λ w. bytes_eq w (codes "put")) (sym f))
no_put words none (GetNow o k) f l e = true≢false (ap (λ w. bytes_eq w (codes "put")) (sym f))
no_put words none (Publish k v) f l e = true≢false (ap (λ w. bytes_eq w (codes "put")) (sym f))
no_put words none (Lookup k) f l e = true≢false (ap (λ w. bytes_eq w (codes "put")) (sym f))
no_put words none (LookupWait k) f l e = true≢false (ap (λ w. bytes_eq w (codes "put")) (sym f))
no_put words none (Unpublish k) f l e = true≢false (ap (λ w. bytes_eq w (codes "put")) (sym f))
no_put words none UnpublishAll f l e = true≢false (ap (λ w. bytes_eq w (codes "put")) (sym f))

pub returns-in-Put-clause-none : goal.returns-in-Put-clause-none
returns-in-Put-clause-none c =
    none_through ((scope : Scope) (key : Key) (value : List ℕ) → is_lawful_key key ≡ true → is_word value ≡ true → texts_of c.args.words.now ≢ spelled_scope scope ∷ spelled_key key ∷ value ∷ [])
    ((call : Call) → first_of_call call ≡ text_of_verb c.args.verb → is_lawful_call call ≡ true → texts_of c.args.words.now ≢ others_of_call call)
    c.put_of.result
    (rw c.in-Put.is (λ none. no_put (texts_of c.args.words.now) none))
    c.put_of.ensures.none
