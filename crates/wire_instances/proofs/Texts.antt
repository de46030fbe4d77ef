-- How texts grow, and how a line is put together.
use Rattle.std.proofs.Common.{◌≡◌, ◌∙◌, ap, sym, refl, ℕ, zero, suc, ◌+◌, ◌<◌, List, [], ◌∷◌, ◌++◌, length, map, drop, drop-cons, get_or, append_assoc, add-one, codes, arith}
use Rattle.std.specs.List.{join_with_byte}
use Rattle.std.proofs.lemmas.Grind.{flat_map-append}
use Rattle.wire_types.specs.Said as said
use Rattle.wire_scripts.specs.Canonical.{line_text, words_text, items_text}
use Rattle.wire_pattern.specs.Pattern.{Pattern, Call, Put, Commit, Fence, Get, GetNow, Publish}
use Rattle.wire_pattern.specs.Pattern.{Lookup, LookupWait, Unpublish, UnpublishAll}
use Rattle.wire_pattern.specs.Instances.{Cast, call_said, indexed_text}
use Rattle.wire_instances.specs.Written.{ended_text, rest_text, calls_text, front_words, operands_text}

-- the first piece of what was left is written
pub moved : {A : Type 0} (old now piece rest whole all : List A) → now ≡ old ++ piece → whole ≡ piece ++ rest → old ++ whole ≡ all → now ++ rest ≡ all
moved old now piece rest whole all more is h = ap (λ t. t ++ rest) more ∙ append_assoc old piece rest ∙ ap (λ t. old ++ t) (sym is) ∙ h

pub opened_list : {A : Type 0} (xs : List A) (i : ℕ) (x : A) → i < length xs → x ≡ get_or xs i x → drop i xs ≡ x ∷ drop (i + 1) xs
opened_list xs i x h is = drop-cons xs i x h ∙ ap (λ m. get_or xs i x ∷ drop m xs) (sym (add-one i)) ∙ ap (λ y. y ∷ drop (i + 1) xs) (sym is)

pub calls_append : (xs ys : List said.Call) → calls_text (xs ++ ys) ≡ calls_text xs ++ calls_text ys
calls_append [] ys = refl
calls_append (x ∷ xs) ys = ap (λ t. line_text (said.Calls x) ++ t) (calls_append xs ys) ∙ sym (append_assoc (line_text (said.Calls x)) (calls_text xs) (calls_text ys))

pub items_append : (xs ys : List said.Item) → items_text (xs ++ ys) ≡ items_text xs ++ items_text ys
items_append xs ys = flat_map-append (λ i. said.spelled_item i ++ 44 ∷ []) xs ys

-- words behind bytes, and words with bytes between them
pub joined : (between last : ℕ) (w : List ℕ) (ws : List (List ℕ)) → join_with_byte between (w ∷ ws) ++ last ∷ [] ≡ w ++ ended_text between last ws
joined between last w [] = refl
joined between last w (x ∷ xs) =
    append_assoc w (between ∷ join_with_byte between (x ∷ xs)) (last ∷ [])
    ∙ ap (λ t. w ++ (between ∷ t)) (joined between last x xs)

-- a word behind a text that ends with a space, and the end of the line
pub spaced : (old first word : List ℕ) → ((old ++ (first ++ 32 ∷ [])) ++ word) ++ 10 ∷ [] ≡ old ++ words_text (first ∷ word ∷ [])
spaced old first word =
    append_assoc (old ++ (first ++ 32 ∷ [])) word (10 ∷ [])
    ∙ append_assoc old (first ++ 32 ∷ []) (word ++ 10 ∷ [])
    ∙ ap (λ t. old ++ t) (append_assoc first (32 ∷ []) (word ++ 10 ∷ []) ∙ sym (append_assoc first (32 ∷ word) (10 ∷ [])))

-- a word is the last of a line
pub last_word : (old word : List ℕ) → ((old ++ 32 ∷ []) ++ word) ++ 10 ∷ [] ≡ old ++ rest_text (word ∷ [])
last_word old word =
    append_assoc (old ++ 32 ∷ []) word (10 ∷ []) ∙ append_assoc old (32 ∷ []) (word ++ 10 ∷ [])

-- a word is written before others
pub then_words : (old word : List ℕ) (ws : List (List ℕ)) → ((old ++ 32 ∷ []) ++ word) ++ rest_text ws ≡ old ++ rest_text (word ∷ ws)
then_words old word ws =
    append_assoc (old ++ 32 ∷ []) word (rest_text ws) ∙ append_assoc old (32 ∷ []) (word ++ rest_text ws)

-- a word with its indices is written
pub indexed_word : {A B : Type 0} (view : A → B) (word : B → List ℕ) (base : List ℕ) (all : List A) (first : A) (others : List A) (old m1 m2 m3 new : List ℕ) → all ≡ first ∷ others
    → m1 ≡ old ++ base → m2 ≡ m1 ++ 91 ∷ [] → m3 ≡ m2 ++ word (view first) → new ≡ m3 ++ ended_text 44 93 (map word (map view others))
    → new ≡ old ++ indexed_text base (map word (map view all))
indexed_word view word base all first others old m1 m2 m3 new is e1 e2 e3 e =
    let rest = ended_text 44 93 (map word (map view others)) in
    e ∙ ap (λ t. t ++ rest) (e3 ∙ ap (λ t. t ++ word (view first)) (e2 ∙ ap (λ t. t ++ 91 ∷ []) e1))
    ∙ append_assoc ((old ++ base) ++ 91 ∷ []) (word (view first)) rest
    ∙ append_assoc (old ++ base) (91 ∷ []) (word (view first) ++ rest)
    ∙ append_assoc old base (91 ∷ (word (view first) ++ rest))
    ∙ ap (λ t. old ++ (base ++ (91 ∷ t))) (sym (joined 44 93 (word (view first)) (map word (map view others))))
    ∙ ap (λ xs. old ++ indexed_text base (map word (map view xs))) (sym is)

-- what stands at a place doesn't depend on what a read past the end would give
pub get_or_same : {A : Type 0} (xs : List A) (i : ℕ) (d : A) → i < length xs → get_or xs i d ≡ get_or xs i (get_or xs i d)
get_or_same (x ∷ xs) zero d h = refl
get_or_same (x ∷ xs) (suc i) d h = get_or_same xs i d (omega (arith, h))
get_or_same [] i d h = absurd (omega (arith, h))

-- the two parts of a call's line
pub line_of_call : (p : Pattern) (cast : Cast) (v e : ℕ) (call : Call)
    → line_text (said.Calls (call_said p cast v e call)) ≡ front_words call ++ operands_text (call_said p cast v e call)
line_of_call p cast v e (Put scope key value) = joined 32 10 (codes "put") (said.others_of_call (call_said p cast v e (Put scope key value)))
line_of_call p cast v e Commit = refl
line_of_call p cast v e (Fence items collect) = joined 32 10 (codes "fence") (said.others_of_call (call_said p cast v e (Fence items collect)))
line_of_call p cast v e (Get owner key) = joined 32 10 (codes "get") (said.others_of_call (call_said p cast v e (Get owner key)))
line_of_call p cast v e (GetNow owner key) = joined 32 10 (codes "get-now") (said.others_of_call (call_said p cast v e (GetNow owner key)))
line_of_call p cast v e (Publish name value) = joined 32 10 (codes "publish") (said.others_of_call (call_said p cast v e (Publish name value)))
line_of_call p cast v e (Lookup name) = joined 32 10 (codes "lookup") (said.others_of_call (call_said p cast v e (Lookup name)))
line_of_call p cast v e (LookupWait name) = joined 32 10 (codes "lookup-wait") (said.others_of_call (call_said p cast v e (LookupWait name)))
line_of_call p cast v e (Unpublish name) = joined 32 10 (codes "unpublish") (said.others_of_call (call_said p cast v e (Unpublish name)))
line_of_call p cast v e UnpublishAll = refl
