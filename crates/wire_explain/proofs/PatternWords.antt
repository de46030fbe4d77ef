-- The words that may be meant are those of lines of a pattern.
use Rattle.std.proofs.Common.{◌≡◌, refl, ℕ, Bool, true, false, cond, List, [], ◌∷◌, codes, inl, inr, sym}
use Rattle.std.specs.List.{All, AllByRecursion}
use Rattle.std.specs.Str.{bytes_eq}
use Rattle.std.proofs.lemmas.List.Elements.{All-from_recursion}
use Rattle.std.proofs.lemmas.Slice.Eq.{bytes_eq-Decides}
use Rattle.wire_types.specs.declared.Scope.TheVariants.{Local, Remote, Global}
use Rattle.wire_types.specs.Said.{collect_words}
use Rattle.wire_runs.specs.Patterns.{InOrder}
use Rattle.wire_pattern_lines.specs.Said.{Said, Key, is_lawful, first_word, Own, Caller, Header, Keep, Job, Single, Many, Begin, End, Calls, Put, Commit, Fence, Get, GetNow, Publish, Lookup, LookupWait, UnpublishAll}
use Rattle.wire_explain.specs.declared.language.Language.TheVariants.{Pattern}
use Rattle.wire_explain.specs.Format.{IsOfPattern, PatternUsagesAreLines, PatternChoicesAreWords, format_words, scopes}

-- a name, a value and a key
abbrev x : List ℕ
x = codes "x"

abbrev k : Key
k = record { base = x; indices = [] }

is_first : (said : Said) → is_lawful said ≡ true → (first : List ℕ) → IsOfPattern 0 first (first_word said)
is_first said lawful first = record { said = said; lawful = lawful; begins = inl refl; there = refl }

first_words : (first : List ℕ → List ℕ) → AllByRecursion (λ word. IsOfPattern 0 (first word) word) (format_words Pattern)
first_words first = (
  is_first Header refl (first (codes "pattern")),
  (
    is_first Keep refl (first (codes "keep")),
    (
      is_first (Job x) refl (first (codes "job")),
      (
        is_first (Single x) refl (first (codes "one")),
        (
          is_first (Many x 0) refl (first (codes "many")),
          (
            is_first (Calls (Put Local k x)) refl (first (codes "put")),
            (
              is_first (Calls Commit) refl (first (codes "commit")),
              (
                is_first (Calls (Fence Own false)) refl (first (codes "fence")),
                (
                  is_first (Calls (Get Caller k)) refl (first (codes "get")),
                  (
                    is_first (Calls (GetNow Caller k)) refl (first (codes "get-now")),
                    (
                      is_first (Calls (Publish k x)) refl (first (codes "publish")),
                      (
                        is_first (Calls (Lookup k)) refl (first (codes "lookup")),
                        (
                          is_first (Calls (LookupWait k)) refl (first (codes "lookup-wait")),
                          (
                            is_first (Calls UnpublishAll) refl (first (codes "unpublish")),
                            (
                              is_first (Begin InOrder (x ∷ [])) refl (first (codes "for")),
                              (
                                is_first End refl (first (codes "end")),
                                tt,
                              ),
                            ),
                          ),
                        ),
                      ),
                    ),
                  ),
                ),
              ),
            ),
          ),
        ),
      ),
    ),
  ),
)

pub usages_are_lines : PatternUsagesAreLines
usages_are_lines = All-from_recursion (λ word. IsOfPattern 0 word word) (format_words Pattern) (first_words (λ w. w))

of_put : (first : List ℕ) → first ≡ codes "put" → AllByRecursion (IsOfPattern 1 first) scopes
of_put first is = (
  record { said = Calls (Put Local k x); lawful = refl; begins = inr (sym is); there = refl },
  (
    record { said = Calls (Put Remote k x); lawful = refl; begins = inr (sym is); there = refl },
    (record { said = Calls (Put Global k x); lawful = refl; begins = inr (sym is); there = refl }, tt),
  ),
)

of_fence : (first : List ℕ) → first ≡ codes "fence" → AllByRecursion (IsOfPattern 2 first) (collect_words true)
of_fence first is = (record { said = Calls (Fence Own true); lawful = refl; begins = inr (sym is); there = refl }, tt)

by_first : (first : List ℕ) (put fence : Bool) → (put ≡ true → first ≡ codes "put") → (fence ≡ true → first ≡ codes "fence") →
    All (IsOfPattern (cond put 1 (cond fence 2 0)) first) (cond put scopes (cond fence (collect_words true) (format_words Pattern)))
by_first first true fence is_put is_fence = All-from_recursion (IsOfPattern 1 first) scopes (of_put first (is_put refl))
by_first first false true is_put is_fence = All-from_recursion (IsOfPattern 2 first) (collect_words true) (of_fence first (is_fence refl))
by_first first false false is_put is_fence = All-from_recursion (IsOfPattern 0 first) (format_words Pattern) (first_words (λ w. first))

pub choices_are_words : PatternChoicesAreWords
choices_are_words first = by_first first (bytes_eq first (codes "put")) (bytes_eq first (codes "fence"))
    (bytes_eq-Decides first (codes "put")).0 (bytes_eq-Decides first (codes "fence")).0
