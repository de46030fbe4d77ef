-- The words that may be meant are those of lines of the format.
use Rattle.std.proofs.Common.{◌≡◌, refl, ℕ, Bool, true, false, cond, List, codes, inl, inr, sym, arith}
use Rattle.std.specs.List.{All, AllByRecursion}
use Rattle.std.specs.Str.{bytes_eq}
use Rattle.std.proofs.lemmas.List.Elements.{All-from_recursion}
use Rattle.std.proofs.lemmas.Slice.Eq.{bytes_eq-Decides}
use Rattle.wire_types.specs.declared.Scope.TheVariants.{Local, Remote, Global}
use Rattle.wire_types.specs.declared.Version.TheVariants.{One}
use Rattle.wire_lines.specs.Said.{Said, IsLawfulLine, first_word, Own, Header, Keep, Node, Job, Rank, Calls, Put, Commit, Fence, Get, GetNow, Publish, Lookup, LookupWait, UnpublishAll}
use Rattle.wire_lines.specs.Said.{collect_words}
use Rattle.wire_explain.specs.declared.language.Language.TheVariants.{Plan}
use Rattle.wire_explain.specs.Format.{IsOfFormat, UsagesAreLines, ChoicesAreWords, format_words, scopes}

-- a name, a key and a value
abbrev x : List ℕ
x = codes "x"

is_first : (said : Said) → IsLawfulLine said → (first : List ℕ) → IsOfFormat 0 first (first_word said)
is_first said lawful first = record { said = said; lawful = lawful; begins = inl refl; there = refl }

first_words : (first : List ℕ → List ℕ) → AllByRecursion (λ word. IsOfFormat 0 (first word) word) (format_words Plan)
first_words first = (
  is_first (Header One) tt (first (codes "rehearsal")),
  (
    is_first Keep tt (first (codes "keep")),
    (
      is_first (Node x) refl (first (codes "node")),
      (
        is_first (Job x) refl (first (codes "job")),
        (
          is_first (Rank x) refl (first (codes "rank")),
          (
            is_first (Calls (Put Local x x)) (refl, refl) (first (codes "put")),
            (
              is_first (Calls Commit) tt (first (codes "commit")),
              (
                is_first (Calls (Fence Own false)) tt (first (codes "fence")),
                (
                  is_first (Calls (Get x 0 x)) (refl, omega arith, refl) (first (codes "get")),
                  (
                    is_first (Calls (GetNow x 0 x)) (refl, omega arith, refl) (first (codes "get-now")),
                    (
                      is_first (Calls (Publish x x)) (refl, refl) (first (codes "publish")),
                      (
                        is_first (Calls (Lookup x)) refl (first (codes "lookup")),
                        (
                          is_first (Calls (LookupWait x)) refl (first (codes "lookup-wait")),
                          (
                            is_first (Calls UnpublishAll) tt (first (codes "unpublish")),
                            tt,
                          ),
                        ),
                      ),
                    ),
                  ),
                ),
              ),
            ),
          ),
        ),
      ),
    ),
  ),
)

pub usages_are_lines : UsagesAreLines
usages_are_lines = All-from_recursion (λ word. IsOfFormat 0 word word) (format_words Plan) (first_words (λ w. w))

of_put : (first : List ℕ) → first ≡ codes "put" → AllByRecursion (IsOfFormat 1 first) scopes
of_put first is = (
  record { said = Calls (Put Local x x); lawful = (refl, refl); begins = inr (sym is); there = refl },
  (
    record { said = Calls (Put Remote x x); lawful = (refl, refl); begins = inr (sym is); there = refl },
    (record { said = Calls (Put Global x x); lawful = (refl, refl); begins = inr (sym is); there = refl }, tt),
  ),
)

of_fence : (first : List ℕ) → first ≡ codes "fence" → AllByRecursion (IsOfFormat 2 first) (collect_words true)
of_fence first is = (record { said = Calls (Fence Own true); lawful = tt; begins = inr (sym is); there = refl }, tt)

by_first : (first : List ℕ) (put fence : Bool) → (put ≡ true → first ≡ codes "put") → (fence ≡ true → first ≡ codes "fence") →
    All (IsOfFormat (cond put 1 (cond fence 2 0)) first) (cond put scopes (cond fence (collect_words true) (format_words Plan)))
by_first first true fence is_put is_fence = All-from_recursion (IsOfFormat 1 first) scopes (of_put first (is_put refl))
by_first first false true is_put is_fence = All-from_recursion (IsOfFormat 2 first) (collect_words true) (of_fence first (is_fence refl))
by_first first false false is_put is_fence = All-from_recursion (IsOfFormat 0 first) (format_words Plan) (first_words (λ w. first))

pub choices_are_words : ChoicesAreWords
choices_are_words first = by_first first (bytes_eq first (codes "put")) (bytes_eq first (codes "fence"))
    (bytes_eq-Decides first (codes "put")).0 (bytes_eq-Decides first (codes "fence")).0
