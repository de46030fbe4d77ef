-- What was noted stays so while the table of sets goes on.
use Rattle.std.proofs.Common.{◌≡◌, ◌∙◌, ap, sym, subst, refl, ℕ, List, [], ◌∷◌, ◌++◌, Bool, true, false, cond, Option, Some, None, map, arith, true≢false}
use Rattle.std.specs.Prelude.{◌≢◌, ◌&&◌}
use Rattle.std.specs.List.{All, AllByRecursion, Contains}
use Rattle.std.specs.Map.{lookup}
use Rattle.std.proofs.lemmas.List.Elements.{All-from_recursion, All-nil, All-push, All-contains, All-weaker, Contains-get_or, Contains-append_right}
use lib.Pointwise.{pointwise}
use Rattle.std.proofs.lemmas.List.{map-append}
use Rattle.wire_reader.specs.FirstPass.{Declared, is_among, number_or_count}
use Rattle.wire_reader.specs.Tabled.{with_text, IsPrefix}
use Rattle.wire_reader.specs.Targets.{named_in, Note, IsNote, AreNotesOf}
use Rattle.wire_reader.specs.declared.members.Target.{Target}
use Rattle.wire_reader.proofs.Seen.{among_with, among_kept, number_kept, with_goes_on}
use Rattle.wire_reader.proofs.Targets.{same_target, same_is, same_self}

pub same_all : (xs ys : List Target) → pointwise same_target xs ys ≡ true → xs ≡ ys
same_all [] [] e = refl
same_all [] (y ∷ ys) e = absurd (true≢false (sym e))
same_all (x ∷ xs) [] e = absurd (true≢false (sym e))
same_all (x ∷ xs) (y ∷ ys) e = first (same_target x y) refl e (same_all xs ys)
  where
    first : (b : Bool) → same_target x y ≡ b → (b && pointwise same_target xs ys) ≡ true → (pointwise same_target xs ys ≡ true → xs ≡ ys) → x ∷ xs ≡ y ∷ ys
    first true f g rest = let head = same_is x y f in let tail = rest g in cc
    first false f g rest = absurd (true≢false (sym g))

itself : (xs : List Target) → pointwise same_target xs xs ≡ true
itself [] = refl
itself (x ∷ xs) = rw (same_self x, itself xs) refl

module _ {K : Type 0} (items : K → List Target) where
  abbrev pub shown : K × ℕ → Note
  shown e = (items e.0, e.1)

  -- a number that is found was noted
  pub found : (ts : List Target) (es : List (K × ℕ)) (n : ℕ) → lookup (λ k. pointwise same_target ts (items k)) es ≡ Some n → Contains (map shown es) (ts, n)
  found ts [] n h = absurd (cc)
  found ts (e ∷ es) n h = first (pointwise same_target ts (items e.0)) refl h (found ts es n)
    where
      first : (b : Bool) → pointwise same_target ts (items e.0) ≡ b → cond b (Some e.1) (lookup (λ k. pointwise same_target ts (items k)) es) ≡ Some n
          → (lookup (λ k. pointwise same_target ts (items k)) es ≡ Some n → Contains (map shown es) (ts, n)) → Contains (shown e ∷ map shown es) (ts, n)
      first true f g rest =
          let number : e.1 ≡ n = cc in
          let is : shown e ≡ (ts, n) = λ i. (sym (same_all ts (items e.0) f) i, number i) in
          subst (Contains (shown e ∷ map shown es)) is (Contains-get_or (shown e ∷ map shown es) 0 (shown e) (omega arith))
      first false f g rest = Contains-append_right (shown e ∷ []) (map shown es) (ts, n) (rest g)

  -- where none is found, none was noted
  others : (ts : List Target) (es : List (K × ℕ)) → lookup (λ k. pointwise same_target ts (items k)) es ≡ None → AllByRecursion (λ e. e.0 ≢ ts) (map shown es)
  others ts [] h = tt
  others ts (e ∷ es) h = first (pointwise same_target ts (items e.0)) refl h (others ts es)
    where
      first : (b : Bool) → pointwise same_target ts (items e.0) ≡ b → cond b (Some e.1) (lookup (λ k. pointwise same_target ts (items k)) es) ≡ None
          → (lookup (λ k. pointwise same_target ts (items k)) es ≡ None → AllByRecursion (λ e. e.0 ≢ ts) (map shown es)) → AllByRecursion (λ e. e.0 ≢ ts) (map shown (e ∷ es))
      first true f g rest = absurd (cc)
      first false f g rest = (λ is. absurd (true≢false (sym (subst (λ l. pointwise same_target ts l ≡ true) (sym is) (itself ts)) ∙ f)), rest g)

  pub missing : (ts : List Target) (es : List (K × ℕ)) → lookup (λ k. pointwise same_target ts (items k)) es ≡ None → All (λ e. e.0 ≢ ts) (map shown es)
  missing ts es h = All-from_recursion (λ e. e.0 ≢ ts) (map shown es) (others ts es h)

  -- what wasn't noted isn't found
  pub absent : (ts : List Target) (es : List (K × ℕ)) (k : K) → items k ≡ ts → All (λ e. e.0 ≢ ts) (map shown es) → lookup (λ y. pointwise same_target (items k) (items y)) es ≡ None
  absent ts es k is apart = go (lookup (λ y. pointwise same_target (items k) (items y)) es) refl
    where
      go : (o : Option ℕ) → lookup (λ y. pointwise same_target (items k) (items y)) es ≡ o → o ≡ None
      go None e = refl
      go (Some n) e = absurd (All-contains (λ e. e.0 ≢ ts) (map shown es) (items k, n) apart (found (items k) es n e) is)

  -- a note goes last
  pub noted_last : (es new : List (K × ℕ)) (k : K) (n : ℕ) (old : List Note) (ts : List Target) → map shown es ≡ old → items k ≡ ts → new ≡ es ++ (k, n) ∷ [] → map shown new ≡ old ++ (ts, n) ∷ []
  noted_last es new k n old ts was is last =
      ap (map shown) last ∙ map-append shown es ((k, n) ∷ []) ∙ (λ i. was i ++ (is i, n) ∷ [])

-- a note of a table is one of a later table
note_kept : (d : Declared) (sets later : List (List ℕ)) (note : Note) → IsPrefix sets later → IsNote d sets note → IsNote d later note
note_kept d sets later note goes is = record {
  there = among_kept sets later (named_in d note.0) is.there goes;
  number = is.number ∙ number_kept sets later (named_in d note.0) is.there goes;
}

-- what a note says
pub note_says : (d : Declared) (sets : List (List ℕ)) (notes : List Note) (note : Note) → AreNotesOf d sets notes → Contains notes note → IsNote d sets note
note_says d sets notes note all there = All-contains (IsNote d sets) notes note all.each there

-- nothing is noted
pub none_noted : (d : Declared) (sets : List (List ℕ)) (notes : List Note) → notes ≡ [] → AreNotesOf d sets notes
none_noted d sets notes none = record { each = subst (All (IsNote d sets)) (sym none) (All-nil (IsNote d sets)) }

-- the number of a set that is added may be noted
pub noted_on : (d : Declared) (sets new : List (List ℕ)) (notes later : List Note) (targets : List Target) (n : ℕ) → AreNotesOf d sets notes → new ≡ with_text sets (named_in d targets)
    → n ≡ number_or_count new (named_in d targets) → later ≡ notes ++ (targets, n) ∷ [] → AreNotesOf d new later
noted_on d sets new notes later targets n all is number last =
    let goes : IsPrefix sets new = subst (IsPrefix sets) (sym is) (with_goes_on sets (named_in d targets)) in
    let kept = All-weaker (IsNote d sets) (IsNote d new) (λ note. note_kept d sets new note goes) notes all.each in
    let note : IsNote d new (targets, n) = record { there = subst (λ t. is_among t (named_in d targets) ≡ true) (sym is) (among_with sets (named_in d targets)); number = number } in
    record { each = subst (All (IsNote d new)) (sym last) (All-push (IsNote d new) notes (targets, n) kept note) }
