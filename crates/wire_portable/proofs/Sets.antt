-- Sets of libraries.
use Rattle.std.proofs.Common.{◌≡◌, ◌||◌, Bool, true, false, not, refl, sym, ◌∙◌}
use Rattle.std.proofs.lemmas.Bool.{true≢false}
use Rattle.wire_portable.specs.declared.libraries.Libraries.{Libraries}
use Rattle.wire_portable.specs.declared.libraries.Library.{Library}
use Rattle.wire_portable.specs.declared.libraries.Library.TheVariants.{V4, V5, V7}
use Rattle.wire_portable.specs.Libraries.{family_of, has, all, only_v4, either}

pub has_all : (library : Library) → has all library ≡ true
has_all V4 = refl
has_all V5 = refl
has_all V7 = refl

pub not_all : (library : Library) → has all library ≡ false → ⊥
not_all library h = true≢false (sym (has_all library) ∙ h)

-- 4.2 is the one that is flaky, or answers at once
pub not_flaky : (library : Library) → has only_v4 library ≡ false → (family_of library).flaky ≡ true → ⊥
not_flaky V4 h f = true≢false h
not_flaky V5 h f = true≢false (sym f)
not_flaky V7 h f = true≢false (sym f)

pub not_at_once : (library : Library) → has only_v4 library ≡ false → (family_of library).at_once ≡ false
not_at_once V4 h = absurd (true≢false h)
not_at_once V5 h = refl
not_at_once V7 h = refl

or_false : (a b : Bool) → (a || b) ≡ false → (a ≡ false) × (b ≡ false)
or_false false b h = (refl, h)
or_false true b h = absurd (true≢false h)

pub of_either : (library : Library) (s t : Libraries) → has (either s t) library ≡ false → (has s library ≡ false) × (has t library ≡ false)
of_either V4 s t h = or_false s.v4 t.v4 h
of_either V5 s t h = or_false s.v5 t.v5 h
of_either V7 s t h = or_false s.v7 t.v7 h

pub not_false : (b : Bool) → not b ≡ false → b ≡ true
not_false true h = refl
not_false false h = absurd (true≢false h)

-- what isn't of a set that has 4.2 isn't 4.2
pub not_v4 : (library : Library) (found : Libraries) → found.v4 ≡ true → has found library ≡ false → has only_v4 library ≡ false
not_v4 V4 found t f = absurd (true≢false (sym t ∙ f))
not_v4 V5 found t f = refl
not_v4 V7 found t f = refl
