-- What sets of call lines have.
use Rattle.std.proofs.Common.{◌≡◌, ◌∙◌, ap, sym, refl, ℕ, zero, suc, ◌<◌, ◌≤◌, ◌||◌, ◌&&◌, List, [], ◌∷◌, ◌++◌, Bool, true, false, length, take, get_or, Some, Vec, Global, eq-eqb, ne_eqb, inl, inr, arith}
use Rattle.std.specs.Prelude.{replicate, slice_get, ◌==◌}
use Rattle.std.proofs.Math.ListN.{set}
use Rattle.std.proofs.lemmas.Bool.{cases_eq}
use Rattle.std.proofs.lemmas.List.{take_all, get_or-set_same, get_or-set_other, length-map}
use Rattle.std.proofs.lemmas.Option.{same_Some}
use Rattle.wire_types.specs.Texts.{lists_of}
use Rattle.wire_runs.proofs.Lists.{not_in_empty}
use Rattle.wire_pattern_waits.specs.LineSets.{has_line}

-- the empty set has none
pub none_in : (role line : ℕ) → has_line [] role line ≡ false
unfolding has_line
none_in role line = refl

pub none_there : (rows : List (Vec Bool Global)) (role line : ℕ) → rows ≡ [] → has_line (lists_of rows) role line ≡ false
none_there rows role line none = ap (λ rs. has_line (lists_of rs) role line) none ∙ none_in role line

-- what a row says
pub row_says : (rows : List (Vec Bool Global)) (role line : ℕ) (row : Vec Bool Global) (flag : Bool) → slice_get rows role ≡ Some row
    → flag ≡ get_or row.items line false → flag ≡ has_line (lists_of rows) role line
unfolding has_line
row_says [] role line row flag at is = absurd (not_in_empty role row at)
row_says (r ∷ rows) zero line row flag at is = is ∙ ap (λ (v : Vec Bool Global). get_or v.items line false) (sym (same_Some r row at))
row_says (r ∷ rows) (suc role) line row flag at is = row_says rows role line row flag at is

-- and one that isn't there
pub no_row : (rows : List (Vec Bool Global)) (role line : ℕ) → length rows ≤ role → false ≡ has_line (lists_of rows) role line
unfolding has_line
no_row [] role line past = refl
no_row (r ∷ rows) zero line past = absurd (omega (arith, past))
no_row (r ∷ rows) (suc role) line past = no_row rows role line (omega (arith, past))

-- nor has a row that isn't there more than an empty one
row_behind : (rows : List (List Bool)) (role line : ℕ) → has_line (rows ++ [] ∷ []) role line ≡ has_line rows role line
unfolding has_line
row_behind [] zero line = refl
row_behind [] (suc role) line = refl
row_behind (row ∷ rows) zero line = refl
row_behind (row ∷ rows) (suc role) line = row_behind rows role line

map_behind : (rows : List (Vec Bool Global)) (row : Vec Bool Global) → lists_of (rows ++ row ∷ []) ≡ lists_of rows ++ row.items ∷ []
map_behind [] row = refl
map_behind (r ∷ rows) row = ap (λ rs. r.items ∷ rs) (map_behind rows row)

pub one_row : (old rows now : List (Vec Bool Global)) (row : Vec Bool Global) → now ≡ rows ++ row ∷ [] → row.items ≡ []
    → ((role line : ℕ) → has_line (lists_of rows) role line ≡ has_line (lists_of old) role line)
    → (role line : ℕ) → has_line (lists_of now) role line ≡ has_line (lists_of old) role line
one_row old rows now row more empty same role line =
    ap (λ rs. has_line rs role line) (ap lists_of more ∙ map_behind rows row ∙ ap (λ r. lists_of rows ++ r ∷ []) empty)
    ∙ row_behind (lists_of rows) role line ∙ same role line

-- flags that aren't set say nothing
unset : (n line : ℕ) → get_or (replicate n false) line false ≡ false
unset zero line = refl
unset (suc n) zero = refl
unset (suc n) (suc line) = unset n line

flags_behind : (flags : List Bool) (n line : ℕ) → get_or (flags ++ replicate n false) line false ≡ get_or flags line false
flags_behind [] n line = unset n line
flags_behind (flag ∷ flags) n zero = refl
flags_behind (flag ∷ flags) n (suc line) = flags_behind flags n line

pub longer : (old now : List Bool) (count n : ℕ) → length old ≤ count → now ≡ take count old ++ replicate n false
    → (line : ℕ) → get_or now line false ≡ get_or old line false
longer old now count n le is line =
    ap (λ fs. get_or fs line false) (is ∙ ap (λ fs. fs ++ replicate n false) (take_all count old le)) ∙ flags_behind old n line

or_true : (b : Bool) → true ≡ b || true
or_true true = refl
or_true false = refl

or_false : (b : Bool) → b ≡ b || false
or_false true = refl
or_false false = refl

-- one flag more
pub one_flag : (old flags now : List Bool) (n : ℕ) → n < length flags → now ≡ set flags n true
    → ((line : ℕ) → get_or flags line false ≡ get_or old line false)
    → (line : ℕ) → get_or now line false ≡ get_or old line false || n == line
one_flag old flags now n lt is same line =
    ap (λ fs. get_or fs line false) is ∙ elim (cases_eq line n) [
      | inl e ↦ ap (λ m. get_or (set flags n true) m false) e ∙ get_or-set_same flags n true false lt ∙ or_true (get_or old line false)
          ∙ ap (λ b. get_or old line false || b) (sym (eq-eqb n line (sym e)))
      | inr ne ↦ get_or-set_other flags n line true false ne ∙ same line ∙ or_false (get_or old line false)
          ∙ ap (λ b. get_or old line false || b) (sym (ne_eqb n line (λ e. ne (sym e))))
    ]

map_set : (rows : List (Vec Bool Global)) (n : ℕ) (row : Vec Bool Global) → lists_of (set rows n row) ≡ set (lists_of rows) n row.items
map_set [] n row = refl
map_set (r ∷ rows) zero row = refl
map_set (r ∷ rows) (suc n) row = ap (λ rs. r.items ∷ rs) (map_set rows n row)

-- one line more
pub one_line : (old : List (List Bool)) (rows : List (Vec Bool Global)) (n line : ℕ) (before row : Vec Bool Global) → n < length rows → before ≡ get_or rows n before
    → ((l : ℕ) → get_or row.items l false ≡ get_or before.items l false || line == l)
    → ((r l : ℕ) → has_line (lists_of rows) r l ≡ has_line old r l)
    → (r l : ℕ) → has_line (lists_of (set rows n row)) r l ≡ has_line old r l || (n == r && line == l)
unfolding has_line
one_line old rows n line before row lt was more same r l =
    ap (λ rs. get_or (get_or rs r []) l false) (map_set rows n row) ∙ elim (cases_eq r n) [
      | inl e ↦ ap (λ m. get_or (get_or (set (lists_of rows) n row.items) m []) l false) e
          ∙ ap (λ fs. get_or fs l false) (get_or-set_same (lists_of rows) n row.items [] (within lt)) ∙ more l
          ∙ ap (λ fs. get_or fs l false || line == l) (there rows n before lt was)
          ∙ ap (λ b. b || line == l) (ap (λ m. get_or (get_or (lists_of rows) m []) l false) (sym e) ∙ same r l)
          ∙ ap (λ b. get_or (get_or old r []) l false || (b && line == l)) (sym (eq-eqb n r (sym e)))
      | inr ne ↦ ap (λ fs. get_or fs l false) (get_or-set_other (lists_of rows) n r row.items [] ne) ∙ same r l
          ∙ or_false (get_or (get_or old r []) l false)
          ∙ ap (λ b. get_or (get_or old r []) l false || (b && line == l)) (sym (ne_eqb n r (λ e. ne (sym e))))
    ]
  where
    within : n < length rows → n < length (lists_of rows)
    within h = let e = length-map rows (λ r. r.items) in omega (arith, h, e)

    there : (rs : List (Vec Bool Global)) (m : ℕ) (b : Vec Bool Global) → m < length rs → b ≡ get_or rs m b → b.items ≡ get_or (lists_of rs) m []
    there [] m b h e = absurd (omega (arith, h))
    there (q ∷ rs) zero b h e = ap (λ r. r.items) e
    there (q ∷ rs) (suc m) b h e = there rs m b (omega (arith, h)) e
