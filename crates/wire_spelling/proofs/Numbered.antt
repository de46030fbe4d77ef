-- Rows that are told by one table of lists are numbered.
use Rattle.std.proofs.Common.{◌≡◌, ℕ, zero, suc, List, [], ◌∷◌, ◌++◌, Option, Some, None, refl, sym, ap, ◌∙◌, subst, arith, length, ◌<◌, Vec, Global, drop, map}
use Rattle.std.specs.Prelude.{slice_get, slice_index_or}
use Rattle.std.proofs.lemmas.Option.{same_Some}
use Rattle.wire_spelling.specs.Spelling.{SpelledSet, AreSpeltAlike, AreSetsNumbered, at_call, times}
use Rattle.wire_spelling.specs.Numbering.{AreSetsDistinct, KeepsSets, IsSetNumbered, IsCallTold, IsRowTold, AreRowsTold}
use Rattle.wire_spelling.specs.declared.spelling.Spelt.{Spelt}
use Rattle.wire_spelling.proofs.ItemOrder.{one_order}

pub keeps_all : (table : List (List (List ℕ))) → KeepsSets table table
keeps_all table n items is = is

pub keeps_both : (a b c : List (List (List ℕ))) → KeepsSets a b → KeepsSets b c → KeepsSets a c
keeps_both a b c one two n items is = two n items (one n items is)

-- what is told stays told
call_kept : (old new : List (List (List ℕ))) → KeepsSets old new → (set : Option SpelledSet) (spelt : Option Spelt) → IsCallTold old set spelt → IsCallTold new set spelt
call_kept old new keeps None None t = tt
call_kept old new keeps None (Some spelt) t = t
call_kept old new keeps (Some set) None t = t
call_kept old new keeps (Some set) (Some spelt) t = record { items = t.items; order = t.order; there = keeps spelt.number t.items t.there; twice = t.twice }

row_kept : (old new : List (List (List ℕ))) → KeepsSets old new → (sets : List (Option SpelledSet)) (spelts : List (Option Spelt)) → IsRowTold old sets spelts → IsRowTold new sets spelts
row_kept old new keeps [] [] t = tt
row_kept old new keeps [] (spelt ∷ spelts) t = t
row_kept old new keeps (set ∷ sets) [] t = t
row_kept old new keeps (set ∷ sets) (spelt ∷ spelts) t = (call_kept old new keeps set spelt t.0, row_kept old new keeps sets spelts t.1)

pub rows_kept : (old new : List (List (List ℕ))) → KeepsSets old new → (sets : List (List (Option SpelledSet))) (spelts : List (List (Option Spelt))) → AreRowsTold old sets spelts → AreRowsTold new sets spelts
rows_kept old new keeps [] [] t = tt
rows_kept old new keeps [] (spelt ∷ spelts) t = t
rows_kept old new keeps (set ∷ sets) [] t = t
rows_kept old new keeps (set ∷ sets) (spelt ∷ spelts) t = (row_kept old new keeps set spelt t.0, rows_kept old new keeps sets spelts t.1)

-- one more call, and one more row
row_pushed : (table : List (List (List ℕ))) (sets : List (Option SpelledSet)) (spelts : List (Option Spelt)) (set : Option SpelledSet) (spelt : Option Spelt) →
    IsRowTold table sets spelts → IsCallTold table set spelt → IsRowTold table (sets ++ set ∷ []) (spelts ++ spelt ∷ [])
row_pushed table [] [] set spelt t new = (new, tt)
row_pushed table [] (y ∷ spelts) set spelt t new = absurd t
row_pushed table (x ∷ sets) [] set spelt t new = absurd t
row_pushed table (x ∷ sets) (y ∷ spelts) set spelt t new = (t.0, row_pushed table sets spelts set spelt t.1 new)

pub rows_pushed : (table : List (List (List ℕ))) (sets : List (List (Option SpelledSet))) (spelts : List (List (Option Spelt))) (set : List (Option SpelledSet)) (spelt : List (Option Spelt)) →
    AreRowsTold table sets spelts → IsRowTold table set spelt → AreRowsTold table (sets ++ set ∷ []) (spelts ++ spelt ∷ [])
rows_pushed table [] [] set spelt t new = (new, tt)
rows_pushed table [] (y ∷ spelts) set spelt t new = absurd t
rows_pushed table (x ∷ sets) [] set spelt t new = absurd t
rows_pushed table (x ∷ sets) (y ∷ spelts) set spelt t new = (t.0, rows_pushed table sets spelts set spelt t.1 new)

pub row_more : (old new : List (List (List ℕ))) (sets : List (Option SpelledSet)) (spelts : List (Option Spelt)) (set : Option SpelledSet) (spelt : Option Spelt) →
    KeepsSets old new → IsRowTold old sets spelts → IsCallTold new set spelt → IsRowTold new (sets ++ set ∷ []) (spelts ++ spelt ∷ [])
row_more old new sets spelts set spelt keeps t told = row_pushed new sets spelts set spelt (row_kept old new keeps sets spelts t) told

module _ (table : List (List (List ℕ))) where
  in_row : (sets : List (Option SpelledSet)) (spelts : List (Option Spelt)) → IsRowTold table sets spelts → (c : ℕ) →
      IsCallTold table (slice_index_or sets c None) (slice_index_or spelts c None)
  in_row [] [] t c = tt
  in_row [] (y ∷ spelts) t c = absurd t
  in_row (x ∷ sets) [] t c = absurd t
  in_row (x ∷ sets) (y ∷ spelts) t zero = t.0
  in_row (x ∷ sets) (y ∷ spelts) t (suc c) = in_row sets spelts t.1 c

  in_rows : (sets : List (List (Option SpelledSet))) (spelts : List (List (Option Spelt))) → AreRowsTold table sets spelts → (p : ℕ) →
      IsRowTold table (slice_index_or sets p []) (slice_index_or spelts p [])
  in_rows [] [] t p = tt
  in_rows [] (y ∷ spelts) t p = absurd t
  in_rows (x ∷ sets) [] t p = absurd t
  in_rows (x ∷ sets) (y ∷ spelts) t zero = t.0
  in_rows (x ∷ sets) (y ∷ spelts) t (suc p) = in_rows sets spelts t.1 p

  none_told : (spelt : Option Spelt) → IsCallTold table None spelt → spelt ≡ None
  none_told None t = refl
  none_told (Some spelt) t = absurd t

  some_told : (set : SpelledSet) (spelt : Option Spelt) → IsCallTold table (Some set) spelt → (one : Spelt) × (spelt ≡ Some one)
  some_told set None t = absurd t
  some_told set (Some spelt) t = (spelt, refl)

  module _ (apart : AreSetsDistinct table) (one other : SpelledSet) (a b : Spelt) (t : IsSetNumbered table one a) (u : IsSetNumbered table other b) where
    alike_told : a.number ≡ b.number → AreSpeltAlike one other
    alike_told e item =
        let same : t.items ≡ u.items = same_Some _ _ (sym t.there ∙ ap (slice_get table) e ∙ u.there) in
        sym (t.order.same item) ∙ ap (times item) same ∙ u.order.same item

    told_alike : AreSpeltAlike one other → a.number ≡ b.number
    told_alike alike =
        let same = one_order t.items u.items t.order.ascending u.order.ascending (λ item. t.order.same item ∙ alike item ∙ sym (u.order.same item)) in
        apart a.number b.number u.items (t.there ∙ ap Some same) u.there

  pub numbered : AreSetsDistinct table → (sets : List (List (Option SpelledSet))) (spelts : List (List (Option Spelt))) → AreRowsTold table sets spelts → AreSetsNumbered sets spelts
  numbered apart sets spelts t = record {
    none = λ p c is. none_told (at_call spelts p c) (subst (λ o. IsCallTold table o (at_call spelts p c)) is (at p c));
    some = λ p c set is. some_told set (at_call spelts p c) (subst (λ o. IsCallTold table o (at_call spelts p c)) is (at p c));
    twice = λ p c set spelt is has. (told p c set spelt is has).twice;
    alike = λ p c q d one other a b is_one is_other has_a has_b.
        let u = told p c one a is_one has_a in
        let v = told q d other b is_other has_b in
        (alike_told apart one other a b u v, told_alike apart one other a b u v);
  }
    where
      at : (p c : ℕ) → IsCallTold table (at_call sets p c) (at_call spelts p c)
      at p c = in_row _ _ (in_rows sets spelts t p) c

      told : (p c : ℕ) (set : SpelledSet) (spelt : Spelt) → at_call sets p c ≡ Some set → at_call spelts p c ≡ Some spelt → IsSetNumbered table set spelt
      told p c set spelt is has =
          subst (λ o. IsCallTold table (Some set) o) has (subst (λ o. IsCallTold table o (at_call spelts p c)) is (at p c))

-- the rows behind the first
pub behind_told : (table : List (List (List ℕ))) (first : List (Option SpelledSet)) (sets : List (List (Option SpelledSet))) (rows : List (Vec (Option Spelt) Global)) →
    AreRowsTold table (first ∷ sets) (map (λ row. row.items) rows) → AreRowsTold table sets (map (λ row. row.items) (drop 1 rows))
behind_told table first sets [] t = absurd t
behind_told table first sets (row ∷ rows) t = t.1

pub first_told : (table : List (List (List ℕ))) (first : List (Option SpelledSet)) (sets : List (List (Option SpelledSet))) (rows : List (Vec (Option Spelt) Global)) →
    AreRowsTold table (first ∷ sets) (map (λ row. row.items) rows) → 0 < length rows
first_told table first sets [] t = absurd t
first_told table first sets (row ∷ rows) t = omega arith
