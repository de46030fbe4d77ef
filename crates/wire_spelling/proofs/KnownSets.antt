-- The sets that were spelt before, as a table is given one more.
use Rattle.std.proofs.Common.{◌≡◌, ◌∙◌, ap, sym, subst, ℕ, inl, inr, Bool, List, Some, None, if◌then◌else◌}
use Rattle.std.specs.Str.{bytes_eq}
use Rattle.std.specs.HashMap.{HashMap, get_by, Updates}
use Rattle.std.specs.Map.{lookup, IsKeyTest, AreApart, KeepsOthers}
use Rattle.std.proofs.lemmas.Bool.{cases_Bool}
use Rattle.std.proofs.lemmas.Option.{none-some, same_Some}
use Rattle.std.proofs.lemmas.Slice.Eq.{bytes_eq-Decides}
use Rattle.wire_spelling.specs.Known.{known_of, AreKnown}
use Rattle.wire_spelling.specs.Numbering.{IsSetNumbered, KeepsSets}
use Rattle.wire_spelling.specs.declared.known.KnownSets.{KnownSets}
use Rattle.wire_spelling.specs.declared.spelling.Spelt.{Spelt}

abbrev same_bytes : {K : Type 0} → (K → List ℕ) → K → K → Bool
same_bytes bytes x y = bytes_eq (bytes x) (bytes y)

module _ {K X : Type 0} (bytes : K → List ℕ) where
  kept : (test other : K → Bool) (old new : List (K × X)) → KeepsOthers (same_bytes bytes) test old new → IsKeyTest (same_bytes bytes) other → AreApart test other → lookup other new ≡ lookup other old
  unfolding KeepsOthers
  kept test other old new h = h other

module _ {K X S : Type 0} (bytes : K → List ℕ) where
  -- what a table finds after it was given one key and its value
  pub found_after : (m n : HashMap K X S) (k : K) (v : X) → Updates (same_bytes bytes) m n k (Some v) → (text : List ℕ)
      → get_by (λ q. bytes_eq text (bytes q)) n ≡ (if bytes_eq text (bytes k) then Some v else get_by (λ q. bytes_eq text (bytes q)) m)
  found_after m n k v h text = elim (cases_Bool (bytes_eq text (bytes k))) [
    | inl t ↦ rw t (subst (λ (w : List ℕ). get_by (λ q. bytes_eq w (bytes q)) n ≡ Some v) (sym ((bytes_eq-Decides text (bytes k)).0 t)) h.1)
    | inr f ↦
        rw f (kept bytes (same_bytes bytes k) (λ q. bytes_eq text (bytes q)) m.entries n.entries h.3
        (λ x y e. ap (λ t. bytes_eq t (bytes y)) ((bytes_eq-Decides text (bytes x)).0 e))
        (λ q e. ap (bytes_eq text) (sym ((bytes_eq-Decides (bytes k) (bytes q)).0 e)) ∙ f))
  ]

-- nothing is known
pub none_known : (table : List (List (List ℕ))) (known : KnownSets) → ((text : List ℕ) → known_of known text ≡ None) → AreKnown table known
none_known table known none text spelt is = absurd (none-some spelt (sym (none text) ∙ is))

-- the same is known of a table that has more
pub known_kept : (old new : List (List (List ℕ))) (known : KnownSets) → KeepsSets old new → AreKnown old known → AreKnown new known
known_kept old new known keeps are text spelt is =
    let t = are text spelt is in
    record { items = t.items; order = t.order; there = keeps spelt.number t.items t.there; twice = t.twice }

-- one set more
pub known_more : (old new : List (List (List ℕ))) (before after : KnownSets) (set : List ℕ) (spelt : Spelt) → KeepsSets old new → before.job.now ≡ after.job.now →
    ((text : List ℕ) → known_of after text ≡ (if bytes_eq text set then Some spelt else known_of before text)) → AreKnown old before →
    IsSetNumbered new (record { job = before.job.now; set = set }) spelt → AreKnown new after
known_more old new before after set spelt keeps job updated are this text other is = elim (cases_Bool (bytes_eq text set)) [
  | inl t ↦
      (let here = updated text in
      let same = same_Some spelt other (sym (rw t at here) ∙ is) in
      let of_set = subst (λ j. IsSetNumbered new (record { job = j; set = set }) spelt) job this in
      subst (λ s. IsSetNumbered new (record { job = after.job.now; set = text }) s) same
      (subst (λ w. IsSetNumbered new (record { job = after.job.now; set = w }) spelt) (sym ((bytes_eq-Decides text set).0 t)) of_set))
  | inr f ↦
      (let here = updated text in
      subst (λ j. IsSetNumbered new (record { job = j; set = text }) other) job (known_kept old new before keeps are text other (sym (rw f at here) ∙ is)))
]
