-- What is counted as one process after the other is.
use Rattle.std.proofs.Common.{◌≡◌, ◌≢◌, ◌∙◌, ap, sym, ℕ, ◌+◌, ◌<◌, ◌^◌, List, true, false, take, length, get_or, arith, inl, inr, eq-eqb, refl, ◌≤◌}
use Rattle.std.proofs.lemmas.Bool.{cases_Bool, and_parts, and_from, eqb-true, true≢false}
use Rattle.std.proofs.lemmas.List.{length-take-le}
use Rattle.std.proofs.lemmas.List.Sums.{count_by-le-length, count_by_more_yes, count_by_more_no}
use Rattle.wire_scripts.specs.Scripts.{Process}
use Rattle.wire_procmap.specs.declared.tally.Tally.{Tally}
use Rattle.wire_procmap.specs.Tallies.{is_same, counted, IsTally}
use Rattle.wire_procmap.proofs.Rows.{nobody}

pub same_pair : (a b : ℕ × ℕ) → is_same a b ≡ true → a ≡ b
same_pair a b t =
    let p = and_parts _ _ t in
    let first = eqb-true _ _ p.0 in
    let second = eqb-true _ _ p.1 in
    λ i. (first i, second i)

pub is_itself : (a : ℕ × ℕ) → is_same a a ≡ true
is_itself a = and_from _ _ (eq-eqb a.0 a.0 refl) (eq-eqb a.1 a.1 refl)

pub differs : (a b : ℕ × ℕ) → a ≢ b → is_same a b ≡ false
differs a b ne = elim (cases_Bool (is_same a b)) [
  | inl t ↦ absurd (ne (same_pair a b t))
  | inr f ↦ f
]

-- none is counted more often than there are processes
pub few_counted : (pair_of : Process → ℕ × ℕ) (processes : List Process) (n : ℕ) (tally : Tally) (pair : ℕ × ℕ) → n ≤ length processes → length processes < 2 ^ 31 →
    IsTally pair_of (take n processes) tally → counted tally pair + 1 < 2 ^ 32
few_counted pair_of processes n tally pair within few is =
    let most = count_by-le-length (λ q. is_same (pair_of q) pair) (take n processes) in
    omega (arith, is pair, most, length-take-le n processes within, few)

-- one more process is counted
pub counted_on : (pair_of : Process → ℕ × ℕ) (processes : List Process) (n : ℕ) (old new : Tally) (pair : ℕ × ℕ) → n < length processes → pair ≡ pair_of (get_or processes n nobody) →
    counted new pair ≡ counted old pair + 1 → ((other : ℕ × ℕ) → pair ≢ other → counted new other ≡ counted old other) →
    IsTally pair_of (take n processes) old → IsTally pair_of (take (n + 1) processes) new
counted_on pair_of processes n old new pair there its here others is = λ other. elim (cases_Bool (is_same (pair_of (get_or processes n nobody)) other)) [
  | inl t ↦
      (let same : pair ≡ other = its ∙ same_pair _ _ t in
      let more = count_by_more_yes (λ q. is_same (pair_of q) other) processes n nobody there t in
      ap (counted new) (sym same) ∙ here ∙ ap (λ p. counted old p + 1) same ∙ ap (λ c. c + 1) (is other) ∙ sym more)
  | inr f ↦
      (let ne : pair ≢ other = λ e. true≢false (sym (is_itself other) ∙ ap (λ p. is_same p other) (sym e ∙ its) ∙ f) in
      let more = count_by_more_no (λ q. is_same (pair_of q) other) processes n nobody there f in
      others other ne ∙ is other ∙ sym more)
]
