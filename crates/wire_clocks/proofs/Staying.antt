-- Clocks stay what they are.
use Rattle.std.proofs.Common.{◌≡◌, ◌∙◌, ◌^◌, ◌<◌, ◌/◌, ◌*◌, ℕ, sym, ap, subst, arith}
use Rattle.std.proofs.Math.Nat.{one-le-pow, zero-mul}
use Rattle.std.proofs.lemmas.Nat.{div-add-mod', mod_below}
use Rattle.wire_clocks.specs.ClockTrees.{Clocks, Holds, HasZeros, Keeps}

-- a process whose place is 0 is below the width
pub below_width : (p k : ℕ) → p / 16 ^ k ≡ 0 → p < 16 ^ k
below_width p k e =
    let whole = div-add-mod' p (16 ^ k) in
    let rest = mod_below p (16 ^ k) (one-le-pow k 16 (omega arith)) in
    let none : p / 16 ^ k * 16 ^ k ≡ 0 = ap (λ n. n * 16 ^ k) e ∙ zero-mul (16 ^ k) in
    omega (arith, whole, rest, none)

pub holds_kept : (old new : Clocks) (p : ℕ) → Keeps old new → Holds old p → Holds new p
holds_kept old new p keeps h = subst (λ w. p < w) (sym keeps.width) h

pub zeros_kept : (old new : Clocks) → Keeps old new → HasZeros old → HasZeros new
zeros_kept old new keeps z = record { root = keeps.roots 0 z.root; zeros = λ p. keeps.same 0 z.root p ∙ z.zeros p }

pub clocks_stay_through : (a b c : Clocks) → Keeps a b → Keeps b c → Keeps a c
clocks_stay_through a b c ab bc = record {
  width = bc.width ∙ ab.width;
  roots = λ root t. bc.roots root (ab.roots root t);
  same = λ root t p. bc.same root (ab.roots root t) p ∙ ab.same root t p;
}
