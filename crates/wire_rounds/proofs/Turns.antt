-- The pieces of one worker, turn by turn.
use Rattle.std.proofs.Common.{◌≡◌, ◌≢◌, inl, inr, false, ℕ, zero, suc, ◌+◌, ◌*◌, ◌-◌, ◌<◌, ◌≤◌, ◌%◌, ◌==◌, if◌then◌else◌, List, [], ◌∷◌, ◌++◌, sym, ap, ◌∙◌, arith, append-nil}
use Rattle.std.specs.Prelude.{min}
use Rattle.std.proofs.lemmas.Bool.{cases_lt, eq-eqb, ne_eqb}
use Rattle.std.proofs.lemmas.Nat.{mod-mul-add}
use Rattle.std.proofs.Math.Nat.{mod-eq_of_lt}
use Rattle.wire_rounds.specs.declared.rule.Piece.{Piece}
use Rattle.wire_rounds.specs.Shares.{piece, share_of}

-- where the number is a rank's, it is one of the worker's
abbrev pub IsTurn : ℕ → ℕ → ℕ → ℕ → Type 0
IsTurn worker workers ranks next = next < ranks → (turn : ℕ) × (next ≡ turn * workers + worker)

-- the pieces of the worker below the number, where it is a rank's, and else all of them
abbrev pub share_below : ℕ → ℕ → ℕ → ℕ → ℕ → List Piece
share_below worker workers round ranks next = share_of worker workers round (min next ranks)

-- no number between is one of the worker's
share_still : (worker workers round n c : ℕ) → ((k : ℕ) → n ≤ k → k < n + c → k % workers ≢ worker) → share_of worker workers round (n + c) ≡ share_of worker workers round n
share_still worker workers round n zero none = let same : n + 0 ≡ n = omega arith in ap (share_of worker workers round) same
share_still worker workers round n (suc c) none =
    let here : ((n + c) % workers == worker) ≡ false = ne_eqb ((n + c) % workers) worker (none (n + c) (omega arith) (omega arith)) in
    let more : n + suc c ≡ suc (n + c) = omega arith in
    ap (share_of worker workers round) more
    ∙ ap (λ b. share_of worker workers round (n + c) ++ (if b then piece (n + c) round ∷ [] else [])) here
    ∙ append-nil (share_of worker workers round (n + c))
    ∙ share_still worker workers round n c (λ k from to. none k from (omega arith))

share_here : (worker workers round n : ℕ) → n % workers ≡ worker → share_of worker workers round (suc n) ≡ share_of worker workers round n ++ piece n round ∷ []
share_here worker workers round n is = ap (λ b. share_of worker workers round n ++ (if b then piece n round ∷ [] else [])) (eq-eqb (n % workers) worker is)

-- a number less than one turn after one of the worker's isn't the worker's
not_between : (worker workers turn c : ℕ) → worker < workers → 0 < c → c < workers → (turn * workers + worker + c) % workers ≢ worker
not_between worker workers turn c less some_more few is =
    elim (cases_lt (worker + c) workers) [
      | inl below ↦
          let rest : (turn * workers + (worker + c)) % workers ≡ worker + c = mod-mul-add turn workers (worker + c) below in
          let same : turn * workers + worker + c ≡ turn * workers + (worker + c) = omega arith in
          let there = sym is ∙ ap (λ n. n % workers) same ∙ rest in
          absurd (omega (arith, there))
      | inr past ↦
          let rest : (suc turn * workers + (worker + c - workers)) % workers ≡ worker + c - workers = mod-mul-add (suc turn) workers (worker + c - workers) (omega arith) in
          let same : turn * workers + worker + c ≡ suc turn * workers + (worker + c - workers) = omega arith in
          let there = sym is ∙ ap (λ n. n % workers) same ∙ rest in
          absurd (omega (arith, there))
    ]

-- before its first turn a worker has no piece
pub turns_begin : (worker workers round ranks : ℕ) → worker < workers → (share_below worker workers round ranks worker ≡ []) × IsTurn worker workers ranks worker
turns_begin worker workers round ranks less = let whole : min worker ranks ≡ 0 + min worker ranks = omega arith in (
  ap (share_of worker workers round) whole ∙ share_still worker workers round 0 (min worker ranks) (λ k from to is.
      let own = sym is ∙ mod-eq_of_lt {n = k} {m = workers} (omega arith) in
      omega (arith, own)),
  λ _. (0, omega arith),
)

-- and with each turn it has one more
pub turns_on : (worker workers round ranks next after most : ℕ) → worker < workers → next < ranks → after ≡ min (next + workers) most → ranks ≤ most → IsTurn worker workers ranks next
    → (share_below worker workers round ranks after ≡ share_below worker workers round ranks next ++ piece next round ∷ []) × IsTurn worker workers ranks after
turns_on worker workers round ranks next after most less within step far is_turn =
    let turn = (is_turn within).0 in
    let at : next ≡ turn * workers + worker = (is_turn within).1 in
    let own : next % workers ≡ worker = ap (λ n. n % workers) at ∙ mod-mul-add turn workers worker less in
    let end : min after ranks ≡ suc next + (min after ranks - suc next) = omega (arith, step) in
    let here : min next ranks ≡ next = omega arith in (
      ap (share_of worker workers round) end
          ∙ share_still worker workers round (suc next) (min after ranks - suc next) (λ k from below is.
          let past : turn * workers + worker + (k - next) ≡ k = omega (arith, at) in
          not_between worker workers turn (k - next) less (omega arith) (omega (arith, step)) (ap (λ n. n % workers) past ∙ is))
          ∙ share_here worker workers round next own
          ∙ ap (λ n. share_of worker workers round n ++ piece next round ∷ []) (sym here),
      λ below. let more : after ≡ next + workers = omega (arith, step) in (suc turn, omega (arith, at, more)),
    )
