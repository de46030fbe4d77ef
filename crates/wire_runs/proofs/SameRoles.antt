-- In casts with the same roles a line is one call, and the same turns make the same calls of a loop.
use Rattle.std.proofs.Common.{◌≡◌, ℕ, List, [], ◌∷◌, ◌++◌, map, not, ◌==◌, refl, ap, ◌∙◌}
use Rattle.std.specs.Prelude.{filter, get_or, nat_lt, if◌then◌else◌}
use Rattle.wire_runs.specs.Plan.{CallPut, CallFence, CallGet, CallGetNow, CallPublish, CallLookup, CallLookupWait, CallUnpublish}
use Rattle.wire_runs.specs.Fences.{is_member}
use Rattle.wire_runs.specs.Patterns.{Who, Only, Self, Each, Item, Every, One, Word, Line, LinePut, LineCommit, LineFence, LineGet, LineGetNow, LinePublish, LineLookup, LineLookupWait, LineUnpublish, LineUnpublishAll, LineFixed}
use Rattle.wire_runs.specs.Patterns.{InOrder, Round, Coding, Cast, group, who, members_in, word_code, call_in, turns, loop_calls}

-- two casts with the same roles
module _ (coding : Coding) (a b : Cast) (same : b.roles ≡ a.roles) where
  who_same : (v e : ℕ) (w : Who) → who b v e w ≡ who a v e w
  who_same v e (Only role) = ap (λ roles. get_or (group role roles) 0 0) same
  who_same v e Self = refl
  who_same v e Each = refl

  indices_same : (v e : ℕ) (ws : List Who) → map (who b v e) ws ≡ map (who a v e) ws
  indices_same v e [] = refl
  indices_same v e (w ∷ ws) = ap (λ x. x ∷ map (who b v e) ws) (who_same v e w) ∙ ap (λ xs. who a v e w ∷ xs) (indices_same v e ws)

  word_same : (v e : ℕ) (word : Word) → word_code coding b v e word ≡ word_code coding a v e word
  word_same v e word = ap (coding.code word.base) (indices_same v e word.indices)

  members_same : (v e : ℕ) (items : List Item) → members_in b v e items ≡ members_in a v e items
  members_same v e [] = refl
  members_same v e (Every role ∷ items) = ap (λ roles. group role roles ++ members_in b v e items) same ∙ ap (λ ms. group role a.roles ++ ms) (members_same v e items)
  members_same v e (One w ∷ items) = ap (λ x. x ∷ members_in b v e items) (who_same v e w) ∙ ap (λ ms. who a v e w ∷ ms) (members_same v e items)

  pub call_same : (v e : ℕ) (line : Line) → call_in coding b v e line ≡ call_in coding a v e line
  call_same v e (LinePut key scope) = ap (λ n. CallPut n scope) (word_same v e key)
  call_same v e LineCommit = refl
  call_same v e (LineFence items collect) = ap (λ ms. CallFence ms collect) (members_same v e items)
  call_same v e (LineGet owner key) = ap (λ n. CallGet n (word_code coding b v e key)) (who_same v e owner) ∙ ap (λ n. CallGet (who a v e owner) n) (word_same v e key)
  call_same v e (LineGetNow owner key) = ap (λ n. CallGetNow n (word_code coding b v e key)) (who_same v e owner) ∙ ap (λ n. CallGetNow (who a v e owner) n) (word_same v e key)
  call_same v e (LinePublish name) = ap CallPublish (word_same v e name)
  call_same v e (LineLookup name) = ap CallLookup (word_same v e name)
  call_same v e (LineLookupWait name) = ap CallLookupWait (word_same v e name)
  call_same v e (LineUnpublish name) = ap CallUnpublish (word_same v e name)
  call_same v e LineUnpublishAll = refl
  call_same v e (LineFixed reply) = refl

  pub lines_same : (v e : ℕ) (lines : List Line) → map (call_in coding b v e) lines ≡ map (call_in coding a v e) lines
  lines_same v e [] = refl
  lines_same v e (line ∷ lines) = ap (λ c. c ∷ map (call_in coding b v e) lines) (call_same v e line) ∙ ap (λ cs. call_in coding a v e line ∷ cs) (lines_same v e lines)

  pub loop_same : (v : ℕ) (lines : List Line) (es : List ℕ) → loop_calls coding b v lines es ≡ loop_calls coding a v lines es
  loop_same v lines [] = refl
  loop_same v lines (e ∷ es) =
      ap (λ cs. cs ++ loop_calls coding b v lines es) (lines_same v e lines) ∙ ap (λ cs. map (call_in coding a v e) lines ++ cs) (loop_same v lines es)

  pub in_order_same : (v i role : ℕ) → turns b v i role InOrder ≡ turns a v i role InOrder
  in_order_same v i role = ap (λ roles. filter (λ e. not (e == v)) (group role roles)) same

  round_of : ℕ → List ℕ → List ℕ
  round_of v members = if is_member members v then filter (λ e. nat_lt v e) members ++ filter (λ e. nat_lt e v) members else filter (λ e. not (e == v)) members

  pub round_same : (v i role : ℕ) → turns b v i role Round ≡ turns a v i role Round
  unfolding round_of
  round_same v i role = ap (λ roles. round_of v (group role roles)) same
