-- A deque that is emptied by its worker.
use Rattle.std.proofs.Common.{◌≡◌, ◌+◌, ◌<◌, ◌≤◌, List, [], ◌∷◌, ◌++◌, length, drop, sym, ap, ◌∙◌, arith, length-append, append_assoc, append-nil}
use Rattle.std.proofs.lemmas.List.{drop-drop, drop_all}
use Rattle.wire_rounds.specs.declared.rule.Piece.{Piece}
use Rattle.wire_rounds.specs.declared.rule.DequeView.{DequeView}
use Rattle.wire_rounds.specs.Views.{all_parts, Takes}
use Rattle.wire_rounds.specs.Rules.{weigh, TookAll, left_of, IsDrained}
use Rattle.wire_rounds.proofs.Deals.{weigh-append, weigh_ones}

pub record Draining (v w : DequeView) (before now : List Piece) : Type 0 where
  pub parts : w.parts ≡ v.parts
  pub dealt : w.dealt ≡ v.dealt
  pub more : List Piece
  pub now_is : now ≡ before ++ more
  pub taken_is : w.taken ≡ v.taken ++ more
  pub whole : v.parts ≡ all_parts → left_of v ≡ more ++ drop (length w.taken) v.dealt
  pub few : length now ≤ length before + w.below
  pub bound : length now ≤ length before + length v.dealt

pub drains_more : (v w u : DequeView) (before now : List Piece) (x : Piece) → Draining v w before now → Takes w (x ∷ []) u → Draining v u before (now ++ x ∷ [])
drains_more v w u before now x h t =
    let longer : length (now ++ x ∷ []) ≡ length now + 1 = length-append now (x ∷ []) in
    let below : u.below ≡ t.0 + 1 = ap (λ (y : DequeView). y.below) t.5 in
    let same : length w.dealt ≡ length v.dealt = ap length h.dealt in
    let taken : u.taken ≡ w.taken ++ x ∷ [] = ap (λ (y : DequeView). y.taken) t.5 in
    let count : length u.taken ≡ length w.taken + 1 = ap length taken ∙ length-append w.taken (x ∷ []) in
    record {
      parts = ap (λ (y : DequeView). y.parts) t.5 ∙ h.parts;
      dealt = ap (λ (y : DequeView). y.dealt) t.5 ∙ h.dealt;
      more = h.more ++ x ∷ [];
      now_is = ap (λ l. l ++ x ∷ []) h.now_is ∙ append_assoc before h.more (x ∷ []);
      taken_is = taken ∙ (ap (λ l. l ++ x ∷ []) h.taken_is ∙ append_assoc v.taken h.more (x ∷ []));
      whole = λ all.
          let place : t.0 ≡ length w.taken = t.6 (h.parts ∙ all) in
          let here : drop (length w.taken) v.dealt ≡ x ∷ t.1 = ap (λ n. drop n v.dealt) (sym place) ∙ (ap (drop t.0) (sym h.dealt) ∙ t.3) in
          let past : drop (length u.taken) v.dealt ≡ t.1 = ap (λ n. drop n v.dealt) count ∙ (sym (drop-drop 1 (length w.taken) v.dealt) ∙ ap (drop 1) here) in
          h.whole all ∙ (ap (λ l. h.more ++ l) (here ∙ ap (λ l. x ∷ l) (sym past)) ∙ sym (append_assoc h.more (x ∷ []) (drop (length u.taken) v.dealt)));
      few = (let f = h.few in let p = t.2 in omega arith);
      bound = (let f = h.few in let p = t.2 in let q = t.4 in omega arith);
    }

pub drains_room : (v w u : DequeView) (before now : List Piece) (x : Piece) → Draining v w before now → Takes w (x ∷ []) u → length now < length before + length v.dealt
drains_room v w u before now x h t =
    let same : length w.dealt ≡ length v.dealt = ap length h.dealt in let f = h.few in let p = t.2 in let q = t.4 in omega arith

pub drains_all : (v w : DequeView) (before now : List Piece) → Draining v w before now → TookAll w → IsDrained v before now
drains_all v w before now h f whole =
    let found = f (h.parts ∙ whole) in
    let taken : length w.taken ≡ length v.dealt = sym (weigh_ones w.taken) ∙ (found (λ _. 1) ∙ (weigh_ones w.dealt ∙ ap length h.dealt)) in
    let rest : drop (length w.taken) v.dealt ≡ [] = drop_all (length w.taken) v.dealt (omega arith) in
    let left : left_of v ≡ h.more = h.whole whole ∙ (ap (λ l. h.more ++ l) rest ∙ append-nil h.more) in (
      h.now_is ∙ ap (λ l. before ++ l) (sym left),
      λ k.
          let e : weigh k w.taken ≡ weigh k v.taken + weigh k h.more = ap (weigh k) h.taken_is ∙ weigh-append k v.taken h.more in
          let d : weigh k w.dealt ≡ weigh k v.dealt = ap (weigh k) h.dealt in
          let l : weigh k (left_of v) ≡ weigh k h.more = ap (weigh k) left in
          let g = found k in
          omega arith,
    )
