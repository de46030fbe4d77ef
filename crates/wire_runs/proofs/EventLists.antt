-- Lists of all events of which something holds, as they grow.
use Rattle.std.proofs.Common.{◌≡◌, ◌∙◌, ap, subst, List, [], ◌∷◌, ◌++◌, length, Some, arith, ◌⊎◌, inl, inr, sym}
use Rattle.std.proofs.lemmas.Option.{slice_get_within}
use Rattle.std.proofs.lemmas.Bool.{cases_lt}
use Rattle.wire_runs.specs.Plan.{Event}
use Rattle.wire_runs.specs.EventLists.{IsLower, AreAll}
use Rattle.wire_runs.proofs.Lists.{not_in_empty, slice_get_push_cases, slice_get_push_kept, slice_get_push_last}

-- of two events one is lower
pub one_lower : (x y : Event) → (x ≡ y → ⊥) → IsLower x y ⊎ IsLower y x
one_lower x y ne = elim (cases_lt x.proc y.proc) [
  | inl lt ↦ inl (inl lt)
  | inr ge ↦ elim (cases_lt y.proc x.proc) [
    | inl gt ↦ inr (inl gt)
    | inr le ↦ (let e : x.proc ≡ y.proc = omega (arith, ge, le) in elim (cases_lt x.at y.at) [
      | inl lt ↦ inl (inr (e, lt))
      | inr ge' ↦ elim (cases_lt y.at x.at) [
        | inl gt ↦ inr (inr (sym e, gt))
        | inr le' ↦ absurd (ne (let i : x.at ≡ y.at = omega (arith, ge', le') in λ t. record { proc = e t; at = i t }))
      ]
    ])
  ]
]

-- and only one
pub lower_one_way : (x y : Event) → IsLower x y → IsLower y x → ⊥
lower_one_way x y (inl a) (inl b) = omega (arith, a, b)
lower_one_way x y (inl a) (inr b) = let e = b.0 in omega (arith, a, e)
lower_one_way x y (inr a) (inl b) = let e = a.0 in omega (arith, b, e)
lower_one_way x y (inr a) (inr b) = let i = a.1 in let j = b.1 in omega (arith, i, j)

pub lower_not_same : (x y : Event) → IsLower x y → y ≡ x → ⊥
lower_not_same x y l e = let m = subst (λ v. IsLower x v) e l in lower_one_way x x m m

-- all events of which nothing holds
pub all_of_none : (holds : Event → Type 0) → ((z : Event) → holds z → ⊥) → AreAll holds []
all_of_none holds never = record {
  only = λ k z is. absurd (not_in_empty k z is);
  all = λ z h. absurd (never z h);
  rising = λ k l y z lt first second. absurd (not_in_empty k y first);
}

-- the same of what holds of the same events
pub all_same : (before after : Event → Type 0) (xs : List Event) → ((z : Event) → before z → after z) → ((z : Event) → after z → before z) → AreAll before xs → AreAll after xs
all_same before after xs there back are = record {
  only = λ k z is. there z (are.only k z is);
  all = λ z h. are.all z (back z h);
  rising = are.rising;
}

-- one more event, behind all others
pub all_and_one : (before after : Event → Type 0) (xs : List Event) (y : Event) → ((z : Event) → before z → IsLower z y) → ((z : Event) → before z → after z) → after y →
    ((z : Event) → after z → before z ⊎ (y ≡ z)) → AreAll before xs → AreAll after (xs ++ y ∷ [])
all_and_one before after xs y lower there here back are = record {
  only = λ k z is. elim (slice_get_push_cases xs y k z is) [
    | inl h ↦ there z (are.only k z h)
    | inr last ↦ subst after last.1 here
  ];
  all = λ z h. elim (back z h) [
    | inl b ↦ let found = are.all z b in (found.0, slice_get_push_kept xs y found.0 z found.1)
    | inr same ↦ (length xs, slice_get_push_last xs y ∙ ap Some same)
  ];
  rising = λ k l u z lt first second. elim (slice_get_push_cases xs y l z second) [
    | inl h ↦ elim (slice_get_push_cases xs y k u first) [
      | inl g ↦ are.rising k l u z lt g h
      | inr last ↦ let within = slice_get_within xs l z h in let end = last.0 in absurd (omega (arith, within, end, lt))
    ]
    | inr end ↦ elim (slice_get_push_cases xs y k u first) [
      | inl g ↦ subst (IsLower u) end.1 (lower u (are.only k u g))
      | inr last ↦ let at = end.0 in let also = last.0 in absurd (omega (arith, at, also, lt))
    ]
  ];
}
