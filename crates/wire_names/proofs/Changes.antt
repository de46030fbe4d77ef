-- The table of names, one name at a time.
use Rattle.std.proofs.Common.{◌≡◌, ◌∙◌, ℕ, ◌<◌, List, length, cond, ◌==◌, Option, Some, None, get_or, inl, inr, refl, sym, ap}
use Rattle.std.proofs.lemmas.Bool.{cases_eq, eq-eqb, ne_eqb}
use Rattle.std.proofs.lemmas.List.{length-map, length-set, get_or-set_same, get_or-set_other}
use Rattle.std.proofs.Math.ListN.{set, get_or-map}
use Rattle.wire_runs.specs.Plan.{Publish, Unpublish, UnpublishAll}
use Rattle.wire_types.specs.declared.CallAt.{CallAt}
use Rattle.wire_names.specs.Names.{after_publish, after_unpublish}
use Rattle.wire_names.specs.Changes.{NamesFollow}

-- one name has changed
at_each : (names : List (Option CallAt)) (name other : ℕ) (standing : Option CallAt → Option CallAt) → name < length names →
    get_or (set names name (standing (get_or names name None))) other None ≡ cond (name == other) (standing (get_or names other None)) (get_or names other None)
at_each names name other standing low = elim (cases_eq name other) [
  | inl same ↦
      ap (λ n. get_or (set names name (standing (get_or names name None))) n None) (sym same)
      ∙ get_or-set_same names name (standing (get_or names name None)) None low
      ∙ ap (λ n. standing (get_or names n None)) same
      ∙ sym (rw (eq-eqb name other same) refl)
  | inr other_name ↦ get_or-set_other names name other (standing (get_or names name None)) None (λ e. other_name (sym e)) ∙ sym (rw (ne_eqb name other other_name) refl)
]

pub names_follow : NamesFollow
names_follow call (Some (Publish name)) names has = record {
  count = length-set names name _;
  each = λ other. at_each names name other (after_publish call) has;
}
names_follow call (Some (Unpublish name)) names has = record {
  count = length-set names name _;
  each = λ other. at_each names name other (after_unpublish call.proc.number) has;
}
names_follow call (Some UnpublishAll) names has = record {
  count = length-map names (after_unpublish call.proc.number);
  each = λ other. get_or-map (after_unpublish call.proc.number) names other None;
}
names_follow call _ names has = record { count = refl; each = λ other. refl }
