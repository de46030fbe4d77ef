use Rattle.std.proofs.Common.{◌≡◌, ◌≢◌, ◌∙◌, ℕ, ◌+◌, ◌<◌, ap, sym, refl, List, [], ◌∷◌, ◌++◌, append-nil, map, take, length, get_or}
use Rattle.std.proofs.lemmas.List.{map_push, take_more, take_all}
use Rattle.std.proofs.lemmas.List.Concat.{flat_map-append}
use Rattle.wire_types.specs.declared.Reply.{Reply}
use Rattle.wire_types.specs.declared.CallEnd.TheVariants.{Replied}
use Rattle.wire_fates.specs.declared.Fate.{Fate}
use Rattle.wire_fates.specs.declared.Fate.TheVariants.{Says, Silent, Waits}
use Rattle.wire_parallel_run.specs.Trails.{said_by, said_in}
use Rattle.wire_parallel_run.proofs.rows.ends_of_trail.Goals.{in-Says+in_ok-push, in_default}
use Rattle.wire_parallel_run.proofs.rows.ends_of_trail.Goals as goal

-- what one fate more says
one_more : (trail : List Fate) (n : ℕ) (d fate : Fate) → n < length trail → get_or trail n d ≡ fate → said_in (take (n + 1) trail) ≡ said_in (take n trail) ++ said_in (fate ∷ [])
one_more trail n d fate there is =
    ap said_in (take_more trail n d there) ∙ flat_map-append said_by (take n trail) (get_or trail n d ∷ []) ∙ ap (λ f. said_in (take n trail) ++ said_in (f ∷ [])) is

-- a fate that is no reply says nothing
unsaid : (fate : Fate) → ((reply : Reply) → fate ≢ Says reply) → said_in (fate ∷ []) ≡ []
unsaid (Says reply) not = absurd (not reply refl)
unsaid Silent not = refl
unsaid Waits not = refl

pub loop-fate-preserved : goal.loop-fate-preserved
loop-fate-preserved c =
    let n = c.loop-fate.fate-index in
    let trail = c.args.trail.now in
    let said = said_in (take n trail) in
    elim c.match-fate.branch [
      | in-Says+in_ok-push w ↦
          ap (λ ends. ends.items) w.ends-is ∙ w.in_ok-push.ensures.items ∙ ap (λ ends. ends ++ Replied w.in-Says.reply ∷ []) c.loop-fate.invariant
          ∙ sym (map_push Replied said w.in-Says.reply) ∙ ap (map Replied) (sym (one_more trail n _ _ c.loop-fate-test.true w.in-Says.is))
      | in_default w ↦
          ap (λ ends. ends.items) w.ends-is ∙ c.loop-fate.invariant
          ∙ ap (map Replied) (sym (one_more trail n _ _ c.loop-fate-test.true refl ∙ ap (λ more. said ++ more) (unsaid _ w.in_default.not-Says) ∙ append-nil said))
    ]

pub returns : goal.returns
returns c = c.loop-fate.invariant ∙ ap (λ fates. map Replied (said_in fates)) (take_all c.loop-fate.fate-index c.args.trail.now c.loop-fate-test.false)
