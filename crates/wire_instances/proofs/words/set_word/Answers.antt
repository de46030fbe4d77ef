use Rattle.std.proofs.Common.{◌∙◌, ◌++◌, ◌+◌, ap, ◌<◌, length, take, get_or, arith}
use Rattle.std.proofs.lemmas.Grind.{common_steps}
use Rattle.wire_pattern.specs.declared.call.Who.TheVariants.{Only}
use Rattle.wire_pattern.specs.declared.call.Item.{Item}
use Rattle.wire_pattern.specs.declared.call.Item.TheVariants.{One}
use Rattle.wire_scripts.specs.Canonical.{items_text}
use Rattle.wire_pattern.specs.Views.{view_item}
use Rattle.wire_pattern.specs.Instances.{items_said}
use Rattle.wire_instances.proofs.Loops.{item_step}
use Rattle.wire_instances.proofs.SetFronts.{front_of_set}
use Rattle.wire_instances.proofs.Texts.{get_or_same}
use Rattle.wire_instances.proofs.words.set_word.Goals as goal

-- what a read past the end would give
abbrev no_item : Item
no_item = One (Only 0)

pub loop-item-preserved : goal.loop-item-preserved
loop-item-preserved c =
    let f = c.args.excerpt.now.frame in
    let items = c.args.items.now.items in
    let i = c.loop-item.item-index in
    let there : i < length items = grind (arith, common_steps) in
    item_step f.pattern f.cast c.args.calling.caller c.args.calling.each items i (get_or items i no_item) (c.args.excerpt.now.wanted + 1) c.loop-item.word.items
    c.write_item.new.out.items _
    there (get_or_same items i no_item there)
    (c.in_ok-write_item.ensures ∙ ap (λ xs. take (c.args.excerpt.now.wanted + 1) (c.loop-item.word.items ++ items_text
    (items_said f.pattern f.cast c.args.calling.caller c.args.calling.each (view_item (get_or xs i no_item))))) c.deref-item-items.ensures.value)
    c.loop-item.invariant

pub returns : goal.returns
returns c =
    front_of_set c.args.excerpt.now.wanted _ c.loop-item.word.items c.pop.new.self.items c.pop.result (grind (arith, common_steps)) c.pop.ensures.items
    (λ h. c.pop.ensures.variant.1 (let len = c.loop-item.word.ok.0 in omega arith))
