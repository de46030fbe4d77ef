use Rattle.std.proofs.Common.{◌∙◌, ap, sym}
use Rattle.wire_fates.proofs.Places.{place_at}
use Rattle.wire_portable.proofs.own_calls.is_kept.Goals as goal

pub brings_it-requires : goal.brings_it-requires
brings_it-requires c = c.requires.only c.gets.place _ (place_at c.args.gets.now c.gets.place _ c.gets-test.true)

pub returns-then-brings_it : goal.returns-then-brings_it
returns-then-brings_it c = λ t. record {
  keeps = ap (λ s. s.keeps) (sym c.plan-plan.ensures) ∙ ap (λ s. s.keeps) (sym c.scripts-scripts.ensures.scripts) ∙ sym c.keeps.ensures ∙ c.if-not-keeps.false;
  k = c.gets.place;
  get = _;
  is = place_at c.args.gets.now c.gets.place _ c.gets-test.true;
  own = c.if-not-own.false;
  brought = c.brings_it.ensures c.if-brings_it.true;
}
