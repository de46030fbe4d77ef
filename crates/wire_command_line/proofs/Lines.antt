-- How a command grows by an argument and by a command of its own.
use Rattle.std.proofs.Common.{◌≡◌, ◌∙◌, ap, ap₂, sym, refl, false, ℕ, ◌+◌, ◌<◌, ◌≤◌, List, ◌∷◌, fold, drop, length, get_or, suc, arith}
use Rattle.std.proofs.Math.Seq.{drop-cons}
use Rattle.std.proofs.lemmas.List.{drop_all}
use Rattle.clap.specs.Words.{App, Rule, AddsArg, AddsSubcommand, rule_of, with_rule, with_subcommand}
use Rattle.clap.specs.declared.builder.arg.Arg.{Arg}
use Rattle.clap.specs.declared.builder.command.Command.{Command}
use Rattle.wire_command_line.specs.CommandLine.{IsLine}

pub with_argument : (old new : Command) (a : Arg) (app : App) (rule : Rule) → AddsArg old a new → IsLine app old → rule_of a ≡ rule → a.global ≡ false → IsLine (with_rule app rule) new
with_argument old new a app rule adds line is local = record {
  is = adds.shape local ∙ ap₂ with_rule line.is is;
  local = adds.globals ∙ rw (line.local, local) refl;
}

pub with_command : (old sub new : Command) (app of_sub : App) → AddsSubcommand old sub new → IsLine app old → IsLine of_sub sub → IsLine (with_subcommand app of_sub.top) new
with_command old sub new app of_sub adds line its = record {
  is = adds.shape its.local ∙ ap₂ with_subcommand line.is (ap (λ (a : App). a.top) its.is);
  local = adds.globals ∙ rw (line.local, its.local) refl;
}

-- a fold that has come so far: one more step, and its end
module _ {A B : Type 0} (f : B → A → B) where
  pub folded_on : (xs : List A) (i : ℕ) (none : A) (now next all : B) → i < length xs → next ≡ f now (get_or xs i none) → fold f now (drop i xs) ≡ all
      → fold f next (drop (i + 1) xs) ≡ all
  folded_on xs i none now next all there is so_far =
      let after : suc i ≡ i + 1 = omega arith in
      let opened : drop i xs ≡ get_or xs i none ∷ drop (i + 1) xs = drop-cons xs i none there ∙ ap (λ n. get_or xs i none ∷ drop n xs) after in
      ap (λ b. fold f b (drop (i + 1) xs)) is ∙ sym (ap (fold f now) opened) ∙ so_far

  pub folded_all : (xs : List A) (i : ℕ) (now all : B) → length xs ≤ i → fold f now (drop i xs) ≡ all → now ≡ all
  folded_all xs i now all past so_far = sym (ap (fold f now) (drop_all i xs past)) ∙ so_far
