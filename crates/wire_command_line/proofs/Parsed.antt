-- What a parse met, as the matches of the words say it.
use Rattle.std.proofs.Common.{◌≡◌, ◌∙◌, ap, sym, subst, refl, true, List, Option, Some, None, option_map, Box, Result, Ok, Err, OnOk, IfErr, MatchResult}
use Rattle.std.specs.Box.{box_value}
use Rattle.clap.specs.Words.{App, Row, Text, HasMatchesOf, FailsBy, fault_of, rows_of, found_of, is_simple, is_simple_and_free, subcommand_of, subcommand_rows, subcommand_rows_of}
use Rattle.clap.specs.declared.error.Error.{Error}
use Rattle.clap.specs.declared.parser.matches.ArgMatches.{ArgMatches}
use Rattle.clap.specs.declared.parser.matches.SubCommand.{SubCommand}
use Rattle.clap.specs.declared.parser.matches.ArgMatches.TheViews.{out-SubCommand}
use Rattle.clap.proofs.OnLiterals.{clap_on_literals}
use Rattle.wire_command_line.specs.CommandLine.{program_line}

-- the matches of the command line are exact
pub line_is_simple : is_simple program_line ≡ true
unfolding clap_on_literals
line_is_simple = refl

pub line_is_free : is_simple_and_free program_line ≡ true
unfolding clap_on_literals
line_is_free = refl

pub met : {Z : Type 0} (o : Option (Box SubCommand Z)) (name : Text) (rows : List Row) → Some name ≡ option_map (λ b. (out-SubCommand (box_value b)).name.now) o →
    Some rows ≡ option_map (λ p. p.1) (subcommand_rows o) → subcommand_rows o ≡ Some (name, rows)
met None name rows n r = let bad : Some name ≡ None = n in cc
met (Some b) name rows n r =
    let same_name : name ≡ (out-SubCommand (box_value b)).name.now = cc in
    let same_rows : rows ≡ rows_of (found_of (out-SubCommand (box_value b)).matches) = cc in
    λ i. Some (sym same_name i, sym same_rows i)

-- what a parse of a command gives, of the command line
module _ {T : Type 0} where
  pub fails_by : (app : App) (words : List Text) (r : Result T Error) → (is_simple_and_free app ≡ true → FailsBy (fault_of app words) r) → app ≡ program_line → FailsBy (fault_of program_line words) r
  fails_by app words r kinds is = subst (λ a. FailsBy (fault_of a words) r) is (kinds (subst (λ a. is_simple_and_free a ≡ true) (sym is) line_is_free))

  pub when_ok : (r : Result T Error) (P : Type 0) (Q : Error → Type 0) → MatchResult r (λ _. P) Q → OnOk r P
  when_ok (Ok x) P Q p = p
  when_ok (Err e) P Q q = tt

  pub when_err : (r : Result T Error) (P : Type 0) (Q : Error → Type 0) → MatchResult r (λ _. P) Q → IfErr r Q
  when_err (Ok x) P Q p = tt
  when_err (Err e) P Q q = q

-- the matches of the words
pub matched : (app : App) (words : List Text) (m : ArgMatches) → HasMatchesOf app words m → app ≡ program_line → subcommand_rows_of m ≡ subcommand_of program_line words
matched app words m has is = (has (subst (λ a. is_simple a ≡ true) (sym is) line_is_simple)).1 ∙ ap (λ a. subcommand_of a words) is
