-- What a chain of arguments makes of a command.
use Rattle.std.proofs.Common.{◌≡◌, ◌∙◌, true, false, List, [], ◌∷◌, ap, sym}
use Rattle.std.specs.Prelude.{⊤}
use Rattle.clap.specs.Words.{App, app_of, rule_of, shape_of, with_rule, with_subcommand}
use Rattle.clap.specs.Built.{AddsArg, AddsInTurn, AddsSubcommand}
use Rattle.clap.proofs.SimpleLemmas.{plain_fields}
use Rattle.clap.specs.declared.builder.arg.Arg.{Arg}
use Rattle.clap.specs.declared.builder.command.Command.{Command}

abbrev pub AllLocal : List Arg → Type 0
AllLocal [] = ⊤
AllLocal (x ∷ xs) = (x.global ≡ false) × AllLocal xs

abbrev pub with_rules : App → List Arg → App
with_rules a [] = a
with_rules a (x ∷ xs) = with_rules (with_rule a (rule_of x)) xs

pub app_of_chain : (xs : List Arg) (start line : Command) → AddsInTurn AddsArg start xs line → AllLocal xs
    → app_of line ≡ with_rules (app_of start) xs
app_of_chain [] start line same local = sym (ap app_of same)
app_of_chain (x ∷ xs) start line chain local =
    app_of_chain xs chain.0 line chain.2 local.1 ∙ ap (λ a. with_rules a xs) (chain.1.shape local.0)

-- a command that was made so joins another one as it is
pub joins : (old sub new : Command) (line : App) → AddsSubcommand old sub new → app_of sub ≡ line → line.top.is_plain ≡ true
    → app_of new ≡ with_subcommand (app_of old) line.top
joins old sub new line added same plain =
    let is_plain : (shape_of sub).is_plain ≡ true = ap (λ (a : App). a.top.is_plain) same ∙ plain in
    added.shape (plain_fields sub is_plain).globals ∙ ap (λ (a : App). with_subcommand (app_of old) a.top) same
