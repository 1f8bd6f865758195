-- A command that gets one argument after another.
use Rattle.std.proofs.Common.{◌≡◌, ◌∙◌, false, Result, Ok, Err, ap}
use Rattle.std.specs.Prelude.{IfOk}
use Rattle.clap.specs.Words.{AddsArg, App, Rule, app_of, rule_of, with_rule}
use Rattle.clap.specs.declared.builder.arg.Arg.{Arg}
use Rattle.clap.specs.declared.builder.command.Command.{Command}

pub added : (app : App) (rule : Rule) (c : Command) (a : Arg) (d : Command) → app_of c ≡ app → rule_of a ≡ rule → a.global ≡ false → AddsArg c a d → app_of d ≡ with_rule app rule
added app rule c a d is of local h = h.shape local ∙ ap (λ x. with_rule x (rule_of a)) is ∙ ap (with_rule app) of

pub added_last : {E : Type 0} (app : App) (rule : Rule) (c : Command) (a : Arg) (r : Result Command E) → app_of c ≡ app → rule_of a ≡ rule → a.global ≡ false → IfOk r (AddsArg c a)
    → IfOk r (λ d. app_of d ≡ with_rule app rule)
added_last app rule c a (Ok d) is of local h = added app rule c a d is of local h
added_last app rule c a (Err e) is of local h = tt
