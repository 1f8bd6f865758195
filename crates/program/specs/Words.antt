-- What the words of the command line ask for, as clap reads them: the option `--journal N`, where N is 1 to 1,000,000,
-- and 100,000 if it is left out, the option `--workers N`, where N is 0 to 8, and 0 if it is left out, and the flag `--alone`.
use Rattle.std.specs.Prelude.{◌≡◌, ◌≤◌, ⊤, ℕ, List, [], ◌∷◌, Option, Some, Ok, codes, map, pos, String, string_bytes}
use Rattle.std.specs.declared.alloc.Global.{Global}
use Rattle.std.specs.Str.Parse.{ParsesUnsigned}
use Rattle.std.specs.declared.num.ParseIntError.{ParseIntError}
use Rattle.clap.specs.Words.{App, Rule, Text, matches_of, new_app, new_rule, one_of, with_rule}
use Rattle.clap.specs.declared.builder.action.ArgAction.TheVariants.{Set, SetTrue}
use Rattle.clap.specs.declared.builder.value_parser.ValueParser.TheVariants.{Signed}
use Rattle.program.specs.declared.command_line.Task.{Task}
use Rattle.program.specs.declared.command_line.Task.TheVariants.{Alone, Script}

-- the texts of the words
abbrev pub texts_of : List (String Global) → List Text
texts_of = map string_bytes

-- `--journal N`
abbrev pub journal : Rule
journal = record (new_rule (codes "journal")) {
  long = Some (codes "journal");
  action = Some Set;
  value_names = 1;
  parser = Some (Signed (pos 1) (pos 1000000));
  defaults = codes "100000" ∷ [];
}

-- `--workers N`
abbrev pub workers : Rule
workers = record (new_rule (codes "workers")) {
  long = Some (codes "workers");
  action = Some Set;
  value_names = 1;
  parser = Some (Signed (pos 0) (pos 8));
  defaults = codes "0" ∷ [];
}

-- `--alone`
abbrev pub alone : Rule
alone = record (new_rule (codes "alone")) { long = Some (codes "alone"); action = Some SetTrue }

-- the command
abbrev pub bench : App
bench = with_rule (with_rule (with_rule (new_app (codes "bench")) journal) workers) alone

-- the text that clap reads for the option or the flag of this name
abbrev pub text_for : Text → List Text → Option Text
text_for name words = one_of name (matches_of bench words)

-- std reads the text as the number n of so many bits
abbrev pub ReadsAs : ℕ → Text → ℕ → Type 0
ReadsAs bits text n = ParsesUnsigned {E = ParseIntError} bits 10 text (Ok n)

-- clap reads a text for the option of this name, and std reads that as the number n of so many bits
abbrev pub SaysNumber : ℕ → Text → List Text → ℕ → Type 0
SaysNumber bits name words n = (text : Text) × (text_for name words ≡ Some text) × ReadsAs bits text n

-- The words ask for one test where the flag is given, and else for a script, with the journal and the workers that they say.
abbrev pub AsksFor : List Text → Task → Type 0
AsksFor words Alone = text_for (codes "alone") words ≡ Some (codes "true")
AsksFor words (Script journal workers) = (text_for (codes "alone") words ≡ Some (codes "false"))
    × SaysNumber 32 (codes "journal") words journal × SaysNumber 8 (codes "workers") words workers

-- a script's journal and workers are within their bounds
abbrev pub IsInRange : Task → Type 0
IsInRange Alone = ⊤
IsInRange (Script journal workers) = (1 ≤ journal) × (journal ≤ 1000000) × (workers ≤ 8)
