-- Classes of bytes. (ISO/IEC 9899:2011, 5.2.1 and 6.4.2; herd7 manual, the cat language: identifiers may have `.` and `-`.)
use Rattle.std.specs.Prelude.{ℕ, Bool, false, ◌||◌, ◌==◌, not, List, [], ◌∷◌}
use Rattle.std.specs.Char.{is_ascii_digit, is_ascii_alphabetic, is_ascii_alphanumeric}
use Rattle.wb_text.specs.declared.byte.Class.{Class}
use Rattle.wb_text.specs.declared.byte.Class.TheVariants.{Word, Digit, Name}
use Rattle.wb_text.specs.declared.token.Dialect.{Dialect}
use Rattle.wb_text.specs.declared.token.Dialect.TheVariants.{Litmus, Cat}

-- a space, a tab, a carriage return or a line feed
abbrev pub is_blank : ℕ → Bool
is_blank b = b == 32 || b == 9 || b == 13 || b == 10

-- whether a text begins with a blank
abbrev pub begins_blank : List ℕ → Bool
begins_blank [] = false
begins_blank (b ∷ text) = is_blank b

abbrev pub is_digit : ℕ → Bool
is_digit b = is_ascii_digit b

-- a letter or `_`
abbrev pub is_name_start : ℕ → Bool
is_name_start b = is_ascii_alphabetic b || b == 95

-- letters, digits and `_`, and in cat models `.` and `-` too
abbrev pub is_name_part : Dialect → ℕ → Bool
is_name_part Litmus b = is_ascii_alphanumeric b || b == 95
is_name_part Cat b = is_ascii_alphanumeric b || b == 95 || b == 46 || b == 45

abbrev pub is_of : Class → ℕ → Bool
is_of Word b = not (is_blank b)
is_of Digit b = is_digit b
is_of (Name d) b = is_name_part d b
