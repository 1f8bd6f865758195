-- What a call that writes bytes leaves of its writer.
use Rattle.std.specs.Prelude.{◌≡◌, ℕ, List, Option, Bool, true, Result, Ok, Err}
use Rattle.std.specs.Io.KnownBytes.{Appends}
use Rattle.wb_text.specs.Memory.{AppendsPrefix}

-- A call that writes bytes, to a writer that holds known bytes and has a mark of failure: at Ok the writer holds them
-- behind what it held; else it holds a prefix of them, and has its mark.
abbrev pub Writes : {S A E : Type 0} → (S → Option (List ℕ)) → (S → Bool) → S → S → Result A E → List ℕ → Type 0
Writes held failed old new (Ok done) bytes = Appends (held old) (held new) bytes
Writes held failed old new (Err fault) bytes = AppendsPrefix (held old) (held new) bytes × (failed new ≡ true)
