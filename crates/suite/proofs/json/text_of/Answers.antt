use Rattle.std.proofs.Common.{subst, sym}
use Rattle.wb_text.specs.Names.{IsName}
use Rattle.std.proofs.lemmas.Str.{IsUtf8-from_ascii}
use Rattle.suite.proofs.Objects.{IsAscii-name}
use Rattle.suite.proofs.json.text_of.Goals as goal

pub unreachable-requires : goal.unreachable-requires
unreachable-requires c = c.in-Err.ensures.cases.0 (IsUtf8-from_ascii c.bytes.result.now (IsAscii-name c.bytes.result.now (subst IsName (sym c.bytes.ensures.value) c.bytes.ensures.name)))
