-- A verdict as an object of JSON.
use Rattle.std.specs.Prelude.{ℕ, length, map, codes}
use Rattle.serde_json.specs.Data.{Data, boolean, number, unsigned, string, array, object, member, no_members}
use Rattle.serde_json.specs.View.{items_of}
use Rattle.report.specs.Texts.{kind_text}
use Rattle.slices.specs.Findings.{FindingValue, is_ok, word}
use Rattle.suite.specs.declared.case.Case.{Case}

-- the members, in the order of their names
abbrev pub object_data : Case → ℕ → FindingValue → Data
object_data c ms v =
    object (member (codes "digests") (string c.digests.now)
    (member (codes "file") (string c.path.now)
    (member (codes "flags") (array (items_of (map string v.flags)))
    (member (codes "kind") (string (kind_text v.kind))
    (member (codes "milliseconds") (number (unsigned ms))
    (member (codes "model") (string c.model.now)
    (member (codes "name") (string v.name)
    (member (codes "negative") (number (unsigned v.negative))
    (member (codes "ok") (boolean (is_ok v))
    (member (codes "positive") (number (unsigned v.positive))
    (member (codes "states") (number (unsigned (length v.states)))
    (member (codes "word") (string (word v))
    no_members))))))))))))
