-- The results of several slices, put together.
use Rattle.std.specs.Prelude.{◌≡◌, ◌<◌, List, length, map, slice_get}
use Rattle.conditions.specs.States.{AreObserved}
use Rattle.cat_tree.specs.Tree.{Clause}
use Rattle.listings.specs.Lists.{IsIn, Lists, sum_of}
use Rattle.litmus_tree.specs.Tree.{Litmus}
use Rattle.slices.specs.Findings.{FindingValue}
use Rattle.slices.specs.Parts.{PieceResultValue, IsPart, test_size}
use Rattle.slices.specs.Verdicts.{AreSorted, IsVerdict}
use Rattle.slices.specs.Works.{WorkValue}
use Rattle.book.specs.Cuts.{IsCover}
use Rattle.book.specs.Step.{HasRange}
use Rattle.book.specs.declared.slice.Slice.{Slice}

-- A result for each slice, in any order: of that slice's range, and right there.
pub record AreAnswers (w : WorkValue) (slices : List Slice) (parts : List PieceResultValue) : Type 0 where
  pub each : Lists (λ i. i < length slices) (map (λ r. r.piece.slice) parts)
  pub ranges : (r : PieceResultValue) → IsIn r parts → HasRange (slice_get slices r.piece.slice) r.piece.from r.piece.to
  pub right : (r : PieceResultValue) → IsIn r parts → IsPart w.test w.model.items r.piece.from r.piece.to r.found

-- The finding says what these say together: the counts are added; a state or a flag is there where it is in one of them.
pub record IsMerged (t : Litmus) (vs : List FindingValue) (v : FindingValue) : Type 0 where
  pub name : v.name ≡ t.name
  pub kind : v.kind ≡ t.condition.kind
  pub formula : v.formula ≡ t.condition.formula
  pub places : AreObserved t.condition t.listed v.places
  pub positive : v.positive ≡ sum_of (λ w. w.positive) vs
  pub negative : v.negative ≡ sum_of (λ w. w.negative) vs
  pub states : Lists (λ s. (w : FindingValue) × IsIn w vs × IsIn s w.states) v.states
  pub sorted : AreSorted v.states
  pub flags : Lists (λ x. (w : FindingValue) × IsIn w vs × IsIn x w.flags) v.flags
  pub in_order : AreSorted v.flags

abbrev pub findings : List PieceResultValue → List FindingValue
findings parts = map (λ r. r.found) parts

-- What is put together of a right result for each slice of a work is right.
abbrev pub MergedVerdict : Type 0
MergedVerdict = (w : WorkValue) (slices : List Slice) (parts : List PieceResultValue) (v : FindingValue) → IsCover (test_size w.test) slices → AreAnswers w slices parts
    → IsMerged w.test (findings parts) v → IsVerdict w.test w.model.items v

-- A right verdict is the only one.
abbrev pub OneVerdict : Type 0
OneVerdict = (t : Litmus) (items : List Clause) (v w : FindingValue) → IsVerdict t items v → IsVerdict t items w → v ≡ w
