use Rattle.std.proofs.Common.{◌∙◌, List, [], ◌∷◌, ◌++◌, append_assoc, append-nil, ap, sym}
use Rattle.std.proofs.lemmas.List.{nil_from_length}
use Rattle.litmus_syntax.specs.declared.symbol.Symbol.{Symbol}
use Rattle.test_places.specs.declared.mark.Mark.{Mark}
use Rattle.test_places.specs.Marks.{part_at, role, name_of, beside, first, behind, marks_from}
use Rattle.test_places.proofs.mark.marks.Goals as goal

pub loop-symbol-preserved : goal.loop-symbol-preserved
loop-symbol-preserved c =
    let done = c.loop-symbol.marks.items in
    let walk = c.loop-symbol.walk in
    let this = beside c.in-Some.symbol.now in
    let next = first c.in-Some.behind.now in
    let mark : Mark = record { part = part_at walk this next; role = role walk this next; name = name_of c.in-Some.symbol.now } in
    rw (c.in_ok-push.ensures.items, c.behind-walk.ensures, c.part_of.ensures, c.role_of.ensures, c.in_ok-name_of.ensures, c.told_by-this.ensures, c.first-next.ensures)
    (append_assoc done (mark ∷ []) (marks_from (behind walk this next) c.in-Some.behind.now) ∙ ap (λ (ss : List Symbol). done ++ marks_from walk ss) (sym c.in-Some.ensures.cases.0) ∙ c.loop-symbol.invariant)

pub returns : goal.returns
returns c =
    let done = c.loop-symbol.marks.items in
    sym (append-nil done) ∙ ap (λ (ss : List Symbol). done ++ marks_from c.loop-symbol.walk ss) (sym (nil_from_length c.loop-symbol.rest.now c.in_default.ensures.cases)) ∙ c.loop-symbol.invariant
