use Rattle.std.proofs.Common.{◌≡◌, ◌∙◌, ◌-◌, [], List, length, get_or, sym, ap, subst, arith}
use Rattle.std.proofs.lemmas.Bool.{eqb-false}
use Rattle.std.proofs.lemmas.List.{get_or_default}
use Rattle.std.specs.Prelude.{IfOk}
use Rattle.candidates.specs.declared.counts.Counts.{Counts}
use Rattle.candidates.specs.Groups.{sum_tally, IsSmall}
use Rattle.candidates.proofs.Kept.{not_none, tally_by, to_last}
use Rattle.candidates.proofs.choosing.tally_ahead.Goals as goal

pub plus-requires : goal.plus-requires
plus-requires c =
    let levels = c.args.levels.now in
    let groups = c.args.groups.now in
    let some = not_none (length levels) (eqb-false (length levels) 0 (sym c.is_empty.ensures ∙ c.if-is_empty.false)) in
    let k = length levels - 1 in
    let level = c.index-levels-last.result in
    let here : c.tally_at.result.now ≡ tally_by groups k level.place = c.tally_at.ensures ∙ ap (λ ts. get_or ts level.place [])
    (c.index-groups-last.is ∙ get_or_default groups k c.index-groups-last.result [] (omega (arith, some, c.requires.few))) in
    let P : List Counts → Type 0 = λ t. IsSmall t in
    record { small = subst P (sym (ap (λ t. sum_tally level.tally t) here ∙ to_last c.args.locations groups levels k level c.requires.levels (omega (arith, some)) c.index-levels-last.is)) c.requires.small }

pub returns : goal.returns
returns c =
    let levels = c.args.levels.now in
    let groups = c.args.groups.now in
    let some = not_none (length levels) (eqb-false (length levels) 0 (sym c.is_empty.ensures ∙ c.if-is_empty.false)) in
    let k = length levels - 1 in
    let level = c.index-levels-last.result in
    let here : c.tally_at.result.now ≡ tally_by groups k level.place = c.tally_at.ensures ∙ ap (λ ts. get_or ts level.place [])
    (c.index-groups-last.is ∙ get_or_default groups k c.index-groups-last.result [] (omega (arith, some, c.requires.few))) in
    let P : List Counts → Type 0 = λ t. IfOk c.plus.result (λ u. u ≡ t) in
    subst P (ap (λ t. sum_tally level.tally t) here ∙ to_last c.args.locations groups levels k level c.requires.levels (omega (arith, some)) c.index-levels-last.is) c.plus.ensures
