use Rattle.std.proofs.Common.{◌≡◌, ◌∙◌, ◌∷◌, [], sym, false}
use Rattle.std.proofs.lemmas.List.{reverse-append}
use Rattle.conditions.specs.Equality.{same_place}
use Rattle.indexmap.specs.IndexSet.{contains}
use Rattle.litmus_c.proofs.Left.{not_true}
use Rattle.litmus_c.proofs.making.keep_entry.Goals as goal

pub returns-in_ok-push-clause-kept : goal.returns-in_ok-push-clause-kept
returns-in_ok-push-clause-kept c =
    let new : contains same_place c.args.given.now c.args.entry.now.place ≡ false = not_true _ (sym c.in_ok-note_given.ensures.last ∙ c.if-branch.true) in
    rw (new, c.in_ok-push.ensures.items, c.in_ok-copy.ensures) (reverse-append c.args.kept.now.items (c.args.entry.now ∷ []))
