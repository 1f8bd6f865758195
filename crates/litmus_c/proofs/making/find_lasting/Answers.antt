use Rattle.std.proofs.Common.{◌∙◌, List, Bool, reverse, ap, sym}
use Rattle.std.specs.Prelude.{◌||◌}
use Rattle.std.proofs.lemmas.List.{reverse-reverse}
use Rattle.std.proofs.lemmas.Iterator.Adapters.{YieldsList-from_rev_slice}
use Rattle.std.proofs.lemmas.Iterator.Consumers.{YieldsList-end}
use Rattle.conditions.specs.declared.place.Binding.{Binding}
use Rattle.conditions.specs.Equality.{same_place}
use Rattle.litmus_c.specs.Rules.{is_given, lasting}
use Rattle.litmus_c.proofs.Left.{last_first}
use Rattle.litmus_c.proofs.making.find_lasting.Goals as goal

pub loop-entry-preserved : goal.loop-entry-preserved
loop-entry-preserved c =
    let entry = c.in-Some.entry.now in
    let told = c.in_ok-keep_entry.ensures in
    let turned = sym (last_first _ c.loop-entry.yielded c.in-Some.entry) in
    record {
      kept = rw (c.loop-entry.invariant.seen entry.place, c.loop-entry.invariant.kept) at told.kept ∙ ap lasting turned;
      seen = λ p. told.given p ∙ ap (λ (b : Bool). same_place entry.place p || b) (c.loop-entry.invariant.seen p) ∙ ap (λ (bs : List Binding). is_given bs p) turned;
    }

pub returns : goal.returns
returns c =
    let all = YieldsList-end (YieldsList-from_rev_slice c.args.entries.now (cc)) c.loop-entry.yielded _ c.loop-entry.yielded_by _ _ c.in-None.is c.next.ensures.steps in
    c.reverse.ensures.items ∙ c.loop-entry.invariant.kept ∙ ap (λ (bs : List Binding). lasting (reverse bs)) all.0 ∙ ap lasting (reverse-reverse c.args.entries.now)
