use Rattle.std.proofs.Common.{arith, get_or, take}
use Rattle.std.proofs.lemmas.Option.{slice_get-get_or, slice_get_within}
use Rattle.wb_text.specs.declared.token.Token.{Token}
use Rattle.cat_syntax.specs.Reads.{IsRefused}
use Rattle.cat_places.proofs.Denying.{none_more}
use Rattle.cat_places.proofs.Owning.{no_token}
use Rattle.cat_places.proofs.text.last_of_front.Goals as goal

pub returns-then-branch-clause-first : goal.returns-then-branch-clause-first
returns-then-branch-clause-first c =
    let ts = c.args.tokens.now in
    let k = c.loop-place.place in
    record { token = get_or ts k no_token; at = slice_get-get_or ts k no_token c.loop-place-test.true; refused = c.in_ok-is_refused.ensures.yes c.if-branch.true; first = c.loop-place.invariant }

pub loop-place-preserved : goal.loop-place-preserved
loop-place-preserved c =
    let ts = c.args.tokens.now in
    let k = c.loop-place.place in
    none_more (λ (t : Token). IsRefused (take t.to c.args.text.now) c.args.fault.now) ts k (get_or ts k no_token) (slice_get-get_or ts k no_token c.loop-place-test.true) (c.in_ok-is_refused.ensures.no c.if-branch.false) c.loop-place.invariant

pub returns-clause-first : goal.returns-clause-first
returns-clause-first c = λ j t at. c.loop-place.invariant j t (let l = slice_get_within c.args.tokens.now j t at in omega (arith, l, c.loop-place-test.false)) at
