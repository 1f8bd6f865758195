use Rattle.std.proofs.Common.{◌+◌, ◌-◌, ◌<◌, arith, get_or, length}
use Rattle.std.proofs.lemmas.Option.{slice_get-get_or, slice_get_within}
use Rattle.cat_places.proofs.Owning.{front_less, last_front, no_token}
use Rattle.cat_places.proofs.item.end_of_items.Goals as goal

pub loop-end-init : goal.loop-end-init
loop-end-init c = record { within = omega arith; longest = λ k t low at. absurd (let l = slice_get_within c.args.tokens.now k t at in omega (arith, l, low)) }

pub returns-then-branch : goal.returns-then-branch
returns-then-branch c =
    let at = c.loop-end.end - 1 in
    let inside : at < length c.args.tokens.now = omega arith in
    last_front c.args.text.now c.args.tokens.now (c.args.items + c.args.more) c.loop-end.end (get_or c.args.tokens.now at no_token) c.loop-end-test.true c.loop-end.invariant.within (slice_get-get_or c.args.tokens.now at no_token inside)
    (c.in_ok-has_items.ensures.yes c.if-branch.true) c.loop-end.invariant.longest

pub loop-end-preserved : goal.loop-end-preserved
loop-end-preserved c =
    let at = c.loop-end.end - 1 in
    let inside : at < length c.args.tokens.now = omega arith in
    record {
      within = omega arith;
      longest = front_less c.args.text.now c.args.tokens.now (c.args.items + c.args.more) c.loop-end.end (get_or c.args.tokens.now at no_token) (slice_get-get_or c.args.tokens.now at no_token inside)
          (c.in_ok-has_items.ensures.no c.if-branch.false) c.loop-end.invariant.longest;
    }

pub returns : goal.returns
returns c = record { within = omega arith; has = λ k e. absurd (omega (arith, e)); longest = λ k t low. c.loop-end.invariant.longest k t (omega (arith, low)) }
