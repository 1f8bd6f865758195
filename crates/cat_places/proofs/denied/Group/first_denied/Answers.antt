use Rattle.std.proofs.Common.{arith, get_or, rules}
use Rattle.std.proofs.lemmas.Option.{slice_get-get_or, slice_get_within}
use Rattle.cat_places.specs.Denied.{IsDenied}
use Rattle.cat_places.proofs.Denying.{none_more}
use Rattle.cat_places.proofs.Owning.{no_token}
use Rattle.cat_places.proofs.denied.Group.first_denied.Goals as goal

pub loop-number-preserved : goal.loop-number-preserved
loop-number-preserved c =
    let self = c.args.self.now in
    let n = c.loop-number.number in
    none_more (IsDenied self.files.now self.before.now self.item self.text.now self.uses.now) c.args.uses.now n (get_or c.args.uses.now n no_token) (slice_get-get_or c.args.uses.now n no_token c.loop-number-test.true)
    (search rules) c.loop-number.invariant

pub returns : goal.returns
returns c = λ j t at. c.loop-number.invariant j t (let l = slice_get_within c.args.uses.now j t at in omega (arith, l, c.loop-number-test.false)) at
