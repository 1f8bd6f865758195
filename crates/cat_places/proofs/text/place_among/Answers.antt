use Rattle.std.proofs.Common.{List, subst}
use Rattle.wb_text.specs.declared.token.Token.{Token}
use Rattle.wb_text.proofs.OneFault.{no_cause}
use Rattle.cat_places.specs.Fronts.{NoneRefused}
use Rattle.cat_places.proofs.Texts.{some_match, none_match, no_front, no_list, told_front}
use Rattle.cat_places.proofs.text.place_among.Goals as goal

pub returns-in-Some : goal.returns-in-Some
returns-in-Some c =
    told_front c.args.text.now c.in-Ok.tokens.items c.deref.result.now c.deref-in-Some.result.now c.args.fault.now c.in-Some.place c.told_at.result c.in-Ok.ensures.found c.deref.ensures.value c.deref-in-Some.ensures.value
    (some_match c.in_ok-place-in-Ok.field-0 c.in-Some.place _ _ c.in-Some.is c.in_ok-place-in-Ok.ensures.first) c.told_at.ensures

pub returns-in-None : goal.returns-in-None
returns-in-None c =
    no_front c.args.text.now c.in-Ok.tokens.items c.args.fault.now c.in-Ok.ensures.found
    (subst (λ (ts : List Token). NoneRefused c.args.text.now ts c.args.fault.now) c.deref.ensures.value (none_match c.in_ok-place-in-Ok.field-0 _ _ c.in-None.is c.in_ok-place-in-Ok.ensures.first))

pub returns-in-Err : goal.returns-in-Err
returns-in-Err c = no_list c.args.text.now c.args.fault.now (λ ts is. no_cause is.short c.in_ok-has_memory-in-Err.ensures c.in-Err.ensures.cause is)
