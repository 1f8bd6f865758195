use Rattle.std.proofs.Common.{◌∙◌, ap}
use Rattle.wb_text.proofs.OneFault.{no_cause}
use Rattle.litmus_syntax.specs.Symbols.{symbols_of}
use Rattle.test_places.proofs.Stops.{none_match}
use Rattle.test_places.proofs.Told.{no_list, no_symbol}
use Rattle.test_places.proofs.place.place_among.Goals as goal

pub returns-in-None : goal.returns-in-None
returns-in-None c =
    no_symbol c.args.text.now c.in-Ok.tokens.items c.deref-in-Ok.result.now c.args.fault.now c.in-Ok.ensures.found (c.deref-in-Ok.ensures.value ∙ c.in_ok-symbols-in-Ok.ensures ∙ ap (symbols_of c.args.text.now) c.deref.ensures.value)
    (none_match c.in_ok-place-in-Ok.field-0 _ _ c.in-None.is c.in_ok-place-in-Ok.ensures)

pub returns-in-Err : goal.returns-in-Err
returns-in-Err c = no_list c.args.text.now c.args.fault.now (λ ts is. no_cause is.short c.in_ok-has_memory-in-Err.ensures c.in-Err.ensures.cause is)
