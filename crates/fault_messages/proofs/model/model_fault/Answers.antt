use Rattle.std.specs.String.{string_bytes}
use Rattle.fault_messages.proofs.Files.{some_if, in_file, in_none}
use Rattle.fault_messages.proofs.model.model_fault.Goals as goal

pub returns-in-Some : goal.returns-in-Some
returns-in-Some c =
    in_file string_bytes c.args.word.now c.args.sources.now c.args.fault.now c.in_ok-place.field-0 c.in-Some.place c.index-sources-place.result c.message_in.result
    c.in-Some.is c.in_ok-place.ensures.place (some_if c.in_ok-place.field-0 c.in-Some.place _ c.in-Some.is c.in_ok-place.ensures.within) c.index-sources-place.is c.message_in.ensures

pub returns : goal.returns
returns c =
    in_none string_bytes c.args.word.now c.args.sources.now c.args.fault.now c.in_ok-place.field-0 c.label.result.now c.as_str-in-None.result.now c.message_without_place.result c.in-None.is c.in_ok-place.ensures.place c.label.ensures c.message_without_place.ensures
