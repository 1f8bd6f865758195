use Rattle.std.proofs.lemmas.List.{length-map}
use Rattle.outcome.proofs.Stored.{no_row}
use Rattle.outcome.proofs.reading.row_of_fields.Goals as goal

pub returns : goal.returns
returns c = no_row _ _ (length-map c.args.fields.now (λ f. f.now)) c.if-fields-eq4.false c.if-fields-eq12.false
