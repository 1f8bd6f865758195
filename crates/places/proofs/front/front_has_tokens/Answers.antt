use Rattle.places.proofs.front.front_has_tokens.Goals as goal

pub returns-in-Err-clause-no : goal.returns-in-Err-clause-no
returns-in-Err-clause-no c = λ _ has. c.in_ok-in_memory-in-Err.ensures (c.in-Err.ensures.only has.0 has.1)
