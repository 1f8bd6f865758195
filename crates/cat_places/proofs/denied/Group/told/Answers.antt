use Rattle.std.proofs.Common.{inl}
use Rattle.cat_places.proofs.Texts.{some_match}
use Rattle.cat_places.proofs.denied.Group.told.Goals as goal

pub returns-in-Some : goal.returns-in-Some
returns-in-Some c = inl (c.in-Some.number, some_match c.in_ok-number.field-0 c.in-Some.number _ _ c.in-Some.is c.in_ok-number.ensures, c.token_at.ensures)
