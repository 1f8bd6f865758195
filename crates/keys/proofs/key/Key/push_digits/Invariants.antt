use Rattle.std.proofs.Common.{◌≡◌, ◌<◌, ◌-◌, ◌^◌}
use Rattle.keys.specs.Spelling.{digits_over}
use Rattle.keys.proofs.key.Key.push_digits.Given as goal

-- what is left of the number, over what is written, is the whole
abbrev pub invariant-loop : goal.invariant-loop
invariant-loop l = (digits_over (7 - l.counter) l.rest l.self ≡ digits_over 7 l.number l.fn.self) × (l.rest < 256 ^ (8 - l.counter))
