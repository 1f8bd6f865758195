-- How jobs are numbered.
use Rattle.std.specs.Prelude.{◌≡◌, ℕ, true, List, [], ◌∷◌, nat_le, nat_lt}
use Rattle.std.specs.List.{list_all}
use Rattle.book.specs.Jobs.{Job}

-- each has a greater number than those before it
unfoldable pub AreRising : List Job → Type 0
AreRising [] = Unit {0}
AreRising (j ∷ js) = (list_all (λ k. nat_lt j.number k.number) js ≡ true) × AreRising js

-- The jobs have rising numbers, up to the last that was given.
pub record AreNumbered (jobs : List Job) (last : ℕ) : Type 0 where
  pub rising : AreRising jobs
  pub upto : list_all (λ j. nat_le j.number last) jobs ≡ true
