-- Live claims as entries by number, beside the slices that they hold.
use Rattle.std.specs.Prelude.{◌≡◌, ◌⊎◌, ℕ, ◌==◌, ◌&&◌, Bool, true, false, List, [], ◌∷◌, nat_le}
use Rattle.std.specs.List.{list_any, list_all}
use Rattle.book.specs.Workbench.{is_claimed}
use Rattle.book.specs.declared.live.Held.{Held}
use Rattle.book.specs.declared.live.Live.{Live}
use Rattle.book.specs.declared.live.Place.{Place}

-- the claim of this number
abbrev pub live_of : ℕ × Held → Live
live_of e = record { number = e.0; seat = e.1.seat; job = e.1.job; slice = e.1.slice }

-- one of the claims has this number
abbrev pub is_used : List Live → ℕ → Bool
is_used live number = list_any (λ c. c.number == number) live

-- no two have one number, or hold one slice
unfoldable pub AreApart : List Live → Type 0
AreApart [] = Unit {0}
AreApart (c ∷ cs) = (is_used cs c.number ≡ false) × (is_claimed cs c.job c.slice ≡ false) × AreApart cs

-- none has a number above this
abbrev pub are_upto : ℕ → List Live → Bool
are_upto last live = list_all (λ c. nat_le c.number last) live

-- The slices that `holds` tells are those that claims hold; claims are apart, and none has a number above the last.
pub record IsHeld (live : List Live) (holds : ℕ → ℕ → Bool) (last : ℕ) : Type 0 where
  pub apart : AreApart live
  pub upto : are_upto last live ≡ true
  pub same : (job slice : ℕ) → holds job slice ≡ is_claimed live job slice

-- each slice that is claimed before is claimed after, but for that of this claim
abbrev pub AreClaimedBut : Live → List Live → List Live → Type 0
AreClaimedBut c before after = (job slice : ℕ) → is_claimed before job slice ≡ true → (is_claimed after job slice ≡ true) ⊎ ((c.job ≡ job) × (c.slice ≡ slice))

-- whether the two are one slice
abbrev pub same_place : Place → Place → Bool
same_place p q = (p.job == q.job) && (p.slice == q.slice)
