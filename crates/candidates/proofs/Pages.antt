-- Numbers of a page's candidates.
use Rattle.std.proofs.Common.{ℕ, ◌*◌, ◌/◌, ◌<◌, ◌≤◌, arith}
use Rattle.std.proofs.lemmas.Nat.{div_below}
use Rattle.std.proofs.Math.Nat.{mul-le-mul_right}
use Rattle.candidates.specs.declared.fault.TheConstants.{MOST_CANDIDATES}
use Rattle.candidates.specs.declared.page.Page.{Page}
use Rattle.candidates.specs.Candidates.{count_orders}
use Rattle.candidates.specs.Executions.{block, upto}
use Rattle.candidates.specs.Readings.{IsPage}
use Rattle.candidates.proofs.Caps.{product_positive, orders_positive}
use Rattle.candidates.proofs.Stretches.{whole_page}

pub some_orders : (n : ℕ) (p : Page) → IsPage n p → 0 < p.orders
some_orders n p h = omega (arith, h.orders, product_positive (count_orders p.runs.items) (orders_positive p.runs.items) (upto n))

-- by which number the reads of a candidate read
pub reading_within : (n : ℕ) (p : Page) (i : ℕ) → IsPage n p → i < block n p.runs.items → i / p.orders < p.ways
reading_within n p i h l = div_below i p.orders p.ways (some_orders n p h) (omega (arith, l, whole_page n p h))

-- the first candidate whose reads read by a number
pub start_within : (n : ℕ) (p : Page) (i : ℕ) → IsPage n p → i ≤ p.ways → i * p.orders ≤ MOST_CANDIDATES
start_within n p i h l = omega (arith, mul-le-mul_right p.orders l, whole_page n p h, h.most)
