-- Where the first byte of a kind stands.
use Rattle.std.proofs.Common.{◌≡◌, ◌<◌, ◌+◌, ℕ, suc, List, ◌∷◌, ◌++◌, length, take, drop, get_or, arith, ap, sym, ◌∙◌}
use Rattle.std.specs.Prelude.{◌≢◌, ◌==◌, true}
use Rattle.std.specs.List.{All}
use Rattle.std.proofs.lemmas.List.Elements.{All-from_get_or}
use Rattle.std.proofs.lemmas.List.{get_or-take, length-take-le}
use Rattle.std.proofs.lemmas.Bool.{eq-eqb, eqb-true}
use Rattle.std.proofs.Math.Seq.{split_at}
use Rattle.memchr.specs.Find.{Nowhere, NoneBefore, Passes, is_byte}

-- no byte is this one
pub nowhere : (byte : ℕ) (hay : List ℕ) → Nowhere (Passes (is_byte byte) hay) 0 (length hay) → All (λ b. b ≢ byte) hay
nowhere byte hay none = All-from_get_or (λ b. b ≢ byte) hay 0 (λ i lt e. none i (omega arith) lt (eq-eqb (get_or hay i 0) byte e))

-- none before the first is
pub front : (byte : ℕ) (hay : List ℕ) (k : ℕ) → NoneBefore (Passes (is_byte byte) hay) 0 (length hay) k → All (λ b. b ≢ byte) (take k hay)
front byte hay k none = All-from_get_or (λ b. b ≢ byte) (take k hay) 0 (λ i lt e.
    (let less : i < k = (let high = none.high in omega (arith, lt, length-take-le k hay (omega (arith, high)))) in none.before i (omega arith) less (eq-eqb (get_or hay i 0) byte (sym (get_or-take k hay i 0 less) ∙ e))))

-- the bytes around the first
pub split : (byte : ℕ) (hay : List ℕ) (k : ℕ) → NoneBefore (Passes (is_byte byte) hay) 0 (length hay) k → Passes (is_byte byte) hay k → hay ≡ take k hay ++ (byte ∷ drop (k + 1) hay)
split byte hay k none at =
    let next : suc k ≡ k + 1 = omega arith in
    split_at hay k 0 none.high ∙ ap (λ b. take k hay ++ (b ∷ drop (suc k) hay)) (eqb-true (get_or hay k 0) byte at) ∙ ap (λ n. take k hay ++ (byte ∷ drop n hay)) next
