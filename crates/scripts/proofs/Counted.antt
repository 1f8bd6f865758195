-- Lines that are counted, one after another.
use Rattle.std.proofs.Common.{◌≡◌, ◌≢◌, ◌≤◌, ◌<◌, ◌+◌, ◌++◌, ◌⊎◌, ℕ, List, [], ◌∷◌, ◌∙◌, sym, refl, subst, inl, inr, arith}
use Rattle.std.specs.Prelude.{Bool, true, false, Option, None, Some, Result, Ok, Err, IsErrAnd}
use Rattle.std.specs.Io.KnownBytes.{Keeps}
use Rattle.scripts.specs.declared.reading_fault.ScriptFault.{ScriptFault}
use Rattle.scripts.specs.declared.reading_fault.ScriptFault.TheVariants as faults
use Rattle.scripts.specs.Lines.{ahead, IsNextLine, AreLines, nothing_read, line_read, HasMore, IsTooLong}

-- one line more
pub counted : (a b c : Option (List ℕ)) (m n k : ℕ) (line : List ℕ) → AreLines a m b n → n < 1000000 → IsNextLine b c line → k ≡ n + 1 → AreLines a m c k
counted a b c m n k line lines room next count = subst (AreLines a m c) (sym count) (line_read lines room next)

pub grows : (a : Option (List ℕ)) (m : ℕ) (b : Option (List ℕ)) (n : ℕ) → AreLines a m b n → m ≤ n
grows a m _ _ nothing_read = omega arith
grows a m b _ (line_read {mid} {n = k} lines room next) = let less : m ≤ k = grows a m mid k lines in omega (arith, less)

-- and lines behind those
pub joined : (a b : Option (List ℕ)) (m n : ℕ) (c : Option (List ℕ)) (k : ℕ) → AreLines a m b n → AreLines b n c k → AreLines a m c k
joined a b m n _ _ lines nothing_read = lines
joined a b m n c _ lines (line_read {mid} {n = k} more room next) = line_read (joined a b m n mid k lines more) room next

-- one result has one number
pub same_number : {A : Type 0} (r : Result A ScriptFault) (m n : ℕ) → r ≡ Err (faults.BadLine m) → r ≡ Err (faults.BadLine n) → n ≡ m
same_number r m n p q = cc

-- the fault of a call that a result hands on
pub told_on : {A F : Type 0} (r : Result A F) (f e : F) → IsErrAnd r (λ g. g ≡ f) → r ≡ Err e → f ≡ e
told_on (Ok done) f e is same = absurd is
told_on (Err g) f e is same = cc

-- a script of too many lines, seen from before some of them
pub longer : (a b : Option (List ℕ)) (m n : ℕ) → AreLines a m b n → IsTooLong b n → IsTooLong a m
longer a b m n lines h = record { end = h.end; count = h.count; lines = joined a b m n h.end h.count lines h.lines; most = h.most; more = h.more }

pub longer_still : {P : Type 0} (a b : Option (List ℕ)) (m n : ℕ) → AreLines a m b n → P ⊎ IsTooLong b n → P ⊎ IsTooLong a m
longer_still a b m n lines (inl marked) = inl marked
longer_still a b m n lines (inr h) = inr (longer a b m n lines h)

-- bytes of a block are bytes that follow
pub more_ahead : (old block : List ℕ) (left next : Option (List ℕ)) → block ≢ [] → Keeps (ahead old left) (ahead block next) → HasMore (ahead old left)
more_ahead old block None next some kept = tt
more_ahead old block (Some xs) None some kept = absurd kept
more_ahead old [] (Some xs) (Some ys) some kept = absurd (some refl)
more_ahead old (b ∷ bs) (Some xs) (Some ys) some kept = λ e. (let none : b ∷ (bs ++ ys) ≡ [] = kept ∙ e in cc)

-- a result is one of both, and an answer one of both

pub ok_is_no_err : {A F P : Type 0} (x : A) (f : F) → Ok x ≡ Err f → P
ok_is_no_err x f e = absurd (cc)

pub ok_false_is_no_true : {F P : Type 0} (r : Result Bool F) → r ≡ Ok false → r ≡ Ok true → P
ok_false_is_no_true r is e = absurd (cc)
