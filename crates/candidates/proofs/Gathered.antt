-- What is gathered from a row, one member at a time.
use Rattle.std.proofs.Common.{◌≡◌, ℕ, suc, ◌+◌, ◌<◌, List, [], ◌∷◌, ◌++◌, append_assoc, append-nil, length, drop, get_or, drop-cons, add-one, refl, sym, ◌∙◌, ap, arith, true, false}
use Rattle.events.specs.declared.event.Event.{Event}
use Rattle.events.specs.declared.event.EventId.TheVariants.{Own}
use Rattle.events.specs.Executions.{ThreadRun, writes_to}
use Rattle.candidates.specs.Executions.{writes_from, writes_from_thread}

-- The member at place i gives `more`, and those behind it what G says.
pub gathered_on : {A X : Type 0} (F G : List A → List X) (xs : List A) (i : ℕ) (x : A) (more done grown total : List X) → i < length xs → x ≡ get_or xs i x → F (x ∷ drop (i + 1) xs) ≡ more ++ G (drop (i + 1) xs) → grown ≡ done ++ more → done ++ F (drop i xs) ≡ total → grown ++ G (drop (i + 1) xs) ≡ total
gathered_on {A = A} {X = X} F G xs i x more done grown total l is step g h =
    let rest = drop (i + 1) xs in
    let n : drop i xs ≡ get_or xs i x ∷ rest = rw (add-one, drop-cons xs i x) refl in
    let e : x ∷ rest ≡ drop i xs = ap (λ (y : A). y ∷ rest) is ∙ sym n in
    ap (λ (ys : List X). ys ++ G rest) g ∙ append_assoc done more (G rest) ∙ ap (λ (ys : List X). done ++ ys) (sym step ∙ ap F e) ∙ h

-- The member at place i gives nothing.
pub passed_on : {A X : Type 0} (F G : List A → List X) (xs : List A) (i : ℕ) (x : A) (done total : List X) → i < length xs → x ≡ get_or xs i x → F (x ∷ drop (i + 1) xs) ≡ G (drop (i + 1) xs) → done ++ F (drop i xs) ≡ total → done ++ G (drop (i + 1) xs) ≡ total
passed_on F G xs i x done total l is step h = gathered_on F G xs i x [] done done total l is step (sym (append-nil done)) h

next_place : (p : ℕ) → suc p ≡ p + 1
next_place p = omega arith

pub write_yes : (x k p : ℕ) (e : Event) (es : List Event) → writes_to x e ≡ true → writes_from x k p (e ∷ es) ≡ Own k p ∷ writes_from x k (p + 1) es
write_yes x k p e es t = rw t (ap (λ q. Own k p ∷ writes_from x k q es) (next_place p))

pub write_no : (x k p : ℕ) (e : Event) (es : List Event) → writes_to x e ≡ false → writes_from x k p (e ∷ es) ≡ writes_from x k (p + 1) es
write_no x k p e es t = rw t (ap (λ q. writes_from x k q es) (next_place p))

pub writes_of_thread : (x k : ℕ) (run : ThreadRun) (runs : List ThreadRun) → writes_from_thread x k (run ∷ runs) ≡ writes_from x k 0 run.events ++ writes_from_thread x (k + 1) runs
writes_of_thread x k run runs = ap (λ q. writes_from x k 0 run.events ++ writes_from_thread x q runs) (next_place k)
