-- Searches of jobs, claims and files.
use Rattle.std.proofs.Common.{◌≡◌, ℕ, zero, suc, ◌||◌, ◌+◌, ◌<◌, ◌==◌, List, [], ◌∷◌, ◌++◌, Bool, true, false, Option, None, Some, Result, Ok, Err, length, get_or, take, drop, set, refl, sym, ap, ◌∙◌, arith, add-one, inl, inr, subst}
use denote.Ref.{Bor}
use Rattle.std.specs.Prelude.{if◌then◌else◌, option_copied, MatchOption, OnOk, OnErr}
use Rattle.std.specs.List.{list_any}
use Rattle.std.proofs.Math.Seq.{drop-cons}
use Rattle.listings.specs.Lists.{IsIn}
use Rattle.book.specs.Jobs.{Job, marked}
use Rattle.book.specs.Workbench.{job_of, marked_in}

pub here : {X : Type 0} (xs : List X) (i : ℕ) (x : X) → i < length xs → x ≡ get_or xs i x → drop i xs ≡ x ∷ drop (i + 1) xs
here xs i x h e = drop-cons xs i x h ∙ rw (← e, add-one) refl

if_true : {A : Type 0} (b : Bool) (x y : A) → b ≡ true → (if b then x else y) ≡ x
if_true b x y e = ap (λ v. if v then x else y) e

-- whether one is there

any_first : {X : Type 0} (p : X → Bool) (y : X) (ys : List X) (x : X) → IsIn x (y ∷ ys) → p x ≡ true → (IsIn x ys → list_any p ys ≡ true) → list_any p (y ∷ ys) ≡ true
any_first {X} p y ys x (inl e) is rest =
    let P : X → Type 0 = λ z. p z ≡ true in
    let first : p y ≡ true = subst P e is in
    rw first refl
any_first p y ys x (inr q) is rest =
    let some : list_any p ys ≡ true = rest q in
    let or : (b : Bool) → (b || true) ≡ true = elim [ true ↦ refl | false ↦ refl ] in
    rw some (or (p y))

pub any_is : {X : Type 0} (p : X → Bool) (xs : List X) (x : X) → IsIn x xs → p x ≡ true → list_any p xs ≡ true
any_is p [] x q is = absurd q
any_is p (y ∷ ys) x q is = any_first p y ys x q is (λ r. any_is p ys x r is)

-- the job of a number, from the front

-- the first job behind some place that has the number
pub job_of-first : (xs : List Job) (i : ℕ) (x : Job) (number : ℕ) → i < length xs → x ≡ get_or xs i x → (x.number == number) ≡ true → job_of (drop i xs) number ≡ Some x
job_of-first xs i x number h e is = ap (λ ys. job_of ys number) (here xs i x h e) ∙ if_true (x.number == number) (Some x) (job_of (drop (i + 1) xs) number) is

pub marked_in-found : (xs : List Job) (i : ℕ) (x : Job) (number slice : ℕ) → i < length xs → x ≡ get_or xs i x → (x.number == number) ≡ true → marked_in (drop i xs) number slice ≡ marked slice x ∷ drop (i + 1) xs
marked_in-found xs i x number slice h e b = ap (λ v. marked_in v number slice) (here xs i x h e) ∙ if_true _ _ _ b

set_here : (xs : List Job) (i : ℕ) (y : Job) → i < length xs → set xs i y ≡ take i xs ++ y ∷ drop (i + 1) xs
set_here [] i y h = absurd (omega (arith, h))
set_here (x ∷ xs) zero y h = refl
set_here (x ∷ xs) (suc i) y h =
    let k : i < length xs = omega (arith, h) in
    let e : set xs i y ≡ take i xs ++ y ∷ drop (suc i) xs = set_here xs i y k ∙ rw add-one refl in
    rw (add-one, e) refl

pub marked_in-set : (xs : List Job) (i : ℕ) (x : Job) (number slice : ℕ) → i < length xs → x ≡ get_or xs i x → (x.number == number) ≡ true → marked_in xs number slice ≡ take i xs ++ marked_in (drop i xs) number slice → set xs i (marked slice x) ≡ marked_in xs number slice
marked_in-set xs i x number slice h e b k = set_here xs i _ h ∙ sym (k ∙ ap (λ v. take i xs ++ v) (marked_in-found xs i x number slice h e b))

-- a list with an element set to itself
pub set_same : (xs : List Job) (i : ℕ) (x : Job) → i < length xs → x ≡ get_or xs i x → set xs i x ≡ xs
set_same [] i x h e = absurd (omega (arith, h))
set_same (y ∷ ys) zero x h e = ap (λ z. z ∷ ys) e
set_same (y ∷ ys) (suc i) x h e = ap (λ zs. y ∷ zs) (set_same ys i x (omega (arith, h)) e)

-- replaced files, from the front

-- an option by cases
pub match_same : {X : Type 0} (o r : Option X) → o ≡ r → MatchOption o (r ≡ None) (λ x. r ≡ Some x)
match_same None r e = sym e
match_same (Some x) r e = sym e

pub match_copied : {X : Type 0} (o : Option (Bor X)) (r : Option X) → option_copied o ≡ r → MatchOption o (r ≡ None) (λ x. r ≡ Some x.now)
match_copied None r e = sym e
match_copied (Some x) r e = sym e

-- a result by cases

pub on_ok : {T E A B : Type 0} (r : Result T E) → (A → B) → OnOk r A → OnOk r B
on_ok (Ok t) f h = f h
on_ok (Err e) f h = tt

pub on_err : {T E A B : Type 0} (r : Result T E) → (A → B) → OnErr r A → OnErr r B
on_err (Ok t) f h = tt
on_err (Err e) f h = f h
