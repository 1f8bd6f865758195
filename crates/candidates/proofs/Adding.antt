-- Counts of the locations, one location at a time.
use Rattle.std.proofs.Common.{◌≡◌, ℕ, zero, suc, ◌+◌, ◌*◌, ◌^◌, ◌<◌, ◌≤◌, List, [], ◌∷◌, ◌++◌, append_assoc, append-nil, length, map, take, drop, get_or, drop-cons, add-one, refl, sym, ◌∙◌, ap, subst, arith}
use Rattle.std.specs.List.{count_by}
use Rattle.std.proofs.lemmas.List.{take_all}
use Rattle.events.specs.declared.event.Event.{Event}
use Rattle.events.specs.Executions.{writes_to}
use Rattle.listings.specs.Lists.{tabulate, factorial, sum_of}
use Rattle.candidates.specs.declared.counts.Counts.{Counts}
use Rattle.candidates.specs.Bounds.{reads_from}
use Rattle.candidates.specs.Groups.{counts_of, tally_of, plus, sum_tally, ways_of, IsFew, IsSmall}
use Rattle.std.proofs.Math.Nat.{one-le-pow}
use Rattle.candidates.proofs.Caps.{factor_le, factorial_positive}

tabulate_last : {X : Type 0} (n : ℕ) (f : ℕ → X) → tabulate n f ++ f n ∷ [] ≡ tabulate (suc n) f
tabulate_last zero f = refl
tabulate_last {X = X} (suc n) f = ap (λ (xs : List X). f 0 ∷ xs) (tabulate_last n (λ i. f (suc i)))

-- one location more
pub tally_next : (l : ℕ) (es : List Event) (done more : List Counts) (c : Counts) → done ≡ tally_of l es → c.reads ≡ count_by (reads_from l) es → c.writes ≡ count_by (writes_to l) es → more ≡ done ++ c ∷ [] → more ≡ tally_of (l + 1) es
tally_next l es done more c e r w m =
    let C : ℕ → ℕ → Counts = λ a b. record { reads = a; writes = b } in
    let same : c ≡ counts_of es l = ap (λ a. C a c.writes) r ∙ ap (λ b. C (count_by (reads_from l) es) b) w in
    let s : suc l ≡ l + 1 = omega arith in
    m ∙ ap (λ (cs : List Counts). cs ++ c ∷ []) e ∙ ap (λ (d : Counts). tally_of l es ++ d ∷ []) same ∙ tabulate_last l (counts_of es) ∙ ap (λ n. tally_of n es) s

sum_next : (as' bs : List Counts) (i : ℕ) (d : Counts) → i < length as' → i < length bs → sum_tally (drop i as') (drop i bs) ≡ plus (get_or as' i d) (get_or bs i d) ∷ sum_tally (drop (i + 1) as') (drop (i + 1) bs)
sum_next as' bs i d l m =
    let n : suc i ≡ i + 1 = omega arith in
    ap (λ (xs : List Counts). sum_tally xs (drop i bs)) (drop-cons as' i d l)
    ∙ ap (λ (ys : List Counts). sum_tally (get_or as' i d ∷ drop (suc i) as') ys) (drop-cons bs i d m)
    ∙ ap (λ k. plus (get_or as' i d) (get_or bs i d) ∷ sum_tally (drop k as') (drop k bs)) n

abbrev pub nowhere : Counts
nowhere = record { reads = 0; writes = 0 }

-- A sum more, and one place less to come.
pub add_next : (as' bs : List Counts) (i : ℕ) (done more total : List Counts) → i < length as' → i < length bs → more ≡ done ++ plus (get_or as' i nowhere) (get_or bs i nowhere) ∷ [] → done ++ sum_tally (drop i as') (drop i bs) ≡ total → more ++ sum_tally (drop (i + 1) as') (drop (i + 1) bs) ≡ total
add_next as' bs i done more total l m e h =
    let sum = plus (get_or as' i nowhere) (get_or bs i nowhere) in
    let rest = sum_tally (drop (i + 1) as') (drop (i + 1) bs) in
    ap (λ (xs : List Counts). xs ++ rest) e ∙ append_assoc done (sum ∷ []) rest ∙ ap (λ (xs : List Counts). done ++ xs) (sym (sum_next as' bs i nowhere l m)) ∙ h

sum_nothing : (xs : List Counts) → sum_tally xs [] ≡ []
sum_nothing [] = refl
sum_nothing (x ∷ xs) = refl

sum_over : (as' bs : List Counts) (i : ℕ) → (i < length as' → length bs ≤ i) → sum_tally (drop i as') (drop i bs) ≡ []
sum_over [] bs zero o = refl
sum_over [] bs (suc i) o = refl
sum_over (a ∷ as') [] zero o = refl
sum_over (a ∷ as') [] (suc i) o = sum_nothing (drop i as')
sum_over (a ∷ as') (b ∷ bs) zero o = absurd (omega (arith, o (omega arith)))
sum_over (a ∷ as') (b ∷ bs) (suc i) o = sum_over as' bs i (λ l. omega (arith, o (omega (arith, l))))

pub add_end : (as' bs : List Counts) (i : ℕ) (done total : List Counts) → (i < length as' → length bs ≤ i) → done ++ sum_tally (drop i as') (drop i bs) ≡ total → done ≡ total
add_end as' bs i done total o e = sym (append-nil done) ∙ ap (λ (xs : List Counts). done ++ xs) (sym (sum_over as' bs i o)) ∙ e

sum_get : (as' bs : List Counts) (i : ℕ) (d : Counts) → i < length as' → i < length bs → (get_or (sum_tally as' bs) i d ≡ plus (get_or as' i d) (get_or bs i d)) × (i < length (sum_tally as' bs))
sum_get [] bs i d l m = absurd (omega (arith, l))
sum_get (a ∷ as') [] i d l m = absurd (omega (arith, m))
sum_get (a ∷ as') (b ∷ bs) zero d l m = (refl, omega arith)
sum_get (a ∷ as') (b ∷ bs) (suc i) d l m = (let r = sum_get as' bs i d (omega (arith, l)) (omega (arith, m)) in (r.0, omega (arith, r.1)))

pub small_sum : (as' bs : List Counts) (i : ℕ) (d : Counts) → IsSmall (sum_tally as' bs) → i < length as' → i < length bs → ((get_or as' i d).reads + (get_or bs i d).reads ≤ 512) × ((get_or as' i d).writes + (get_or bs i d).writes ≤ 512)
small_sum as' bs i d h l m =
    let g = sum_get as' bs i d l m in
    let P : Counts → Type 0 = IsFew in
    subst P g.0 (h i d g.1)

pub same_end : (as' bs : List Counts) (i : ℕ) → length as' ≤ i → length as' ≡ length bs → take i as' ≡ take i bs → as' ≡ bs
same_end as' bs i l e t = sym (take_all i as' l) ∙ t ∙ take_all i bs (omega (arith, l, e))

pub some_ways : (c : Counts) → 1 ≤ ways_of c
some_ways c =
    let p : 1 ≤ (c.writes + 1) ^ c.reads = one-le-pow c.reads (c.writes + 1) (omega arith) in
    omega (arith, p, factor_le ((c.writes + 1) ^ c.reads) (factorial c.writes) (factorial_positive c.writes))

pub factor_positive : (p rest total : ℕ) → p * rest ≡ total → 1 ≤ total → 1 ≤ p
factor_positive zero rest total e l = absurd (omega (arith, e, l))
factor_positive (suc p) rest total e l = omega arith

-- one part more of a sum
pub take_on : (xs : List ℕ) (i : ℕ) → i < length xs → sum_of (λ n. n) (take (i + 1) xs) ≡ sum_of (λ n. n) (take i xs) + get_or xs i 0
take_on [] i l = absurd (omega (arith, l))
take_on (x ∷ xs) zero l = omega arith
take_on (x ∷ xs) (suc i) l =
    let s : suc i + 1 ≡ suc (i + 1) = omega arith in
    let e : sum_of (λ n. n) (take (suc i + 1) (x ∷ xs)) ≡ x + sum_of (λ n. n) (take (i + 1) xs) = ap (λ k. sum_of (λ n. n) (take k (x ∷ xs))) s in
    omega (arith, e, take_on xs i (omega (arith, l)))

pub drop_on : (xs : List ℕ) (i : ℕ) → i < length xs → sum_of (λ n. n) (drop i xs) ≡ get_or xs i 0 + sum_of (λ n. n) (drop (i + 1) xs)
drop_on xs i l = ap (sum_of (λ n. n)) (let e : drop i xs ≡ get_or xs i 0 ∷ drop (i + 1) xs = rw (add-one, drop-cons xs i 0) refl in e)

-- one more of a row that is mapped
pub row_next : {A B : Type 0} (f : A → B) (xs : List A) (i : ℕ) (d : A) (done more : List B) (b : B) → i < length xs → b ≡ f (get_or xs i d) → more ≡ done ++ b ∷ [] → done ++ map f (drop i xs) ≡ map f xs → more ++ map f (drop (i + 1) xs) ≡ map f xs
row_next {A = A} {B = B} f xs i d done more b l e m h =
    let rest = map f (drop (i + 1) xs) in
    let n : drop i xs ≡ get_or xs i d ∷ drop (i + 1) xs = rw (add-one, drop-cons xs i d) refl in
    ap (λ (ys : List B). ys ++ rest) m ∙ append_assoc done (b ∷ []) rest
    ∙ ap (λ (y : B). done ++ y ∷ rest) e ∙ ap (λ (ys : List A). done ++ map f ys) (sym n) ∙ h
