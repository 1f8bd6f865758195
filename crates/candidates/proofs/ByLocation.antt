-- How many candidates have some runs, location by location.
use Rattle.std.proofs.Common.{◌≡◌, ◌≢◌, ℕ, zero, suc, ◌+◌, ◌*◌, ◌^◌, ◌<◌, List, [], ◌∷◌, ◌++◌, length, filter, refl, sym, ◌∙◌, ap, inl, inr, arith, Bool, true, false, cond, ◌==◌, ◌&&◌, length-append}
use Rattle.std.proofs.Math.Nat.{mul_assoc, mul-one, pow-zero, pow-suc}
use Rattle.std.proofs.lemmas.Nat.{pow-add}
use Rattle.std.proofs.lemmas.List.Elements.{All-head, All-tail}
use Rattle.std.proofs.lemmas.List.Sums.{sum_by-cons}
use Rattle.std.proofs.lemmas.Bool.{cases_Bool, eqb-true, eq-eqb, false≢true}
use Rattle.std.specs.List.{sum_by, count_by, All}
use Rattle.events.specs.declared.event.Event.{Event}
use Rattle.events.specs.Executions.{ThreadRun, is_read, writes_to}
use Rattle.listings.specs.Lists.{product_by, factorial, tabulate}
use Rattle.c11_threads.specs.Bounds.{IsPlaced}
use Rattle.candidates.specs.Executions.{reads, writes_from, writes_from_thread, later_writes, upto, block}
use Rattle.candidates.specs.Bounds.{reads_from}

pub product_append : {A : Type 0} (s : A → ℕ) (xs ys : List A) → product_by s (xs ++ ys) ≡ product_by s xs * product_by s ys
product_append s [] ys = omega arith
product_append s (x ∷ xs) ys = ap (λ n. s x * n) (product_append s xs ys) ∙ sym (mul_assoc (s x) (product_by s xs) (product_by s ys))

and_right : (a b : Bool) → (a && b) ≡ true → b ≡ true
and_right true b h = h
and_right false b h = absurd (false≢true h)

one_times : (n : ℕ) → 1 * n ≡ n
one_times n = omega arith

power_one : (n : ℕ) → n ^ 1 ≡ n
power_one n = let e : n ^ suc 0 ≡ n ^ 0 * n = pow-suc n 0 in e ∙ ap (λ k. k * n) (pow-zero n) ∙ one_times n

swap : (a b c d : ℕ) → (a * b) * (c * d) ≡ (a * c) * (b * d)
swap a b c d = grind arith

pub product_mul : {A : Type 0} (s u : A → ℕ) (xs : List A) → product_by (λ a. s a * u a) xs ≡ product_by s xs * product_by u xs
product_mul s u [] = refl
product_mul s u (x ∷ xs) = ap (λ n. s x * u x * n) (product_mul s u xs) ∙ swap (s x) (u x) (product_by s xs) (product_by u xs)

pub product_same : {A : Type 0} (s u : A → ℕ) → ((a : A) → s a ≡ u a) → (xs : List A) → product_by s xs ≡ product_by u xs
product_same s u e [] = refl
product_same s u e (x ∷ xs) = ap (λ n. n * product_by s xs) (e x) ∙ ap (λ n. u x * n) (product_same s u e xs)

ones : (n : ℕ) (g t : ℕ → ℕ) → ((i : ℕ) → i < n → t (g i) ≡ 1) → product_by t (tabulate n g) ≡ 1
ones zero g t h = refl
ones (suc n) g t h = ap (λ k. k * product_by t (tabulate n (λ i. g (suc i)))) (h 0 (omega arith)) ∙ ap (λ k. 1 * k) (ones n (λ i. g (suc i)) t (λ i l. h (suc i) (omega (arith, l))))

single : (n : ℕ) (g t : ℕ → ℕ) (d : ℕ) → d < n → ((i : ℕ) → i < n → i ≢ d → t (g i) ≡ 1) → product_by t (tabulate n g) ≡ t (g d)
single zero g t d l h = absurd (omega (arith, l))
single (suc n) g t zero l h =
    ap (λ k. t (g 0) * k) (ones n (λ i. g (suc i)) t (λ i m. h (suc i) (omega (arith, m)) (λ e. omega (arith, e)))) ∙ mul-one (t (g 0))
single (suc n) g t (suc d) l h =
    let e : t (g 0) ≡ 1 = h 0 (omega arith) (λ e. omega (arith, e)) in
    let r = single n (λ i. g (suc i)) t d (omega (arith, l)) (λ i m ne. h (suc i) (omega (arith, m)) (λ e. ne (omega (arith, e)))) in
    ap (λ k. k * product_by t (tabulate n (λ i. g (suc i)))) e ∙ ap (λ k. 1 * k) r ∙ omega arith

filter_yes : (e : Event) (es : List Event) → is_read e.access ≡ true → filter (λ e. is_read e.access) (e ∷ es) ≡ e ∷ filter (λ e. is_read e.access) es
filter_yes e es h = rw h refl

filter_no : (e : Event) (es : List Event) → is_read e.access ≡ false → filter (λ e. is_read e.access) (e ∷ es) ≡ filter (λ e. is_read e.access) es
filter_no e es h = rw h refl

-- how often the event reads from x
abbrev pub once_at : Event → ℕ → ℕ
once_at e x = cond (reads_from x e) 1 0

at_here : (e : Event) → is_read e.access ≡ true → once_at e e.loc ≡ 1
at_here e h = rw (h, eq-eqb e.loc e.loc refl) refl

at_other : (e : Event) (x : ℕ) → x ≢ e.loc → once_at e x ≡ 0
at_other e x ne = elim (cases_Bool (reads_from x e)) [
  | inl t ↦ absurd (ne (sym (eqb-true e.loc x (and_right (is_read e.access) (e.loc == x) t))))
  | inr t ↦ rw t refl
]

at_none : (e : Event) (x : ℕ) → is_read e.access ≡ false → once_at e x ≡ 0
at_none e x h = rw h refl

one_read : (f : ℕ → ℕ) (n : ℕ) (e : Event) → e.loc < n → is_read e.access ≡ true → product_by (λ x. f x ^ once_at e x) (upto n) ≡ f e.loc
one_read f n e l h =
    single n (λ i. i) (λ x. f x ^ once_at e x) e.loc l (λ i m ne. ap (λ k. f i ^ k) (at_other e i ne) ∙ pow-zero (f i))
    ∙ ap (λ k. f e.loc ^ k) (at_here e h) ∙ power_one (f e.loc)

no_read : (f : ℕ → ℕ) (n : ℕ) (e : Event) → is_read e.access ≡ false → product_by (λ x. f x ^ once_at e x) (upto n) ≡ 1
no_read f n e h = ones n (λ i. i) (λ x. f x ^ once_at e x) (λ i m. ap (λ k. f i ^ k) (at_none e i h) ∙ pow-zero (f i))

-- the powers of a sum
split : (f : ℕ → ℕ) (c d : ℕ → ℕ) (n : ℕ) → product_by (λ x. f x ^ (c x + d x)) (upto n) ≡ product_by (λ x. f x ^ c x) (upto n) * product_by (λ x. f x ^ d x) (upto n)
split f c d n = product_same (λ x. f x ^ (c x + d x)) (λ x. f x ^ c x * f x ^ d x) (λ x. pow-add (f x) (c x) (d x)) (upto n) ∙ product_mul (λ x. f x ^ c x) (λ x. f x ^ d x) (upto n)

pub placed_read : (n : ℕ) (e : Event) → IsPlaced n e → is_read e.access ≡ true → e.loc < n
placed_read n e h t = elim h [ inl f ↦ absurd (false≢true (sym (ap is_read f) ∙ t)) | inr l ↦ l ]

events_by_location : (f : ℕ → ℕ) (n : ℕ) (es : List Event) → All (IsPlaced n) es → product_by (λ r. f r.loc) (filter (λ e. is_read e.access) es) ≡ product_by (λ x. f x ^ count_by (reads_from x) es) (upto n)
events_by_location f n [] h = sym (ones n (λ i. i) (λ x. f x ^ 0) (λ i l. pow-zero (f i)))
events_by_location f n (e ∷ es) h =
    let rest = events_by_location f n es (All-tail (IsPlaced n) e es h) in
    let p = product_by (λ x. f x ^ count_by (reads_from x) es) (upto n) in
    let more : (x : ℕ) → f x ^ count_by (reads_from x) (e ∷ es) ≡ f x ^ (once_at e x + count_by (reads_from x) es) = λ x. ap (λ k. f x ^ k) (sum_by-cons (λ a. cond (reads_from x a) 1 0) e es) in
    let s : product_by (λ x. f x ^ count_by (reads_from x) (e ∷ es)) (upto n) ≡ product_by (λ x. f x ^ once_at e x) (upto n) * p =
    product_same (λ x. f x ^ count_by (reads_from x) (e ∷ es)) (λ x. f x ^ (once_at e x + count_by (reads_from x) es)) more (upto n) ∙ split f (once_at e) (λ x. count_by (reads_from x) es) n in
    elim (cases_Bool (is_read e.access)) [
      | inl t ↦ ap (product_by (λ r. f r.loc)) (filter_yes e es t) ∙ ap (λ k. f e.loc * k) rest ∙ sym (s ∙ ap (λ k. k * p) (one_read f n e (placed_read n e (All-head (IsPlaced n) e es h) t) t))
      | inr t ↦ ap (product_by (λ r. f r.loc)) (filter_no e es t) ∙ rest ∙ sym (s ∙ ap (λ k. k * p) (no_read f n e t) ∙ one_times p)
    ]

-- how often the runs read from x, and write to it
abbrev pub reads_at : List ThreadRun → ℕ → ℕ
reads_at runs x = sum_by (λ run. count_by (reads_from x) run.events) runs

abbrev pub writes_at : List ThreadRun → ℕ → ℕ
writes_at runs x = sum_by (λ run. count_by (writes_to x) run.events) runs

reads_by_location : (f : ℕ → ℕ) (n : ℕ) (runs : List ThreadRun) → All (λ run. All (IsPlaced n) run.events) runs → product_by (λ r. f r.loc) (reads runs) ≡ product_by (λ x. f x ^ reads_at runs x) (upto n)
reads_by_location f n [] h = sym (ones n (λ i. i) (λ x. f x ^ 0) (λ i l. pow-zero (f i)))
reads_by_location f n (run ∷ runs) h =
    let P : ThreadRun → Type 0 = λ run. All (IsPlaced n) run.events in
    let here = events_by_location f n run.events (All-head P run runs h) in
    let rest = reads_by_location f n runs (All-tail P run runs h) in
    let more : (x : ℕ) → f x ^ reads_at (run ∷ runs) x ≡ f x ^ (count_by (reads_from x) run.events + reads_at runs x) = λ x. ap (λ k. f x ^ k) (sum_by-cons (λ (r : ThreadRun). count_by (reads_from x) r.events) run runs) in
    product_append (λ r. f r.loc) (filter (λ e. is_read e.access) run.events) (reads runs)
    ∙ ap (λ k. k * product_by (λ r. f r.loc) (reads runs)) here
    ∙ ap (λ k. product_by (λ x. f x ^ count_by (reads_from x) run.events) (upto n) * k) rest
    ∙ sym (product_same (λ x. f x ^ reads_at (run ∷ runs) x) (λ x. f x ^ (count_by (reads_from x) run.events + reads_at runs x)) more (upto n) ∙ split f (λ x. count_by (reads_from x) run.events) (reads_at runs) n)

writes_yes : (x k p : ℕ) (e : Event) (es : List Event) → writes_to x e ≡ true → length (writes_from x k p (e ∷ es)) ≡ 1 + length (writes_from x k (suc p) es)
writes_yes x k p e es h = rw h (omega arith)

writes_no : (x k p : ℕ) (e : Event) (es : List Event) → writes_to x e ≡ false → length (writes_from x k p (e ∷ es)) ≡ 0 + length (writes_from x k (suc p) es)
writes_no x k p e es h = rw h (omega arith)

counted : (x : ℕ) (e : Event) (b : Bool) (n : ℕ) → writes_to x e ≡ b → cond (writes_to x e) 1 0 + n ≡ cond b 1 0 + n
counted x e b n h = rw h refl

count_yes : (x : ℕ) (e : Event) (es : List Event) → writes_to x e ≡ true → count_by (writes_to x) (e ∷ es) ≡ 1 + count_by (writes_to x) es
count_yes x e es h = sum_by-cons (λ a. cond (writes_to x a) 1 0) e es ∙ counted x e true (count_by (writes_to x) es) h

count_no : (x : ℕ) (e : Event) (es : List Event) → writes_to x e ≡ false → count_by (writes_to x) (e ∷ es) ≡ 0 + count_by (writes_to x) es
count_no x e es h = sum_by-cons (λ a. cond (writes_to x a) 1 0) e es ∙ counted x e false (count_by (writes_to x) es) h

count_writes : (x k p : ℕ) (es : List Event) → length (writes_from x k p es) ≡ count_by (writes_to x) es
count_writes x k p [] = refl
count_writes x k p (e ∷ es) = elim (cases_Bool (writes_to x e)) [
  | inl t ↦ writes_yes x k p e es t ∙ ap (λ n. 1 + n) (count_writes x k (suc p) es) ∙ sym (count_yes x e es t)
  | inr t ↦ writes_no x k p e es t ∙ ap (λ n. 0 + n) (count_writes x k (suc p) es) ∙ sym (count_no x e es t)
]

count_threads : (x k : ℕ) (runs : List ThreadRun) → length (writes_from_thread x k runs) ≡ writes_at runs x
count_threads x k [] = refl
count_threads x k (run ∷ runs) =
    length-append (writes_from x k 0 run.events) (writes_from_thread x (suc k) runs)
    ∙ ap (λ n. n + length (writes_from_thread x (suc k) runs)) (count_writes x k 0 run.events)
    ∙ ap (λ n. count_by (writes_to x) run.events + n) (count_threads x (suc k) runs)
    ∙ sym (sum_by-cons (λ (r : ThreadRun). count_by (writes_to x) r.events) run runs)

pub count_later : (runs : List ThreadRun) (x : ℕ) → length (later_writes runs x) ≡ writes_at runs x
count_later runs x = count_threads x 0 runs

-- the candidates by the ways to read from x and to order its writes
abbrev pub ways_at : List ThreadRun → ℕ → ℕ
ways_at runs x = (writes_at runs x + 1) ^ reads_at runs x * factorial (writes_at runs x)

pub by_location : (n : ℕ) (runs : List ThreadRun) → All (λ run. All (IsPlaced n) run.events) runs → block n runs ≡ product_by (ways_at runs) (upto n)
by_location n runs h =
    let f : ℕ → ℕ = λ x. writes_at runs x + 1 in
    let one : product_by (λ r. suc (length (later_writes runs r.loc))) (reads runs) ≡ product_by (λ r. f r.loc) (reads runs) =
    product_same (λ (r : Event). suc (length (later_writes runs r.loc))) (λ r. f r.loc) (λ r. let e : suc (length (later_writes runs r.loc)) ≡ writes_at runs r.loc + 1 = omega (arith, count_later runs r.loc) in e) (reads runs) in
    let two : product_by (λ x. factorial (length (later_writes runs x))) (upto n) ≡ product_by (λ x. factorial (writes_at runs x)) (upto n) =
    product_same (λ x. factorial (length (later_writes runs x))) (λ x. factorial (writes_at runs x)) (λ x. ap factorial (count_later runs x)) (upto n) in
    ap (λ k. k * product_by (λ x. factorial (length (later_writes runs x))) (upto n)) (one ∙ reads_by_location f n runs h)
    ∙ ap (λ k. product_by (λ x. f x ^ reads_at runs x) (upto n) * k) two
    ∙ sym (product_mul (λ x. f x ^ reads_at runs x) (λ x. factorial (writes_at runs x)) (upto n))
