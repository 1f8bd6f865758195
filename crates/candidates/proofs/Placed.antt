-- Runs whose places among those of their threads are known.
use Rattle.std.proofs.Common.{◌≡◌, ℕ, zero, suc, ◌+◌, ◌-◌, ◌<◌, ◌≤◌, List, [], ◌∷◌, take, drop, length, get_or, refl, sym, ◌∙◌, ap, subst, arith}
use Rattle.std.proofs.lemmas.List.{drop-drop, get_or-drop, length-drop}
use Rattle.events.specs.Executions.{ThreadRun, empty_run}
use Rattle.candidates.specs.Levels.{ArePlaced}

take_get : {X : Type 0} (n : ℕ) (xs : List X) (k : ℕ) (d : X) → k < n → get_or (take n xs) k d ≡ get_or xs k d
take_get zero xs k d l = absurd (omega (arith, l))
take_get (suc n) [] k d l = refl
take_get (suc n) (x ∷ xs) zero d l = refl
take_get (suc n) (x ∷ xs) (suc k) d l = take_get n xs k d (omega (arith, l))

-- No places say nothing.
pub placed_none : (threads : List (List ThreadRun)) (runs : List ThreadRun) (places : List ℕ) → places ≡ [] → ArePlaced threads runs places
placed_none threads runs places e =
    let P : List ℕ → Type 0 = λ ps. ArePlaced threads runs ps in
    subst P (sym e) (record { few = omega arith; there = omega arith; are = λ k l. absurd (omega (arith, l)) })

-- What is behind the places may be cut off.
pub placed_cut : (threads : List (List ThreadRun)) (runs new : List ThreadRun) (places : List ℕ) (n : ℕ) → ArePlaced threads runs places → length places ≤ n → new ≡ take n runs → ArePlaced threads new places
placed_cut threads runs new places n h l e =
    let P : List ThreadRun → Type 0 = λ rs. ArePlaced threads rs places in
    subst P (sym e) (record {
      few = h.few;
      there = long n runs (length places) l h.there;
      are = λ k b. take_get n runs k empty_run (omega (arith, b, l)) ∙ h.are k b;
    })
  where
    long : {X : Type 0} (n : ℕ) (xs : List X) (m : ℕ) → m ≤ n → m ≤ length xs → m ≤ length (take n xs)
    long zero xs m a b = omega (arith, a)
    long (suc n) [] m a b = omega (arith, b)
    long (suc n) (x ∷ xs) zero a b = omega arith
    long (suc n) (x ∷ xs) (suc m) a b = let k = long n xs m (omega (arith, a)) (omega (arith, b)) in omega (arith, k)

-- Lists that are the same behind a place have the same at it.
same_there : {X : Type 0} (xs ys : List X) (k : ℕ) (d : X) → drop k xs ≡ drop k ys → k < length ys → (k < length xs) × (get_or xs k d ≡ get_or ys k d)
same_there {X = X} xs ys k d e l =
    let n : k + 0 ≡ k = omega arith in
    let m : length xs - k ≡ length ys - k = sym (length-drop k xs) ∙ ap (λ (zs : List X). length zs) e ∙ length-drop k ys in
    (omega (arith, m, l), ap (λ i. get_or xs i d) (sym n) ∙ sym (get_or-drop k xs 0 d) ∙ ap (λ (zs : List X). get_or zs 0 d) e ∙ get_or-drop k ys 0 d ∙ ap (λ i. get_or ys i d) n)

-- Two runs of a thread at one place are the same.
pub placed_same : (threads : List (List ThreadRun)) (first runs wanted : List ThreadRun) (places others : List ℕ) (k : ℕ) → ArePlaced threads first places → ArePlaced threads wanted others → drop k runs ≡ drop k first → k < length places → k < length others → get_or places k 0 ≡ get_or others k 0 → (k < length runs) × (get_or runs k empty_run ≡ get_or wanted k empty_run)
placed_same threads first runs wanted places others k h g e l m same =
    let t = same_there runs first k empty_run e (omega (arith, l, h.there)) in
    (t.0, t.1 ∙ h.are k l ∙ ap (λ p. get_or (get_or threads k []) p empty_run) same ∙ sym (g.are k m))

pub drop_one : {X : Type 0} (xs ys : List X) (k : ℕ) → drop k xs ≡ drop k ys → drop (k + 1) xs ≡ drop (k + 1) ys
drop_one xs ys k e = sym (drop-drop 1 k xs) ∙ ap (drop 1) e ∙ drop-drop 1 k ys
