-- Receipts that fit the journal, as many as it has entries, of n seats, are all of it.
use Rattle.std.proofs.Common.{◌≡◌, ◌≢◌, ◌⊎◌, inl, inr, ℕ, zero, suc, ◌+◌, ◌<◌, ◌≤◌, ◌==◌, ◌||◌, cond, true, List, [], ◌∷◌, length, drop, get_or, refl, sym, ap, ◌∙◌, subst, arith, Some}
use Rattle.std.specs.Prelude.{slice_get}
use Rattle.std.specs.List.{AllByRecursion}
use Rattle.std.proofs.lemmas.Bool.{eq-eqb, ne_eqb, cases_order, cases_lt}
use Rattle.std.proofs.lemmas.Option.{slice_get_within, get_or_from_slice_get}
use Rattle.std.proofs.Math.Seq.{drop-cons}
use Rattle.journal.specs.Lines.{Line}
use Rattle.sessions.specs.Views.{PassView, IsOfSeat}
use Rattle.sessions.specs.Finish.{has_seat, AllHere, receipts_of, of_seat, Fits, AllFit, IsShared, IsAmiss, IsFault}
use Rattle.sessions.specs.declared.ending.FinishCause.{FinishCause}
use Rattle.sessions.specs.declared.ending.FinishCause.TheVariants.{MissingPass, Mismatch}

equal_or_not : (a b : ℕ) → (a ≡ b) ⊎ (a ≢ b)
equal_or_not a b = elim (cases_order a b) [ inl e ↦ inl e | inr o ↦ inr (elim o [ inl lt ↦ (let ne : a ≢ b = omega (arith, lt) in ne) | inr gt ↦ (let ne : a ≢ b = omega (arith, gt) in ne) ]) ]

abbrev count : ℕ → List Line → ℕ
count k journal = length (of_seat k journal)

keeps : (k : ℕ) (x : Line) (xs : List Line) → x.seat ≡ k → of_seat k (x ∷ xs) ≡ x ∷ of_seat k xs
keeps k x xs e = ap (λ b. cond b (x ∷ of_seat k xs) (of_seat k xs)) (eq-eqb x.seat k e)

skips : (k : ℕ) (x : Line) (xs : List Line) → x.seat ≢ k → of_seat k (x ∷ xs) ≡ of_seat k xs
skips k x xs ne = ap (λ b. cond b (x ∷ of_seat k xs) (of_seat k xs)) (ne_eqb x.seat k ne)

-- the entries of the seats below n
abbrev upto : ℕ → List Line → ℕ
upto zero journal = 0
upto (suc n) journal = upto n journal + count n journal

upto-none : (n : ℕ) → upto n [] ≡ 0
upto-none zero = refl
upto-none (suc n) = let e : upto n [] ≡ 0 = upto-none n in omega (arith, e)

upto-skip : (n : ℕ) (x : Line) (xs : List Line) → n ≤ x.seat → upto n (x ∷ xs) ≡ upto n xs
upto-skip zero x xs h = refl
upto-skip (suc n) x xs h =
    let below : n ≤ x.seat = omega (arith, h) in
    let ne : x.seat ≢ n = omega (arith, h) in
    let a : upto n (x ∷ xs) ≡ upto n xs = upto-skip n x xs below in
    let b : count n (x ∷ xs) ≡ count n xs = ap length (skips n x xs ne) in
    omega (arith, a, b)

upto-more : (n : ℕ) (x : Line) (xs : List Line) → x.seat < n → upto n (x ∷ xs) ≡ suc (upto n xs)
upto-more zero x xs h = absurd (let no : ⊥ = omega (arith, h) in no)
upto-more (suc n) x xs h = elim (cases_lt x.seat n) [
  | inl lt ↦
      (let ne : x.seat ≢ n = omega (arith, lt) in
      let a : upto n (x ∷ xs) ≡ suc (upto n xs) = upto-more n x xs lt in
      let b : count n (x ∷ xs) ≡ count n xs = ap length (skips n x xs ne) in
      omega (arith, a, b))
  | inr ge ↦
      (let e : x.seat ≡ n = omega (arith, ge, h) in
      let a : upto n (x ∷ xs) ≡ upto n xs = upto-skip n x xs ge in
      let b : count n (x ∷ xs) ≡ suc (count n xs) = ap length (keeps n x xs e) in
      omega (arith, a, b))
]

upto-bound : (n : ℕ) (journal : List Line) → upto n journal ≤ length journal
upto-bound n [] = let e : upto n [] ≡ 0 = upto-none n in omega (arith, e)
upto-bound n (x ∷ xs) =
    let rest : upto n xs ≤ length xs = upto-bound n xs in
    elim (cases_lt x.seat n) [
      | inl lt ↦ (let a : upto n (x ∷ xs) ≡ suc (upto n xs) = upto-more n x xs lt in omega (arith, a, rest))
      | inr ge ↦ (let a : upto n (x ∷ xs) ≡ upto n xs = upto-skip n x xs ge in omega (arith, a, rest))
    ]

upto-exact : (n : ℕ) (journal : List Line) → length journal ≤ upto n journal → AllByRecursion (λ (line : Line). line.seat < n) journal
upto-exact n [] h = tt
upto-exact n (x ∷ xs) h =
    let rest : upto n xs ≤ length xs = upto-bound n xs in
    elim (cases_lt x.seat n) [
      | inl lt ↦ (let a : upto n (x ∷ xs) ≡ suc (upto n xs) = upto-more n x xs lt in let k : length xs ≤ upto n xs = omega (arith, a, h) in (lt, upto-exact n xs k))
      | inr ge ↦ absurd (let a : upto n (x ∷ xs) ≡ upto n xs = upto-skip n x xs ge in let no : ⊥ = omega (arith, a, rest, h) in no)
    ]

-- the entries of the passes' seats
abbrev counts : List Line → List PassView → ℕ
counts journal [] = 0
counts journal (p ∷ ps) = count p.seat journal + counts journal ps

-- without the first pass of a seat
abbrev without : ℕ → List PassView → List PassView
without m [] = []
without m (p ∷ ps) = cond (p.seat == m) ps (p ∷ without m ps)

without-at : (m : ℕ) (p : PassView) (ps : List PassView) → p.seat ≡ m → without m (p ∷ ps) ≡ ps
without-at m p ps e = ap (λ b. cond b ps (p ∷ without m ps)) (eq-eqb p.seat m e)

without-past : (m : ℕ) (p : PassView) (ps : List PassView) → p.seat ≢ m → without m (p ∷ ps) ≡ p ∷ without m ps
without-past m p ps ne = ap (λ b. cond b ps (p ∷ without m ps)) (ne_eqb p.seat m ne)

has-past : (m : ℕ) (p : PassView) (ps : List PassView) → p.seat ≢ m → has_seat (p ∷ ps) m ≡ has_seat ps m
has-past m p ps ne = ap (λ b. b || has_seat ps m) (ne_eqb p.seat m ne)

without-counts : (journal : List Line) (m : ℕ) (ps : List PassView) → has_seat ps m ≡ true → (counts journal ps ≡ count m journal + counts journal (without m ps)) × (length ps ≡ suc (length (without m ps)))
without-counts journal m [] h = absurd (let no : ⊥ = cc in no)
without-counts journal m (p ∷ ps) h = elim (equal_or_not p.seat m) [
  | inl e ↦ (ap (λ (v : ℕ). count v journal + counts journal ps) e ∙ ap (λ (v : List PassView). count m journal + counts journal v) (sym (without-at m p ps e)), ap (λ (v : List PassView). suc (length v)) (sym (without-at m p ps e)))
  | inr ne ↦
      (let t = without-counts journal m ps (sym (has-past m p ps ne) ∙ h) in
      let a : counts journal ps ≡ count m journal + counts journal (without m ps) = t.0 in
      let b : counts journal (without m (p ∷ ps)) ≡ count p.seat journal + counts journal (without m ps) = ap (counts journal) (without-past m p ps ne) in
      let l : length ps ≡ suc (length (without m ps)) = t.1 in
      let k : length (without m (p ∷ ps)) ≡ suc (length (without m ps)) = ap length (without-past m p ps ne) in
      (omega (arith, a, b), omega (arith, l, k)))
]

without-other : (m s : ℕ) (ps : List PassView) → m ≢ s → has_seat (without m ps) s ≡ has_seat ps s
without-other m s [] h = refl
without-other m s (p ∷ ps) h = elim (equal_or_not p.seat m) [
  | inl e ↦ ap (λ v. has_seat v s) (without-at m p ps e) ∙ sym (has-past s p ps (λ k. h (sym e ∙ k)))
  | inr ne ↦ ap (λ v. has_seat v s) (without-past m p ps ne) ∙ ap (λ b. (p.seat == s) || b) (without-other m s ps h)
]

seats-bound : (journal : List Line) (n : ℕ) (ps : List PassView) → AllHere n ps → length ps ≤ n → counts journal ps ≤ upto n journal
seats-bound journal zero [] h l = omega arith
seats-bound journal zero (p ∷ ps) h l = absurd (let no : ⊥ = omega (arith, l) in no)
seats-bound journal (suc n) ps h l =
    let t = without-counts journal n ps (h n (omega arith)) in
    let a : counts journal ps ≡ count n journal + counts journal (without n ps) = t.0 in
    let b : length ps ≡ suc (length (without n ps)) = t.1 in
    let here : AllHere n (without n ps) = λ s lt. (let ne : n ≢ s = omega (arith, lt) in let up : s < suc n = omega (arith, lt) in without-other n s ps ne ∙ h s up) in
    let room : length (without n ps) ≤ n = omega (arith, b, l) in
    let rest : counts journal (without n ps) ≤ upto n journal = seats-bound journal n (without n ps) here room in
    omega (arith, a, rest)

-- receipts that fit from place i on are some of the entries of their seat there, and all of them if they are as many
record Part (receipts entries : List Line) : Type 0 where
  bound : length receipts ≤ length entries
  exact : length entries ≤ length receipts → receipts ≡ entries

no-longer : (xs : List Line) → length xs ≤ 0 → [] ≡ xs
no-longer [] h = refl
no-longer (x ∷ xs) h = absurd (let no : ⊥ = omega (arith, h) in no)

later : (journal : List Line) (seat i : ℕ) (x : Line) (rs : List Line) → drop i journal ≡ x ∷ drop (i + 1) journal → Part rs (of_seat seat (drop (i + 1) journal)) → Part rs (of_seat seat (drop i journal))
later journal seat i x rs here some =
    let xs = drop (i + 1) journal in
    elim (equal_or_not x.seat seat) [
      | inl e ↦ subst (λ (v : List Line). Part rs v) (sym (ap (of_seat seat) here ∙ keeps seat x xs e)) (record {
        bound = (let b : length rs ≤ length (of_seat seat xs) = some.bound in omega (arith, b));
        exact = λ h. absurd (let b : length rs ≤ length (of_seat seat xs) = some.bound in let no : ⊥ = omega (arith, b, h) in no);
      })
      | inr ne ↦ subst (λ (v : List Line). Part rs v) (sym (ap (of_seat seat) here ∙ skips seat x xs ne)) some
    ]

now : (journal : List Line) (seat i : ℕ) (x r : Line) (rs : List Line) → drop i journal ≡ x ∷ drop (i + 1) journal → x ≡ r → r.seat ≡ seat → Part rs (of_seat seat (drop (i + 1) journal)) → Part (r ∷ rs) (of_seat seat (drop i journal))
now journal seat i x r rs here same of some =
    let xs = drop (i + 1) journal in
    subst (λ (v : List Line). Part (r ∷ rs) v) (sym (ap (of_seat seat) (here ∙ ap (λ (v : Line). v ∷ xs) same) ∙ keeps seat r xs of)) (record {
      bound = (let b : length rs ≤ length (of_seat seat xs) = some.bound in omega (arith, b));
      exact = λ h. ap (λ (v : List Line). r ∷ v) (some.exact (omega (arith, h)));
    })

part : (journal : List Line) (seat n i : ℕ) (rs : List Line) → i + n ≡ length journal → IsOfSeat seat rs → Fits journal i rs → Part rs (of_seat seat (drop i journal))
part journal seat n i [] size of fits = record { bound = omega arith; exact = λ h. no-longer _ h }
part journal seat zero i (r ∷ rs) size of fits =
    absurd (let w : r.place < length journal = slice_get_within journal r.place r fits.1 in let low : i ≤ r.place = fits.0 in let no : ⊥ = omega (arith, w, low, size) in no)
part journal seat (suc n) i (r ∷ rs) size of fits =
    let within : i < length journal = omega (arith, size) in
    let next : i + 1 + n ≡ length journal = omega (arith, size) in
    let low : i ≤ r.place = fits.0 in
    let x = get_or journal i r in
    let here : drop i journal ≡ x ∷ drop (i + 1) journal = drop-cons journal i r within ∙ ap (λ (v : ℕ). x ∷ drop v journal) (let e : suc i ≡ i + 1 = omega arith in e) in
    elim (cases_lt i r.place) [
      | inl lt ↦
          (let up : i + 1 ≤ r.place = omega (arith, lt) in
          later journal seat i x (r ∷ rs) here (part journal seat n (i + 1) (r ∷ rs) next of (up, fits.1, fits.2)))
      | inr ge ↦
          (let at : r.place ≡ i = omega (arith, ge, low) in
          let same : x ≡ r = get_or_from_slice_get journal i r r (subst (λ (v : ℕ). slice_get journal v ≡ Some r) at fits.1) in
          let up : Fits journal (i + 1) rs = subst (λ (v : ℕ). Fits journal (v + 1) rs) at fits.2 in
          now journal seat i x r rs here same of.0 (part journal seat n (i + 1) rs next of.1 up))
    ]

whole : (journal : List Line) (p : PassView) → IsOfSeat p.seat p.receipts × Fits journal 0 p.receipts → Part p.receipts (of_seat p.seat journal)
whole journal p fit = part journal p.seat (length journal) 0 p.receipts (omega arith) fit.0 fit.1

fit-counts : (journal : List Line) (ps : List PassView) → AllFit journal ps → receipts_of ps ≤ counts journal ps
fit-counts journal [] fit = omega arith
fit-counts journal (p ∷ ps) fit =
    let a : length p.receipts ≤ count p.seat journal = (whole journal p fit.0).bound in
    let b : receipts_of ps ≤ counts journal ps = fit-counts journal ps fit.1 in
    omega (arith, a, b)

fit-exact : (journal : List Line) (ps : List PassView) → AllFit journal ps → counts journal ps ≤ receipts_of ps → AllByRecursion (λ (p : PassView). p.receipts ≡ of_seat p.seat journal) ps
fit-exact journal [] fit h = tt
fit-exact journal (p ∷ ps) fit h =
    let a : length p.receipts ≤ count p.seat journal = (whole journal p fit.0).bound in
    let b : receipts_of ps ≤ counts journal ps = fit-counts journal ps fit.1 in
    let one : count p.seat journal ≤ length p.receipts = omega (arith, a, b, h) in
    let rest : counts journal ps ≤ receipts_of ps = omega (arith, a, b, h) in
    ((whole journal p fit.0).exact one, fit-exact journal ps fit.1 rest)

seats-here : (n : ℕ) (ps : List PassView) (journal : List Line) → AllHere n ps → AllByRecursion (λ (line : Line). line.seat < n) journal → AllByRecursion (λ (line : Line). has_seat ps line.seat ≡ true) journal
seats-here n ps [] h low = tt
seats-here n ps (x ∷ xs) h low = (h x.seat low.0, seats-here n ps xs h low.1)

pub is_shared : (journal : List Line) (n : ℕ) (ps : List PassView) → AllHere n ps → length ps ≤ n → AllFit journal ps → length journal ≡ receipts_of ps → IsShared journal ps
is_shared journal n ps here room fit same =
    let a : receipts_of ps ≤ counts journal ps = fit-counts journal ps fit in
    let b : counts journal ps ≤ upto n journal = seats-bound journal n ps here room in
    let c : upto n journal ≤ length journal = upto-bound n journal in
    let each : counts journal ps ≤ receipts_of ps = omega (arith, b, c, same) in
    let all : length journal ≤ upto n journal = omega (arith, a, b, same) in
    record { each = fit-exact journal ps fit each; no_other = seats-here n ps journal here (upto-exact n journal all) }

-- n seats that are here are at least n passes
pub seats-room : (n : ℕ) (ps : List PassView) → AllHere n ps → n ≤ length ps
seats-room zero ps h = omega arith
seats-room (suc n) ps h =
    let b : length ps ≡ suc (length (without n ps)) = (without-counts [] n ps (h n (omega arith))).1 in
    let here : AllHere n (without n ps) = λ s lt. (let ne : n ≢ s = omega (arith, lt) in let up : s < suc n = omega (arith, lt) in without-other n s ps ne ∙ h s up) in
    let rest : n ≤ length (without n ps) = seats-room n (without n ps) here in
    omega (arith, b, rest)

-- the whole share counts the receipts, and the book's total the journal
pub counted : (journal : List Line) (n parts amount total all : ℕ) (ps : List PassView) → AllHere n ps → n ≡ all → parts ≡ length ps → parts ≤ all → amount ≡ receipts_of ps → (parts ≡ all → amount ≡ total) → total ≡ length journal → length journal ≡ receipts_of ps
counted journal n parts amount total all ps here n_is parts_is bound amount_is whole total_is =
    let room : n ≤ length ps = seats-room n ps here in
    let full : parts ≡ all = omega (arith, room) in
    let same : amount ≡ total = whole full in
    omega (arith, same)

pub no_more : (n parts all : ℕ) (ps : List PassView) → n ≡ all → parts ≡ length ps → parts ≤ all → length ps ≤ n
no_more n parts all ps n_is parts_is bound = omega arith

-- what is amiss is the fault, once the shares are joined: whoever is missing, the receipts are among the journal's entries
pub fault : (journal : List Line) (n parts amount total all : ℕ) (ps : List PassView) (cause : FinishCause) → IsAmiss n ps journal cause → n ≡ all → parts ≡ length ps → parts ≤ all → amount ≡ receipts_of ps → amount ≤ total
    → (parts ≡ all → amount ≡ total) → total ≡ length journal → IsFault n ps journal cause
fault journal n parts amount total all ps (MissingPass seat) amiss n_is parts_is bound amount_is within whole total_is = (amiss.0, amiss.1, amiss.2, omega (arith, amount_is, within, total_is))
fault journal n parts amount total all ps (Mismatch place) amiss n_is parts_is bound amount_is within whole total_is =
    (amiss.0, counted journal n parts amount total all ps amiss.0 n_is parts_is bound amount_is whole total_is, amiss.1)
