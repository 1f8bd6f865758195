-- Jobs by their numbers.
use Rattle.std.proofs.Common.{◌≡◌, ◌≢◌, ℕ, List, [], ◌∷◌, ◌++◌, map, filter, Bool, true, false, cond, not, Some, refl, sym, ap, ◌∙◌, subst, inl, inr}
use Rattle.std.specs.Prelude.{◌||◌, ◌==◌, if◌then◌else◌}
use Rattle.std.specs.List.{list_any}
use Rattle.std.proofs.lemmas.Bool.Decides.{eqb_tells}
use Rattle.listings.specs.Lists.{IsIn, NoRepeats}
use Rattle.listings.proofs.Listings.{in_map, map_in}
use Rattle.book.specs.Jobs.{Job, marked}
use Rattle.book.specs.Workbench.{job_of, marked_in}
use Rattle.world.proofs.Found.{find_is}

abbrev pub number : Job → ℕ
number j = j.number

pub cond_yes : {A : Type 0} (b : Bool) (x y : A) → b ≡ true → cond b x y ≡ x
cond_yes b x y e = ap (λ v. cond v x y) e

pub cond_no : {A : Type 0} (b : Bool) (x y : A) → b ≡ false → cond b x y ≡ y
cond_no b x y e = ap (λ v. cond v x y) e

pub equal : (m n : ℕ) → (m == n) ≡ true → m ≡ n
equal m n h = elim (eqb_tells m n) [ inl p ↦ p.1 | inr q ↦ (let e = q.0 in cc) ]

pub is_equal : (m n : ℕ) → m ≡ n → (m == n) ≡ true
is_equal m n h = elim (eqb_tells m n) [ inl p ↦ p.0 | inr q ↦ absurd (q.1 h) ]

pub unequal : (m n : ℕ) → m ≢ n → (m == n) ≡ false
unequal m n h = elim (eqb_tells m n) [ inl p ↦ absurd (h p.1) | inr q ↦ q.0 ]

pub job_number : (js : List Job) (n : ℕ) (job : Job) → job_of js n ≡ Some job → IsIn job js × (job.number ≡ n)
job_number js n job e = let f = find_is (λ (j : Job). j.number == n) js job e in (f.0, equal job.number n f.1)

pub job_here : (j : Job) (js : List Job) (n : ℕ) → j.number ≡ n → job_of (j ∷ js) n ≡ Some j
job_here j js n e = cond_yes (j.number == n) (Some j) (job_of js n) (is_equal j.number n e)

pub job_on : (j : Job) (js : List Job) (n : ℕ) → j.number ≢ n → job_of (j ∷ js) n ≡ job_of js n
job_on j js n e = cond_no (j.number == n) (Some j) (job_of js n) (unequal j.number n e)

pub job_there : (js : List Job) (job : Job) → NoRepeats (map number js) → IsIn job js → job_of js job.number ≡ Some job
job_there [] job once p = absurd p
job_there (j ∷ js) job once (inl e) = job_here j js job.number (ap number (sym e)) ∙ ap (λ (x : Job). Some x) (sym e)
job_there (j ∷ js) job once (inr p) =
    let apart : j.number ≢ job.number = λ e. (let P : ℕ → Type 0 = λ n. IsIn n (map number js) in once.0 (subst P (sym e) (map_in number js job p))) in
    job_on j js job.number apart ∙ job_there js job once.1 p

-- one job more

pub job_pushed : (js : List Job) (new : Job) (n : ℕ) → new.number ≢ n → job_of (js ++ new ∷ []) n ≡ job_of js n
job_pushed [] new n e = job_on new [] n e
job_pushed (j ∷ js) new n e = ap (cond (j.number == n) (Some j)) (job_pushed js new n e)

pub job_new : (js : List Job) (new : Job) → ¬ IsIn new.number (map number js) → job_of (js ++ new ∷ []) new.number ≡ Some new
job_new [] new out = job_here new [] new.number refl
job_new (j ∷ js) new out = job_on j (js ++ new ∷ []) new.number (λ e. out (inl (sym e))) ∙ job_new js new (λ p. out (inr p))

-- a job less

abbrev pub is_other : ℕ → Job → Bool
is_other id j = not (j.number == id)

pub not_false : (b : Bool) → not b ≡ true → b ≡ false
not_false true h = cc
not_false false h = refl

pub filter_in : {X : Type 0} (p : X → Bool) (xs : List X) (x : X) → IsIn x (filter p xs) → IsIn x xs × (p x ≡ true)
filter_in p [] x h = absurd h
filter_in {X} p (y ∷ ys) x h =
    let P : X → Type 0 = λ z. p z ≡ true in
    let rest : IsIn x (filter p ys) → IsIn x (y ∷ ys) × (p x ≡ true) = λ q. (let r = filter_in p ys x q in (inr r.0, r.1)) in
    let at : (b : Bool) → p y ≡ b → IsIn x (cond b (y ∷ filter p ys) (filter p ys)) → IsIn x (y ∷ ys) × (p x ≡ true) =
    elim [ true ↦ λ e k. elim k [ inl q ↦ (inl q, subst P (sym q) e) | inr q ↦ rest q ] | false ↦ λ e k. rest k ] in
    at (p y) refl h

pub in_filter : {X : Type 0} (p : X → Bool) (xs : List X) (x : X) → IsIn x xs → p x ≡ true → IsIn x (filter p xs)
in_filter p [] x h is = absurd h
in_filter {X} p (y ∷ ys) x (inl e) is =
    let P : X → Type 0 = λ z. p z ≡ true in
    let Q : List X → Type 0 = λ l. IsIn x l in
    subst Q (sym (cond_yes (p y) (y ∷ filter p ys) (filter p ys) (subst P e is))) (inl e)
in_filter {X} p (y ∷ ys) x (inr h) is =
    let r = in_filter p ys x h is in
    let Q : Bool → Type 0 = λ b. IsIn x (cond b (y ∷ filter p ys) (filter p ys)) in
    let at : (b : Bool) → Q b = elim [ true ↦ inr r | false ↦ r ] in
    at (p y)

pub once_filter : {X Y : Type 0} (f : X → Y) (p : X → Bool) (xs : List X) → NoRepeats (map f xs) → NoRepeats (map f (filter p xs))
once_filter f p [] once = tt
once_filter {X} {Y} f p (x ∷ xs) once =
    let rest = once_filter f p xs once.1 in
    let Q : Bool → Type 0 = λ b. NoRepeats (map f (cond b (x ∷ filter p xs) (filter p xs))) in
    let out : ¬ IsIn (f x) (map f (filter p xs)) = λ h. (let r = in_map f (filter p xs) (f x) h in
    let P : Y → Type 0 = λ y. IsIn y (map f xs) in
    once.0 (subst P r.2 (map_in f xs r.0 (filter_in p xs r.0 r.1).0))) in
    let at : (b : Bool) → Q b = elim [ true ↦ (out, rest) | false ↦ rest ] in
    at (p x)

pub job_filtered : (js : List Job) (id n : ℕ) → n ≢ id → job_of (filter (is_other id) js) n ≡ job_of js n
job_filtered [] id n e = refl
job_filtered (j ∷ js) id n e = elim (eqb_tells j.number id) [
  | inl p ↦ (let gone : filter (is_other id) (j ∷ js) ≡ filter (is_other id) js = cond_no (is_other id j) _ _ (ap not p.0) in
      let differs : j.number ≢ n = λ q. e (sym q ∙ p.1) in
      ap (λ l. job_of l n) gone ∙ job_filtered js id n e ∙ sym (job_on j js n differs))
  | inr q ↦ (let stays : filter (is_other id) (j ∷ js) ≡ j ∷ filter (is_other id) js = cond_yes (is_other id j) _ _ (ap not q.0) in
      ap (λ l. job_of l n) stays ∙ ap (cond (j.number == n) (Some j)) (job_filtered js id n e))
]

pub job_gone : (js : List Job) (id : ℕ) (job : Job) → ¬ (job_of (filter (is_other id) js) id ≡ Some job)
job_gone js id job e =
    let f = job_number (filter (is_other id) js) id job e in
    let no = not_false (job.number == id) (filter_in (is_other id) js job f.0).1 in
    let yes = is_equal job.number id f.1 in
    cc

-- a slice marked

pub marked_other : (js : List Job) (n i m : ℕ) → n ≢ m → job_of (marked_in js n i) m ≡ job_of js m
marked_other [] n i m e = refl
marked_other (j ∷ js) n i m e = elim (eqb_tells j.number n) [
  | inl p ↦ (let here : marked_in (j ∷ js) n i ≡ marked i j ∷ js = ap (λ b. if b then marked i j ∷ js else j ∷ marked_in js n i) p.0 in
      let differs : j.number ≢ m = λ q. e (sym p.1 ∙ q) in
      ap (λ l. job_of l m) here ∙ job_on (marked i j) js m differs ∙ sym (job_on j js m differs))
  | inr q ↦ (let there : marked_in (j ∷ js) n i ≡ j ∷ marked_in js n i = ap (λ b. if b then marked i j ∷ js else j ∷ marked_in js n i) q.0 in
      ap (λ l. job_of l m) there ∙ ap (cond (j.number == m) (Some j)) (marked_other js n i m e))
]

pub marked_this : (js : List Job) (n i : ℕ) (job : Job) → job_of js n ≡ Some job → job_of (marked_in js n i) n ≡ Some (marked i job)
marked_this [] n i job e = cc
marked_this (j ∷ js) n i job e = elim (eqb_tells j.number n) [
  | inl p ↦ (let here : marked_in (j ∷ js) n i ≡ marked i j ∷ js = ap (λ b. if b then marked i j ∷ js else j ∷ marked_in js n i) p.0 in
      let found : Some j ≡ Some job = sym (job_here j js n p.1) ∙ e in
      let same : j ≡ job = cc in
      ap (λ l. job_of l n) here ∙ job_here (marked i j) js n p.1 ∙ ap (λ (x : Job). Some (marked i x)) same)
  | inr q ↦ (let there : marked_in (j ∷ js) n i ≡ j ∷ marked_in js n i = ap (λ b. if b then marked i j ∷ js else j ∷ marked_in js n i) q.0 in
      ap (λ l. job_of l n) there ∙ job_on j (marked_in js n i) n q.1 ∙ marked_this js n i job (sym (job_on j js n q.1) ∙ e))
]

pub marked_numbers : (js : List Job) (n i : ℕ) → map number (marked_in js n i) ≡ map number js
marked_numbers [] n i = refl
marked_numbers (j ∷ js) n i =
    let Q : Bool → Type 0 = λ b. map number (if b then marked i j ∷ js else j ∷ marked_in js n i) ≡ j.number ∷ map number js in
    let at : (b : Bool) → Q b = elim [ true ↦ refl | false ↦ ap (λ l. j.number ∷ l) (marked_numbers js n i) ] in
    at (j.number == n)

-- tests of lists

pub none_is : {X : Type 0} (p : X → Bool) (xs : List X) (x : X) → list_any p xs ≡ false → IsIn x xs → p x ≡ false
none_is p [] x e h = absurd h
none_is {X} p (y ∷ ys) x e h =
    let P : X → Type 0 = λ z. p z ≡ false in
    let at : (b : Bool) → p y ≡ b → (b || list_any p ys) ≡ false → IsIn x (y ∷ ys) → p x ≡ false =
    elim [ true ↦ λ is f k. cc | false ↦ λ is f k. elim k [ inl q ↦ subst P (sym q) is | inr q ↦ none_is p ys x f q ] ] in
    at (p y) refl e h
