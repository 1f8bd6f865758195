-- What an answer makes of the receipts of the passes.
use Rattle.std.proofs.Common.{◌≡◌, ◌≢◌, ◌∙◌, ◌<◌, ◌≤◌, ◌+◌, ◌==◌, ◌++◌, ℕ, zero, suc, cond, List, [], ◌∷◌, length, take, drop, set, Some, refl, sym, ap, subst, arith, append-nil}
use Rattle.std.specs.Prelude.{slice_get}
use Rattle.std.proofs.lemmas.Bool.{eq-eqb, ne_eqb}
use Rattle.std.proofs.lemmas.List.{length-set, length-take-le, take-append-drop}
use Rattle.journal.specs.Lines.{Line}
use Rattle.sessions.specs.Views.{PassView}
use Rattle.scripts.specs.Answers.{Answer, Made, NotTaken, Worked, Run, AreRuns, made_at}
use Rattle.scripts.specs.Passes.{AreSeated, IsTable, Have, Grows, AreWorked, Works, Become}

-- ---- an entry, and the runs of workers, at a seat

pub made_here : (line : Line) (seat : ℕ) → line.seat ≡ seat → made_at seat (Made line) ≡ line ∷ []
made_here line seat e = ap (λ b. cond b (line ∷ []) []) (eq-eqb line.seat seat e)

pub made_elsewhere : (line : Line) (seat : ℕ) → line.seat ≢ seat → made_at seat (Made line) ≡ []
made_elsewhere line seat ne = ap (λ b. cond b (line ∷ []) []) (ne_eqb line.seat seat ne)

-- the entries of a run at a seat
abbrev run_at : ℕ → Run → List Line
run_at seat run = cond (run.seat == seat) run.added []

run_here : (run : Run) (seat : ℕ) → run.seat ≡ seat → run_at seat run ≡ run.added
run_here run seat e = ap (λ b. cond b run.added []) (eq-eqb run.seat seat e)

run_elsewhere : (run : Run) (seat : ℕ) → run.seat ≢ seat → run_at seat run ≡ []
run_elsewhere run seat ne = ap (λ b. cond b run.added []) (ne_eqb run.seat seat ne)

-- workers from a seat on make no entry below it
pub no_run_below : (seat k : ℕ) (runs : List Run) → AreRuns seat runs → k < seat → made_at k (Worked runs) ≡ []
no_run_below seat k [] are lt = refl
no_run_below seat k (run ∷ runs) are lt =
    let other : run.seat ≢ k = (let at = are.0 in omega (arith, at, lt)) in
    let rest : made_at k (Worked runs) ≡ [] = no_run_below (seat + 1) k runs are.2 (omega (arith, lt)) in
    ap (λ l. l ++ made_at k (Worked runs)) (run_elsewhere run k other) ∙ rest

first_run : (seat : ℕ) (run : Run) (runs : List Run) → AreRuns seat (run ∷ runs) → made_at seat (Worked (run ∷ runs)) ≡ run.added
first_run seat run runs are =
    ap (λ l. l ++ made_at seat (Worked runs)) (run_here run seat are.0) ∙ ap (λ l. run.added ++ l) (no_run_below (seat + 1) seat runs are.2 (omega arith)) ∙ append-nil run.added

later_runs : (seat k : ℕ) (run : Run) (runs : List Run) → run.seat ≡ seat → seat + 1 ≤ k → made_at k (Worked (run ∷ runs)) ≡ made_at k (Worked runs)
later_runs seat k run runs at le =
    let other : run.seat ≢ k = omega (arith, at, le) in
    ap (λ l. l ++ made_at k (Worked runs)) (run_elsewhere run k other)

-- ---- passes that have entries

pub have_same : (f g : ℕ → List Line) (seat : ℕ) (ps : List PassView) → ((k : ℕ) → seat ≤ k → k < seat + length ps → f k ≡ g k) → Have f seat ps → Have g seat ps
have_same f g seat [] same h = tt
have_same f g seat (p ∷ ps) same h = (h.0 ∙ same seat (omega arith) (omega arith), have_same f g (seat + 1) ps (λ k le lt. same k (omega (arith, le)) (omega (arith, lt))) h.1)

have_both : (f : ℕ → List Line) (seat : ℕ) (ps qs : List PassView) → Have f seat ps → Have f (seat + length ps) qs → Have f seat (ps ++ qs)
have_both f seat [] qs h k = subst (λ (s : ℕ). Have f s qs) (let e : seat + 0 ≡ seat = omega arith in e) k
have_both f seat (p ∷ ps) qs h k = (h.0, have_both f (seat + 1) ps qs h.1 (subst (λ (s : ℕ). Have f s qs) (let e : seat + suc (length ps) ≡ seat + 1 + length ps = omega arith in e) k))

pub have_front : (f : ℕ → List Line) (seat : ℕ) (ps qs : List PassView) → Have f seat (ps ++ qs) → Have f seat ps
have_front f seat [] qs h = tt
have_front f seat (p ∷ ps) qs h = (h.0, have_front f (seat + 1) ps qs h.1)

have_back : (f : ℕ → List Line) (seat : ℕ) (ps qs : List PassView) → Have f seat (ps ++ qs) → Have f (seat + length ps) qs
have_back f seat [] qs h = subst (λ (s : ℕ). Have f s qs) (let e : seat ≡ seat + 0 = omega arith in e) h
have_back f seat (p ∷ ps) qs h = subst (λ (s : ℕ). Have f s qs) (let e : seat + 1 + length ps ≡ seat + suc (length ps) = omega arith in e) (have_back f (seat + 1) ps qs h.1)

pub seated_both : (seat : ℕ) (ps qs : List PassView) → AreSeated seat ps → AreSeated (seat + length ps) qs → AreSeated seat (ps ++ qs)
seated_both seat [] qs h k = subst (λ (s : ℕ). AreSeated s qs) (let e : seat + 0 ≡ seat = omega arith in e) k
seated_both seat (p ∷ ps) qs h k = (h.0, h.1, seated_both (seat + 1) ps qs h.2 (subst (λ (s : ℕ). AreSeated s qs) (let e : seat + suc (length ps) ≡ seat + 1 + length ps = omega arith in e) k))

pub seated_front : (seat : ℕ) (ps qs : List PassView) → AreSeated seat (ps ++ qs) → AreSeated seat ps
seated_front seat [] qs h = tt
seated_front seat (p ∷ ps) qs h = (h.0, h.1, seated_front (seat + 1) ps qs h.2)

seated_back : (seat : ℕ) (ps qs : List PassView) → AreSeated seat (ps ++ qs) → AreSeated (seat + length ps) qs
seated_back seat [] qs h = subst (λ (s : ℕ). AreSeated s qs) (let e : seat ≡ seat + 0 = omega arith in e) h
seated_back seat (p ∷ ps) qs h = subst (λ (s : ℕ). AreSeated s qs) (let e : seat + 1 + length ps ≡ seat + suc (length ps) = omega arith in e) (seated_back (seat + 1) ps qs h.2)

-- ---- a call

abbrev one_more : PassView → Line → PassView
one_more pass line = record pass { receipts = pass.receipts ++ line ∷ [] }

grown_have : (f : ℕ → List Line) (line : Line) (seat i : ℕ) (ps : List PassView) (pass : PassView) → line.seat ≡ seat + i → slice_get ps i ≡ Some pass → Have f seat ps
    → Have (λ k. f k ++ made_at k (Made line)) seat (set ps i (one_more pass line))
grown_have f line seat i [] pass at is h = tt
grown_have f line seat zero (p ∷ ps) pass at is h =
    let same : p ≡ pass = cc in
    let here : line.seat ≡ seat = omega (arith, at) in (
      ap (λ l. l ++ line ∷ []) (ap (λ (q : PassView). q.receipts) (sym same) ∙ h.0) ∙ ap (λ l. f seat ++ l) (sym (made_here line seat here)),
      have_same f (λ k. f k ++ made_at k (Made line)) (seat + 1) ps (λ k le lt. (let other : line.seat ≢ k = omega (arith, here, le) in
          sym (append-nil (f k)) ∙ ap (λ l. f k ++ l) (sym (made_elsewhere line k other)))) h.1,
    )
grown_have f line seat (suc i) (p ∷ ps) pass at is h =
    let other : line.seat ≢ seat = omega (arith, at) in (
      h.0 ∙ sym (append-nil (f seat)) ∙ ap (λ l. f seat ++ l) (sym (made_elsewhere line seat other)),
      grown_have f line (seat + 1) i ps pass (omega (arith, at)) is h.1,
    )

grown_seated : (line : Line) (seat i : ℕ) (ps : List PassView) (pass : PassView) → slice_get ps i ≡ Some pass → AreSeated seat ps → AreSeated seat (set ps i (one_more pass line))
grown_seated line seat i [] pass is h = tt
grown_seated line seat zero (p ∷ ps) pass is h =
    let same : p ≡ pass = cc in
    (ap (λ (q : PassView). q.seat) (sym same) ∙ h.0, ap (λ (q : PassView). q.parts) (sym same) ∙ h.1, h.2)
grown_seated line seat (suc i) (p ∷ ps) pass is h = (h.0, h.1, grown_seated line (seat + 1) i ps pass is h.2)

-- ---- work

pub runs_of : (seat : ℕ) (ps qs : List PassView) (runs : List Run) → AreSeated seat ps → AreWorked ps qs runs → AreRuns seat runs
runs_of seat [] [] [] are w = tt
runs_of seat [] [] (run ∷ runs) are w = absurd w
runs_of seat [] (q ∷ qs) runs are w = absurd w
runs_of seat (p ∷ ps) [] runs are w = absurd w
runs_of seat (p ∷ ps) (q ∷ qs) [] are w = absurd w
runs_of seat (p ∷ ps) (q ∷ qs) (run ∷ runs) are w = (w.0 ∙ are.0, w.2, runs_of (seat + 1) ps qs runs are.2 w.3)

pub run_count : (ps qs : List PassView) (runs : List Run) → AreWorked ps qs runs → length runs ≡ length ps
run_count [] [] [] w = refl
run_count [] [] (run ∷ runs) w = absurd w
run_count [] (q ∷ qs) runs w = absurd w
run_count (p ∷ ps) [] runs w = absurd w
run_count (p ∷ ps) (q ∷ qs) [] w = absurd w
run_count (p ∷ ps) (q ∷ qs) (run ∷ runs) w = ap suc (run_count ps qs runs w.3)

pub pass_count : (ps qs : List PassView) (runs : List Run) → AreWorked ps qs runs → length qs ≡ length ps
pass_count [] [] [] w = refl
pass_count [] [] (run ∷ runs) w = absurd w
pass_count [] (q ∷ qs) runs w = absurd w
pass_count (p ∷ ps) [] runs w = absurd w
pass_count (p ∷ ps) (q ∷ qs) [] w = absurd w
pass_count (p ∷ ps) (q ∷ qs) (run ∷ runs) w = ap suc (pass_count ps qs runs w.3)

pub worked_seated : (seat : ℕ) (ps qs : List PassView) (runs : List Run) → AreSeated seat ps → AreWorked ps qs runs → AreSeated seat qs
worked_seated seat [] [] [] are w = tt
worked_seated seat [] [] (run ∷ runs) are w = absurd w
worked_seated seat [] (q ∷ qs) runs are w = absurd w
worked_seated seat (p ∷ ps) [] runs are w = absurd w
worked_seated seat (p ∷ ps) (q ∷ qs) [] are w = absurd w
worked_seated seat (p ∷ ps) (q ∷ qs) (run ∷ runs) are w =
    (ap (λ (x : PassView). x.seat) w.1 ∙ are.0, ap (λ (x : PassView). x.parts) w.1 ∙ are.1, worked_seated (seat + 1) ps qs runs are.2 w.3)

worked_have : (f : ℕ → List Line) (seat : ℕ) (ps qs : List PassView) (runs : List Run) → AreSeated seat ps → AreWorked ps qs runs → Have f seat ps
    → Have (λ k. f k ++ made_at k (Worked runs)) seat qs
worked_have f seat [] [] [] are w h = tt
worked_have f seat [] [] (run ∷ runs) are w h = absurd w
worked_have f seat [] (q ∷ qs) runs are w h = absurd w
worked_have f seat (p ∷ ps) [] runs are w h = absurd w
worked_have f seat (p ∷ ps) (q ∷ qs) [] are w h = absurd w
worked_have f seat (p ∷ ps) (q ∷ qs) (run ∷ runs) are w h =
    let all = runs_of seat (p ∷ ps) (q ∷ qs) (run ∷ runs) are w in (
      ap (λ (x : PassView). x.receipts) w.1 ∙ ap (λ l. l ++ run.added) h.0 ∙ ap (λ l. f seat ++ l) (sym (first_run seat run runs all)),
      have_same (λ k. f k ++ made_at k (Worked runs)) (λ k. f k ++ made_at k (Worked (run ∷ runs))) (seat + 1) qs
          (λ k le lt. ap (λ l. f k ++ l) (sym (later_runs seat k run runs all.0 le))) (worked_have f (seat + 1) ps qs runs are.2 w.3 h.1),
    )

-- ---- an answer

-- the passes of the sessions, and those of the workers
pub halves : (ps : List PassView) → take 8 ps ++ drop 8 ps ≡ ps
halves ps = take-append-drop 8 ps

pub eight : (desk : ℕ) (ps : List PassView) → IsTable desk ps → length (take 8 ps) ≡ 8
eight desk ps table = let number = table.number in let least = table.least in length-take-le 8 ps (omega (arith, number, least))

at_eight : (P : ℕ → Type 0) (n : ℕ) → n ≡ 8 → P (0 + n) → P 8
at_eight P n e h = subst P (let s : 0 + n ≡ 8 = omega (arith, e) in s) h

pub to_eight : (P : ℕ → Type 0) (n : ℕ) → n ≡ 8 → P 8 → P (0 + n)
to_eight P n e h = subst P (let s : 8 ≡ 0 + n = omega (arith, e) in s) h

pub workers_seated : (desk : ℕ) (ps : List PassView) → IsTable desk ps → AreSeated 8 (drop 8 ps)
workers_seated desk ps table =
    at_eight (λ s. AreSeated s (drop 8 ps)) (length (take 8 ps)) (eight desk ps table) (seated_back 0 (take 8 ps) (drop 8 ps) (subst (AreSeated 0) (sym (halves ps)) table.seated))

works_have : (f : ℕ → List Line) (desk : ℕ) (before after : List PassView) (runs : List Run) → IsTable desk before → Works runs before after → Have f 0 before
    → Have (λ k. f k ++ made_at k (Worked runs)) 0 after
works_have f desk before after runs table works h =
    let g : ℕ → List Line = λ k. f k ++ made_at k (Worked runs) in
    let whole = subst (Have f 0) (sym (halves before)) h in
    let long = eight desk before table in
    let seated = workers_seated desk before table in
    let runs_are = runs_of 8 (drop 8 before) works.workers runs seated works.worked in
    let sessions = have_same f g 0 (take 8 before) (λ k le lt. sym (append-nil (f k)) ∙ ap (λ l. f k ++ l) (sym (no_run_below 8 k runs runs_are (omega (arith, lt, long))))) (have_front f 0 (take 8 before) (drop 8 before) whole) in
    let old = at_eight (λ s. Have f s (drop 8 before)) (length (take 8 before)) long (have_back f 0 (take 8 before) (drop 8 before) whole) in
    let workers = worked_have f 8 (drop 8 before) works.workers runs seated works.worked old in
    subst (Have g 0) (sym works.is) (have_both g 0 (take 8 before) works.workers sessions (to_eight (λ s. Have g s works.workers) (length (take 8 before)) long workers))

-- each pass has what the answer made at its seat behind what it had
pub become_have : (f : ℕ → List Line) (desk : ℕ) (before after : List PassView) (answer : Answer) → IsTable desk before → Become answer before after → Have f 0 before
    → Have (λ k. f k ++ made_at k answer) 0 after
become_have f desk before after (Made line) table b h =
    subst (Have (λ k. f k ++ made_at k (Made line)) 0) (sym b.is) (grown_have f line 0 line.seat before b.pass (omega arith) b.at h)
become_have f desk before after (NotTaken why) table b h =
    have_same f (λ k. f k ++ made_at k (NotTaken why)) 0 after (λ k le lt. sym (append-nil (f k))) (subst (Have f 0) (sym b) h)
become_have f desk before after (Worked runs) table b h = works_have f desk before after runs table b h

-- ---- what stays of the table

pub grown_table : (desk : ℕ) (line : Line) (before after : List PassView) → IsTable desk before → Grows line before after → IsTable desk after
grown_table desk line before after table b =
    let P : List PassView → Type 0 = λ l. IsTable desk l in
    subst P (sym b.is) (record {
      number = length-set before line.seat (one_more b.pass line) ∙ table.number;
      least = table.least;
      most = table.most;
      seated = grown_seated line 0 line.seat before b.pass b.at table.seated;
    })
