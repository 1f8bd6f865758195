-- What a call, a return and the work of workers make of the passes of a desk.
use Rattle.std.proofs.Common.{◌≡◌, ◌∙◌, ◌<◌, ◌≤◌, ◌+◌, ◌-◌, ◌++◌, ℕ, zero, suc, List, [], ◌∷◌, length, map, take, drop, set, get_or, Some, refl, sym, ap, subst, arith, length-append}
use Rattle.std.specs.Prelude.{slice_get, All, Result, Ok, Err, IfOk, IsErr, OnErr, OnOk}
use Rattle.std.specs.List.{AllByRecursion, AllZip, sum_by}
use Rattle.std.proofs.lemmas.List.Elements.{All-from_recursion}
use Rattle.std.proofs.Math.Seq.{get_or-append_seam, take-append_seam}
use Rattle.std.proofs.lemmas.List.{length-set, get_or-set_same, set-get_or}
use Rattle.std.proofs.lemmas.List.Sums.{sum_by-cons}
use Rattle.std.proofs.lemmas.Option.{slice_get-get_or, slice_get_within}
use Rattle.journal.specs.Lines.{Line, shown}
use Rattle.journal.specs.declared.records.Said.{Said}
use Rattle.journal.specs.declared.records.Said.TheVariants as said_of
use Rattle.slices.specs.Parts.{PieceValue}
use Rattle.book.specs.declared.kept.Refused.{Refused}
use Rattle.sessions.specs.Calls.{Adds}
use Rattle.sessions.specs.Views.{PassView, fresh_from}
use Rattle.sessions.specs.declared.passes.Counts.{Counts}
use Rattle.workers.specs.Trace.{Worked as WorkedOn}
use Rattle.workers.specs.declared.working.Form.TheVariants.{UntilIdle}
use Rattle.scripts.specs.declared.instruction.Instruction.{Instruction}
use Rattle.scripts.specs.declared.instruction.Instruction.TheVariants as instructions
use Rattle.scripts.specs.declared.instruction.Request.{Request}
use Rattle.scripts.specs.declared.instruction.Request.TheVariants.{Return}
use Rattle.scripts.specs.Answers.{Answer, Answers, Asks, IsGiven, IsRight, Made, NotTaken, Worked, Run}
use Rattle.scripts.specs.Passes.{AreSeated, IsTable, Have, Grows, AreWorked, Works, IsLastAt, IsCall, IsAnswered, sums}
use Rattle.scripts.specs.Serving.{GivesNone}
use Rattle.scripts.specs.declared.seats.NoPiece.{NoPiece}
use Rattle.scripts.specs.declared.outcome.Outcome.{Outcome}
use Rattle.scripts.specs.declared.outcome.Outcome.TheVariants as outcomes
use Rattle.scripts.specs.declared.outcome.Sums.{Sums}
use Rattle.scripts.proofs.Receipts.{eight, grown_table, halves, pass_count, run_count, runs_of, seated_both, seated_front, to_eight, worked_seated, workers_seated}

-- ---- a desk that is opened

fresh_seated : (seat n : ℕ) → AreSeated seat (fresh_from seat n)
fresh_seated seat zero = tt
fresh_seated seat (suc n) = (refl, refl, fresh_seated (seat + 1) n)

fresh_have : (seat n : ℕ) → Have (λ _. []) seat (fresh_from seat n)
fresh_have seat zero = tt
fresh_have seat (suc n) = (refl, fresh_have (seat + 1) n)

pub opened : (desk n : ℕ) (passes : List PassView) → desk ≡ n → passes ≡ fresh_from 0 n → length passes ≡ n → 8 < n → n ≤ 64 → IsTable desk passes
opened desk n passes d is long some few = record {
  number = long ∙ sym d;
  least = omega (arith, d, some);
  most = omega (arith, d, few);
  seated = subst (AreSeated 0) (sym is) (fresh_seated 0 n);
}

pub opened_fresh : (n : ℕ) (passes : List PassView) → passes ≡ fresh_from 0 n → Have (λ _. []) 0 passes
opened_fresh n passes is = subst (Have (λ _. []) 0) (sym is) (fresh_have 0 n)

-- ---- a call

seat_at : (seat i : ℕ) (ps : List PassView) (p : PassView) → AreSeated seat ps → slice_get ps i ≡ Some p → (p.seat ≡ seat + i) × (p.parts ≡ 1)
seat_at seat i [] p are is = cc
seat_at seat zero (q ∷ ps) p are is =
    let same : q ≡ p = cc in
    let at : q.seat ≡ seat + 0 = (let a = are.0 in omega (arith, a)) in
    (ap (λ (x : PassView). x.seat) (sym same) ∙ at, ap (λ (x : PassView). x.parts) (sym same) ∙ are.1)
seat_at seat (suc i) (q ∷ ps) p are is =
    let rest = seat_at (seat + 1) i ps p are.2 is in
    let at = rest.0 in
    (omega (arith, at), rest.1)

pub pass_at : (ps : List PassView) (i : ℕ) (p : PassView) → p ≡ get_or ps i p → i < length ps → slice_get ps i ≡ Some p
pass_at ps i p is lt = slice_get-get_or ps i p lt ∙ ap Some (sym is)

pub has_share : (desk i : ℕ) (ps : List PassView) (p : PassView) → IsTable desk ps → p ≡ get_or ps i p → i < 8 → p.parts ≡ 1
has_share desk i ps p table is lt =
    let number = table.number in
    let least = table.least in
    (seat_at 0 i ps p table.seated (pass_at ps i p is (omega (arith, number, least, lt)))).1

-- the pass of a session has the entry that its call made
pub record IsCalled (seat : ℕ) (said : Said) (before after : List PassView) : Type 0 where
  pub line : Line
  pub at : line.seat ≡ seat
  pub of : line.said ≡ said
  pub grows : Grows line before after
  pub last : IsLastAt seat after line

last_of : (xs : List Line) (x : Line) → slice_get (xs ++ x ∷ []) (length (xs ++ x ∷ []) - 1) ≡ Some x
last_of xs x =
    let long : length (xs ++ x ∷ []) ≡ length xs + 1 = length-append xs (x ∷ []) in
    let at : length (xs ++ x ∷ []) - 1 ≡ length xs = omega (arith, long) in
    ap (λ (n : ℕ). slice_get (xs ++ x ∷ []) n) at ∙ slice_get-get_or (xs ++ x ∷ []) (length xs) x (omega (arith, long)) ∙ ap Some (get_or-append_seam xs x [] x)

set_there : (ps : List PassView) (i : ℕ) (q : PassView) → i < length ps → slice_get (set ps i q) i ≡ Some q
set_there ps i q lt =
    let long : length (set ps i q) ≡ length ps = length-set ps i q in
    slice_get-get_or (set ps i q) i q (omega (arith, long, lt)) ∙ ap Some (get_or-set_same ps i q q lt)

pub called : (desk seat : ℕ) (ps after : List PassView) (p q : PassView) (said : Said) → IsTable desk ps → seat < 8 → p ≡ get_or ps seat p → after ≡ set ps seat q → Adds p q said
    → IsCalled seat said ps after
called desk seat ps after p q said table lt is new adds =
    let number = table.number in
    let least = table.least in
    let within : seat < length ps = omega (arith, number, least, lt) in
    let there = pass_at ps seat p is within in
    let p_seat = (seat_at 0 seat ps p table.seated there).0 in
    let of_seat = adds.of_seat in
    let at : adds.line.seat ≡ seat = omega (arith, p_seat, of_seat) in
    record {
      line = adds.line;
      at = at;
      of = adds.of_command;
      grows = record {
        pass = p;
        at = subst (λ (n : ℕ). slice_get ps n ≡ Some p) (sym at) there;
        is = new ∙ ap (set ps seat) adds.is ∙ ap (λ (n : ℕ). set ps n (record p { receipts = p.receipts ++ adds.line ∷ [] })) (sym at);
      };
      last = record {
        pass = q;
        at = subst (λ (l : List PassView). slice_get l seat ≡ Some q) (sym new) (set_there ps seat q within);
        is = subst (λ (x : PassView). slice_get x.receipts (length x.receipts - 1) ≡ Some adds.line) (sym adds.is) (last_of p.receipts adds.line);
      };
    }

pub called_table : (desk seat : ℕ) (said : Said) (before after : List PassView) → IsTable desk before → IsCalled seat said before after → IsTable desk after
called_table desk seat said before after table c = grown_table desk c.line before after table c.grows

-- what a call says where it is taken, and where it isn't

pub of_ok : {A E P : Type 0} (r : Result A E) (x : A) → OnOk r P → r ≡ Ok x → P
of_ok (Ok y) x p e = p
of_ok (Err y) x p e = cc

pub of_err : {A E P : Type 0} (r : Result A E) → OnErr r P → IsErr r → P
of_err (Ok y) p e = cc
of_err (Err y) p e = p

-- a call that isn't taken
pub unchanged : (seat : ℕ) (ps after : List PassView) (p q : PassView) → p ≡ get_or ps seat p → after ≡ set ps seat q → q ≡ p → after ≡ ps
unchanged seat ps after p q is new same = new ∙ ap (set ps seat) (same ∙ is) ∙ set-get_or ps seat p

pub same_table : (desk : ℕ) (before after : List PassView) → IsTable desk before → after ≡ before → IsTable desk after
same_table desk before after table same = let P : List PassView → Type 0 = λ l. IsTable desk l in subst P (sym same) table

-- the last receipt is one
pub same_last : (seat : ℕ) (passes : List PassView) (p : PassView) (line entry : Line) → IsLastAt seat passes line → slice_get passes seat ≡ Some p
    → slice_get p.receipts (length p.receipts - 1) ≡ Some entry → line ≡ entry
same_last seat passes p line entry last at is =
    let same : last.pass ≡ p = (let a = last.at in cc) in
    let here : slice_get p.receipts (length p.receipts - 1) ≡ Some line = subst (λ (x : PassView). slice_get x.receipts (length x.receipts - 1) ≡ Some line) same last.is in
    cc

pub last_within : (seat : ℕ) (passes : List PassView) (line : Line) → IsLastAt seat passes line → seat < length passes
last_within seat passes line last = slice_get_within passes seat last.pass last.at

pub call_answered : (seat : ℕ) (said : Said) (before after : List PassView) (P : Said → Type 0) (c : IsCalled seat said before after) → IsRight c.line.reply → P said
    → IsAnswered before after (outcomes.Made seat) (IsCall seat P)
call_answered seat said before after P c right p = record {
  answer = Made c.line;
  shows = c.last;
  become = c.grows;
  is = (c.at, subst P (sym c.of) p, right);
}

pub not_taken : (seat : ℕ) (why : Refused) (before after : List PassView) (P : Said → Type 0) (said : Said) → P said → after ≡ before
    → IsAnswered before after (outcomes.NotTaken why) (IsCall seat P)
not_taken seat why before after P said asked same = record { answer = NotTaken why; shows = refl; become = same; is = (said, asked) }

-- ---- what a call asks

call_with : (seat : ℕ) (P Q : Said → Type 0) → ((said : Said) → P said → Q said) → (answer : Answer) → IsCall seat P answer → IsCall seat Q answer
call_with seat P Q all (Made line) call = (call.0, all line.said call.1, call.2)
call_with seat P Q all (NotTaken why) call = (call.0, all call.0 call.1)
call_with seat P Q all (Worked runs) call = call

pub answered_with : (seat : ℕ) (before after : List PassView) (outcome : Outcome) (P Q : Said → Type 0) → ((said : Said) → P said → Q said)
    → IsAnswered before after outcome (IsCall seat P) → IsAnswered before after outcome (IsCall seat Q)
answered_with seat before after outcome P Q all a = record { answer = a.answer; shows = a.shows; become = a.become; is = call_with seat P Q all a.answer a.is }

pub returns_piece : (entries : List Line) (claim : ℕ) (piece returned : PieceValue) (said : Said) → IsGiven claim piece entries → returned ≡ piece → said ≡ said_of.Return (shown returned)
    → Asks entries (Return claim) said
returns_piece entries claim piece returned said given same is = (piece, given, is ∙ ap (λ p. said_of.Return (shown p)) same)

call_answers : (workers seat : ℕ) (entries : List Line) (request : Request) (answer : Answer) → seat < 8 → IsCall seat (Asks entries request) answer → Answers workers entries (instructions.Call seat request) answer
call_answers workers seat entries request (Made line) lt call = (lt, call.0, call.1, call.2)
call_answers workers seat entries request (NotTaken why) lt call = call
call_answers workers seat entries request (Worked runs) lt call = call

pub instruction_answered : (workers seat : ℕ) (entries : List Line) (request : Request) (before after : List PassView) (outcome : Outcome) → seat < 8
    → IsAnswered before after outcome (IsCall seat (Asks entries request)) → IsAnswered before after outcome (Answers workers entries (instructions.Call seat request))
instruction_answered workers seat entries request before after outcome lt a =
    record { answer = a.answer; shows = a.shows; become = a.become; is = call_answers workers seat entries request a.answer lt a.is }

pub ok_instruction_answered : (workers seat : ℕ) (entries : List Line) (request : Request) (before after : List PassView) (r : Result Outcome NoPiece) → seat < 8
    → IfOk r (λ outcome. IsAnswered before after outcome (IsCall seat (Asks entries request))) → IfOk r (λ outcome. IsAnswered before after outcome (Answers workers entries (instructions.Call seat request)))
ok_instruction_answered workers seat entries request before after (Ok outcome) lt a = instruction_answered workers seat entries request before after outcome lt a
ok_instruction_answered workers seat entries request before after (Err fault) lt a = tt

pub no_piece_to_return : (seat : ℕ) (entries : List Line) (instruction : Instruction) (request : Request) (r : Result Outcome NoPiece) → instruction ≡ instructions.Call seat request
    → OnErr r ((claim : ℕ) × (request ≡ Return claim) × GivesNone claim entries)
    → OnErr r ((s : ℕ) × (claim : ℕ) × (instruction ≡ instructions.Call s (Return claim)) × GivesNone claim entries)
no_piece_to_return seat entries instruction request (Ok outcome) is h = tt
no_piece_to_return seat entries instruction request (Err fault) is h = (seat, h.0, is ∙ ap (instructions.Call seat) h.1, h.2)

-- the shares of the workers' passes
seated_shares : (seat : ℕ) (ps : List PassView) → AreSeated seat ps → AllByRecursion (λ p. p.parts ≡ 1) ps
seated_shares seat [] are = tt
seated_shares seat (p ∷ ps) are = (are.1, seated_shares (seat + 1) ps are.2)

pub shares : (desk : ℕ) (ps : List PassView) → IsTable desk ps → All (λ p. p.parts ≡ 1) ps
shares desk ps table = All-from_recursion (λ (p : PassView). p.parts ≡ 1) ps (seated_shares 0 ps table.seated)

pub worker_shares : (desk : ℕ) (ps ws : List PassView) → IsTable desk ps → ws ≡ drop 8 ps → All (λ p. p.parts ≡ 1) ws
worker_shares desk ps ws table is =
    subst (All (λ (p : PassView). p.parts ≡ 1)) (sym is) (All-from_recursion (λ (p : PassView). p.parts ≡ 1) (drop 8 ps) (seated_shares 8 (drop 8 ps) (workers_seated desk ps table)))

-- ---- work

abbrev runs_from : (ps qs : List PassView) → AllZip (WorkedOn UntilIdle) ps qs → List Run
runs_from [] [] w = []
runs_from [] (q ∷ qs) w = []
runs_from (p ∷ ps) [] w = []
runs_from (p ∷ ps) (q ∷ qs) w = record { seat = p.seat; added = w.0.added; counts = q.counts } ∷ runs_from ps qs w.1

are_worked : (ps qs : List PassView) (w : AllZip (WorkedOn UntilIdle) ps qs) → AreWorked ps qs (runs_from ps qs w)
are_worked [] [] w = tt
are_worked [] (q ∷ qs) w = w
are_worked (p ∷ ps) [] w = w
are_worked (p ∷ ps) (q ∷ qs) w = (refl, w.0.is, w.0.work, are_worked ps qs w.1)

sum_of : (count : Counts → ℕ) (ps qs : List PassView) (w : AllZip (WorkedOn UntilIdle) ps qs) → sum_by count (map (λ (q : PassView). q.counts) qs) ≡ sum_by (λ (r : Run). count r.counts) (runs_from ps qs w)
sum_of count [] [] w = refl
sum_of count [] (q ∷ qs) w = absurd w
sum_of count (p ∷ ps) [] w = absurd w
sum_of count (p ∷ ps) (q ∷ qs) w =
    sum_by-cons count q.counts (map (λ (x : PassView). x.counts) qs) ∙ ap (λ (n : ℕ). count q.counts + n) (sum_of count ps qs w.1)
    ∙ sym (sum_by-cons (λ (r : Run). count r.counts) (record { seat = p.seat; added = w.0.added; counts = q.counts }) (runs_from ps qs w.1))

-- what the workers counted, as it was handed on
abbrev pub counted : List Counts → Sums
counted counts = record {
  evaluated = sum_by (λ (c : Counts). c.evaluated) counts;
  given_back = sum_by (λ (c : Counts). c.given_back) counts;
  refused = sum_by (λ (c : Counts). c.refused) counts;
}

worked_table : (desk : ℕ) (before after : List PassView) (runs : List Run) → IsTable desk before → Works runs before after → IsTable desk after
worked_table desk before after runs table works =
    let long = eight desk before table in
    let seated = workers_seated desk before table in
    let number = table.number in
    let same : length works.workers ≡ length (drop 8 before) = pass_count (drop 8 before) works.workers runs works.worked in
    let whole : length (take 8 before) + length (drop 8 before) ≡ length before = sym (length-append (take 8 before) (drop 8 before)) ∙ ap length (halves before) in
    let new : length (take 8 before ++ works.workers) ≡ length (take 8 before) + length works.workers = length-append (take 8 before) works.workers in
    let P : List PassView → Type 0 = λ l. IsTable desk l in
    subst P (sym works.is) (record {
      number = omega (arith, number, same, whole, new);
      least = table.least;
      most = table.most;
      seated = seated_both 0 (take 8 before) works.workers (seated_front 0 (take 8 before) (drop 8 before) (subst (AreSeated 0) (sym (halves before)) table.seated))
          (to_eight (λ s. AreSeated s works.workers) (length (take 8 before)) long (worked_seated 8 (drop 8 before) works.workers runs seated works.worked));
    })

-- what work makes of a table
pub record IsWorked (desk : ℕ) (entries : List Line) (before after : List PassView) (result : Sums) : Type 0 where
  pub table : IsTable desk after
  pub answered : IsAnswered before after (outcomes.Worked result) (Answers (desk - 8) entries instructions.Work)

pub worked : (desk : ℕ) (entries : List Line) (before after old new : List PassView) (counts : List Counts) (result : Sums) → IsTable desk before → old ≡ drop 8 before → after ≡ take 8 before ++ new
    → AllZip (WorkedOn UntilIdle) old new → counts ≡ map (λ (q : PassView). q.counts) new → result ≡ counted counts → IsWorked desk entries before after result
worked desk entries before after old new counts result table o n each c r =
    let each-8 : AllZip (WorkedOn UntilIdle) (drop 8 before) new = subst (λ (l : List PassView). AllZip (WorkedOn UntilIdle) l new) o each in
    let runs = runs_from (drop 8 before) new each-8 in
    let works : Works runs before after = record { workers = new; is = n; worked = are_worked (drop 8 before) new each-8 } in
    let long = eight desk before table in
    let number = table.number in
    let whole : length (take 8 before) + length (drop 8 before) ≡ length before = sym (length-append (take 8 before) (drop 8 before)) ∙ ap length (halves before) in
    let run_number : length runs ≡ length (drop 8 before) = run_count (drop 8 before) new runs works.worked in
    let same : counted counts ≡ sums runs =
    ap counted c ∙ (let a = sum_of (λ (x : Counts). x.evaluated) (drop 8 before) new each-8 in let b = sum_of (λ (x : Counts). x.given_back) (drop 8 before) new each-8 in
    let d = sum_of (λ (x : Counts). x.refused) (drop 8 before) new each-8 in rw (a, b, d) refl)
    in
    record {
      table = worked_table desk before after runs table works;
      answered = record {
        answer = Worked runs;
        shows = r ∙ same;
        become = works;
        is = (omega (arith, long, number, whole, run_number), runs_of 8 (drop 8 before) new runs (workers_seated desk before table) works.worked);
      };
    }

-- A vector whose slice was written has what was written.
pub written_back : (n : ℕ) (new rest : List PassView) → n ≡ length new → take n (new ++ rest) ≡ new
written_back n new rest e = let P : ℕ → Type 0 = λ m. take m (new ++ rest) ≡ new in subst P (sym e) (take-append_seam new rest)
