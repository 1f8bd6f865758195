-- What answers one after another have made, and the journal at the end.
use Rattle.std.proofs.Common.{◌≡◌, ◌∙◌, ◌<◌, ◌≤◌, ◌+◌, ◌-◌, ◌==◌, ◌||◌, ◌++◌, ℕ, zero, suc, Bool, true, false, cond, List, [], ◌∷◌, length, take, drop, refl, sym, ap, subst, inl, inr, arith, append-nil}
use Rattle.std.specs.Prelude.{All, ◌⊎◌}
use Rattle.std.specs.List.{AllByRecursion, Contains, flat_map}
use Rattle.std.proofs.lemmas.Bool.{cases_Bool, cases_lt, eq-eqb}
use Rattle.std.proofs.lemmas.Bool.Decides.{Decides-eqb}
use Rattle.std.proofs.lemmas.Grind.{flat_map-append}
use Rattle.std.proofs.lemmas.List.Elements.{All-append, All-nil, All-cons, All-contains, All-contains_itself, All-filter, All-from_recursion, Contains-append_cases, Contains-get_or, Contains-append_left, Contains-append_right, filter-append}
use Rattle.journal.specs.Lines.{Line}
use Rattle.slices.specs.Parts.{PieceValue}
use Rattle.sessions.specs.Finish.{IsLegal, IsShared, SomeUnfit, Unfit, has_seat, of_seat}
use Rattle.sessions.specs.Views.{PassView}
use Rattle.scripts.specs.declared.instruction.Instruction.{Instruction}
use Rattle.scripts.specs.declared.instruction.Instruction.TheVariants as instructions
use Rattle.scripts.specs.declared.instruction.Request.{Request}
use Rattle.scripts.specs.declared.instruction.Request.TheVariants.{PutCat, PutTest, DropCat, DropTest, Ask, Poll, Forget, Release, List as ListAll, Claim, Return, GiveBack, Close}
use Rattle.journal.specs.declared.records.Said.{Said}
use Rattle.scripts.specs.Answers.{Answer, Answers, Asks, IsGiven, Made, NotTaken, Worked, entry_of, made_at}
use Rattle.scripts.specs.Passes.{AreSeated, Become, IsTable, Have, session_receipts}
use Rattle.sessions.specs.Finish.{IsFault}
use Rattle.sessions.specs.declared.ending.FinishCause.{FinishCause}
use Rattle.sessions.specs.declared.ending.FinishCause.TheVariants.{MissingPass, Mismatch}
use Rattle.scripts.specs.Serving.{Call, AreAnswered, GivesNone, GivesPiece, IsBySeat, IsDone, IsUnfinished, finish_text, entries_at, entries_of, next_call, no_call}
use Rattle.scripts.proofs.Receipts.{become_have, eight, halves, have_front, have_same, no_run_below}

-- ---- one call more

pub entries_more : (calls : List Call) (c : Call) → entries_of (calls ++ c ∷ []) ≡ entries_of calls ++ entry_of c.answer
entries_more calls c = flat_map-append (λ d. entry_of d.answer) calls (c ∷ []) ∙ ap (λ l. entries_of calls ++ l) (append-nil (entry_of c.answer))

pub entries_at_more : (seat : ℕ) (calls : List Call) (c : Call) → entries_at seat (calls ++ c ∷ []) ≡ entries_at seat calls ++ made_at seat c.answer
entries_at_more seat calls c = flat_map-append (λ d. made_at seat d.answer) calls (c ∷ []) ∙ ap (λ l. entries_at seat calls ++ l) (append-nil (made_at seat c.answer))

-- ---- the entries of sessions

one_answer_at : (workers seat : ℕ) (entries : List Line) (instruction : Instruction) (answer : Answer) → Answers workers entries instruction answer → seat < 8 → made_at seat answer ≡ of_seat seat (entry_of answer)
one_answer_at workers seat entries (instructions.Call s request) (Made line) answers lt = refl
one_answer_at workers seat entries (instructions.Call s request) (NotTaken why) answers lt = refl
one_answer_at workers seat entries (instructions.Call s request) (Worked runs) answers lt = absurd answers
one_answer_at workers seat entries instructions.Work (Made line) answers lt = absurd answers
one_answer_at workers seat entries instructions.Work (NotTaken why) answers lt = absurd answers
one_answer_at workers seat entries instructions.Work (Worked runs) answers lt = no_run_below 8 seat runs answers.1 lt

-- those that were made at a session's seat are its entries among those that answered sessions
pub at_session : (workers seat : ℕ) (calls : List Call) → AreAnswered workers calls → seat < 8 → entries_at seat calls ≡ of_seat seat (entries_of calls)
at_session workers seat _ no_call lt = refl
at_session workers seat _ (next_call {calls} c before answers) lt =
    entries_at_more seat calls c
    ∙ ap (λ l. l ++ made_at seat c.answer) (at_session workers seat calls before lt)
    ∙ ap (λ l. of_seat seat (entries_of calls) ++ l) (one_answer_at workers seat (entries_of calls) c.instruction c.answer answers lt)
    ∙ sym (filter-append (λ line. line.seat == seat) (entries_of calls) (entry_of c.answer))
    ∙ ap (of_seat seat) (sym (entries_more calls c))

one_seat : (workers : ℕ) (entries : List Line) (instruction : Instruction) (answer : Answer) → Answers workers entries instruction answer → All (λ line. line.seat < 8) (entry_of answer)
one_seat workers entries (instructions.Call s request) (Made line) answers =
    All-cons (λ (l : Line). l.seat < 8) line [] (subst (λ (n : ℕ). n < 8) (sym answers.1) answers.0) (All-nil (λ (l : Line). l.seat < 8))
one_seat workers entries (instructions.Call s request) (NotTaken why) answers = All-nil (λ (l : Line). l.seat < 8)
one_seat workers entries (instructions.Call s request) (Worked runs) answers = absurd answers
one_seat workers entries instructions.Work (Made line) answers = absurd answers
one_seat workers entries instructions.Work (NotTaken why) answers = absurd answers
one_seat workers entries instructions.Work (Worked runs) answers = All-nil (λ (l : Line). l.seat < 8)

pub of_sessions : (workers : ℕ) (calls : List Call) → AreAnswered workers calls → All (λ line. line.seat < 8) (entries_of calls)
of_sessions workers _ no_call = All-nil (λ (l : Line). l.seat < 8)
of_sessions workers _ (next_call {calls} c before answers) =
    subst (All (λ (l : Line). l.seat < 8)) (sym (entries_more calls c))
    (All-append (λ (l : Line). l.seat < 8) (entries_of calls) (entry_of c.answer) (of_sessions workers calls before) (one_seat workers (entries_of calls) c.instruction c.answer answers))

-- ---- what the passes of the sessions have

only_same : (y x : Line) → Contains (y ∷ []) x → y ≡ x
only_same y x (zero, lt, is) = is
only_same y x (suc k, lt, is) = absurd (let no : ⊥ = omega (arith, lt) in no)

from_seat : (seat : ℕ) (xs : List Line) (x : Line) → Contains (of_seat seat xs) x → Contains xs x
from_seat seat xs x h = All-contains (Contains xs) (of_seat seat xs) x (All-filter (λ line. line.seat == seat) (Contains xs) xs (All-contains_itself xs)) h

to_seat : (seat : ℕ) (xs : List Line) (x : Line) → x.seat ≡ seat → Contains xs x → Contains (of_seat seat xs) x
to_seat seat [] x at h = absurd (let lt = h.1 in let no : ⊥ = omega (arith, lt) in no)
to_seat seat (y ∷ ys) x at h =
    subst (λ l. Contains l x) (sym (filter-append (λ line. line.seat == seat) (y ∷ []) ys)) (elim (Contains-append_cases (y ∷ []) ys x h) [
      | inl one ↦
          (let kept : of_seat seat (y ∷ []) ≡ y ∷ [] = ap (λ b. cond b (y ∷ []) []) (eq-eqb y.seat seat (ap (λ (l : Line). l.seat) (only_same y x one) ∙ at)) in
          Contains-append_left (of_seat seat (y ∷ [])) (of_seat seat ys) x (subst (λ l. Contains l x) (sym kept) one))
      | inr rest ↦ Contains-append_right (of_seat seat (y ∷ [])) (of_seat seat ys) x (to_seat seat ys x at rest)
    ])

abbrev receipts_in : List PassView → List Line
receipts_in ps = flat_map (λ p. p.receipts) ps

equal_or_above : (seat k : ℕ) → seat ≤ k → (seat ≡ k) ⊎ (seat + 1 ≤ k)
equal_or_above seat k le = elim (cases_lt seat k) [ inl lt ↦ inr (omega (arith, lt)) | inr ge ↦ inl (let same : seat ≡ k = omega (arith, le, ge) in same) ]

out_of : (f : ℕ → List Line) (seat : ℕ) (ps : List PassView) (x : Line) → Have f seat ps → Contains (receipts_in ps) x → (k : ℕ) × (k < seat + length ps) × Contains (f k) x
out_of f seat [] x h c = absurd (let lt = c.1 in let no : ⊥ = omega (arith, lt) in no)
out_of f seat (p ∷ ps) x h c = elim (Contains-append_cases p.receipts (receipts_in ps) x c) [
  | inl here ↦ (seat, omega arith, subst (λ l. Contains l x) h.0 here)
  | inr rest ↦ (let r = out_of f (seat + 1) ps x h.1 rest in let lt = r.1 in (r.0, omega (arith, lt), r.2))
]

into : (f : ℕ → List Line) (seat k : ℕ) (ps : List PassView) (x : Line) → Have f seat ps → seat ≤ k → k < seat + length ps → Contains (f k) x → Contains (receipts_in ps) x
into f seat k [] x h le lt c = absurd (let no : ⊥ = omega (arith, le, lt) in no)
into f seat k (p ∷ ps) x h le lt c = elim (equal_or_above seat k le) [
  | inl same ↦ Contains-append_left p.receipts (receipts_in ps) x (subst (λ l. Contains l x) (sym (h.0 ∙ ap f same)) c)
  | inr above ↦ Contains-append_right p.receipts (receipts_in ps) x (into f (seat + 1) k ps x h.1 above (omega (arith, lt)) c)
]

-- two lists of the same entries
pub record AreSame (xs ys : List Line) : Type 0 where
  pub to : (x : Line) → Contains xs x → Contains ys x
  pub from : (x : Line) → Contains ys x → Contains xs x

abbrev entries_by : List Call → ℕ → List Line
entries_by calls seat = entries_at seat calls

pub same_entries : (workers desk : ℕ) (calls : List Call) (passes : List PassView) → AreAnswered workers calls → IsTable desk passes → Have (λ seat. entries_at seat calls) 0 passes
    → AreSame (session_receipts passes) (entries_of calls)
same_entries workers desk calls passes answered table h =
    let sessions = take 8 passes in
    let have : Have (entries_by calls) 0 sessions = have_front (entries_by calls) 0 sessions (drop 8 passes) (subst (Have (entries_by calls) 0) (sym (halves passes)) h) in
    let long = eight desk passes table in
    record {
      to = λ x c.
          (let o = out_of (entries_by calls) 0 sessions x have c in
          let lt : o.0 < 8 = (let l = o.1 in omega (arith, l, long)) in
          from_seat o.0 (entries_of calls) x (subst (λ l. Contains l x) (at_session workers o.0 calls answered lt) o.2));
      from = λ x c.
          (let lt : x.seat < 8 = All-contains (λ (l : Line). l.seat < 8) (entries_of calls) x (of_sessions workers calls answered) c in
          into (entries_by calls) 0 x.seat sessions x have (omega arith) (omega (arith, lt, long)) (subst (λ l. Contains l x) (sym (at_session workers x.seat calls answered lt)) (to_seat x.seat (entries_of calls) x refl c)));
    }

given_among : (claim : ℕ) (piece : PieceValue) (xs ys : List Line) → ((x : Line) → Contains xs x → Contains ys x) → IsGiven claim piece xs → IsGiven claim piece ys
given_among claim piece xs ys to given = (given.0, (given.1.0, to given.1.0 given.1.1, given.1.2))

asks_among : (xs ys : List Line) (request : Request) (said : Said) → ((x : Line) → Contains xs x → Contains ys x) → Asks xs request said → Asks ys request said
asks_among xs ys (PutCat name text) said to asks = asks
asks_among xs ys (PutTest text) said to asks = asks
asks_among xs ys (DropCat name) said to asks = asks
asks_among xs ys (DropTest name) said to asks = asks
asks_among xs ys (Ask test cat) said to asks = asks
asks_among xs ys (Poll job) said to asks = asks
asks_among xs ys (Forget job) said to asks = asks
asks_among xs ys (Release job) said to asks = asks
asks_among xs ys ListAll said to asks = asks
asks_among xs ys Claim said to asks = asks
asks_among xs ys (Return claim) said to asks = (asks.0, given_among claim asks.0 xs ys to asks.1, asks.2)
asks_among xs ys (GiveBack claim) said to asks = asks
asks_among xs ys Close said to asks = asks

pub answers_among : (workers : ℕ) (xs ys : List Line) (instruction : Instruction) (answer : Answer) → AreSame xs ys → Answers workers xs instruction answer → Answers workers ys instruction answer
answers_among workers xs ys (instructions.Call seat request) (Made line) same answers = (answers.0, answers.1, asks_among xs ys request line.said same.to answers.2, answers.3)
answers_among workers xs ys (instructions.Call seat request) (NotTaken why) same answers = (answers.0, asks_among xs ys request answers.0 same.to answers.1)
answers_among workers xs ys (instructions.Call seat request) (Worked runs) same answers = answers
answers_among workers xs ys instructions.Work (Made line) same answers = answers
answers_among workers xs ys instructions.Work (NotTaken why) same answers = answers
answers_among workers xs ys instructions.Work (Worked runs) same answers = answers

pub none_among : (claim : ℕ) (xs ys : List Line) → AreSame xs ys → GivesNone claim xs → GivesNone claim ys
none_among claim xs ys same none k d lt = All-contains (λ line. ¬ GivesPiece claim line) xs _ none (same.from _ (Contains-get_or ys k d lt))

-- ---- one call more, at a desk

pub have_more : (desk : ℕ) (calls : List Call) (c : Call) (before after : List PassView) → IsTable desk before → Become c.answer before after → Have (λ seat. entries_at seat calls) 0 before
    → Have (λ seat. entries_at seat (calls ++ c ∷ [])) 0 after
have_more desk calls c before after table become h =
    have_same (λ k. entries_at k calls ++ made_at k c.answer) (entries_by (calls ++ c ∷ [])) 0 after (λ k le lt. sym (entries_at_more k calls c)) (become_have (entries_by calls) desk before after c.answer table become h)

pub answered_more : (start desk : ℕ) (calls : List Call) (c : Call) (passes : List PassView) → desk ≡ start → AreAnswered (start - 8) calls → IsTable desk passes
    → Have (λ seat. entries_at seat calls) 0 passes → Answers (desk - 8) (session_receipts passes) c.instruction c.answer → AreAnswered (start - 8) (calls ++ c ∷ [])
answered_more start desk calls c passes same answered table h answers =
    let entries = same_entries (start - 8) desk calls passes answered table h in
    next_call c answered (answers_among (start - 8) (session_receipts passes) (entries_of calls) c.instruction c.answer entries (subst (λ (d : ℕ). Answers (d - 8) (session_receipts passes) c.instruction c.answer) same answers))

-- ---- the journal

each_at : (journal : List Line) (f : ℕ → List Line) (seat k : ℕ) (ps : List PassView) → AllByRecursion (λ p. p.receipts ≡ of_seat p.seat journal) ps → AreSeated seat ps → Have f seat ps
    → seat ≤ k → k < seat + length ps → of_seat k journal ≡ f k
each_at journal f seat k [] each seated h le lt = absurd (let no : ⊥ = omega (arith, le, lt) in no)
each_at journal f seat k (p ∷ ps) each seated h le lt = elim (equal_or_above seat k le) [
  | inl same ↦ ap (λ (n : ℕ). of_seat n journal) (sym same ∙ sym seated.0) ∙ sym each.0 ∙ h.0 ∙ ap f same
  | inr above ↦ each_at journal f (seat + 1) k ps each.1 seated.2 h.1 above (omega (arith, lt))
]

seat_within : (seat k : ℕ) (ps : List PassView) → AreSeated seat ps → has_seat ps k ≡ true → k < seat + length ps
seat_within seat k [] seated e = cc
seat_within seat k (p ∷ ps) seated e = elim (cases_Bool (p.seat == k)) [
  | inl t ↦ (let is = (Decides-eqb p.seat k).0 t in let at = seated.0 in omega (arith, is, at))
  | inr f ↦ (let rest = seat_within (seat + 1) k ps seated.2 (subst (λ b. (b || has_seat ps k) ≡ true) f e) in omega (arith, rest))
]

or_true : (b : Bool) → (b || true) ≡ true
or_true true = refl
or_true false = refl

has_each : (seat k : ℕ) (ps : List PassView) → AreSeated seat ps → seat ≤ k → k < seat + length ps → has_seat ps k ≡ true
has_each seat k [] seated le lt = absurd (let no : ⊥ = omega (arith, le, lt) in no)
has_each seat k (p ∷ ps) seated le lt = elim (equal_or_above seat k le) [
  | inl same ↦ ap (λ b. b || has_seat ps k) (eq-eqb p.seat k (seated.0 ∙ same))
  | inr above ↦ ap (λ b. (p.seat == k) || b) (has_each (seat + 1) k ps seated.2 above (omega (arith, lt))) ∙ or_true (p.seat == k)
]

all_within : (most : ℕ) (passes : List PassView) (lines : List Line) → AreSeated 0 passes → length passes ≡ most → AllByRecursion (λ line. has_seat passes line.seat ≡ true) lines
    → AllByRecursion (λ line. line.seat < most) lines
all_within most passes [] seated number has = tt
all_within most passes (x ∷ xs) seated number has =
    (let lt = seat_within 0 x.seat passes seated has.0 in omega (arith, lt, number), all_within most passes xs seated number has.1)

pub by_seat : (workers desk : ℕ) (calls : List Call) (passes : List PassView) (journal : List Line) → desk ≡ 8 + workers → IsTable desk passes → Have (λ seat. entries_at seat calls) 0 passes
    → IsShared journal passes → IsBySeat workers calls journal
by_seat workers desk calls passes journal n table h shared =
    let number = table.number in
    record {
      each = λ seat lt. each_at journal (entries_by calls) 0 seat passes shared.each table.seated h (omega arith) (omega (arith, lt, n, number));
      no_other = All-from_recursion (λ line. line.seat < 8 + workers) journal (all_within (8 + workers) passes journal table.seated (number ∙ n) shared.no_other);
    }

unfit_at : (f : ℕ → List Line) (seat place : ℕ) (journal : List Line) (ps : List PassView) → Have f seat ps → SomeUnfit journal ps place → (k : ℕ) × Unfit journal 0 (f k) place
unfit_at f seat place journal [] h some = absurd some
unfit_at f seat place journal (p ∷ ps) h (inl here) = (seat, subst (λ l. Unfit journal 0 l place) h.0 here)
unfit_at f seat place journal (p ∷ ps) h (inr rest) = unfit_at f (seat + 1) place journal ps h.1 rest

pub unfinished : (desk : ℕ) (calls : List Call) (passes : List PassView) (journal : List Line) (cause : FinishCause) → IsTable desk passes → Have (λ seat. entries_at seat calls) 0 passes
    → IsLegal journal → IsFault desk passes journal cause → IsUnfinished calls cause
unfinished desk calls passes journal (MissingPass seat) table h legal fault =
    let number = table.number in
    let lt = fault.0 in
    let there : has_seat passes seat ≡ true = has_each 0 seat passes table.seated (omega arith) (omega (arith, lt, number)) in
    let gone = fault.1 in
    cc
unfinished desk calls passes journal (Mismatch place) table h legal fault = (journal, legal, unfit_at (entries_by calls) 0 place journal passes h fault.2)

-- the script is done, or why it isn't

pub done : (desk entries : ℕ) (calls : List Call) (passes : List PassView) (journal : List Line) → IsTable desk passes → Have (λ seat. entries_at seat calls) 0 passes → IsLegal journal
    → entries ≡ length journal → IsShared journal passes → IsDone (desk - 8) calls (finish_text entries)
done desk entries calls passes journal table h legal count shared =
    let least = table.least in
    let whole : desk ≡ 8 + (desk - 8) = omega (arith, least) in
    record { journal = journal; legal = legal; seats = by_seat (desk - 8) desk calls passes journal whole table h shared; reported = ap finish_text count }
