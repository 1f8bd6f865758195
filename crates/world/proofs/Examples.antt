-- The examples, by computation.
use Rattle.std.proofs.Common.{ℕ, Bool, List, ◌+◌, ◌<◌, [], ◌∷◌, true, false, refl, subst, inl, inr, lit≤}
use Rattle.listings.specs.Lists.{IsIn}
use Rattle.candidates.specs.Candidates.{no_execution}
use Rattle.cat_eval.specs.Judging.{Allowed}
use Rattle.conditions.specs.States.{AreObserved}
use Rattle.slices.specs.Verdicts.{Tells}
use Rattle.slices.specs.Parts.{AreThose, at_end, taken, PieceResultValue, PieceValue, IsPart}
use Rattle.slices.specs.Findings.{FindingValue}
use Rattle.cat_model.specs.Files.{entry_of}
use Rattle.book.specs.Step.{elsewhere, others, Step}
use Rattle.book.specs.Workbench.{Workbench}
use Rattle.book.specs.declared.slice.Slice.{Slice}
use Rattle.journal.specs.Lines.{Line, returned}
use Rattle.journal.specs.declared.records.Said.{Said}
use Rattle.journal.specs.declared.records.Said.TheVariants.{DropTest, Poll, Release, Claim, Return}
use Rattle.journal.specs.declared.records.SourceKind.TheVariants.{Test}
use Rattle.journal.specs.declared.records.Refusal.TheVariants.{NoClaim, Replaced}
use Rattle.journal.specs.declared.records.Reply.{Reply}
use Rattle.journal.specs.declared.records.Reply.TheVariants.{Version, Pending, Verdict, Piece, Nothing, Taken, Freed, Refused}
use Rattle.world.specs.Merging.{IsMerged}
use Rattle.world.specs.Examples.{name, test, task, one, two, job, loaded, dropped, bench, claim, piece, part, claim_rest, rest, part_rest, start, LostWorker, LateReturn, ReplacedReturn, tiny, none, WholeWay}
use Rattle.world.specs.World.{World, Result, left, with_taken, claimed_job, with_piece, with_line, of_others}

-- the worlds after events

abbrev called : World → ℕ → ℕ → Said → Reply → Workbench → World
called w actor seat said reply s = record w { book = record { state = s; results = left said reply w.book.results }; journal = with_line w.journal seat said reply; pieces = with_piece actor reply w.pieces }

abbrev given : World → ℕ → PieceResultValue → Reply → Workbench → World
given w seat r reply s = record w { book = record { state = s; results = with_taken reply (claimed_job w.book.state r.piece.claim seat) r w.book.results }; journal = with_line w.journal seat (Return (returned r)) reply }

abbrev found : World → ℕ → PieceValue → FindingValue → World
found w actor p q = record w { parts = (actor, record { piece = p; found = q }) ∷ w.parts }

abbrev after_loss : World → ℕ → World
after_loss w actor = record w { pieces = of_others actor w.pieces; parts = of_others actor w.parts }

-- the first slice is given
given_to : (seat last : ℕ) → last < 100 → Step (bench loaded (one false) [] last) seat Claim (Piece (piece (last + 1))) (bench loaded (one false) (claim (last + 1) seat ∷ []) (last + 1))
unfolding entry_of
given_to seat last l = inr (refl, (l, (job (one false), inl refl, (record { from = 0; to = 1; returned = false }, refl, refl, refl)), refl))

abbrev first : World
first = called (start (one false)) 1 1 Claim (Piece (piece 1)) (bench loaded (one false) (claim 1 1 ∷ []) 1)

abbrev lost : World
lost = after_loss first 1

abbrev waited : World
waited = called lost 2 2 Claim Nothing (bench loaded (one false) (claim 1 1 ∷ []) 1)

abbrev freed_again : World
freed_again = called waited 0 0 (Release 1) (Freed 1) (bench loaded (one false) [] 1)

abbrev second : World
second = called freed_again 2 2 Claim (Piece (piece 2)) (bench loaded (one false) (claim 2 2 ∷ []) 2)

pub lost_worker : LostWorker
unfolding entry_of elsewhere
lost_worker = (
  second,
  (
    first,
    (tt, lit≤ tt, (bench loaded (one false) (claim 1 1 ∷ []) 1, given_to 1 0 (lit≤ tt), refl)),
    (
      lost,
      refl,
      (
        waited,
        (tt, lit≤ tt, (bench loaded (one false) (claim 1 1 ∷ []) 1, inr (refl, (refl, refl)), refl)),
        (
          freed_again,
          (tt, lit≤ tt, (bench loaded (one false) [] 1, inr (refl, (refl, refl, refl)), refl)),
          (
            second,
            (tt, lit≤ tt, (bench loaded (one false) (claim 2 2 ∷ []) 2, given_to 2 1 (lit≤ tt), refl)),
            refl,
          ),
        ),
      ),
    ),
  ),
  refl,
  refl,
  refl,
  refl,
)

abbrev found_one : FindingValue → World
found_one q = found first 1 (piece 1) q

abbrev let_go : FindingValue → World
let_go q = called (found_one q) 0 0 (Release 1) (Freed 1) (bench loaded (one false) [] 1)

abbrev claimed_again : FindingValue → World
claimed_again q = called (let_go q) 2 2 Claim (Piece (piece 2)) (bench loaded (one false) (claim 2 2 ∷ []) 2)

abbrev late : FindingValue → World
late q = given (claimed_again q) 1 (part 1 q) (Refused (NoClaim 1)) (bench loaded (one false) (claim 2 2 ∷ []) 2)

abbrev found_again : FindingValue → World
found_again q = found (late q) 2 (piece 2) q

abbrev returned_one : FindingValue → World
returned_one q = given (found_again q) 2 (part 2 q) (Taken 1 1) (bench loaded (one true) [] 2)

abbrev returned_twice : FindingValue → World
returned_twice q = given (returned_one q) 2 (part 2 q) (Refused (NoClaim 2)) (bench loaded (one true) [] 2)

pub late_return : LateReturn
unfolding entry_of elsewhere others
late_return q right = (
  returned_twice q,
  (
    first,
    (tt, lit≤ tt, (bench loaded (one false) (claim 1 1 ∷ []) 1, given_to 1 0 (lit≤ tt), refl)),
    (
      found_one q,
      (inl refl, right, refl),
      (
        let_go q,
        (tt, lit≤ tt, (bench loaded (one false) [] 1, inr (refl, (refl, refl, refl)), refl)),
        (
          claimed_again q,
          (tt, lit≤ tt, (bench loaded (one false) (claim 2 2 ∷ []) 2, given_to 2 1 (lit≤ tt), refl)),
          (
            late q,
            (inl refl, lit≤ tt, (bench loaded (one false) (claim 2 2 ∷ []) 2, inr (refl, (refl, refl)), refl)),
            (
              found_again q,
              (inl refl, right, refl),
              (
                returned_one q,
                (inl refl, lit≤ tt, (bench loaded (one true) [] 2, inr (refl, (refl, (refl, (refl, refl), refl), refl, refl, refl)), refl)),
                (
                  returned_twice q,
                  (inl refl, lit≤ tt, (bench loaded (one true) [] 2, inr (refl, (refl, refl)), refl)),
                  refl,
                ),
              ),
            ),
          ),
        ),
      ),
    ),
  ),
  refl,
  refl,
  refl,
  refl,
)

abbrev away : FindingValue → World
away q = called (found_one q) 0 0 (DropTest name) (Version name 2) (bench dropped (one false) (claim 1 1 ∷ []) 1)

abbrev no_more : FindingValue → World
no_more q = called (away q) 2 2 Claim Nothing (bench dropped (one false) (claim 1 1 ∷ []) 1)

abbrev refused : FindingValue → World
refused q = given (no_more q) 1 (part 1 q) (Refused (Replaced (record { kind = Test; name = name; version = 2 }))) (bench dropped (one false) [] 1)

abbrev refused_again : FindingValue → World
refused_again q = given (refused q) 1 (part 1 q) (Refused (NoClaim 1)) (bench dropped (one false) [] 1)

pub replaced_return : ReplacedReturn
unfolding entry_of others
replaced_return q right = (
  refused_again q,
  (
    first,
    (tt, lit≤ tt, (bench loaded (one false) (claim 1 1 ∷ []) 1, given_to 1 0 (lit≤ tt), refl)),
    (
      found_one q,
      (inl refl, right, refl),
      (
        away q,
        (tt, lit≤ tt, (bench dropped (one false) (claim 1 1 ∷ []) 1, inr (refl, (refl, lit≤ tt, refl, refl, refl)), refl)),
        (
          no_more q,
          (tt, lit≤ tt, (bench dropped (one false) (claim 1 1 ∷ []) 1, inr (refl, (refl, refl)), refl)),
          (
            refused q,
            (inl refl, lit≤ tt, (bench dropped (one false) [] 1, inr (refl, (refl, refl)), refl)),
            (
              refused_again q,
              (inl refl, lit≤ tt, (bench dropped (one false) [] 1, inr (refl, (refl, refl)), refl)),
              refl,
            ),
          ),
        ),
      ),
    ),
  ),
  refl,
  refl,
  refl,
  refl,
)

-- a claim, an evaluation, a return and the verdict

observed : AreObserved test.condition test.listed []
observed = record { members = record { once = tt; only = λ p h. absurd h; all = λ p h. elim h [ inl a ↦ a | inr b ↦ b ] }; order = tt }

tiny_told : Tells test [] (no_execution ∷ []) tiny
tiny_told = record {
  name = refl;
  kind = refl;
  formula = refl;
  places = observed;
  positive = refl;
  negative = refl;
  states = record { once = ((λ p. p), tt); only = λ s p. elim p [ inl e ↦ (no_execution, inl refl, e) | inr q ↦ absurd q ]; all = λ s h. inl h.2 };
  sorted = tt;
  flags = record { once = tt; only = λ x p. absurd p; all = λ x h. h.2 };
  in_order = tt;
}

tiny_part : IsPart test [] 0 1 tiny
tiny_part =
    let here : AreThose (Allowed []) (no_execution ∷ []) (no_execution ∷ []) = taken tt at_end in
    (no_execution ∷ [], here, tiny_told)

none_told : Tells test [] [] none
none_told = record {
  name = refl;
  kind = refl;
  formula = refl;
  places = observed;
  positive = refl;
  negative = refl;
  states = record { once = tt; only = λ s p. absurd p; all = λ s h. absurd h.1 };
  sorted = tt;
  flags = record { once = tt; only = λ x p. absurd p; all = λ x h. absurd h.1 };
  in_order = tt;
}

none_part : IsPart test [] 1 1 none
none_part = let here : AreThose (Allowed []) [] [] = at_end in ([], here, none_told)

-- only the first has a state, and none has a flag
in_first : (s : List ℕ) (w : FindingValue) → IsIn w (tiny ∷ none ∷ []) → IsIn s w.states → IsIn s tiny.states
in_first s w (inl e) p = let P : FindingValue → Type 0 = λ v. IsIn s v.states in subst P e p
in_first s w (inr (inl e)) p = let P : FindingValue → Type 0 = λ v. IsIn s v.states in absurd (subst P e p)
in_first s w (inr (inr out)) p = absurd out

no_flag : (x : List ℕ) (w : FindingValue) → IsIn w (tiny ∷ none ∷ []) → IsIn x w.flags → ⊥
no_flag x w (inl e) p = let P : FindingValue → Type 0 = λ v. IsIn x v.flags in subst P e p
no_flag x w (inr (inl e)) p = let P : FindingValue → Type 0 = λ v. IsIn x v.flags in subst P e p
no_flag x w (inr (inr out)) p = out

both_merged : IsMerged test (tiny ∷ none ∷ []) tiny
both_merged = record {
  name = refl;
  kind = refl;
  formula = refl;
  places = observed;
  positive = refl;
  negative = refl;
  states = record { once = ((λ p. p), tt); only = λ s p. (tiny, inl refl, p); all = λ s h. in_first s h.0 h.1 h.2 };
  sorted = tt;
  flags = record { once = tt; only = λ x p. absurd p; all = λ x h. no_flag x h.0 h.1 h.2 };
  in_order = tt;
}

-- two workers, of which one is lost

abbrev made : Workbench → List Result → List Line → List (ℕ × PieceValue) → List (ℕ × PieceResultValue) → World
made s results journal pieces parts = record { limits = s.limits; book = record { state = s; results = results }; journal = journal; pieces = pieces; parts = parts }

abbrev line : ℕ → ℕ → Said → Reply → Line
line place seat said reply = record { place = place; seat = seat; said = said; reply = reply }

abbrev l0 : Line
l0 = line 0 1 Claim (Piece (piece 1))

abbrev l1 : Line
l1 = line 1 2 Claim (Piece (rest 2))

abbrev l2 : Line
l2 = line 2 2 (Return (returned (part_rest 2 none))) (Taken 1 2)

abbrev l3 : Line
l3 = line 3 0 (Poll 1) (Pending 1 2)

abbrev l4 : Line
l4 = line 4 0 (Release 1) (Freed 1)

abbrev l5 : Line
l5 = line 5 2 Claim (Piece (piece 3))

abbrev l6 : Line
l6 = line 6 2 (Return (returned (part 3 tiny))) (Taken 2 2)

abbrev l7 : Line
l7 = line 7 0 (Poll 1) (Verdict (record { work = task; version = 1; finding = tiny }))

abbrev w1 : World
w1 = made (bench loaded (two false false) (claim 1 1 ∷ []) 1) ([]) (l0 ∷ []) ((1, piece 1) ∷ []) ([])

abbrev w2 : World
w2 = made (bench loaded (two false false) (claim 1 1 ∷ claim_rest 2 2 ∷ []) 2) ([]) (l0 ∷ l1 ∷ []) ((2, rest 2) ∷ (1, piece 1) ∷ []) ([])

abbrev w3 : World
w3 = made (bench loaded (two false false) (claim 1 1 ∷ claim_rest 2 2 ∷ []) 2) ([]) (l0 ∷ l1 ∷ []) ((2, rest 2) ∷ []) ([])

abbrev w4 : World
w4 = made (bench loaded (two false false) (claim 1 1 ∷ claim_rest 2 2 ∷ []) 2) ([]) (l0 ∷ l1 ∷ []) ((2, rest 2) ∷ []) ((2, part_rest 2 none) ∷ [])

abbrev w5 : World
w5 = made (bench loaded (two false true) (claim 1 1 ∷ []) 2) (record { job = 1; part = part_rest 2 none } ∷ []) (l0 ∷ l1 ∷ l2 ∷ []) ((2, rest 2) ∷ []) ((2, part_rest 2 none) ∷ [])

abbrev w6 : World
w6 = made (bench loaded (two false true) (claim 1 1 ∷ []) 2) (record { job = 1; part = part_rest 2 none } ∷ []) (l0 ∷ l1 ∷ l2 ∷ l3 ∷ []) ((2, rest 2) ∷ []) ((2, part_rest 2 none) ∷ [])

abbrev w7 : World
w7 = made (bench loaded (two false true) ([]) 2) (record { job = 1; part = part_rest 2 none } ∷ []) (l0 ∷ l1 ∷ l2 ∷ l3 ∷ l4 ∷ []) ((2, rest 2) ∷ []) ((2, part_rest 2 none) ∷ [])

abbrev w8 : World
w8 = made (bench loaded (two false true) (claim 3 2 ∷ []) 3) (record { job = 1; part = part_rest 2 none } ∷ []) (l0 ∷ l1 ∷ l2 ∷ l3 ∷ l4 ∷ l5 ∷ []) ((2, piece 3) ∷ (2, rest 2) ∷ []) ((2, part_rest 2 none) ∷ [])

abbrev w9 : World
w9 = made (bench loaded (two false true) (claim 3 2 ∷ []) 3) (record { job = 1; part = part_rest 2 none } ∷ []) (l0 ∷ l1 ∷ l2 ∷ l3 ∷ l4 ∷ l5 ∷ []) ((2, piece 3) ∷ (2, rest 2) ∷ []) ((2, part 3 tiny) ∷ (2, part_rest 2 none) ∷ [])

abbrev w10 : World
w10 = made (bench loaded (two true true) ([]) 3) (record { job = 1; part = part 3 tiny } ∷ record { job = 1; part = part_rest 2 none } ∷ []) (l0 ∷ l1 ∷ l2 ∷ l3 ∷ l4 ∷ l5 ∷ l6 ∷ []) ((2, piece 3) ∷ (2, rest 2) ∷ []) ((2, part 3 tiny) ∷ (2, part_rest 2 none) ∷ [])

abbrev w11 : World
w11 = made (bench loaded (two true true) ([]) 3) (record { job = 1; part = part 3 tiny } ∷ record { job = 1; part = part_rest 2 none } ∷ []) (l0 ∷ l1 ∷ l2 ∷ l3 ∷ l4 ∷ l5 ∷ l6 ∷ l7 ∷ []) ((2, piece 3) ∷ (2, rest 2) ∷ []) ((2, part 3 tiny) ∷ (2, part_rest 2 none) ∷ [])

-- a slice of the two is given
abbrev slot_one : Bool → Slice
slot_one b = record { from = 0; to = 1; returned = b }

abbrev slot_two : Bool → Slice
slot_two b = record { from = 1; to = 1; returned = b }

pub whole_way : WholeWay
unfolding entry_of elsewhere others
whole_way = (
  w11,
  (
    w1,
    (tt, lit≤ tt, (w1.book.state, inr (refl, (lit≤ tt, (job (two false false), inl refl, (slot_one false, refl, refl, refl)), refl)), refl)),
    (
      w2,
      (tt, lit≤ tt, (w2.book.state, inr (refl, (lit≤ tt, (job (two false false), inl refl, (slot_two false, refl, refl, refl)), refl)), refl)),
      (
        w3,
        refl,
        (
          w4,
          (inl refl, none_part, refl),
          (
            w5,
            (inl refl, lit≤ tt, (w5.book.state, inr (refl, (refl, (refl, (refl, refl), refl), refl, refl, refl)), refl)),
            (
              w6,
              (tt, lit≤ tt, (w6.book.state, inr (refl, (refl, refl, refl, refl, refl)), refl)),
              (
                w7,
                (tt, lit≤ tt, (w7.book.state, inr (refl, (refl, refl, refl)), refl)),
                (
                  w8,
                  (tt, lit≤ tt, (w8.book.state, inr (refl, (lit≤ tt, (job (two false true), inl refl, (slot_one false, refl, refl, refl)), refl)), refl)),
                  (
                    w9,
                    (inl refl, tiny_part, refl),
                    (
                      w10,
                      (inl refl, lit≤ tt, (w10.book.state, inr (refl, (refl, (refl, (refl, refl), refl), refl, refl, refl)), refl)),
                      (
                        w11,
                        (tt, lit≤ tt, (w11.book.state, inr (refl, ((refl, refl, refl, both_merged), refl)), refl)),
                        refl,
                      ),
                    ),
                  ),
                ),
              ),
            ),
          ),
        ),
      ),
    ),
  ),
  refl,
  refl,
  refl,
  refl,
)
