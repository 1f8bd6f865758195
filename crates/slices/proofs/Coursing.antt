-- The slices of an evaluation, one after another.
use Rattle.std.proofs.Common.{◌≡◌, ℕ, ◌+◌, ◌<◌, ◌≤◌, List, [], ◌∷◌, ◌++◌, ap, ◌∙◌, subst, arith}
use Rattle.slices.specs.declared.span.Span.{Span}
use Rattle.slices.specs.Courses.{CourseValue, IsCourse}
use Rattle.slices.specs.Parts.{PieceResultValue, test_size}
use Rattle.slices.specs.Tallies.{TallyValue, IsApart, IsHeld, IsCover, cut, span_of}
use Rattle.slices.specs.Works.{WorkValue}
use Rattle.slices.proofs.Cuts.{cuts, next_apart, next_below, next_held, all_held}

pub begun : (w : WorkValue) (total : ℕ) (t : TallyValue) → 1 ≤ total → t ≡ record { work = w; spans = [] } → IsCourse (record { work = w; total = total; done = 0 }) t
begun w total t some is =
    let n = test_size w.test in
    let first = (cuts n total some).first in
    let spans : t.spans ≡ [] = ap (λ (x : TallyValue). x.spans) is in
    record {
      work = ap (λ (x : TallyValue). x.work) is;
      some = some;
      done = omega arith;
      below = λ i h. let H : List Span → Type 0 = λ l. IsHeld l i in let k = subst H spans h in absurd k.1;
      held = λ i l. absurd (omega (arith, l, first));
    }

pub apart : (c : CourseValue) (t : TallyValue) (r : PieceResultValue) → IsCourse c t → r.piece.from ≡ cut (test_size c.work.test) c.total c.done → IsApart (span_of r) t.spans
apart c t r is first = next_apart (test_size c.work.test) c.total c.done r t.spans is.below first

pub stepped : (c : CourseValue) (old new : TallyValue) (r : PieceResultValue) → IsCourse c old → c.done < c.total → r.piece.from ≡ cut (test_size c.work.test) c.total c.done → r.piece.to ≡ cut (test_size c.work.test) c.total (c.done + 1)
    → new ≡ record old { spans = old.spans ++ span_of r ∷ [] } → IsCourse (record c { done = c.done + 1 }) new
stepped c old new r is less first last pushed =
    let n = test_size c.work.test in
    let spans : new.spans ≡ old.spans ++ span_of r ∷ [] = ap (λ (x : TallyValue). x.spans) pushed in
    record {
      work = ap (λ (x : TallyValue). x.work) pushed ∙ is.work;
      some = is.some;
      done = omega (arith, less);
      below = next_below n c.total c.done r old.spans new.spans is.some spans last is.below;
      held = next_held n c.total c.done r old.spans new.spans spans first last is.held;
    }

pub covered : (c : CourseValue) (t : TallyValue) → IsCourse c t → c.done ≡ c.total → IsCover (test_size t.work.test) t.spans
covered c t is done =
    let size : test_size t.work.test ≡ test_size c.work.test = ap (λ (w : WorkValue). test_size w.test) is.work in
    λ j l. all_held (test_size c.work.test) c.total c.done t.spans is.some done is.held j (omega (arith, size, l))
