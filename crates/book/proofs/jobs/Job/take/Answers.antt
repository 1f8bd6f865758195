use Rattle.std.proofs.Common.{◌≡◌, ◌∙◌, ap, sym, subst, Some, arith}
use Rattle.std.specs.Prelude.{slice_get, IfSome}
use Rattle.slices.specs.Parts.{PieceValue}
use Rattle.slices.specs.Tallies.{TallyValue, span_of}
use Rattle.book.specs.Jobs.{Job, marked}
use Rattle.book.specs.Results.{IsVerdictOn, IsTied}
use Rattle.book.specs.Step.{HasRange}
use Rattle.book.proofs.Results.{here_range, marked_again, apart, merged_tied, merged_shown, inside, count_set, done_few}
use Rattle.book.proofs.jobs.Job.take.Goals as goal
use Rattle.book.proofs.jobs.Job.take.Goals.{in-Ok, in-Err}

pub returns-then-slice-clause-ok : goal.returns-then-slice-clause-ok
returns-then-slice-clause-ok c =
    let p = c.args.part.piece in
    let x = c.index-slice.result.now in
    let place : c.slice-place.result ≡ p.slice = c.slice-place.ensures ∙ ap (λ (q : PieceValue). q.slice) c.piece.ensures in
    let R : Job → Type 0 = λ j. HasRange (slice_get j.slices p.slice) p.from p.to in
    let at = here_range c.self.inside.slices.items p.slice c.slice-place.result p.from p.to x place (subst R (sym c.self.view_is) c.requires.range) c.index-slice.ensures in
    let G : Job → Type 0 = λ j. slice_get j.slices p.slice ≡ Some x in
    marked_again c.args.self.now p.slice x (subst G c.self.view_is at.0) c.if-slice.true

pub merge-requires-clause-apart : goal.merge-requires-clause-apart
merge-requires-clause-apart c =
    let p = c.args.part.piece in
    let x = c.index-slice.result.now in
    let place : c.slice-place.result ≡ p.slice = c.slice-place.ensures ∙ ap (λ (q : PieceValue). q.slice) c.piece.ensures in
    let R : Job → Type 0 = λ j. HasRange (slice_get j.slices p.slice) p.from p.to in
    let at = here_range c.self.inside.slices.items p.slice c.slice-place.result p.from p.to x place (subst R (sym c.self.view_is) c.requires.range) c.index-slice.ensures in
    apart c.self.inside.tally c.self.inside.slices.items p.slice x (span_of c.args.part) c.self.invariant.tied at.0 c.if-slice.false (sym at.1) (sym at.2)

pub invariant_of-self : goal.invariant_of-self
invariant_of-self c =
    let p = c.args.part.piece in
    let x = c.index-slice.result.now in
    let place : c.slice-place.result ≡ p.slice = c.slice-place.ensures ∙ ap (λ (q : PieceValue). q.slice) c.piece.ensures in
    let R : Job → Type 0 = λ j. HasRange (slice_get j.slices p.slice) p.from p.to in
    let at = here_range c.self.inside.slices.items p.slice c.slice-place.result p.from p.to x place (subst R (sym c.self.view_is) c.requires.range) c.index-slice.ensures in
    let tied = merged_tied c.self.inside.tally c.merge.new.self c.self.inside.slices.items p.slice c.slice-place.result x (span_of c.args.part) c.self.invariant.tied at.0 place (sym at.1) (sym at.2) c.in-Ok.ensures.merged in
    let K : TallyValue → Type 0 = λ r. IfSome c.self.inside.verdict (IsVerdictOn r.work c.self.inside.version) in
    record {
      tied = tied;
      counted = count_set c.self.inside.slices.items p.slice c.slice-place.result c.self.inside.returned x at.0 c.if-slice.false place c.self.invariant.counted;
      kept = subst K (sym c.in-Ok.ensures.merged) c.self.invariant.kept;
    }

pub returns-clause-ok : goal.returns-clause-ok
returns-clause-ok c =
    let p = c.args.part.piece in
    let x = c.index-slice.result.now in
    let place : c.slice-place.result ≡ p.slice = c.slice-place.ensures ∙ ap (λ (q : PieceValue). q.slice) c.piece.ensures in
    let R : Job → Type 0 = λ j. HasRange (slice_get j.slices p.slice) p.from p.to in
    let at = here_range c.self.inside.slices.items p.slice c.slice-place.result p.from p.to x place (subst R (sym c.self.view_is) c.requires.range) c.index-slice.ensures in
    elim c.match-merge.branch [
      | in-Ok w ↦ (
          let done : c.match-merge.self ≡ marked p.slice c.args.self.now = w.self-is ∙ merged_shown c.self.inside.number c.self.inside.version c.self.inside.tally c.merge.new.self c.self.inside.slices.items p.slice c.slice-place.result x (span_of c.args.part) at.0 place w.in-Ok.ensures.merged ∙ ap (marked p.slice) c.self.view_is in
          rw w.result-is done)
      | in-Err w ↦ rw w.result-is tt
    ]

pub index-slice-requires : goal.index-slice-requires
index-slice-requires c =
    let p = c.args.part.piece in
    let place : c.slice-place.result ≡ p.slice = c.slice-place.ensures ∙ ap (λ (q : PieceValue). q.slice) c.piece.ensures in
    let R : Job → Type 0 = λ j. HasRange (slice_get j.slices p.slice) p.from p.to in
    omega (arith, place, inside c.self.inside.slices.items p.slice p.from p.to (subst R (sym c.self.view_is) c.requires.range))

pub index_mut-requires : goal.index_mut-requires
index_mut-requires c =
    let p = c.args.part.piece in
    let place : c.slice-place.result ≡ p.slice = c.slice-place.ensures ∙ ap (λ (q : PieceValue). q.slice) c.piece.ensures in
    let R : Job → Type 0 = λ j. HasRange (slice_get j.slices p.slice) p.from p.to in
    omega (arith, place, inside c.self.inside.slices.items p.slice p.from p.to (subst R (sym c.self.view_is) c.requires.range))

pub invariant_of-self-in-Err : goal.invariant_of-self-in-Err
invariant_of-self-in-Err c =
    let same = c.in-Err.ensures.same in
    let T : TallyValue → Type 0 = λ t. IsTied t c.self.inside.slices.items in
    let K : TallyValue → Type 0 = λ t. IfSome c.self.inside.verdict (IsVerdictOn t.work c.self.inside.version) in
    record { tied = subst T (sym same) c.self.invariant.tied; counted = c.self.invariant.counted; kept = subst K (sym same) c.self.invariant.kept }

pub overflow_add-self : goal.overflow_add-self
overflow_add-self c = omega (arith, c.self.invariant.counted, done_few c.self.inside.tally c.self.inside.slices.items c.self.invariant.tied)
