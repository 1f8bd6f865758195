use Rattle.std.proofs.Common.{◌≡◌, ◌∙◌, List, [], length, take, ap, subst, sym, arith}
use Rattle.std.proofs.Math.Seq.{length-take-le}
use Rattle.events.specs.declared.event.Event.{Event}
use Rattle.events.specs.declared.event.EventId.{EventId}
use Rattle.events.specs.Cuts.{known_part}
use Rattle.events.specs.Executions.{ThreadRun}
use Rattle.candidates.specs.declared.depths.Known.{Known}
use Rattle.candidates.specs.Blocks.{Fits, cut_of, free_of, unplaced_of}
use Rattle.candidates.specs.Executions.{later_writes, reads}
use Rattle.candidates.proofs.Listed.{written_at}
use Rattle.candidates.proofs.block.cut_to.Goals as goal

pub writes_to-requires : goal.writes_to-requires
writes_to-requires c =
    let runs = c.args.page.now.runs.items in
    let P : Known → Type 0 = λ k. Fits c.args.locations runs k in
    let fits = subst P c.in-Orders.is c.requires.known in
    (written_at runs c.args.locations c.in-Orders.unplaced.locations c.args.page.now.writes.items c.requires.page.writes_are fits.0).0

pub slice_bounds-result-end-in-Orders : goal.slice_bounds-result-end-in-Orders
slice_bounds-result-end-in-Orders c =
    let runs = c.args.page.now.runs.items in
    let P : Known → Type 0 = λ k. Fits c.args.locations runs k in
    let fits = subst P c.in-Orders.is c.requires.known in
    let later = c.writes_to.result.now in
    let e : later ≡ later_writes runs c.in-Orders.unplaced.locations =
    c.writes_to.ensures ∙ (written_at runs c.args.locations c.in-Orders.unplaced.locations c.args.page.now.writes.items c.requires.page.writes_are fits.0).1 in
    let l = ap (λ (ws : List EventId). length ws) e in
    sym (length-take-le c.in-Orders.unplaced.writes later (omega (arith, l, fits.1)))

pub returns-in-Sources-clause-cut : goal.returns-in-Sources-clause-cut
returns-in-Sources-clause-cut c x n r = ap (λ k. known_part x c.in-Sources.count k []) (sym n) ∙ ap (λ k. cut_of k x) (sym c.in-Sources.is)

pub returns-in-Orders-clause-cut : goal.returns-in-Orders-clause-cut
returns-in-Orders-clause-cut c x n r =
    let runs = c.args.page.now.runs.items in
    let P : Known → Type 0 = λ k. Fits c.args.locations runs k in
    let fits = subst P c.in-Orders.is c.requires.known in
    let left = c.in-Orders.unplaced in
    let later = c.writes_to.result.now in
    let e : later ≡ later_writes runs left.locations =
    c.writes_to.ensures ∙ (written_at runs c.args.locations left.locations c.args.page.now.writes.items c.requires.page.writes_are fits.0).1 in
    let l = ap (λ (es : List Event). length es) c.requires.page.reads_are in
    let all : c.len.result ≡ length (reads runs) = omega (arith, c.len.ensures, l) in
    ap (λ m. known_part x m left.locations (take left.writes later)) all
    ∙ ap (λ (ws : List EventId). known_part x (length (reads runs)) left.locations (take left.writes ws)) e
    ∙ ap (λ (rs : List ThreadRun). known_part x (length (reads rs)) left.locations (take left.writes (later_writes rs left.locations))) (sym r)
    ∙ ap (λ k. cut_of k x) (sym c.in-Orders.is)

pub returns-in-Orders-clause-parts : goal.returns-in-Orders-clause-parts
returns-in-Orders-clause-parts c =
    let runs = c.args.page.now.runs.items in
    let P : Known → Type 0 = λ k. Fits c.args.locations runs k in
    let fits = subst P c.in-Orders.is c.requires.known in
    let left = c.in-Orders.unplaced in
    let e = c.writes_to.ensures ∙ (written_at runs c.args.locations left.locations c.args.page.now.writes.items c.requires.page.writes_are fits.0).1 in
    (sym (ap (free_of c.args.locations) c.in-Orders.is), ap (take left.writes) e ∙ sym (ap (unplaced_of runs) c.in-Orders.is))
