use Rattle.std.proofs.Common.{◌≡◌, ◌-◌, ◌∙◌, refl, sym, ap, subst, length, List, arith, ltb-true}
use Rattle.events.specs.Executions.{ThreadRun}
use Rattle.candidates.specs.Executions.{block}
use Rattle.candidates.specs.Candidates.{Choices, choices}
use Rattle.candidates.specs.Depths.{depths_of}
use Rattle.candidates.specs.Levels.{ArePlaced}
use Rattle.candidates.specs.Located.{choices_by}
use Rattle.candidates.specs.Outlines.{IsOfRuns, WasOf}
use Rattle.candidates.specs.declared.page.Page.{Page}
use Rattle.candidates.specs.declared.threads.Kept.{Kept}
use Rattle.candidates.proofs.Staying.{still_some}
use Rattle.candidates.proofs.Steps.{in_block, place_in_block, part_member, part_block}
use Rattle.candidates.proofs.Stretches.{stretch_of, whole_page}
use Rattle.std.proofs.lemmas.Result.{IfOk-from_err}
use Rattle.candidates.proofs.Outlining.{of_runs_like}
use Rattle.candidates.proofs.Pages.{start_within}
use Rattle.candidates.proofs.threads.go_to.Goals as goal

pub open_page-requires-clause-within : goal.open_page-requires-clause-within
open_page-requires-clause-within c =
    let t = c.args.threads.now in
    let runs = c.locate.new.runs.items in
    c.requires.threads.within runs (part_member (length t.init.now) (choices t.runs.now) (c.args.number - c.in-At.rest) runs (rw c.in-At.is at c.in_ok-rest.ensures.located).2)

pub open_page-requires-clause-most : goal.open_page-requires-clause-most
open_page-requires-clause-most c =
    let t = c.args.threads.now in
    let runs = c.locate.new.runs.items in
    omega (arith, c.requires.threads.most, part_block (length t.init.now) (choices t.runs.now) (c.args.number - c.in-At.rest) runs (rw c.in-At.is at c.in_ok-rest.ensures.located).2)

pub returns-in_ok-open_page-in-At-clause-reached : goal.returns-in_ok-open_page-in-At-clause-reached
returns-in_ok-open_page-in-At-clause-reached c =
    let t = c.args.threads.now in
    let s : Choices = choices_by t in
    let n = length t.init.now in
    let runs = c.locate.new.runs.items in
    let first = c.args.number - c.in-At.rest in
    let at = rw c.in-At.is at c.in_ok-rest.ensures.located in
    let page = c.in_ok-open_page-in-At.ensures in
    let made = c.open_page.new.page in
    let same_runs : made.runs.items ≡ runs = rw c.open_page.ensures.runs.0 refl in
    let same : block n made.runs.items ≡ block n runs = ap (λ (rs : List ThreadRun). block n rs) same_runs in
    let depths : made.depths.items ≡ depths_of n made.runs.items = page.depths ∙ ap (depths_of n) (sym same_runs) in
    let placed : ArePlaced t.runs.now made.runs.items made.places.items = rw (c.open_page.ensures.runs.0, c.open_page.ensures.runs.1) c.locate.ensures.placed in
    record {
      stretch = stretch_of s runs n first _ refl page.page page.fits same_runs refl refl (part_block n (choices t.runs.now) first runs at.2) c.requires.threads.most (in_block t.init.now (choices t.runs.now) first runs at.2) (place_in_block n (choices t.runs.now) first runs at.2) depths placed;
      first = omega arith;
      last = omega (arith, whole_page n made page.page, same, at.1, at.0);
    }

pub returns-in_ok-open_page-in-At-clause-stretch : goal.returns-in_ok-open_page-in-At-clause-stretch
returns-in_ok-open_page-in-At-clause-stretch c =
    let t = c.args.threads.now in
    let s : Choices = choices_by t in
    let n = length t.init.now in
    let runs = c.locate.new.runs.items in
    let first = c.args.number - c.in-At.rest in
    let at = rw c.in-At.is at c.in_ok-rest.ensures.located in
    let page = c.in_ok-open_page-in-At.ensures in
    let made = c.open_page.new.page in
    let same_runs : made.runs.items ≡ runs = rw c.open_page.ensures.runs.0 refl in
    let depths : made.depths.items ≡ depths_of n made.runs.items = page.depths ∙ ap (depths_of n) (sym same_runs) in
    let placed : ArePlaced t.runs.now made.runs.items made.places.items = rw (c.open_page.ensures.runs.0, c.open_page.ensures.runs.1) c.locate.ensures.placed in
    record { placed = placed; whole = λ some. stretch_of s runs n first _ refl page.page page.fits same_runs refl refl (part_block n (choices t.runs.now) first runs at.2) c.requires.threads.most (in_block t.init.now (choices t.runs.now) first runs at.2) (place_in_block n (choices t.runs.now) first runs at.2) depths placed }

pub locate-requires-clause-threads : goal.locate-requires-clause-threads
locate-requires-clause-threads c = c.requires.threads

pub locate-requires-clause-levels : goal.locate-requires-clause-levels
locate-requires-clause-levels c = c.requires.levels

pub locate-requires-clause-number : goal.locate-requires-clause-number
locate-requires-clause-number c = c.requires.number

pub returns-in_err-rest-clause-reached : goal.returns-in_err-rest-clause-reached
returns-in_err-rest-clause-reached c = IfOk-from_err c.from_residual.result _ c.from_residual.ensures.0

pub returns-in_err-rest-clause-levels : goal.returns-in_err-rest-clause-levels
returns-in_err-rest-clause-levels c = c.locate.ensures.levels

pub returns-in_err-open_page-in-At-clause-reached : goal.returns-in_err-open_page-in-At-clause-reached
returns-in_err-open_page-in-At-clause-reached c = IfOk-from_err c.from_residual-in_err-open_page-in-At.result _ c.from_residual-in_err-open_page-in-At.ensures.0

pub returns-in_err-open_page-in-At-clause-levels : goal.returns-in_err-open_page-in-At-clause-levels
returns-in_err-open_page-in-At-clause-levels c = c.locate.ensures.levels

pub overflow_sub-stretch : goal.overflow_sub-stretch
overflow_sub-stretch c = (rw c.in-At.is at c.in_ok-rest.ensures.located).0

pub returns-in_ok-open_page-in-At-clause-levels : goal.returns-in_ok-open_page-in-At-clause-levels
returns-in_ok-open_page-in-At-clause-levels c = c.locate.ensures.levels

pub returns-in-Until-clause-reached : goal.returns-in-Until-clause-reached
returns-in-Until-clause-reached c = rw c.in-Until.is at c.in_ok-rest.ensures.located

pub returns-in-Until-clause-levels : goal.returns-in-Until-clause-levels
returns-in-Until-clause-levels c = c.locate.ensures.levels

pub returns-in-Until-clause-stretch : goal.returns-in-Until-clause-stretch
returns-in-Until-clause-stretch c = record { whole = λ some. absurd (omega (arith, some)); placed = c.locate.ensures.placed }

pub overflow_mul-stretch : goal.overflow_mul-stretch
overflow_mul-stretch c =
    let page = c.open_page.new.page in
    omega (arith, start_within (length c.args.threads.now.init.now) page page.ways c.in_ok-open_page-in-At.ensures.page (omega arith))

pub open_page-requires-clause-kept : goal.open_page-requires-clause-kept
open_page-requires-clause-kept c =
    let t = c.args.threads.now in
    let runs = c.locate.new.runs.items in
    let page : Page = record c.args.stretch.now.page { runs = c.locate.new.runs; places = c.locate.new.places } in
    let Q : Kept → Type 0 = λ k. IsOfRuns (length t.init.now) runs page × WasOf t.init.now k page in
    still_some _ Q c.of_whole-kept.result (λ k f.
    let s = c.requires.stretch.whole (omega (arith, ltb-true 0 c.args.stretch.now.size f.1)) in
    let kept = rw c.in-At.is at c.in_ok-rest.ensures.kept in
    let like = kept.alike f.2 in
    subst Q (sym f.0) (
      of_runs_like (length t.init.now) c.args.stretch.now.page.runs.items runs _ (sym like)
          (record { writes_are = s.page.writes_are; ways = s.page.ways; orders = s.page.orders; depths = s.page.depths; depths_are = s.depths }),
      record { before = c.args.stretch.now.page.runs.items; kept = kept; alike = like; reads_were = s.page.reads_are; suited = s.fits.are },
    )) c.of_whole-kept.ensures

pub locate-requires-clause-placed : goal.locate-requires-clause-placed
locate-requires-clause-placed c = c.requires.stretch.placed

pub returns-in_err-rest-clause-stretch : goal.returns-in_err-rest-clause-stretch
returns-in_err-rest-clause-stretch c = record { whole = λ some. absurd (omega (arith, some)); placed = c.locate.ensures.placed }

pub returns-in_err-open_page-in-At-clause-stretch : goal.returns-in_err-open_page-in-At-clause-stretch
returns-in_err-open_page-in-At-clause-stretch c = record { whole = λ some. absurd (omega (arith, some)); placed = rw (c.open_page.ensures.runs.0, c.open_page.ensures.runs.1) c.locate.ensures.placed }
