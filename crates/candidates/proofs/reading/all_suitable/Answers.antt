use Rattle.std.proofs.Common.{◌≡◌, ◌∙◌, ℕ, length, subst, arith}
use Rattle.candidates.specs.Readings.{HaveSuitable}
use Rattle.candidates.proofs.Listed.{placed}
use Rattle.candidates.proofs.Suiting.{suited_cut, suited_on}
use Rattle.candidates.proofs.reading.all_suitable.Goals as goal

pub loop-place-init : goal.loop-place-init
loop-place-init c = suited_cut c.args.init.now c.args.page.now.runs.items c.args.page.now.reads.items c.args.room.items c.truncate.new.self.items c.args.known c.requires.known c.truncate.ensures.items

pub suitable_to-requires : goal.suitable_to-requires
suitable_to-requires c =
    let page = c.args.page.now in
    record {
      page = (
        length c.args.init.now,
        c.requires.page,
        placed (length c.args.init.now) page.runs.items page.reads.items c.loop-place.place c.index.result.now c.requires.page.within c.requires.page.reads_are (omega (arith, c.loop-place-test.true, c.len-place-end.ensures)) c.index.ensures,
      );
    }

pub loop-place-preserved : goal.loop-place-preserved
loop-place-preserved c =
    let page = c.args.page.now in
    let at = c.loop-place in
    suited_on c.args.init.now page.runs.items page.reads.items at.suitable.items c.push.new.self.items at.place c.index.result.now c.suitable_to.result (omega (arith, c.loop-place-test.true, c.len-place-end.ensures)) c.index.ensures c.suitable_to.ensures c.in_ok-push.ensures.items at.invariant

pub returns : goal.returns
returns c =
    let page = c.args.page.now in
    let at = c.loop-place in
    let h = at.invariant in
    let all : at.place ≡ length page.reads.items = omega (arith, h.1.reads, c.loop-place-test.false, c.len-place-end.ensures) in
    let P : ℕ → Type 0 = λ k. HaveSuitable c.args.init.now page.runs.items page.reads.items at.suitable.items k in
    record { many = h.0 ∙ all; are = subst P all h.1 }
