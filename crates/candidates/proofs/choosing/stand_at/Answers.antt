use Rattle.std.proofs.Common.{◌≡◌, ◌∙◌, ◌+◌, [], length, get_or, set, refl, sym, ap, arith}
use Rattle.std.proofs.lemmas.List.{take_all, length-set, get_or_default}
use Rattle.candidates.specs.declared.levels.Level.{Level}
use Rattle.candidates.proofs.Kept.{IsMoved, levels_moved, moved_to, moved_here, moved_length, tally_by}
use Rattle.candidates.proofs.choosing.stand_at.Goals as goal

pub returns-then-not-same-clause-levels : goal.returns-then-not-same-clause-levels
returns-then-not-same-clause-levels c = λ n are.
    let level : Level = record { tally = c.index_mut-level.result.now.tally; sizes = c.index_mut-level.result.now.sizes; place = c.args.place; before = c.args.before } in
    let h : IsMoved c.args.levels.now.items c.truncate.new.self.items c.args.thread (c.args.thread + 1) level = (c.requires.thread.0, omega arith, c.truncate.ensures.items) in
    levels_moved n c.args.groups.now c.args.levels.now.items c.truncate.new.self.items c.args.thread (c.args.thread + 1) c.index_mut-level.result.now level are h c.index_mut-level.ensures.value refl refl
    (c.requires.place c.index_mut-level.result.now c.index_mut-level.ensures.value) (λ l. absurd (omega (arith, l)))

pub returns-then-not-same-clause-same : goal.returns-then-not-same-clause-same
returns-then-not-same-clause-same c = λ n.
    let level : Level = record { tally = c.index_mut-level.result.now.tally; sizes = c.index_mut-level.result.now.sizes; place = c.args.place; before = c.args.before } in
    let h : IsMoved c.args.levels.now.items c.truncate.new.self.items c.args.thread (c.args.thread + 1) level = (c.requires.thread.0, omega arith, c.truncate.ensures.items) in
    moved_to n c.args.groups.now c.args.levels.now.items c.truncate.new.self.items c.args.thread (c.args.thread + 1) level h c.args.thread (omega arith) (λ l. absurd (omega (arith, l)))

pub returns-then-not-same-clause-place : goal.returns-then-not-same-clause-place
returns-then-not-same-clause-place c =
    let level : Level = record { tally = c.index_mut-level.result.now.tally; sizes = c.index_mut-level.result.now.sizes; place = c.args.place; before = c.args.before } in
    let h : IsMoved c.args.levels.now.items c.truncate.new.self.items c.args.thread (c.args.thread + 1) level = (c.requires.thread.0, omega arith, c.truncate.ensures.items) in
    (moved_length c.args.levels.now.items c.truncate.new.self.items c.args.thread (c.args.thread + 1) level h, moved_here c.args.levels.now.items c.truncate.new.self.items c.args.thread (c.args.thread + 1) level h)

pub returns-else-not-same-clause-levels : goal.returns-else-not-same-clause-levels
returns-else-not-same-clause-levels c = λ n are.
    let levels = c.args.levels.now.items in
    let k = c.args.thread in
    let groups = c.args.groups.now in
    let old = c.index_mut-level.result.now in
    let level : Level = record { tally = old.tally; sizes = old.sizes; place = c.args.place; before = c.args.before } in
    let h : IsMoved levels (set levels k level) k (length levels) level = (c.requires.thread.0, c.requires.thread.0, sym (take_all (length levels) (set levels k level) (omega (arith, length-set levels k level)))) in
    let here = c.index-groups-thread.is ∙ get_or_default groups k c.index-groups-thread.result [] c.requires.thread.1 in
    let same : tally_by groups k c.args.place ≡ tally_by groups k old.place =
    sym (ap (λ ts. get_or ts c.args.place []) here) ∙ sym (c.has_both-same.ensures c.if-not-same.false) ∙ ap (λ ts. get_or ts old.place []) here in
    levels_moved n groups levels (set levels k level) k (length levels) old level are h c.index_mut-level.ensures.value refl refl
    (c.requires.place old c.index_mut-level.ensures.value) (λ l. same)

pub returns-else-not-same-clause-same : goal.returns-else-not-same-clause-same
returns-else-not-same-clause-same c = λ n.
    let levels = c.args.levels.now.items in
    let k = c.args.thread in
    let level : Level = record { tally = c.index_mut-level.result.now.tally; sizes = c.index_mut-level.result.now.sizes; place = c.args.place; before = c.args.before } in
    let h : IsMoved levels (set levels k level) k (length levels) level = (c.requires.thread.0, c.requires.thread.0, sym (take_all (length levels) (set levels k level) (omega (arith, length-set levels k level)))) in
    moved_to n c.args.groups.now levels (set levels k level) k (length levels) level h k (omega (arith, c.requires.thread.0)) (λ l. absurd (omega (arith, l)))

pub returns-else-not-same-clause-place : goal.returns-else-not-same-clause-place
returns-else-not-same-clause-place c =
    let levels = c.args.levels.now.items in
    let k = c.args.thread in
    let level : Level = record { tally = c.index_mut-level.result.now.tally; sizes = c.index_mut-level.result.now.sizes; place = c.args.place; before = c.args.before } in
    let h : IsMoved levels (set levels k level) k (length levels) level = (c.requires.thread.0, c.requires.thread.0, sym (take_all (length levels) (set levels k level) (omega (arith, length-set levels k level)))) in
    (moved_length levels (set levels k level) k (length levels) level h, moved_here levels (set levels k level) k (length levels) level h)
