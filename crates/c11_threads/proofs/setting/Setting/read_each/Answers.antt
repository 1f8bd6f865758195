use Rattle.std.proofs.Common.{◌≡◌, [], ◌+◌, ◌∙◌, ℕ, List, drop, filter, map, ap, sym, subst}
use Rattle.std.proofs.lemmas.List.{drop_all}
use Rattle.std.proofs.lemmas.Result.{err_from_is_err_and}
use Rattle.c11_threads.specs.Serving.{AreSmall}
use Rattle.c11_threads.specs.Unrolled.{Setting, may_read, having_read}
use Rattle.c11_threads.specs.Ways.{extended}
use Rattle.c11_threads.proofs.Filtered.{passes, skips}
use Rattle.c11_threads.proofs.Turns.{computable, full_fault, read_on, all_read, read_fault}
use Rattle.c11_threads.proofs.setting.Setting.read_each.Goals as goal

pub may_read-requires : goal.may_read-requires
may_read-requires c =
    let small = subst AreSmall (ap (λ (s : Setting). s.values) c.self.view_is) c.self.invariant in
    computable c.args.self.now.values small c.args.reading.now.behind c.requires _ (c.self.invariant c.loop-value.value-index 0 c.loop-value-test.true)

pub way_on-requires : goal.way_on-requires
way_on-requires c =
    let small = subst AreSmall (ap (λ (s : Setting). s.values) c.self.view_is) c.self.invariant in
    computable c.args.self.now.values small c.args.reading.now.behind c.requires _ (c.self.invariant c.loop-value.value-index 0 c.loop-value-test.true)

pub returns-in_err-look_for_room : goal.returns-in_err-look_for_room
returns-in_err-look_for_room c =
    let p = err_from_is_err_and c.from_residual.result c.from_residual.ensures.1 in
    let values = c.args.self.now.values in
    let may = may_read values c.args.reading.now.behind in
    let at = c.loop-value.value-index in
    let left = passes may c.self.inside.values.now values at 0 (ap (λ (s : Setting). s.values) c.self.view_is) c.loop-value-test.true c.if-not-may_read.ensures in
    rw (p.1, p.2) (read_fault (having_read c.args.reading.now c.args.from.now) _ (filter may (drop at values)) (filter may (drop (at + 1) values)) c.args.ends.now c.loop-value.ends _ c.args.from.now _ left c.loop-value.invariant
    (full_fault c.loop-value.ends c.args.from.now _ c.in_err-look_for_room.ensures.full))

pub returns-in_err-add : goal.returns-in_err-add
returns-in_err-add c =
    let p = err_from_is_err_and c.from_residual-in_err-add.result c.from_residual-in_err-add.ensures.1 in
    let values = c.args.self.now.values in
    let may = may_read values c.args.reading.now.behind in
    let at = c.loop-value.value-index in
    let left = passes may c.self.inside.values.now values at 0 (ap (λ (s : Setting). s.values) c.self.view_is) c.loop-value-test.true c.if-not-may_read.ensures in
    rw (p.1, p.2) (read_fault (having_read c.args.reading.now c.args.from.now) _ (filter may (drop at values)) (filter may (drop (at + 1) values)) c.args.ends.now c.loop-value.ends _ _ _ left c.loop-value.invariant c.in_err-add.ensures)

pub loop-value-preserved : goal.loop-value-preserved
loop-value-preserved c =
    let values = c.args.self.now.values in
    let may = may_read values c.args.reading.now.behind in
    let at = c.loop-value.value-index in
    let left = passes may c.self.inside.values.now values at 0 (ap (λ (s : Setting). s.values) c.self.view_is) c.loop-value-test.true c.if-not-may_read.ensures in
    read_on (having_read c.args.reading.now c.args.from.now) _ (filter may (drop at values)) (filter may (drop (at + 1) values)) c.args.ends.now c.loop-value.ends c.add.new.self _ _ left c.in_ok-way_on.ensures c.in_ok-add.ensures c.loop-value.invariant

pub loop-value-preserved-then-not-may_read : goal.loop-value-preserved-then-not-may_read
loop-value-preserved-then-not-may_read c =
    let values = c.args.self.now.values in
    let may = may_read values c.args.reading.now.behind in
    let at = c.loop-value.value-index in
    let left = skips may c.self.inside.values.now values at 0 (ap (λ (s : Setting). s.values) c.self.view_is) c.loop-value-test.true c.if-not-may_read.ensures in
    ap (λ (vs : List ℕ). extended (map (having_read c.args.reading.now c.args.from.now) vs) c.loop-value.ends) (sym left) ∙ c.loop-value.invariant

pub returns : goal.returns
returns c =
    let values = c.args.self.now.values in
    let may = may_read values c.args.reading.now.behind in
    let at = c.loop-value.value-index in
    let P : List ℕ → Type 0 = λ vs. filter may (drop at vs) ≡ [] in
    let none = subst P (ap (λ (s : Setting). s.values) c.self.view_is) (ap (filter may) (drop_all at c.self.inside.values.now c.loop-value-test.false)) in
    all_read (having_read c.args.reading.now c.args.from.now) (filter may (drop at values)) c.args.ends.now c.loop-value.ends _ none c.loop-value.invariant
