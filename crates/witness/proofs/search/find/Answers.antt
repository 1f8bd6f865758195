use Rattle.candidates.specs.Candidates.{choices_of, size_of, Choices, graph_at}
use Rattle.std.proofs.Common.{◌≡◌, ◌<◌, ◌∙◌, ℕ, Bool, List, Option, Some, ap, arith, subst, sym}
use Rattle.std.proofs.lemmas.Bool.{false≢true}
use Rattle.candidates.specs.Walks.{Walking}
use Rattle.cat_eval.specs.Judging.{Allowed}
use Rattle.cat_tree.specs.Tree.{Clause}
use Rattle.events.specs.Executions.{GraphValue}
use Rattle.litmus_tree.specs.Tree.{Litmus}
use Rattle.slices.specs.Parts.{test_size}
use Rattle.slices.specs.Passing.{ArePassed}
use Rattle.slices.specs.Questions.{IsAnswer}
use Rattle.witness.specs.Judges.{KnowsOf, judged}
use Rattle.witness.specs.Witnesses.{IsFound, IsWitness, NoneBelow}
use Rattle.witness.proofs.Searched.{agree, differ, found_first, found_none, hit_number, if_ok, is_passed, miss_number, none_at_all, none_behind, none_passed, none_to, not_passed, one_answer, shown_at}
use Rattle.witness.proofs.search.find.Goals as goal

pub loop-walk-preserved-then-branch-has : goal.loop-walk-preserved-then-branch-has
loop-walk-preserved-then-branch-has c =
    let inv = c.loop-walk.invariant in
    let t = c.args.test.now in
    let v = c.loop-walk.walk in
    let w = c.next.new.self in
    let n = c.in-Some.number in
    let hit = hit_number v w c.in_ok-number.field-0 n c.in-Some.is c.in_ok-number.ensures.found in
    let T : Litmus → Type 0 = λ u. IsAnswer u c.graph.result.now c.in_ok-answer.field-0 in
    let G : GraphValue → Type 0 = λ x. IsAnswer t x c.in_ok-answer.field-0 in
    let answer = subst G c.graph.ensures (subst T c.in_ok-question.ensures c.in_ok-answer.ensures) in
    record {
      space = hit.step.space ∙ inv.space;
      to = hit.step.to ∙ inv.to;
      items = inv.items;
      known = inv.known;
      none = none_behind t (IsWitness t (judged c.args.judge.now) c.args.has) v w n inv.space inv.none hit (λ q. differ c.in_ok-answer.field-0 c.args.has c.if-branch-has.true (one_answer c.observed_places.ensures t w.shown c.in_ok-answer.field-0 c.args.has answer q.1));
    }

pub loop-walk-preserved-then-branch : goal.loop-walk-preserved-then-branch
loop-walk-preserved-then-branch c =
    let inv = c.loop-walk.invariant in
    let t = c.args.test.now in
    let v = c.loop-walk.walk in
    let w = c.next.new.self in
    let n = c.in-Some.number in
    let hit = hit_number v w c.in_ok-number.field-0 n c.in-Some.is c.in_ok-number.ensures.found in
    let A : List Clause → Type 0 = λ items. ArePassed items n w c.passes.new.walk in
    let K : Choices → Type 0 = λ s. KnowsOf s c.passes.new.self in
    let passed = subst A inv.items (is_passed c.in_ok-passes.field-0 (A (judged c.loop-walk.judge)) (c.passes.new.walk ≡ w) c.if-branch.true c.in_ok-passes.ensures.passed) in
    record {
      space = passed.space ∙ hit.step.space ∙ inv.space;
      to = passed.to ∙ hit.step.to ∙ inv.to;
      items = c.passes.ensures.items ∙ inv.items;
      known = subst K (hit.step.space ∙ inv.space) c.passes.ensures.known;
      none = none_passed t (IsWitness t (judged c.args.judge.now) c.args.has) (judged c.args.judge.now) v w c.passes.new.walk n inv.space inv.none hit passed (λ y q. q.0);
    }

pub returns-then-branch-2 : goal.returns-then-branch-2
returns-then-branch-2 c =
    let inv = c.loop-walk.invariant in
    let t = c.args.test.now in
    let v = c.loop-walk.walk in
    let w = c.next.new.self in
    let n = c.in-Some.number in
    let items = judged c.args.judge.now in
    let W : GraphValue → Type 0 = IsWitness t items c.args.has in
    let hit = hit_number v w c.in_ok-number.field-0 n c.in-Some.is c.in_ok-number.ensures.found in
    let T : Litmus → Type 0 = λ u. IsAnswer u c.graph.result.now c.in_ok-answer.field-0 in
    let G : GraphValue → Type 0 = λ x. IsAnswer t x c.in_ok-answer.field-0 in
    let B : Bool → Type 0 = λ b. IsAnswer t w.shown b in
    let answer = subst B (agree c.in_ok-answer.field-0 c.args.has c.if-branch-has.false) (subst G c.graph.ensures (subst T c.in_ok-question.ensures c.in_ok-answer.ensures)) in
    let same : c.passes.new.walk ≡ w = not_passed c.in_ok-passes.field-0 (ArePassed (judged c.loop-walk.judge) n w c.passes.new.walk) (c.passes.new.walk ≡ w) c.if-branch.false c.in_ok-passes.ensures.passed in
    let I : List Clause → Type 0 = λ is. Allowed is c.graph-in-Some.result.now in
    let A : GraphValue → Type 0 = λ x. Allowed items x in
    let shown : c.graph-in-Some.result.now ≡ w.shown = c.graph-in-Some.ensures ∙ ap (λ (u : Walking). u.shown) same in
    let allowed = subst A shown (subst I (c.passes.ensures.items ∙ inv.items) (c.in_ok-allows.ensures.allowed.0 c.if-branch-2.true)) in
    let below : n < test_size t = (let l = hit.below in let e = inv.to in omega (arith, l, e)) in
    let P : Option GraphValue → Type 0 = λ g. g ≡ graph_at c.args.space.now n in
    if_ok P (IsFound t W) c.graph-then-branch-2.result
    (λ o is. found_first c.numbering.ensures t W n w.shown o c.requires.admitted below (shown_at t v w n inv.space hit) (allowed, answer) (none_to t W v w n inv.space inv.none hit) (is ∙ ap (λ (s : Choices). graph_at s n) c.requires.space))
    c.graph-then-branch-2.ensures

pub loop-walk-preserved : goal.loop-walk-preserved
loop-walk-preserved c =
    let inv = c.loop-walk.invariant in
    let t = c.args.test.now in
    let v = c.loop-walk.walk in
    let w = c.next.new.self in
    let n = c.in-Some.number in
    let items = judged c.args.judge.now in
    let W : GraphValue → Type 0 = IsWitness t items c.args.has in
    let hit = hit_number v w c.in_ok-number.field-0 n c.in-Some.is c.in_ok-number.ensures.found in
    let same : c.passes.new.walk ≡ w = not_passed c.in_ok-passes.field-0 (ArePassed (judged c.loop-walk.judge) n w c.passes.new.walk) (c.passes.new.walk ≡ w) c.if-branch.false c.in_ok-passes.ensures.passed in
    let I : List Clause → Type 0 = λ is. Allowed is w.shown in
    let A : GraphValue → Type 0 = λ x. Allowed (judged c.passes.new.self) x in
    let shown : c.graph-in-Some.result.now ≡ w.shown = c.graph-in-Some.ensures ∙ ap (λ (u : Walking). u.shown) same in
    let K : Choices → Type 0 = λ s. KnowsOf s c.passes.new.self in
    let N : ℕ → Type 0 = NoneBelow t W in
    record {
      space = ap (λ (u : Walking). u.space) same ∙ hit.step.space ∙ inv.space;
      to = ap (λ (u : Walking). u.to) same ∙ hit.step.to ∙ inv.to;
      items = c.allows.ensures.items ∙ c.passes.ensures.items ∙ inv.items;
      known = c.allows.ensures.known (choices_of t) (subst K (hit.step.space ∙ inv.space) c.passes.ensures.known);
      none = subst N (sym (ap (λ (u : Walking). u.next) same))
          (none_behind t W v w n inv.space inv.none hit (λ q. false≢true (sym c.if-branch-2.false ∙ c.in_ok-allows.ensures.allowed.1 (subst A (sym shown) (subst I (sym (c.passes.ensures.items ∙ inv.items)) q.0)))));
    }

pub passes-requires : goal.passes-requires
passes-requires c =
    let inv = c.loop-walk.invariant in
    let v = c.loop-walk.walk in
    let hit = hit_number v c.next.new.self c.in_ok-number.field-0 c.in-Some.number c.in-Some.is c.in_ok-number.ensures.found in
    let K : Choices → Type 0 = λ s. KnowsOf s c.loop-walk.judge in
    let S : Choices → Type 0 = λ s. graph_at s c.in-Some.number ≡ Some c.next.new.self.shown in
    record { found = hit.step.next; shown = subst S (sym hit.step.space) hit.at; known = subst K (sym (hit.step.space ∙ inv.space)) inv.known }

pub returns : goal.returns
returns c =
    let inv = c.loop-walk.invariant in
    let t = c.args.test.now in
    let v = c.loop-walk.walk in
    let W : GraphValue → Type 0 = IsWitness t (judged c.args.judge.now) c.args.has in
    let miss = miss_number v c.next.new.self c.in_ok-number.field-0 c.in_default.not-Some c.in_ok-number.ensures.found in
    found_none c.numbering.ensures t W v.to c.requires.admitted inv.to (none_at_all t W v c.next.new.self inv.space inv.none miss)

pub graph-requires-then-branch-2 : goal.graph-requires-then-branch-2
graph-requires-then-branch-2 c =
    let inv = c.loop-walk.invariant in
    let v = c.loop-walk.walk in
    let w = c.next.new.self in
    let hit = hit_number v w c.in_ok-number.field-0 c.in-Some.number c.in-Some.is c.in_ok-number.ensures.found in
    let l = hit.below in
    omega (arith, l, inv.to, ap size_of c.requires.space)

pub loop-walk-smaller : goal.loop-walk-smaller
loop-walk-smaller c =
    let inv = c.loop-walk.invariant in
    let v = c.loop-walk.walk in
    let w = c.next.new.self in
    let hit = hit_number v w c.in_ok-number.field-0 c.in-Some.number c.in-Some.is c.in_ok-number.ensures.found in
    let same : c.passes.new.walk ≡ w = not_passed c.in_ok-passes.field-0 (ArePassed (judged c.loop-walk.judge) c.in-Some.number w c.passes.new.walk) (c.passes.new.walk ≡ w) c.if-branch.false c.in_ok-passes.ensures.passed in
    let next = hit.step.next in
    let to = hit.step.to in
    let later = hit.later in
    let below = hit.below in
    omega (arith, next, to, later, below, ap (λ (u : Walking). u.next) same, ap (λ (u : Walking). u.to) same)

pub loop-walk-smaller-then-branch : goal.loop-walk-smaller-then-branch
loop-walk-smaller-then-branch c =
    let inv = c.loop-walk.invariant in
    let v = c.loop-walk.walk in
    let w = c.next.new.self in
    let hit = hit_number v w c.in_ok-number.field-0 c.in-Some.number c.in-Some.is c.in_ok-number.ensures.found in
    let A : List Clause → Type 0 = λ items. ArePassed items c.in-Some.number w c.passes.new.walk in
    let passed = is_passed c.in_ok-passes.field-0 (A (judged c.loop-walk.judge)) (c.passes.new.walk ≡ w) c.if-branch.true c.in_ok-passes.ensures.passed in
    let further = passed.later in
    let same = passed.to in
    let to = hit.step.to in
    let later = hit.later in
    let below = hit.below in
    omega (arith, further, same, to, later, below)
