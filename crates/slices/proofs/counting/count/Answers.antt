use Rattle.std.proofs.Common.{◌≡◌, ◌+◌, ◌<◌, ◌∙◌, List, [], map, refl, sym, ap, subst, arith}
use Rattle.std.specs.Prelude.{Some, IfSome, max, min}
use Rattle.cat_tree.specs.Tree.{Clause}
use Rattle.conditions.specs.States.{AreObserved}
use Rattle.conditions.specs.declared.place.Place.{Place}
use Rattle.candidates.specs.Candidates.{Choices, choices_of, graph_at}
use Rattle.candidates.specs.Walks.{IsHit, Walking}
use Rattle.events.specs.Executions.{GraphValue}
use Rattle.events.specs.Structures.{structure_of}
use Rattle.slices.specs.Findings.{FindingValue}
use Rattle.slices.specs.Judgements.{IsJudged}
use Rattle.slices.specs.Lessons.{AreLearned}
use Rattle.slices.specs.Parts.{IsAdmitted, IsPart}
use Rattle.slices.specs.Passing.{ArePassed}
use Rattle.slices.specs.Slots.{slot_of}
use Rattle.slices.specs.Steady.{AreSteady}
use Rattle.slices.specs.Verdicts.{Tells}
use Rattle.slices.specs.Works.{WorkValue}
use Rattle.slices.proofs.Counted.{IsUnderWay, walked_none_yet, walked_none}
use Rattle.slices.proofs.Judging.{said_alone, said_behind}
use Rattle.slices.proofs.PassedOver.{hit_number, is_passed, knows_alike, miss_number, not_passed, shown_at, walk_nearer, walked_on, walked_over}
use Rattle.slices.proofs.Steadily.{steady_behind, steady_from, steady_nowhere}
use Rattle.slices.proofs.Weighed.{as_long, few_ways, said_at, same_places, walked_alike, walked_one}
use Rattle.slices.proofs.counting.count.Goals as goal

pub loop-gathering-init : goal.loop-gathering-init
loop-gathering-init c =
    let w = c.args.work.now in
    let T : WorkValue → Type 0 = λ z. Tells z.test w.model.items [] c.in_ok-finding.finding in
    let begun = walked_none_yet w.test w.model.items c.args.walk.now.next c.args.walk.now.to c.args.walk.now c.in_ok-finding.finding
    c.requires.space refl refl (subst T c.in_ok-share.ensures (c.in_ok-finding.ensures w.model.items)) in
    let same = c.new-gathering.ensures.finding in
    let U : FindingValue → Type 0 = λ f. IsUnderWay w.test w.model.items c.args.walk.now.next c.args.walk.now.to c.begin.new.walk f in
    let P : FindingValue → Type 0 = λ f. c.slots-slots.result.now ≡ map (slot_of w.test) f.places in
    let over = c.begin.ensures.passed w.model.items (knows_alike _ _ _ _ c.args.pruner.now c.args.pruner.now (sym c.requires.space) refl refl (λ l. l) c.requires.known) in
    record {
      counted = subst U (sym same) (walked_on w.test w.model.items c.args.walk.now.next c.args.walk.now.to c.args.walk.now c.begin.new.walk c.in_ok-finding.finding begun over);
      kept = c.new-gathering.ensures.kept;
      slots = subst P (sym same) (let told = subst T c.in_ok-share.ensures (c.in_ok-finding.ensures w.model.items) in let S : WorkValue → Type 0 = λ z. (ps : List Place) → AreObserved z.test.condition z.test.listed ps → c.slots-slots.result.now ≡ map (slot_of z.test) ps in subst S c.work-inner.ensures c.slots-slots.ensures c.in_ok-finding.finding.places told.places);
      model = c.requires.evaluator;
      steady = steady_nowhere _ _ _ _ (omega arith);
      known = knows_alike (choices_of w.test) (choices_of w.test) w.model.items w.model.items c.args.pruner.now c.begin.new.self refl refl c.begin.ensures.refuted (subst (AreLearned (choices_of w.test) w.model.items) (sym c.begin.ensures.lessons)) c.requires.known;
    }

pub new-gathering-requires : goal.new-gathering-requires
new-gathering-requires c =
    let w = c.args.work.now in
    let T : WorkValue → Type 0 = λ z. Tells z.test w.model.items [] c.in_ok-finding.finding in
    let told = subst T c.in_ok-share.ensures (c.in_ok-finding.ensures w.model.items) in
    let S : WorkValue → Type 0 = λ z. (ps : List Place) → AreObserved z.test.condition z.test.listed ps → c.slots-slots.result.now ≡ map (slot_of z.test) ps in
    as_long w.test c.in_ok-finding.finding.places c.slots-slots.result.now (subst S c.work-inner.ensures c.slots-slots.ensures c.in_ok-finding.finding.places told.places)

pub weigh_alike-requires-clause-whole : goal.weigh_alike-requires-clause-whole
weigh_alike-requires-clause-whole c = as_long c.args.work.now.test c.loop-gathering.gathering.finding.places c.slots-slots.result.now (c.loop-gathering.invariant.slots)

pub weigh_alike-requires-clause-ways : goal.weigh_alike-requires-clause-ways
weigh_alike-requires-clause-ways c =
    let n = c.in-Some.number in
    let hit = hit_number c.loop-gathering.walk c.next.new.self c.in_ok-number.field-0 n c.in-Some.is c.in_ok-number.ensures.found in
    let same = not_passed c.in_ok-passes.field-0 (ArePassed c.rely-steady.new.evaluator.items n c.next.new.self c.passes.new.walk) (c.passes.new.walk ≡ c.next.new.self) c.if-branch.false c.in_ok-passes.ensures.passed in
    let H : Walking → Type 0 = λ w. IsHit c.loop-gathering.walk w n in
    let here = subst H (sym same) hit in
    let model = c.passes.ensures.model ∙ (c.rely-steady.ensures.items ∙ c.loop-gathering.invariant.model) in
    let admitted = subst (λ (z : WorkValue). IsAdmitted z.test) c.work-inner.ensures c.size.ensures.admitted in
    let j = c.in_ok-judgement.field-0.judgement in
    let o = c.in-Some-open.range in
    let said = said_behind c.passes.new.evaluator.items c.args.work.now.model.items c.passes.new.walk c.in_ok-judgement.field-0 o model c.in-Some-open.is c.in_ok-judgement.ensures.said in
    let at = said_at c.args.work.now.test c.args.work.now.model.items c.args.walk.now.next c.args.walk.now.to n c.loop-gathering.walk c.passes.new.walk j o c.loop-gathering.gathering.finding c.loop-gathering.invariant.counted here c.requires.range admitted said in
    (few_ways c.args.work.now.test c.args.work.now.model.items c.args.walk.now.next c.args.walk.now.to n c.loop-gathering.walk c.passes.new.walk c.slots-slots.result.now o c.graph-graph.result.now c.loop-gathering.gathering.finding c.loop-gathering.invariant.counted here at.alike at.at c.graph-graph.ensures at.within).0

pub weigh_alike-requires-clause-few : goal.weigh_alike-requires-clause-few
weigh_alike-requires-clause-few c =
    let n = c.in-Some.number in
    let hit = hit_number c.loop-gathering.walk c.next.new.self c.in_ok-number.field-0 n c.in-Some.is c.in_ok-number.ensures.found in
    let same = not_passed c.in_ok-passes.field-0 (ArePassed c.rely-steady.new.evaluator.items n c.next.new.self c.passes.new.walk) (c.passes.new.walk ≡ c.next.new.self) c.if-branch.false c.in_ok-passes.ensures.passed in
    let H : Walking → Type 0 = λ w. IsHit c.loop-gathering.walk w n in
    let here = subst H (sym same) hit in
    let model = c.passes.ensures.model ∙ (c.rely-steady.ensures.items ∙ c.loop-gathering.invariant.model) in
    let admitted = subst (λ (z : WorkValue). IsAdmitted z.test) c.work-inner.ensures c.size.ensures.admitted in
    let j = c.in_ok-judgement.field-0.judgement in
    let o = c.in-Some-open.range in
    let said = said_behind c.passes.new.evaluator.items c.args.work.now.model.items c.passes.new.walk c.in_ok-judgement.field-0 o model c.in-Some-open.is c.in_ok-judgement.ensures.said in
    let at = said_at c.args.work.now.test c.args.work.now.model.items c.args.walk.now.next c.args.walk.now.to n c.loop-gathering.walk c.passes.new.walk j o c.loop-gathering.gathering.finding c.loop-gathering.invariant.counted here c.requires.range admitted said in
    (few_ways c.args.work.now.test c.args.work.now.model.items c.args.walk.now.next c.args.walk.now.to n c.loop-gathering.walk c.passes.new.walk c.slots-slots.result.now o c.graph-graph.result.now c.loop-gathering.gathering.finding c.loop-gathering.invariant.counted here at.alike at.at c.graph-graph.ensures at.within).1

pub overflow_add-number : goal.overflow_add-number
overflow_add-number c =
    let n = c.in-Some.number in
    let hit = hit_number c.loop-gathering.walk c.next.new.self c.in_ok-number.field-0 n c.in-Some.is c.in_ok-number.ensures.found in
    let same = not_passed c.in_ok-passes.field-0 (ArePassed c.rely-steady.new.evaluator.items n c.next.new.self c.passes.new.walk) (c.passes.new.walk ≡ c.next.new.self) c.if-branch.false c.in_ok-passes.ensures.passed in
    let H : Walking → Type 0 = λ w. IsHit c.loop-gathering.walk w n in
    let here = subst H (sym same) hit in
    let model = c.passes.ensures.model ∙ (c.rely-steady.ensures.items ∙ c.loop-gathering.invariant.model) in
    let admitted = subst (λ (z : WorkValue). IsAdmitted z.test) c.work-inner.ensures c.size.ensures.admitted in
    let j = c.in_ok-judgement.field-0.judgement in
    let o = c.in-Some-open.range in
    let said = said_behind c.passes.new.evaluator.items c.args.work.now.model.items c.passes.new.walk c.in_ok-judgement.field-0 o model c.in-Some-open.is c.in_ok-judgement.ensures.said in
    let at = said_at c.args.work.now.test c.args.work.now.model.items c.args.walk.now.next c.args.walk.now.to n c.loop-gathering.walk c.passes.new.walk j o c.loop-gathering.gathering.finding c.loop-gathering.invariant.counted here c.requires.range admitted said in
    let end = at.within.0 in
    let least = at.within.1 in
    let size = c.size-in-Some-open.ensures in
    omega (arith, end, least, size)

pub loop-gathering-preserved-in-Some-open : goal.loop-gathering-preserved-in-Some-open
loop-gathering-preserved-in-Some-open c =
    let w = c.args.work.now in
    let inv = c.loop-gathering.invariant in
    let n = c.in-Some.number in
    let hit = hit_number c.loop-gathering.walk c.next.new.self c.in_ok-number.field-0 n c.in-Some.is c.in_ok-number.ensures.found in
    let same = not_passed c.in_ok-passes.field-0 (ArePassed c.rely-steady.new.evaluator.items n c.next.new.self c.passes.new.walk) (c.passes.new.walk ≡ c.next.new.self) c.if-branch.false c.in_ok-passes.ensures.passed in
    let H : Walking → Type 0 = λ w. IsHit c.loop-gathering.walk w n in
    let here = subst H (sym same) hit in
    let model = c.passes.ensures.model ∙ (c.rely-steady.ensures.items ∙ c.loop-gathering.invariant.model) in
    let admitted = subst (λ (z : WorkValue). IsAdmitted z.test) c.work-inner.ensures c.size.ensures.admitted in
    let j = c.in_ok-judgement.field-0.judgement in
    let o = c.in-Some-open.range in
    let said = said_behind c.passes.new.evaluator.items c.args.work.now.model.items c.passes.new.walk c.in_ok-judgement.field-0 o model c.in-Some-open.is c.in_ok-judgement.ensures.said in
    let at = said_at c.args.work.now.test c.args.work.now.model.items c.args.walk.now.next c.args.walk.now.to n c.loop-gathering.walk c.passes.new.walk j o c.loop-gathering.gathering.finding c.loop-gathering.invariant.counted here c.requires.range admitted said in
    let next = c.pass.ensures.next ∙ ap (λ x. max c.passes.new.walk.next (min (n + x) c.passes.new.walk.to)) c.size-in-Some-open.ensures in
    record {
      counted = walked_alike w.test w.model.items c.args.walk.now.next c.args.walk.now.to n c.loop-gathering.walk c.passes.new.walk c.pass.new.self c.graph-graph.result.now c.slots-slots.result.now o j c.loop-gathering.gathering.finding c.weigh_alike.new.self.finding inv.counted here c.graph-graph.ensures inv.slots at.alike at.at at.judged at.within c.in_ok-weigh_alike.ensures.sum c.pass.ensures.space c.pass.ensures.to next;
      kept = c.in_ok-weigh_alike.ensures.kept;
      slots = inv.slots ∙ ap (map (slot_of w.test)) (sym (same_places j.allowed c.loop-gathering.gathering.finding _ c.weigh_alike.new.self.finding c.in_ok-weigh_alike.ensures.sum));
      steady = (let S : Choices → Type 0 = λ s. AreSteady s c.pass.new.self.next c.rely-steady.result c.judge.new.evaluator.relied in
          let on : n < c.pass.new.self.next = (let l = hit.step.next in let e = c.pass.ensures.next in let z = ap (λ (w : Walking). w.next) same in omega (arith, l, e, z)) in
          subst S (sym (c.pass.ensures.space ∙ ap (λ (w : Walking). w.space) same))
          (steady_behind c.next.new.self.space n c.rely-steady.result c.pass.new.self.next n c.next.new.self.shown c.rely-steady.new.evaluator.relied c.judge.new.evaluator.relied c.rely-steady.ensures.steady (omega arith) on (omega (arith, on))
          (let G : Choices → Type 0 = λ s. graph_at s n ≡ Some c.next.new.self.shown in subst G (sym hit.step.space) hit.at)
          (let R : Walking → Type 0 = λ w. IfSome c.judge.new.evaluator.relied (λ r. r ≡ structure_of w.shown) in subst R same c.judge.ensures.relied)));
      model = c.judge.ensures.model ∙ model;
      known = knows_alike _ _ _ _ c.passes.new.self c.judge.new.pruner (hit.step.space ∙ inv.counted.space) (c.rely-steady.ensures.items ∙ inv.model) c.judge.ensures.refuted (let L : List Clause → Type 0 = λ z. AreLearned (choices_of w.test) z c.passes.new.self.lessons → AreLearned (choices_of w.test) z c.judge.new.pruner.lessons in subst L model (c.judge.ensures.learned (choices_of w.test))) c.passes.ensures.known;
    }

pub loop-gathering-preserved-then-branch : goal.loop-gathering-preserved-then-branch
loop-gathering-preserved-then-branch c =
    let inv = c.loop-gathering.invariant in
    let n = c.in-Some.number in
    let hit = hit_number c.loop-gathering.walk c.next.new.self c.in_ok-number.field-0 n c.in-Some.is c.in_ok-number.ensures.found in
    let P : List Clause → Type 0 = λ items. ArePassed items n c.next.new.self c.passes.new.walk in
    let over = is_passed c.in_ok-passes.field-0 (P c.rely-steady.new.evaluator.items) (c.passes.new.walk ≡ c.next.new.self) c.if-branch.true c.in_ok-passes.ensures.passed in
    record {
      counted = walked_over c.args.work.now.test c.args.work.now.model.items c.args.walk.now.next c.args.walk.now.to n c.loop-gathering.walk c.next.new.self c.passes.new.walk c.loop-gathering.gathering.finding inv.counted hit (subst P (c.rely-steady.ensures.items ∙ inv.model) over);
      kept = inv.kept;
      slots = inv.slots;
      steady = (let S : Choices → Type 0 = λ s. AreSteady s c.passes.new.walk.next c.rely-steady.result c.passes.new.evaluator.relied in
          subst S (sym over.space)
          (steady_behind c.next.new.self.space n c.rely-steady.result c.passes.new.walk.next n c.next.new.self.shown c.rely-steady.new.evaluator.relied c.passes.new.evaluator.relied c.rely-steady.ensures.steady (omega arith) (let l = over.later in omega (arith, l)) (let l = over.later in omega (arith, l))
          (let G : Choices → Type 0 = λ s. graph_at s n ≡ Some c.next.new.self.shown in subst G (sym hit.step.space) hit.at) c.passes.ensures.relied));
      model = c.passes.ensures.model ∙ (c.rely-steady.ensures.items ∙ inv.model);
      known = knows_alike _ _ _ _ c.passes.new.self c.passes.new.self (hit.step.space ∙ inv.counted.space) (c.rely-steady.ensures.items ∙ inv.model) refl (λ l. l) c.passes.ensures.known;
    }

pub loop-gathering-preserved : goal.loop-gathering-preserved
loop-gathering-preserved c =
    let w = c.args.work.now in
    let inv = c.loop-gathering.invariant in
    let n = c.in-Some.number in
    let hit = hit_number c.loop-gathering.walk c.next.new.self c.in_ok-number.field-0 n c.in-Some.is c.in_ok-number.ensures.found in
    let same = not_passed c.in_ok-passes.field-0 (ArePassed c.rely-steady.new.evaluator.items n c.next.new.self c.passes.new.walk) (c.passes.new.walk ≡ c.next.new.self) c.if-branch.false c.in_ok-passes.ensures.passed in
    let H : Walking → Type 0 = λ w. IsHit c.loop-gathering.walk w n in
    let here = subst H (sym same) hit in
    let model = c.passes.ensures.model ∙ (c.rely-steady.ensures.items ∙ inv.model) in
    let j = c.in_ok-judgement.field-0.judgement in
    let said = said_alone c.passes.new.evaluator.items w.model.items c.passes.new.walk c.in_ok-judgement.field-0 model c.in_default-open.not-Some c.in_ok-judgement.ensures.said in
    let J : GraphValue → Type 0 = λ x. IsJudged w.model.items j x in
    record {
      counted = walked_one w.test w.model.items c.args.walk.now.next c.args.walk.now.to n c.loop-gathering.walk c.passes.new.walk c.graph-graph.result.now c.slots-slots.result.now j c.loop-gathering.gathering.finding c.weigh.new.self.finding inv.counted here c.graph-graph.ensures inv.slots (subst J (sym c.graph-graph.ensures) said) c.in_ok-weigh.ensures.sum;
      kept = c.in_ok-weigh.ensures.kept;
      slots = inv.slots ∙ ap (map (slot_of w.test)) (sym (same_places j.allowed c.loop-gathering.gathering.finding _ c.weigh.new.self.finding c.in_ok-weigh.ensures.sum));
      steady = (let W : Walking → Type 0 = λ w. AreSteady w.space w.next c.rely-steady.result c.judge.new.evaluator.relied in
          subst W (sym same)
          (steady_behind c.next.new.self.space n c.rely-steady.result c.next.new.self.next n c.next.new.self.shown c.rely-steady.new.evaluator.relied c.judge.new.evaluator.relied c.rely-steady.ensures.steady (omega arith) (let l = hit.step.next in omega (arith, l)) (let l = hit.step.next in omega (arith, l))
          (let G : Choices → Type 0 = λ s. graph_at s n ≡ Some c.next.new.self.shown in subst G (sym hit.step.space) hit.at)
          (let R : Walking → Type 0 = λ w. IfSome c.judge.new.evaluator.relied (λ r. r ≡ structure_of w.shown) in subst R same c.judge.ensures.relied)));
      model = c.judge.ensures.model ∙ model;
      known = knows_alike _ _ _ _ c.passes.new.self c.judge.new.pruner (hit.step.space ∙ inv.counted.space) (c.rely-steady.ensures.items ∙ inv.model) c.judge.ensures.refuted (let L : List Clause → Type 0 = λ z. AreLearned (choices_of w.test) z c.passes.new.self.lessons → AreLearned (choices_of w.test) z c.judge.new.pruner.lessons in subst L model (c.judge.ensures.learned (choices_of w.test))) c.passes.ensures.known;
    }

pub weigh-requires-clause-whole : goal.weigh-requires-clause-whole
weigh-requires-clause-whole c = as_long c.args.work.now.test c.loop-gathering.gathering.finding.places c.slots-slots.result.now (c.loop-gathering.invariant.slots)

pub returns-clause-part : goal.returns-clause-part
returns-clause-part c =
    let miss = miss_number c.loop-gathering.walk c.next.new.self c.in_ok-number.field-0 c.in_default.not-Some c.in_ok-number.ensures.found in
    let P : FindingValue → Type 0 = IsPart c.args.work.now.test c.args.work.now.model.items c.args.walk.now.next c.args.walk.now.to in
    subst P (sym c.into_finding.ensures) (walked_none c.args.work.now.test c.args.work.now.model.items c.args.walk.now.next c.args.walk.now.to c.loop-gathering.walk c.next.new.self c.loop-gathering.gathering.finding c.loop-gathering.invariant.counted miss)

pub rely-steady-requires : goal.rely-steady-requires
rely-steady-requires c =
    let inv = c.loop-gathering.invariant in
    let n = c.in-Some.number in
    let hit = hit_number c.loop-gathering.walk c.next.new.self c.in_ok-number.field-0 n c.in-Some.is c.in_ok-number.ensures.found in
    record {
      found = hit.step.next;
      shown = (let S : Choices → Type 0 = λ s. graph_at s n ≡ Some c.next.new.self.shown in subst S (sym hit.step.space) hit.at);
      steady = (let S : Choices → Type 0 = λ s. AreSteady s n c.loop-gathering.steady c.loop-gathering.evaluator.relied in
          subst S (sym hit.step.space) (steady_from _ c.loop-gathering.walk.next _ n _ hit.later inv.steady));
    }

pub judge-requires : goal.judge-requires
judge-requires c =
    let n = c.in-Some.number in
    let hit = hit_number c.loop-gathering.walk c.next.new.self c.in_ok-number.field-0 n c.in-Some.is c.in_ok-number.ensures.found in
    let same = not_passed c.in_ok-passes.field-0 (ArePassed c.rely-steady.new.evaluator.items n c.next.new.self c.passes.new.walk) (c.passes.new.walk ≡ c.next.new.self) c.if-branch.false c.in_ok-passes.ensures.passed in
    let H : Walking → Type 0 = λ w. IsHit c.loop-gathering.walk w n in
    let here = subst H (sym same) hit in
    let R : Walking → Type 0 = λ w. IfSome c.passes.new.evaluator.relied (λ r. r ≡ structure_of w.shown) in
    record {
      shown = shown_at c.loop-gathering.walk c.passes.new.walk n here;
      relied = subst R (sym same) c.passes.ensures.relied;
      model = c.passes.ensures.model ∙ (c.rely-steady.ensures.items ∙ c.loop-gathering.invariant.model) ∙ sym (ap (λ (z : WorkValue). z.model.items) c.work-inner.ensures);
    }

pub passes-requires : goal.passes-requires
passes-requires c =
    let inv = c.loop-gathering.invariant in
    let hit = hit_number c.loop-gathering.walk c.next.new.self c.in_ok-number.field-0 c.in-Some.number c.in-Some.is c.in_ok-number.ensures.found in
    record {
      found = hit.step.next;
      relied = c.rely-steady.ensures.relied;
      shown = (let S : Choices → Type 0 = λ s. graph_at s c.in-Some.number ≡ Some c.next.new.self.shown in subst S (sym hit.step.space) hit.at);
      known = knows_alike _ _ _ _ c.loop-gathering.pruner c.loop-gathering.pruner (sym (hit.step.space ∙ inv.counted.space)) (sym (c.rely-steady.ensures.items ∙ inv.model)) refl (λ l. l) inv.known;
    }

pub loop-gathering-smaller-then-branch : goal.loop-gathering-smaller-then-branch
loop-gathering-smaller-then-branch c =
    let hit = hit_number c.loop-gathering.walk c.next.new.self c.in_ok-number.field-0 c.in-Some.number c.in-Some.is c.in_ok-number.ensures.found in
    let over = is_passed c.in_ok-passes.field-0 (ArePassed c.rely-steady.new.evaluator.items c.in-Some.number c.next.new.self c.passes.new.walk) (c.passes.new.walk ≡ c.next.new.self) c.if-branch.true c.in_ok-passes.ensures.passed in
    walk_nearer c.in-Some.number c.loop-gathering.walk c.passes.new.walk (over.to ∙ hit.step.to) over.later hit.later hit.below

pub loop-gathering-smaller-in-Some-open : goal.loop-gathering-smaller-in-Some-open
loop-gathering-smaller-in-Some-open c =
    let n = c.in-Some.number in
    let hit = hit_number c.loop-gathering.walk c.next.new.self c.in_ok-number.field-0 n c.in-Some.is c.in_ok-number.ensures.found in
    let same = not_passed c.in_ok-passes.field-0 (ArePassed c.rely-steady.new.evaluator.items n c.next.new.self c.passes.new.walk) (c.passes.new.walk ≡ c.next.new.self) c.if-branch.false c.in_ok-passes.ensures.passed in
    let H : Walking → Type 0 = λ w. IsHit c.loop-gathering.walk w n in
    let here = subst H (sym same) hit in
    let step = here.step.next in
    let next = c.pass.ensures.next in
    walk_nearer n c.loop-gathering.walk c.pass.new.self (c.pass.ensures.to ∙ here.step.to) (omega (arith, step, next)) hit.later hit.below

pub loop-gathering-smaller : goal.loop-gathering-smaller
loop-gathering-smaller c =
    let hit = hit_number c.loop-gathering.walk c.next.new.self c.in_ok-number.field-0 c.in-Some.number c.in-Some.is c.in_ok-number.ensures.found in
    let same = not_passed c.in_ok-passes.field-0 (ArePassed c.rely-steady.new.evaluator.items c.in-Some.number c.next.new.self c.passes.new.walk) (c.passes.new.walk ≡ c.next.new.self) c.if-branch.false c.in_ok-passes.ensures.passed in
    let H : Walking → Type 0 = λ w. IsHit c.loop-gathering.walk w c.in-Some.number in
    let here = subst H (sym same) hit in
    walk_nearer c.in-Some.number c.loop-gathering.walk c.passes.new.walk here.step.to (let next = here.step.next in omega (arith, next)) hit.later hit.below

pub returns-in_err-weigh_alike-clause-evaluator : goal.returns-in_err-weigh_alike-clause-evaluator
returns-in_err-weigh_alike-clause-evaluator c = c.in_ok-judgement.ensures.model ∙ c.in_ok-passes.ensures.model ∙ c.rely-steady.ensures.items ∙ c.loop-gathering.invariant.model ∙ sym c.requires.evaluator

pub returns-in_err-weigh-clause-evaluator : goal.returns-in_err-weigh-clause-evaluator
returns-in_err-weigh-clause-evaluator c = c.in_ok-judgement.ensures.model ∙ c.in_ok-passes.ensures.model ∙ c.rely-steady.ensures.items ∙ c.loop-gathering.invariant.model ∙ sym c.requires.evaluator

pub returns-in_err-judgement-clause-evaluator : goal.returns-in_err-judgement-clause-evaluator
returns-in_err-judgement-clause-evaluator c = c.judge.ensures.model ∙ c.in_ok-passes.ensures.model ∙ c.rely-steady.ensures.items ∙ c.loop-gathering.invariant.model ∙ sym c.requires.evaluator

pub returns-clause-evaluator : goal.returns-clause-evaluator
returns-clause-evaluator c = c.loop-gathering.invariant.model ∙ sym c.requires.evaluator

pub returns-in_err-passes-clause-evaluator : goal.returns-in_err-passes-clause-evaluator
returns-in_err-passes-clause-evaluator c = c.passes.ensures.model ∙ c.rely-steady.ensures.items ∙ c.loop-gathering.invariant.model ∙ sym c.requires.evaluator

pub returns-in_err-number-clause-evaluator : goal.returns-in_err-number-clause-evaluator
returns-in_err-number-clause-evaluator c = c.loop-gathering.invariant.model ∙ sym c.requires.evaluator

pub weigh-requires-clause-few : goal.weigh-requires-clause-few
weigh-requires-clause-few c =
    let counted = c.loop-gathering.invariant.counted in
    let hit = hit_number c.loop-gathering.walk c.next.new.self c.in_ok-number.field-0 c.in-Some.number c.in-Some.is c.in_ok-number.ensures.found in
    let admitted = subst (λ (z : WorkValue). IsAdmitted z.test) c.work-inner.ensures c.size.ensures.admitted in
    omega (arith, counted.few, counted.to_is, hit.later, hit.below, c.requires.range.within, admitted.few)
