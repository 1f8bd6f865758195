use Rattle.std.proofs.Common.{◌≡◌, [], Option, Bor, map, subst}
use Rattle.std.specs.Prelude.{MatchOption}
use Rattle.std.specs.List.{Contains}
use Rattle.cat_tree.specs.Tree.{Word, bound_of}
use Rattle.cat_model.specs.Denials.{marks, grouped, denied_in}
use Rattle.cat_model.proofs.Contained.{contains_at}
use Rattle.cat_model.proofs.Listed.{all_more_map, all_end_map}
use Rattle.cat_model.proofs.binding.first_denied_in.Goals as goal

pub returns-in-Some : goal.returns-in-Some
returns-in-Some c = λ W f.
    (let group = map bound_of c.args.group.now in
    let ms = denied_in (marks (grouped group W.marks) (bound_of c.binding-item.result).value) in
    let P : Option (Bor Word) → Type 0 = λ o. MatchOption o (ms ≡ []) (λ x. Contains ms x.now) in
    (bound_of c.binding-item.result, contains_at bound_of c.args.group.now c.loop-binding.binding-index c.binding-item.result c.loop-binding-test.true c.binding-item.is, subst P c.in-Some.is (c.in_ok-name.ensures W.marks f.marks)))

pub loop-binding-preserved : goal.loop-binding-preserved
loop-binding-preserved c = λ W f.
    (let group = map bound_of c.args.group.now in
    let ms = denied_in (marks (grouped group W.marks) (bound_of c.binding-item.result).value) in
    let P : Option (Bor Word) → Type 0 = λ o. MatchOption o (ms ≡ []) (λ x. Contains ms x.now) in
    all_more_map bound_of (λ b. denied_in (marks (grouped group W.marks) b.value) ≡ []) c.args.group.now c.loop-binding.binding-index c.binding-item.result c.loop-binding-test.true c.binding-item.is (c.loop-binding.invariant W f) (subst P c.in-None.is (c.in_ok-name.ensures W.marks f.marks)))

pub returns : goal.returns
returns c = λ W f. all_end_map bound_of (λ b. denied_in (marks (grouped (map bound_of c.args.group.now) W.marks) b.value) ≡ []) c.args.group.now c.loop-binding.binding-index c.loop-binding-test.false (c.loop-binding.invariant W f)
