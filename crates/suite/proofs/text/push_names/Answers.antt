use Rattle.std.proofs.Common.{◌∙◌, ◌∷◌, [], ◌++◌, List, ℕ, append_assoc, ap}
use Rattle.suite.proofs.Pushed.{pushed, all_pushed}
use Rattle.suite.proofs.text.push_names.Goals as goal

pub loop-name-preserved : goal.loop-name-preserved
loop-name-preserved c = pushed (λ (name : List ℕ). c.args.before ∷ name) c.name-item.result c.args.names.now c.loop-name.name-index c.loop-name.text.items c.extend_from_slice.new.self.items _ c.loop-name-test.true c.name-item.is (c.in_ok-extend_from_slice.ensures.items ∙ ap (λ (t : List ℕ). t ++ c.bytes.result.now) c.in_ok-push.ensures.items ∙ append_assoc c.loop-name.text.items (c.args.before ∷ []) c.bytes.result.now ∙ ap (λ (t : List ℕ). c.loop-name.text.items ++ (c.args.before ∷ t)) c.bytes.ensures.value) c.loop-name.invariant

pub returns : goal.returns
returns c = all_pushed (λ (name : List ℕ). c.args.before ∷ name) c.args.names.now c.loop-name.name-index c.loop-name.text.items _ c.loop-name-test.false c.loop-name.invariant
