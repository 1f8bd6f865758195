use Rattle.std.proofs.Common.{◌∙◌, ◌∷◌, [], ◌++◌, List, ℕ, append_assoc, ap}
use Rattle.suite.proofs.Pushed.{pushed, all_pushed}
use Rattle.suite.specs.Digests.{digest_text}
use Rattle.suite.specs.declared.loading.CatText.{CatText}
use Rattle.suite.proofs.digest.push_others.Goals as goal

pub loop-other-preserved : goal.loop-other-preserved
loop-other-preserved c = pushed (λ (t : CatText). 44 ∷ digest_text t) c.other-item.result c.args.others.now c.loop-other.other-index c.loop-other.text.items c.push_digest.new.text.items _ c.loop-other-test.true c.other-item.is (c.in_ok-push_digest.ensures ∙ ap (λ (t : List ℕ). t ++ digest_text c.other-item.result) c.in_ok-push.ensures.items ∙ append_assoc c.loop-other.text.items (44 ∷ []) (digest_text c.other-item.result)) c.loop-other.invariant

pub returns : goal.returns
returns c = all_pushed (λ (t : CatText). 44 ∷ digest_text t) c.args.others.now c.loop-other.other-index c.loop-other.text.items _ c.loop-other-test.false c.loop-other.invariant
