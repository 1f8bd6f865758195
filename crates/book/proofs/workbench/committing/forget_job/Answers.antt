use Rattle.std.proofs.Common.{rules}
use Rattle.std.proofs.lemmas.Fn.{filter_same}
use Rattle.book.specs.Step.{without}
use Rattle.book.proofs.workbench.committing.forget_job.Goals as goal

pub returns : goal.returns
unfolding without
returns c = filter_same _ _ _ (λ x b f' k. search rules) _ _ c.retain.ensures.filtered
