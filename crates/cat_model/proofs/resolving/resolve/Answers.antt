use Rattle.std.proofs.Common.{map, subst}
use Rattle.cat_tree.specs.Tree.{clause_of}
use Rattle.cat_model.proofs.Ordered.{no-cause}
use Rattle.cat_model.specs.Scopes.{IsModel}
use Rattle.cat_model.proofs.resolving.resolve.Goals as goal

pub returns-clause-only : goal.returns-clause-only
returns-clause-only c =
    no-cause c.args.files.now c.args.root.now (map clause_of c.in_ok-draft.draft.items.items) c.in_ok-draft.draft.files.items c.in_ok-draft.ensures.found
    (subst (λ is. IsModel (map clause_of is)) c.deref-2.ensures.value c.in_ok-require_model.ensures.ok) c.in_ok-draft.ensures.only
