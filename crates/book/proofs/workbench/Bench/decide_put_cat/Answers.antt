use Rattle.std.proofs.Common.{◌≡◌, ℕ, List, subst}
use Rattle.cat_syntax.specs.Reads.{Reads, IsRefused}
use Rattle.cat_tree.specs.Tree.{File}
use Rattle.cat_syntax.specs.declared.fault.CatFault.TheVariants.{NoMemory}
use Rattle.book.proofs.Steps.{cat_unread}
use Rattle.book.proofs.workbench.Bench.decide_put_cat.Goals as goal

pub returns-in-Err-clause-step : goal.returns-in-Err-clause-step
returns-in-Err-clause-step c =
    let P : List ℕ → Type 0 = λ bytes. (f : File) → Reads bytes f → c.in-Err.fault ≡ NoMemory in
    let only = subst P c.bytes.ensures c.in-Err.ensures.only in
    let cause = subst (λ bytes. IsRefused bytes c.in-Err.fault) c.bytes.ensures c.in-Err.ensures.cause in
    rw c.refuse.ensures (cat_unread c.args.self.now 0 c.args.name.now c.args.text.now c.in-Err.fault c.requires only cause c.if-is_cat_memory.ensures)
