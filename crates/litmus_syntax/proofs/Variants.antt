-- Statements as trees, by their variants.
use Rattle.std.proofs.Common.{◌≡◌, ◌∙◌, map, ap, sym, Vec}
use Rattle.std.specs.Global.{Global}
use Rattle.litmus_tree.specs.declared.expression.Expression.{Expression}
use Rattle.litmus_tree.specs.declared.tree.Call.{Call}
use Rattle.litmus_tree.specs.declared.tree.Declarator.{Declarator}
use Rattle.litmus_tree.specs.declared.tree.RightSide.{RightSide}
use Rattle.litmus_tree.specs.declared.tree.Statement.{Statement}
use Rattle.litmus_tree.specs.declared.tree.Statement.TheVariants.{Empty, Block, Declare, Assign, Write, Perform, rolls-Block, rolls-Empty, rolls-Declare, rolls-Assign, rolls-Write, rolls-Perform}
use Rattle.litmus_tree.specs.declared.tree.Statement.TheOpen.{Statement-F}
use Rattle.litmus_tree.specs.declared.tree.Statement.TheFolds.{fold-roll-Statement}
use Rattle.litmus_tree.specs.Tree.{Word, Step, empty, block, declare, assign, plain_write, perform, term_of, action_of, right_of, declared_of, layer, step_of, steps_of}

pub empty_step : empty ≡ step_of Empty
empty_step = sym (ap step_of (sym rolls-Empty) ∙ fold-roll-Statement Step layer Statement-F.Empty)

pub block_step : (ss : Vec Statement Global) → block (steps_of ss.items) ≡ step_of (Block ss)
block_step ss = sym (ap step_of (sym (rolls-Block ss)) ∙ fold-roll-Statement Step layer (Statement-F.Block ss))

pub declare_step : (ds : Vec Declarator Global) → declare (map declared_of ds.items) ≡ step_of (Declare ds)
declare_step ds = sym (ap step_of (sym (rolls-Declare ds)) ∙ fold-roll-Statement Step layer (Statement-F.Declare ds))

pub assign_step : (r : Word) (value : RightSide) → assign r (right_of value) ≡ step_of (Assign r value)
assign_step r value = sym (ap step_of (sym (rolls-Assign r value)) ∙ fold-roll-Statement Step layer (Statement-F.Assign r value))

pub write_step : (x : Word) (e : Expression) → plain_write x (term_of e) ≡ step_of (Write x e)
write_step x e = sym (ap step_of (sym (rolls-Write x e)) ∙ fold-roll-Statement Step layer (Statement-F.Write x e))

pub perform_step : (call : Call) → perform (action_of call) ≡ step_of (Perform call)
perform_step call = sym (ap step_of (sym (rolls-Perform call)) ∙ fold-roll-Statement Step layer (Statement-F.Perform call))
