use Rattle.std.proofs.Common.{◌≡◌, ◌∙◌, ◌↔◌, IsTrue, Bool, sym, subst}
use Rattle.cat_tree.specs.Exact.{term_exact}
use Rattle.cat_tree.specs.Tree.{term_of}
use Rattle.cat_tree.proofs.Nodes.{nodes_same}
use Rattle.cat_tree.proofs.expression.equality.ExpressionPartialEq.eq.Goals as goal

pub returns-clause-value : goal.returns-clause-value
returns-clause-value c =
    let told = rw (c.deref.ensures.value, c.deref-2.ensures.value) at c.are_same.ensures in
    told ∙ nodes_same c.args.self.now.nodes.items c.args.other.now.nodes.items c.args.self.now.whole c.args.other.now.whole

pub returns-clause-exact : goal.returns-clause-exact
returns-clause-exact c =
    let P : Bool → Type 0 = λ r. IsTrue r ↔ (term_of c.args.self.now ≡ term_of c.args.other.now) in
    let told = rw (c.deref.ensures.value, c.deref-2.ensures.value) at c.are_same.ensures in
    subst P (sym (told ∙ nodes_same c.args.self.now.nodes.items c.args.other.now.nodes.items c.args.self.now.whole c.args.other.now.whole)) (term_exact (term_of c.args.self.now) (term_of c.args.other.now))
