use Rattle.std.proofs.Common.{subst, ap}
use Rattle.wb_text.specs.declared.token.Dialect.TheVariants.{Cat}
use Rattle.cat_syntax.specs.Items.{IsFile}
use Rattle.cat_syntax.specs.Symbols.{symbols_of}
use Rattle.cat_syntax.proofs.ItemsComplete.{one_reading}
use Rattle.cat_syntax.proofs.laws.one_tree.Goals as goal

pub returns : goal.returns
returns c = λ text f g d e.
    let same = c.one_token_list.ensures Cat text d.tokens e.tokens d.is_list e.is_list in
    one_reading (symbols_of text e.tokens) f g (subst (λ l. IsFile l f) (ap (symbols_of text) same) d.spelled) e.spelled
