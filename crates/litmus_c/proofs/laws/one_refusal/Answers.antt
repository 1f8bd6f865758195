use Rattle.wb_text.specs.declared.token.Dialect.TheVariants as dialects
use Rattle.litmus_c.proofs.OneRefusal.{one_reason}
use Rattle.litmus_c.proofs.laws.one_refusal.Goals as goal

pub returns : goal.returns
returns c = λ text e f short some other h g.
    one_reason text (c.one_token_list.ensures dialects.Litmus text) (λ a b x y. c.one_fault.ensures.one dialects.Litmus text a b short x y) (λ a ts x y. c.one_fault.ensures.none dialects.Litmus text a ts short x y) e f some other h g
