use Rattle.std.proofs.Common.{◌++◌, ap, ◌∙◌, length}
use Rattle.litmus_syntax.specs.Symbols.{symbols_of}
use Rattle.litmus_syntax.proofs.Spelled.{symbols_step, first_within, rest_within}
use Rattle.litmus_syntax.proofs.symbol.symbols.Goals as goal

pub loop-token-preserved : goal.loop-token-preserved
loop-token-preserved c =
    let text = c.args.text.now in
    let token = c.in-Some.token.now in
    record {
      all = ap (λ l. l ++ symbols_of text c.in-Some.behind.now) c.in_ok-push.ensures.items ∙
          symbols_step text c.loop-token.symbols.items c.in_ok-read_symbol.field-0 token c.in-Some.behind.now c.loop-token.rest.now (symbols_of text c.args.tokens.now) c.in-Some.ensures.cases.0
          c.in_ok-read_symbol.ensures c.loop-token.invariant.all;
      within = rest_within (length text) token c.in-Some.behind.now c.loop-token.rest.now c.in-Some.ensures.cases.0 c.loop-token.invariant.within;
    }

pub read_symbol-requires : goal.read_symbol-requires
read_symbol-requires c = record {
  first = first_within (length c.args.text.now) c.in-Some.token.now c.in-Some.behind.now c.loop-token.rest.now c.in-Some.ensures.cases.0 c.loop-token.invariant.within;
  rest = rest_within (length c.args.text.now) c.in-Some.token.now c.in-Some.behind.now c.loop-token.rest.now c.in-Some.ensures.cases.0 c.loop-token.invariant.within;
}
