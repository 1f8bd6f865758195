use Rattle.std.proofs.Common.{◌≡◌, ◌≢◌, ◌+◌, ◌-◌, refl, subst, arith, rules}
use Rattle.std.specs.Prelude.{Some, slice_get, slice_index_or}
use Rattle.std.proofs.lemmas.Option.{slice_get-get_or}
use Rattle.wb_text.specs.declared.token.Token.{Token}
use Rattle.wb_text.specs.declared.token.TokenKind.TheVariants as kinds
use Rattle.places.specs.Spellings.{spelling}
use Rattle.cat_places.specs.Fronts.{NoneSpelled}
use Rattle.cat_places.proofs.Texts.{none_less}
use Rattle.cat_places.proofs.text.last_spelled.Goals as goal

pub returns-then-eq : goal.returns-then-eq
returns-then-eq c =
    let j = c.loop-end.end - 1 in
    let t : Token = slice_index_or c.args.tokens.now j (record { kind = kinds.Word; from = 0; to = 0 }) in
    let here : slice_get c.args.tokens.now j ≡ Some t = slice_get-get_or c.args.tokens.now j (record { kind = kinds.Word; from = 0; to = 0 }) (omega (arith, c.loop-end.invariant.within, c.loop-end-test.true, c.requires.place)) in
    let same : spelling c.args.text.now t ≡ c.args.word.now = search rules in
    let next : c.loop-end.end ≡ j + 1 = omega (arith, c.loop-end-test.true) in
    record {
      place = j;
      within = omega (arith, c.loop-end.invariant.within);
      token = t;
      at = here;
      spelled = same;
      last = subst (λ i. NoneSpelled c.args.text.now c.args.tokens.now c.args.word.now i c.args.place) next c.loop-end.invariant.last;
      begins = refl;
    }

pub loop-end-preserved : goal.loop-end-preserved
loop-end-preserved c =
    let j = c.loop-end.end - 1 in
    let t : Token = slice_index_or c.args.tokens.now j (record { kind = kinds.Word; from = 0; to = 0 }) in
    let here : slice_get c.args.tokens.now j ≡ Some t = slice_get-get_or c.args.tokens.now j (record { kind = kinds.Word; from = 0; to = 0 }) (omega (arith, c.loop-end.invariant.within, c.loop-end-test.true, c.requires.place)) in
    let differs : spelling c.args.text.now t ≢ c.args.word.now = search rules in
    record { within = omega (arith, c.loop-end.invariant.within); last = none_less c.args.text.now c.args.tokens.now c.args.word.now c.loop-end.end c.args.place t here differs c.loop-end.invariant.last }
