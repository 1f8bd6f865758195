use Rattle.std.proofs.Common.{◌≡◌, ◌+◌, ◌++◌, ◌∷◌, ◌∙◌, [], All, Bool, length, drop, get_or, ap, sym, subst}
use Rattle.std.specs.Prelude.{if◌then◌else◌}
use Rattle.std.proofs.lemmas.List.{drop_more}
use Rattle.std.proofs.lemmas.List.Elements.{All-get_or}
use Rattle.wb_text.specs.Tokens.{IsWithin}
use Rattle.wb_text.specs.declared.token.Token.{Token}
use Rattle.cat_places.specs.Own.{uses, uses_from, start, is_used, behind}
use Rattle.cat_places.proofs.Denying.{all_used, used_more, uses_within}
use Rattle.cat_places.proofs.Owning.{no_token}
use Rattle.cat_places.proofs.item.uses.Goals.{then-is_used+in_ok-push, else-is_used}
use Rattle.cat_places.proofs.item.uses.Goals as goal

pub loop-token-init : goal.loop-token-init
loop-token-init c =
    let from = uses_from c.args.text.now c.args.name.now in
    ap (λ l. l ++ from c.start-at.result c.args.tokens.now) c.new-uses.ensures.items ∙ ap (λ a. from a c.args.tokens.now) c.start-at.ensures

pub spelled-word-requires : goal.spelled-word-requires
spelled-word-requires c = All-get_or (IsWithin (length c.args.text.now)) c.args.tokens.now c.loop-token.token-index no_token c.loop-token-test.true c.requires

pub loop-token-preserved : goal.loop-token-preserved
loop-token-preserved c =
    let ts = c.args.tokens.now in
    let i = c.loop-token.token-index in
    let t : Token = get_or ts i no_token in
    let old = c.loop-token.uses.items in
    let P : Bool → Type 0 = λ b. c.if-is_used.uses.items ≡ (if b then old ++ t ∷ [] else old) in
    let told = ap (is_used c.args.name.now c.loop-token.at) (sym c.spelled-word.ensures) ∙ sym c.is_used.ensures in
    used_more c.args.text.now c.args.name.now c.loop-token.at c.behind-at.result old c.if-is_used.uses.items _ (drop i ts) (drop (i + 1) ts) t (drop_more ts i no_token c.loop-token-test.true)
    (c.behind-at.ensures ∙ ap (behind c.args.name.now c.loop-token.at) c.spelled-word.ensures)
    (elim c.if-is_used.branch [
      | then-is_used+in_ok-push w ↦ subst P (sym (told ∙ w.if-is_used.true)) (ap (λ v. v.items) w.uses-is ∙ w.in_ok-push.ensures.items)
      | else-is_used w ↦ subst P (sym (told ∙ w.if-is_used.false)) (ap (λ v. v.items) w.uses-is)
    ])
    c.loop-token.invariant

pub returns-clause-all : goal.returns-clause-all
returns-clause-all c =
    all_used c.args.text.now c.args.name.now c.loop-token.at c.loop-token.uses.items (uses c.args.text.now c.args.name.now c.args.tokens.now) c.args.tokens.now c.loop-token.token-index c.loop-token-test.false c.loop-token.invariant

pub returns-clause-within : goal.returns-clause-within
returns-clause-within c =
    let all : c.loop-token.uses.items ≡ uses c.args.text.now c.args.name.now c.args.tokens.now =
    all_used c.args.text.now c.args.name.now c.loop-token.at c.loop-token.uses.items (uses c.args.text.now c.args.name.now c.args.tokens.now) c.args.tokens.now c.loop-token.token-index c.loop-token-test.false c.loop-token.invariant in
    subst (All (IsWithin (length c.args.text.now))) (sym all) (uses_within (length c.args.text.now) c.args.text.now c.args.name.now start c.args.tokens.now c.requires)
