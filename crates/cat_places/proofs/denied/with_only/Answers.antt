use Rattle.std.proofs.Common.{◌+◌, ◌∙◌, ℕ, List, length, drop, get_or, ap, subst, sym}
use Rattle.std.proofs.lemmas.List.{at_drop_all, drop_more}
use Rattle.std.proofs.lemmas.List.Elements.{All-get_or}
use Rattle.wb_text.specs.Tokens.{IsWithin}
use Rattle.cat_places.specs.Denied.{blanked_but, with_only}
use Rattle.cat_places.proofs.Denying.{only_more}
use Rattle.cat_places.proofs.Owning.{no_token}
use Rattle.cat_places.proofs.denied.with_only.Goals as goal

pub blanked_but-requires : goal.blanked_but-requires
blanked_but-requires c =
    let P : ℕ → Type 0 = λ n. IsWithin n (get_or c.args.uses.now c.loop-token.token-index no_token) in
    subst P (sym (ap length c.deref.ensures.value ∙ c.loop-token.invariant.same)) (All-get_or (IsWithin (length c.args.text.now)) c.args.uses.now c.loop-token.token-index no_token c.loop-token-test.true c.requires)

pub loop-token-preserved : goal.loop-token-preserved
loop-token-preserved c =
    let us = c.args.uses.now in
    let i = c.loop-token.token-index in
    record {
      whole = only_more c.loop-token.changed.items c.in_ok-changed-2.changed.items _ (drop i us) (drop (i + 1) us) (get_or us i no_token) c.args.kept.now (drop_more us i no_token c.loop-token-test.true)
          (c.in_ok-changed-2.ensures.made ∙ ap (λ (l : List ℕ). blanked_but c.args.kept.now l (get_or us i no_token)) c.deref.ensures.value) c.loop-token.invariant.whole;
      same = c.in_ok-changed-2.ensures.same ∙ ap length c.deref.ensures.value ∙ c.loop-token.invariant.same;
    }

pub returns : goal.returns
returns c = sym (at_drop_all (λ us. with_only c.loop-token.changed.items us c.args.kept.now) c.args.uses.now c.loop-token.token-index c.loop-token-test.false) ∙ c.loop-token.invariant.whole
