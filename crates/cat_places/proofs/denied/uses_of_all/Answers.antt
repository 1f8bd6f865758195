use Rattle.std.proofs.Common.{◌∙◌, All, length, map, ap, subst, sym}
use Rattle.std.proofs.lemmas.List.Elements.{All-append}
use Rattle.wb_text.specs.Tokens.{IsWithin}
use Rattle.cat_tree.specs.Tree.{bound_of}
use Rattle.cat_places.specs.Denied.{uses_of_all as uses_in_all}
use Rattle.cat_places.specs.Own.{uses}
use Rattle.cat_places.proofs.Denying.{group_more}
use Rattle.cat_places.proofs.denied.uses_of_all.Goals as goal

pub loop-binding-preserved : goal.loop-binding-preserved
loop-binding-preserved c =
    let text = c.args.text.now in
    let own = c.args.own.now in
    record {
      all = group_more text own c.args.bindings.now c.loop-binding.binding-index c.binding-item.result c.loop-binding.all.items c.in_ok-more.more.items c.append.new.self.items (uses_in_all text own (map bound_of c.args.bindings.now))
          c.loop-binding-test.true c.binding-item.is c.in_ok-append.ensures.items (c.in_ok-more.ensures.all ∙ ap (λ x. uses text x own) c.bytes.ensures.value) c.loop-binding.invariant.all;
      within = subst (All (IsWithin (length text))) (sym c.in_ok-append.ensures.items)
          (All-append (IsWithin (length text)) c.loop-binding.all.items c.in_ok-more.more.items c.loop-binding.invariant.within c.in_ok-more.ensures.within);
    }
