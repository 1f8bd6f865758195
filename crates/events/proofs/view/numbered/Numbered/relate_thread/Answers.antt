use Rattle.std.proofs.Common.{ℕ, subst}
use Rattle.relations.specs.Events.{IsExactlySet}
use Rattle.events.specs.Named.{event_count}
use Rattle.events.proofs.Grouping.{own_begun, po_begun}
use Rattle.events.proofs.view.numbered.Numbered.relate_thread.Goals as goal

pub loop-place-init : goal.loop-place-init
loop-place-init c =
    let g = c.args.self.now in
    let n = event_count g in
    let P : ℕ → Type 0 = λ k. IsExactlySet k (λ i. ⊥) c.empty-behind.result in
    record {
      behind = own_begun n g c.args.thread c.args.events c.empty-behind.result c.requires.events (subst P c.count.ensures.is c.empty-behind.ensures);
      po = po_begun n g c.args.thread c.args.events c.args.po.now c.requires.events c.requires.count c.requires.canonical;
    }
