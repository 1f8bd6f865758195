use Rattle.std.proofs.Common.{◌≡◌, ◌∙◌, ap, sym}
use Rattle.events.specs.Structures.{sourced_of, plain, with_sources}
use Rattle.events.proofs.Made.{turned_named}
use Rattle.events.proofs.Structures.{moved_rf, moved_turned, same_sourced, like_plain}
use Rattle.events.proofs.view.sourced.SourcedStructure.with.Goals as goal

pub invariant_of-result : goal.invariant_of-result
invariant_of-result c =
    let sources = c.args.sources.now in
    let m = with_sources c.numbered-numbered.result sources in
    let h = plain (record { structure = c.in_ok-structure.structure; rf = c.in_ok-kept.kept.items }) in
    let e : sourced_of m ≡ sourced_of h =
    ap (λ g. sourced_of (with_sources g sources)) c.numbered-numbered.ensures
    ∙ sym (like_plain _ (with_sources c.args.graph.now sources) (sym (same_sourced (with_sources c.args.graph.now sources) c.in_ok-structure.structure c.in_ok-kept.kept.items c.in_ok-structure.ensures c.in_ok-kept.ensures.items))) in
    record {
      rf = moved_rf m h _ e c.reads_into.ensures.rel;
      turned = moved_turned m h _ e (turned_named m _ _ c.reads_into.ensures.rel c.reads_into.ensures.turned);
    }
