use Rattle.std.proofs.Common.{◌≡◌, ◌∙◌, ap, sym}
use Rattle.events.specs.Structures.{sourced_of, plain, with_sources}
use Rattle.events.proofs.Made.{turned_named}
use Rattle.events.proofs.Structures.{moved_rf, moved_turned, same_sourced, like_plain}
use Rattle.events.proofs.view.sourced.SourcedStructure.follow_sources.Goals as goal

pub invariant_of-self-2 : goal.invariant_of-self-2
invariant_of-self-2 c =
    let sources = c.args.sources.now in
    let kept = c.take_over.new.kept.items in
    let m = with_sources c.numbered-numbered.result sources in
    let h = plain (record { structure = c.self.inside.structure; rf = kept }) in
    let e : sourced_of m ≡ sourced_of h =
    ap (λ g. sourced_of (with_sources g sources)) c.numbered-numbered.ensures
    ∙ sym (like_plain _ (with_sources c.args.graph.now sources) (sym (same_sourced (with_sources c.args.graph.now sources) c.self.inside.structure kept (ap (λ s. s.structure) c.self.view_is ∙ c.requires) c.in_ok-take_over.ensures.done))) in
    record {
      rf = moved_rf m h _ e c.reads_into.ensures.rel;
      turned = moved_turned m h _ e (turned_named m _ _ c.reads_into.ensures.rel c.reads_into.ensures.turned);
    }
