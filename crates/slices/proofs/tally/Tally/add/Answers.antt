use Rattle.std.proofs.Common.{◌∙◌, ap, sym, arith, ◌++◌, [], ◌∷◌}
use Rattle.slices.specs.Tallies.{TallyValue, span_of}
use Rattle.slices.proofs.Together.{at_piece, part_of, part_few, part_merged, taken_back}
use Rattle.slices.proofs.tally.Tally.add.Goals as goal

pub merge-requires-clause-few : goal.merge-requires-clause-few
merge-requires-clause-few c =
    let w = c.self.inside.work in
    let spans = c.self.inside.spans.items in
    let v = c.found.result.now in
    let work = sym (ap (λ (x : TallyValue). x.work) c.self.view_is) in
    let ranges = sym (ap (λ (x : TallyValue). x.spans) c.self.view_is) in
    let h = part_of w c.work.result.now c.args.self.now spans c.span-span.result c.args.part.now c.piece-piece.result.now v c.work.ensures c.size.ensures.admitted work ranges c.requires.work c.requires.apart c.piece-piece.ensures c.span-span.ensures.range c.found.ensures.right c.found.ensures.found (c.span-span.ensures.value ∙ ap at_piece c.piece-piece.ensures) in
    part_few w spans c.span-span.result v c.self.inside.found h c.self.invariant

pub merge-requires-clause-sorted : goal.merge-requires-clause-sorted
merge-requires-clause-sorted c = c.self.invariant.told.sorted

pub invariant_of-self-in-Ok : goal.invariant_of-self-in-Ok
invariant_of-self-in-Ok c =
    let w = c.self.inside.work in
    let spans = c.self.inside.spans.items in
    let v = c.found.result.now in
    let work = sym (ap (λ (x : TallyValue). x.work) c.self.view_is) in
    let ranges = sym (ap (λ (x : TallyValue). x.spans) c.self.view_is) in
    let h = part_of w c.work.result.now c.args.self.now spans c.span-span.result c.args.part.now c.piece-piece.result.now v c.work.ensures c.size.ensures.admitted work ranges c.requires.work c.requires.apart c.piece-piece.ensures c.span-span.ensures.range c.found.ensures.right c.found.ensures.found (c.span-span.ensures.value ∙ ap at_piece c.piece-piece.ensures) in
    part_merged w spans c.push.new.self.items c.span-span.result v c.self.inside.found c.merge.new.self h c.self.invariant c.in-Ok.ensures.merged c.in_ok-push.ensures.items

pub invariant_of-self-in-Err : goal.invariant_of-self-in-Err
invariant_of-self-in-Err c =
    let spans = c.self.inside.spans.items in
    let back = taken_back _ spans c.push.new.self.items c.pop.new.self.items c.span-span.result c.in_ok-push.ensures.items c.pop.ensures.rest (omega (arith, c.in_ok-push.ensures.len, c.self.inside.spans.ok.0)) in
    rw (back, c.in-Err.ensures.same) c.self.invariant

pub invariant_of-self : goal.invariant_of-self
invariant_of-self c = rw c.in_err-push.ensures.items c.self.invariant

pub returns-in-Err-clause-same : goal.returns-in-Err-clause-same
returns-in-Err-clause-same c =
    let spans = c.self.inside.spans.items in
    let back = taken_back _ spans c.push.new.self.items c.pop.new.self.items c.span-span.result c.in_ok-push.ensures.items c.pop.ensures.rest (omega (arith, c.in_ok-push.ensures.len, c.self.inside.spans.ok.0)) in
    rw back c.self.view_is

pub returns-in-Ok-clause-merged : goal.returns-in-Ok-clause-merged
returns-in-Ok-clause-merged c =
    let span = c.span-span.ensures.value ∙ ap at_piece c.piece-piece.ensures in
    rw (c.in_ok-push.ensures.items, span) (ap (λ (x : TallyValue). record x { spans = x.spans ++ span_of c.args.part.now ∷ [] }) c.self.view_is)
