use Rattle.std.proofs.Common.{rules, ◌++◌, [], ◌∷◌, map}
use Rattle.litmus_syntax.specs.Drafts.{listing_of}
use Rattle.litmus_syntax.proofs.Levels.{listings_len, listings_push, thread_takes, threads_turn}
use Rattle.litmus_syntax.specs.Reading.{threads_more}
use Rattle.litmus_syntax.proofs.syntax.Reader.threads.Goals as goal

pub loop-bodies-preserved : goal.loop-bodies-preserved
unfolding threads_more
loop-bodies-preserved c =
    let len = listings_len c.loop-bodies.bodies.items in
    let push = listings_push c.loop-bodies.bodies.items c.in_ok-body.body in
    let turn = threads_turn c.args.nesting (map listing_of c.loop-bodies.bodies.items ++ listing_of c.in_ok-body.body ∷ []) c.thread.new.self.rest.now in
    search (rules, len, push, turn)

pub loop-bodies-smaller : goal.loop-bodies-smaller
loop-bodies-smaller c = thread_takes c.args.nesting c.len.result c.loop-bodies.self.rest.now c.thread.new.self.rest.now (listing_of c.in_ok-body.body) c.in_ok-body.ensures

pub returns-in_err-body : goal.returns-in_err-body
unfolding threads_more
returns-in_err-body c = let len = listings_len c.loop-bodies.bodies.items in search (rules, len)

pub returns-then-not-is_before_name : goal.returns-then-not-is_before_name
unfolding threads_more
returns-then-not-is_before_name c =
    let len = listings_len c.loop-bodies.bodies.items in
    let push = listings_push c.loop-bodies.bodies.items c.in_ok-body.body in
    let turn = threads_turn c.args.nesting (map listing_of c.loop-bodies.bodies.items ++ listing_of c.in_ok-body.body ∷ []) c.thread.new.self.rest.now in
    search (rules, len, push, turn)
