use Rattle.std.proofs.KnownBytes.{Appends-nil}
use Rattle.report.specs.Listings.{loaded_text}
use Rattle.report.proofs.Written.{exit, flat_map-item, item_on, items_done}
use Rattle.report.proofs.listing.write_all_loaded.Goals as goal

pub returns-in_err-write_loaded : goal.returns-in_err-write_loaded
returns-in_err-write_loaded g c =
    exit _ _ _ _ c.from_residual.result _ _ _ _ c.from_residual.ensures.0 c.loop-loaded.invariant c.in_err-write_loaded.ensures
    (flat_map-item (loaded_text c.args.word.now) c.args.all.now c.loop-loaded.loaded-index c.loaded-item.result c.loop-loaded-test.true c.loaded-item.is)

pub loop-loaded-init : goal.loop-loaded-init
loop-loaded-init g c = Appends-nil _

pub loop-loaded-preserved : goal.loop-loaded-preserved
loop-loaded-preserved g c = item_on (loaded_text c.args.word.now) _ _ _ c.args.all.now c.loop-loaded.loaded-index c.loaded-item.result c.loop-loaded-test.true c.loaded-item.is c.loop-loaded.invariant c.in_ok-write_loaded.ensures

pub returns : goal.returns
returns g c = items_done (loaded_text c.args.word.now) _ _ c.args.all.now c.loop-loaded.loaded-index c.loop-loaded-test.false c.loop-loaded.invariant
