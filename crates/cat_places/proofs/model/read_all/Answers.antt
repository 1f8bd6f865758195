use Rattle.cat_places.proofs.Placing.{none_read, read_more, all_read}
use Rattle.cat_places.proofs.model.read_all.Goals as goal

pub returns-in-None : goal.returns-in-None
returns-in-None c = λ fs.
    none_read c.args.sources.now fs c.loop-source.source-index c.source-item.result c.deref.result.now c.in_ok-file.field-0 c.loop-source-test.true c.source-item.is c.deref.ensures.value c.in-None.is c.in_ok-file.ensures

pub loop-source-preserved : goal.loop-source-preserved
loop-source-preserved c = λ fs read.
    read_more c.args.sources.now fs c.loop-source.files.items c.push.new.self.items c.loop-source.source-index c.source-item.result c.deref.result.now c.in_ok-file.field-0 c.in-Some.file
    c.loop-source-test.true c.source-item.is c.deref.ensures.value c.in-Some.is c.in_ok-file.ensures c.in_ok-push-in-Some.ensures.items read (c.loop-source.invariant fs read)

pub returns : goal.returns
returns c = λ fs read. all_read c.args.sources.now fs c.loop-source.files.items c.loop-source.source-index c.loop-source-test.false read (c.loop-source.invariant fs read)
