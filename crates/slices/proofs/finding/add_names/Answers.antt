use Rattle.std.proofs.Common.{◌<◌, length, arith, List, subst}
use Rattle.std.proofs.lemmas.Grind.{common_steps}
use Rattle.slices.proofs.Unions.{union_more}
use Rattle.std.proofs.lemmas.List.{take_all}
use Rattle.wb_text.specs.declared.name.Name.{Name}
use Rattle.slices.specs.Sums.{IsUnion}
use Rattle.slices.proofs.finding.add_names.Goals as goal

pub loop-name-preserved : goal.loop-name-preserved
loop-name-preserved c =
    let lt : c.loop-name.name-index < length c.args.names.now = grind (arith, common_steps) in
    union_more c.args.flags.now.items c.args.names.now c.loop-name.flags.items c.add_name.new.flags.items c.loop-name.name-index c.name-item.result lt c.name-item.is c.loop-name.invariant c.in_ok-add_name.ensures

pub returns : goal.returns
returns c =
    let names = c.args.names.now in
    let P : List Name → Type 0 = λ ns. IsUnion c.args.flags.now.items ns c.loop-name.flags.items in
    subst P (take_all c.loop-name.name-index names c.loop-name-test.false) c.loop-name.invariant
