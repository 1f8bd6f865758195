use Rattle.std.proofs.Common.{◌≤◌, ◌∙◌, List, map, subst, sym, ap, arith}
use Rattle.candidates.specs.declared.fault.TheConstants.{MOST_CANDIDATES}
use Rattle.std.proofs.lemmas.List.Elements.{All-nil}
use Rattle.events.specs.Executions.{ThreadRun}
use Rattle.std.specs.List.{All}
use Rattle.candidates.specs.Blocks.{IsDepth}
use Rattle.candidates.specs.declared.depths.Depth.{Depth}
use Rattle.candidates.specs.Executions.{later_writes, reads, upto}
use Rattle.candidates.specs.Candidates.{count_co}
use Rattle.candidates.proofs.Caps.{all_orders_below, ways_below}
use Rattle.candidates.proofs.Listed.{orders_listed, reads_listed, ways_listed}
use Rattle.candidates.proofs.assembly.fill_plain.Goals as goal

pub all_writes-requires : goal.all_writes-requires
all_writes-requires c =
    let n = c.args.locations in
    let P : List ThreadRun → Type 0 = λ rs. count_co n rs ≤ MOST_CANDIDATES in
    subst P (sym c.deref-2.ensures.value) (omega (arith, all_orders_below c.args.page.now.runs.items n, c.requires.most))

pub count_ways-ways-requires-clause-within : goal.count_ways-ways-requires-clause-within
count_ways-ways-requires-clause-within c =
    let read = c.deref-3.ensures.value ∙ c.in_ok-reads.ensures ∙ ap reads c.deref.ensures.value in
    let written = c.deref-4.ensures.value ∙ c.in_ok-writes.ensures ∙ ap (λ (rs : List ThreadRun). map (later_writes rs) (upto c.args.locations)) c.deref-2.ensures.value in
    reads_listed c.args.locations c.args.page.now.runs.items c.deref-3.result.now c.deref-4.result.now c.requires.within read written

pub count_ways-ways-requires-clause-most : goal.count_ways-ways-requires-clause-most
count_ways-ways-requires-clause-most c =
    let runs = c.args.page.now.runs.items in
    let n = c.args.locations in
    let read = c.deref-3.ensures.value ∙ c.in_ok-reads.ensures ∙ ap reads c.deref.ensures.value in
    let written = c.deref-4.ensures.value ∙ c.in_ok-writes.ensures ∙ ap (λ (rs : List ThreadRun). map (later_writes rs) (upto n)) c.deref-2.ensures.value in
    omega (arith, ways_listed n runs c.deref-3.result.now c.deref-4.result.now c.requires.within read written, ways_below runs n, c.requires.most)

pub count_orders-orders-requires : goal.count_orders-orders-requires
count_orders-orders-requires c =
    let runs = c.args.page.now.runs.items in
    let n = c.args.locations in
    let written = c.deref-5.ensures.value ∙ c.in_ok-writes.ensures ∙ ap (λ (rs : List ThreadRun). map (later_writes rs) (upto n)) c.deref-2.ensures.value in
    omega (arith, orders_listed n runs c.deref-5.result.now written, all_orders_below runs n, c.requires.most)

pub returns-clause-page : goal.returns-clause-page
returns-clause-page c =
    let runs = c.args.page.now.runs.items in
    let n = c.args.locations in
    let read = c.in_ok-reads.ensures ∙ ap reads c.deref.ensures.value in
    let written = c.in_ok-writes.ensures ∙ ap (λ (rs : List ThreadRun). map (later_writes rs) (upto n)) c.deref-2.ensures.value in
    record {
      within = c.requires.within;
      most = c.requires.most;
      reads_are = read;
      writes_are = written;
      ways = c.count_ways-ways.ensures ∙ ways_listed n runs c.deref-3.result.now c.deref-4.result.now c.requires.within (c.deref-3.ensures.value ∙ read) (c.deref-4.ensures.value ∙ written);
      orders = c.count_orders-orders.ensures ∙ orders_listed n runs c.deref-5.result.now (c.deref-5.ensures.value ∙ written);
      depths = (let P : List Depth → Type 0 = All (IsDepth n runs) in subst P (sym c.requires.depths) (All-nil (IsDepth n runs)));
    }
