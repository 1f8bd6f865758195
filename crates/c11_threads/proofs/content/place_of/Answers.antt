use Rattle.std.proofs.Common.{◌≡◌, ◌∙◌, get_or, ap, arith, true, false}
use Rattle.std.specs.Str.{bytes_eq}
use Rattle.litmus_tree.specs.Tree.{Word}
use Rattle.c11_threads.proofs.Naming.{found, passed}
use Rattle.c11_threads.proofs.content.place_of.Goals as goal

pub loop-place-preserved : goal.loop-place-preserved
loop-place-preserved c =
    let name = c.args.name.now in
    let other = c.index-names-place.result in
    let unlike : false ≡ bytes_eq (get_or c.args.names.now c.loop-place.place other) name = c.if-eq.ensures ∙ ap (λ (w : Word). bytes_eq w name) c.index-names-place.is in
    omega (arith, c.loop-place.invariant, passed name c.args.names.now c.loop-place.place other c.loop-place-test.true unlike)

pub returns-then-eq : goal.returns-then-eq
returns-then-eq c =
    let name = c.args.name.now in
    let other = c.index-names-place.result in
    let alike : true ≡ bytes_eq (get_or c.args.names.now c.loop-place.place other) name = c.if-eq.ensures ∙ ap (λ (w : Word). bytes_eq w name) c.index-names-place.is in
    omega (arith, c.loop-place.invariant, found name c.args.names.now c.loop-place.place other c.loop-place-test.true alike)
