use Rattle.std.proofs.Common.{◌<◌, ◌≤◌, ◌∙◌, ◌++◌, [], ◌∷◌, List, ℕ, length, take, drop, ap, sym, arith}
use Rattle.std.specs.BTreeSet.{insert_key}
use Rattle.std.specs.declared.cmp.Ordering.TheVariants.{Less, Equal, Greater}
use Rattle.std.proofs.lemmas.Grind.{common_steps}
use Rattle.slices.proofs.Rows.{row_cmp}
use Rattle.slices.proofs.Sets.{placed, placed_last}
use Rattle.slices.proofs.finding.add_name.Goals as goal

pub loop-place-preserved : goal.loop-place-preserved
loop-place-preserved c =
    let ks = c.loop-place.flags.items in
    let lt : c.loop-place.place < length ks = grind (arith, common_steps, c.loop-place.invariant.0) in
    (c.loop-place.invariant.0, placed Greater c.args.name.now c.index.result.now ks c.loop-place.place lt c.index.ensures (sym c.cmp.ensures ∙ c.in-Greater.is) c.loop-place.invariant.1)

pub returns-in-Equal : goal.returns-in-Equal
returns-in-Equal c =
    let ks = c.loop-place.flags.items in
    let lt : c.loop-place.place < length ks = grind (arith, common_steps, c.loop-place.invariant.0) in
    sym (placed Equal c.args.name.now c.index.result.now ks c.loop-place.place lt c.index.ensures (sym c.cmp.ensures ∙ c.in-Equal.is) c.loop-place.invariant.1) ∙ ap (λ (l : List (List ℕ)). insert_key row_cmp l c.args.name.now) c.loop-place.invariant.0

pub returns-in-Less : goal.returns-in-Less
returns-in-Less c =
    let ks = c.loop-place.flags.items in
    let i = c.loop-place.place in
    let lt : i < length ks = grind (arith, common_steps, c.loop-place.invariant.0) in
    c.in_ok-insert-in-Less.ensures.items ∙ ap (λ (k : List ℕ). take i ks ++ k ∷ drop i ks) c.in_ok-copy-in-Less.ensures ∙ sym (placed Less c.args.name.now c.index.result.now ks i lt c.index.ensures (sym c.cmp.ensures ∙ c.in-Less.is) c.loop-place.invariant.1) ∙ ap (λ (l : List (List ℕ)). insert_key row_cmp l c.args.name.now) c.loop-place.invariant.0

pub returns : goal.returns
returns c =
    let ks = c.loop-place.flags.items in
    let le : length ks ≤ c.loop-place.place = grind (arith, common_steps, c.loop-place.invariant.0) in
    c.in_ok-push.ensures.items ∙ ap (λ (k : List ℕ). ks ++ k ∷ []) c.in_ok-copy.ensures ∙ sym (placed_last c.args.name.now ks c.loop-place.place le c.loop-place.invariant.1) ∙ ap (λ (l : List (List ℕ)). insert_key row_cmp l c.args.name.now) c.loop-place.invariant.0
