use Rattle.std.proofs.Common.{◌≡◌, ◌∙◌, ◌≤◌, List, true, length, ap, sym, subst, arith}
use Rattle.std.proofs.lemmas.Bool.{ltb-false}
use Rattle.candidates.specs.declared.depths.Depth.{Depth}
use Rattle.candidates.specs.Depths.{knows_places}
use Rattle.candidates.specs.Walks.{Walking, depths_around}
use Rattle.candidates.proofs.Spanning.{depth_there, no_depth_there, places_there}
use Rattle.candidates.proofs.walk.Walk.knows_places.Goals as goal

pub returns-in-Some : goal.returns-in-Some
returns-in-Some c =
    let w = c.self.inside in
    let depths = w.scene.stretch.page.depths.items in
    let d = c.in-Some.at.now in
    let t = depth_there c.deref.result.now depths c.args.depth d c.deref.ensures.value c.in-Some.ensures.lookup.0 c.in-Some.ensures.lookup.1 in
    let P : Walking → Type 0 = λ v. c.has_places.result ≡ knows_places (depths_around v) c.args.depth in
    subst P c.self.view_is (c.has_places.ensures ∙ sym (places_there depths c.args.depth d t.0 t.1) ∙ ap (λ (ds : List Depth). knows_places ds c.args.depth) c.self.invariant.scene.depths)

pub returns-in-None : goal.returns-in-None
returns-in-None c =
    let w = c.self.inside in
    let depths = w.scene.stretch.page.depths.items in
    let many = ap (λ (ds : List Depth). length ds) c.deref.ensures.value in
    let out : length c.deref.result.now ≤ c.args.depth = ltb-false c.args.depth (length c.deref.result.now) (sym c.in-None.ensures.lookup.0) in
    let P : Walking → Type 0 = λ v. true ≡ knows_places (depths_around v) c.args.depth in
    subst P c.self.view_is (sym (no_depth_there depths c.args.depth (omega (arith, many, out))) ∙ ap (λ (ds : List Depth). knows_places ds c.args.depth) c.self.invariant.scene.depths)
