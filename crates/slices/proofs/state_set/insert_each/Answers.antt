use Rattle.std.proofs.Common.{◌≡◌, ◌∙◌, ◌++◌, ◌∷◌, [], List, ℕ, Bool, true, false, not, map, ap, refl, sym, subst}
use Rattle.std.specs.Bool.{OnFalse}
use Rattle.std.specs.BTreeMap.{is_at}
use Rattle.std.specs.BTreeSet.{insert_key}
use Rattle.std.specs.List.{list_any}
use Rattle.std.proofs.lemmas.List.{map-append}
use Rattle.slices.proofs.Rows.{row_cmp}
use Rattle.slices.proofs.Sets.{ArePutIn, new_put_in, old_put_in}
use Rattle.slices.proofs.state_set.insert_each.Goals as goal

-- what is told where a row was put in: that it was not there, or that it was
not_there : (new there : Bool) → new ≡ not there → new ≡ true → there ≡ false
not_there new true e h = absurd (cc)
not_there new false e h = refl

was_there : (new there : Bool) → new ≡ not there → new ≡ false → there ≡ true
was_there new true e h = refl
was_there new false e h = absurd (cc)

pub loop-row-preserved-then-contains : goal.loop-row-preserved-then-contains
loop-row-preserved-then-contains c =
    let at = c.loop-row in
    let row = c.in-Some.row.now in
    let added = map (λ row. row.now) at.added.items in
    let step : at.row-iterator ≡ row ∷ c.next.new.self = c.in-Some.ensures.steps in
    let P : List (List ℕ) → Type 0 = λ left. ArePutIn c.args.set.now.keys c.args.rows.now.keys left added at.set.keys in
    let has : list_any (is_at (row_cmp row)) at.set.keys ≡ true = sym c.contains.ensures ∙ c.if-contains.true in
    old_put_in c.args.set.now.keys c.args.rows.now.keys c.next.new.self added at.set.keys at.set.keys row (subst P step at.invariant) has refl

pub loop-row-preserved-in-Ok : goal.loop-row-preserved-in-Ok
loop-row-preserved-in-Ok c =
    let at = c.loop-row in
    let row = c.in-Some.row.now in
    let added = map (λ row. row.now) at.added.items in
    let more = map (λ row. row.now) c.push.new.self.items in
    let step : at.row-iterator ≡ row ∷ c.next.new.self = c.in-Some.ensures.steps in
    let P : List (List ℕ) → Type 0 = λ left. ArePutIn c.args.set.now.keys c.args.rows.now.keys left added at.set.keys in
    let lacks : list_any (is_at (row_cmp row)) at.set.keys ≡ false = ap (λ k. list_any (is_at (row_cmp k)) at.set.keys) (sym c.in_ok-copy.ensures) ∙ not_there _ _ c.in_ok-was_there.ensures.added c.if-not-was_there.true in
    let put : c.insert.new.self.keys ≡ insert_key row_cmp at.set.keys row = c.in_ok-was_there.ensures.keys ∙ ap (insert_key row_cmp at.set.keys) c.in_ok-copy.ensures in
    let items : c.push.new.self.items ≡ at.added.items ++ c.in-Some.row ∷ [] = c.in-Ok.ensures.items ∙ ap (λ rows. rows ++ c.in-Some.row ∷ []) c.in_ok-try_reserve.ensures.items in
    let push : more ≡ added ++ row ∷ [] = ap (map (λ row. row.now)) items ∙ map-append (λ row. row.now) at.added.items (c.in-Some.row ∷ []) in
    new_put_in c.args.set.now.keys c.args.rows.now.keys c.next.new.self added more at.set.keys c.insert.new.self.keys row (subst P step at.invariant) lacks push put

pub loop-row-preserved : goal.loop-row-preserved
loop-row-preserved c =
    let at = c.loop-row in
    let row = c.in-Some.row.now in
    let added = map (λ row. row.now) at.added.items in
    let step : at.row-iterator ≡ row ∷ c.next.new.self = c.in-Some.ensures.steps in
    let P : List (List ℕ) → Type 0 = λ left. ArePutIn c.args.set.now.keys c.args.rows.now.keys left added at.set.keys in
    let A : List (List ℕ) → Type 0 = λ rows. ArePutIn c.args.set.now.keys c.args.rows.now.keys c.next.new.self rows c.insert.new.self.keys in
    let has : list_any (is_at (row_cmp row)) at.set.keys ≡ true = ap (λ k. list_any (is_at (row_cmp k)) at.set.keys) (sym c.in_ok-copy.ensures) ∙ was_there _ _ c.in_ok-was_there.ensures.added c.if-not-was_there.false in
    let same : c.insert.new.self.keys ≡ at.set.keys = (let Q : Bool → Type 0 = λ b. OnFalse b (c.insert.new.self.keys ≡ at.set.keys) in subst Q c.if-not-was_there.false c.in_ok-was_there.ensures.unchanged) in
    subst A (sym (ap (map (λ row. row.now)) c.in_ok-try_reserve.ensures.items)) (old_put_in c.args.set.now.keys c.args.rows.now.keys c.next.new.self added at.set.keys c.insert.new.self.keys row (subst P step at.invariant) has same)
